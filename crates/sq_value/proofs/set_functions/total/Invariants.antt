use Rattle.std.proofs.Common.{◌≡◌, ◌≤◌, ◌*◌, ◌^◌, take, unsigned_abs, pos, ◌+ℤ◌, fold}
use Rattle.sq_value.specs.private.SetFunctions.{unscaled_of}
use Rattle.sq_value.proofs.set_functions.total.Given as goal

abbrev pub invariant-loop-value : goal.invariant-loop-value
invariant-loop-value l = record {
  sum : l.total ≡ fold (λ s v. s +ℤ unscaled_of v) (pos 0) (take l.value-index l.values);
  bound : unsigned_abs l.total ≤ l.value-index * 10 ^ 18;
}
