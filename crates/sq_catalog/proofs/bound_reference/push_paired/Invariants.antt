use Rattle.std.proofs.Common.{◌≡◌, false, nat_eq, take}
use Rattle.std.specs.List.{list_any}
use Rattle.sq_catalog.proofs.bound_reference.push_paired.Given as goal

abbrev pub invariant-loop-pair : goal.invariant-loop-pair
invariant-loop-pair l = record {
  kept : l.ordered ≡ l.fn.ordered;
  passed : list_any (λ other. nat_eq other l.key_column) (take l.pair l.listed) ≡ false;
}
