use Rattle.std.proofs.Common.{◌≡◌, replicate}
use Rattle.sq_value.specs.declared.value.Value.TheVariants.{Null}
use Rattle.sq_host.proofs.trial.nulls.Given as goal

abbrev pub invariant-loop : goal.invariant-loop
invariant-loop l = l.values.items ≡ replicate l.counter Null
