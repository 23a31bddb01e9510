use Rattle.std.proofs.Common.{◌≡◌, false, drop, map, Ok}
use Rattle.std.specs.List.{zip}
use Rattle.std.specs.Prelude.{nat_eq}
use Rattle.sq_meaning.specs.Spelled.{listed}
use Rattle.sq_meaning.specs.Words.{has_twice}
use Rattle.sq_binding.specs.Targets.{targets_bound}
use Rattle.sq_binder.specs.Scope.{declared_of}
use Rattle.sq_binder.proofs.OneByOne.Steps.{stepped}
use Rattle.sq_binder.specs.Target.{all_set, kinds_shown, target_step}
use Rattle.sq_binder.proofs.Statements.IntoTargets.{beside}
use Rattle.sq_binding.specs.SeenQuery.{output_seen}
use Rattle.sq_binder.proofs.into.targets_of.Given as goal

abbrev pub invariant-loop-number : goal.invariant-loop-number
invariant-loop-number l = record {
  so_far : targets_bound (map declared_of l.parameters) (listed l.targets) (kinds_shown l.columns)
      ≡ stepped (target_step (map declared_of l.parameters)) (Ok (map output_seen l.outputs)) (map beside (drop l.number (zip l.targets.rest l.others)));
  once : has_twice nat_eq (all_set (map output_seen l.outputs)) ≡ false;
}
