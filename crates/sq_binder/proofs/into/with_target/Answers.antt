-- Left open for with_target: its result; answered by Steps and IntoTargets.
use Rattle.std.proofs.Common.{map, ap, subst, ◌∙◌}
use Rattle.sq_binding.specs.Targets.{target_bound}
use Rattle.sq_binder.specs.Binds.{Binds}
use Rattle.sq_binder.specs.Scope.{declared_of}
use Rattle.sq_binder.proofs.OneByOne.Steps.{then_binds}
use Rattle.sq_binder.specs.Target.{is_set_again, set_once, set_unless}
use Rattle.sq_binder.proofs.Statements.IntoTargets.{again_is}
use Rattle.sq_binding.specs.SeenQuery.{output_seen}
use Rattle.sq_binder.proofs.into.with_target.Goals as goal

pub returns-in-Ok : goal.returns-in-Ok
returns-in-Ok c =
    let outputs = c.args.outputs in
    let output = c.in-Ok.output in
    then_binds (map output_seen) (target_bound (map declared_of c.args.parameters.now) (c.args.target.now, c.args.kind)) (set_once (map output_seen outputs)) (output_seen output) c.with_output.result c.in-Ok.ensures
    (subst (λ again. Binds (map output_seen) (set_unless again (map output_seen outputs) (output_seen output)) c.with_output.result)
    (c.set_again-again.ensures ∙ ap (λ os. is_set_again os output) c.as_slice.ensures ∙ again_is outputs output c.requires) c.with_output.ensures)
