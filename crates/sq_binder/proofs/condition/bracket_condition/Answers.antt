-- Left open for bracket_condition: its result; answered by Behind and Finds.
use Rattle.std.proofs.Common.{ap, subst, refl, ◌∙◌}
use Rattle.sq_bound.specs.declared.condition.Predicate.TheVariants as predicate
use Rattle.sq_binding.specs.Seen.{cond_seen, predicate_seen}
use Rattle.sq_binding.proofs.Standing.SeenLevels.{predicate_seen-Bracketed}
use Rattle.sq_binder.specs.Found.{Finds}
use Rattle.sq_binder.proofs.OneByOne.Behind.{itself}
use Rattle.sq_binder.proofs.OneByOne.Finds.{makes_found, stop_found}
use Rattle.sq_binder.proofs.condition.bracket_condition.Goals as goal

pub returns-in_err-part : goal.returns-in_err-part
returns-in_err-part c = λ b before found.
    let stop = c.in_err-part.field-0.0 in
    stop_found predicate_seen b before c.from_residual.result stop c.from_residual.ensures.1 (subst (λ r. Finds cond_seen b before r) c.in_err-part.was found)

pub returns-in-Ok : goal.returns-in-Ok
returns-in-Ok c = λ b before found.
    let x = c.in_ok-part.field-0 in
    makes_found cond_seen predicate_seen b b (λ x. x) (itself b) before x (record { part = predicate.Bracketed c.in-Ok.cond; brought = x.brought }) (subst (λ r. Finds cond_seen b before r) c.in_ok-part.was found) refl
    (predicate_seen-Bracketed c.in-Ok.cond ∙ ap cond_seen c.in-Ok.ensures)
