-- Left open for bind_exists: its result; answered by Finds and Subqueries.
use Rattle.std.proofs.Common.{◌∙◌, ap, refl}
use Rattle.sq_bound.specs.declared.condition.Predicate.TheVariants as predicate
use Rattle.sq_binding.specs.Condition.{subquery}
use Rattle.sq_binding.specs.NumberedCondition.{NumberedCond}
use Rattle.sq_binding.specs.Seen.{predicate_seen, select_seen}
use Rattle.sq_binding.proofs.Standing.SeenLevels.{predicate_seen-Exists}
use Rattle.sq_binder.specs.Subquery.{query_exists}
use Rattle.sq_binder.proofs.OneByOne.Finds.{makes_found, makes_stop, stop_found}
use Rattle.sq_binder.proofs.Clauses.Subqueries.{exists_made}
use Rattle.sq_binder.proofs.subquery.bind_exists.Goals as goal

pub returns-in_err-part : goal.returns-in_err-part
returns-in_err-part c = λ b before found.
    stop_found predicate_seen (query_exists b) before c.from_residual.result c.in_err-part.field-0.0 c.from_residual.ensures.1
    (makes_stop select_seen predicate_seen (query_exists b) (subquery b) (λ y. NumberedCond.exists y) (exists_made b) before c.in_err-part.field-0.0 (c.in_err-part.ensures b before found))

pub returns-in-Ok : goal.returns-in-Ok
returns-in-Ok c = λ b before found.
    let x = c.in_ok-part.field-0 in
    makes_found select_seen predicate_seen (query_exists b) (subquery b) (λ y. NumberedCond.exists y) (exists_made b) before x (record { part = predicate.Exists c.in-Ok.query; brought = x.brought })
    (c.in_ok-part.ensures b before found) refl (predicate_seen-Exists c.in-Ok.query ∙ ap (λ q. NumberedCond.exists (select_seen q)) c.in-Ok.ensures)
