-- Left open for make_present: its result; answered by Behind and Finds.
use Rattle.std.proofs.Common.{Some, refl, subst}
use Rattle.sq_binding.specs.NumberedCondition.{NumberedClause}
use Rattle.sq_binding.specs.Seen.{cond_seen}
use Rattle.sq_binder.specs.Found.{Finds}
use Rattle.sq_binder.specs.Specification.{clause_present, clause_seen}
use Rattle.sq_binder.proofs.OneByOne.Behind.{made}
use Rattle.sq_binder.proofs.OneByOne.Finds.{makes_found, makes_stop, stop_found}
use Rattle.sq_binder.proofs.condition.make_present.Goals as goal

pub returns-in_err-part : goal.returns-in_err-part
returns-in_err-part c = λ b before found.
    let stop = c.in_err-part.field-0.0 in
    stop_found clause_seen (clause_present b) before c.from_residual.result stop c.from_residual.ensures.1
    (makes_stop cond_seen clause_seen (clause_present b) b (λ x. NumberedClause.present x) (made b (λ x. NumberedClause.present x)) before stop (subst (λ r. Finds cond_seen b before r) c.in_err-part.was found))

pub returns : goal.returns
returns c = λ b before found.
    let x = c.in_ok-part.field-0 in
    makes_found cond_seen clause_seen (clause_present b) b (λ x. NumberedClause.present x) (made b (λ x. NumberedClause.present x)) before x (record { part = Some x.part; brought = x.brought })
    (subst (λ r. Finds cond_seen b before r) c.in_ok-part.was found) refl refl
