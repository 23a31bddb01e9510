-- Left open for whole_test: its result; answered by Conditions and Finds.
use Rattle.std.proofs.Common.{subst}
use Rattle.sq_binding.specs.Condition.{test}
use Rattle.sq_binding.specs.Seen.{predicate_seen, test_seen}
use Rattle.sq_binder.specs.Found.{Finds}
use Rattle.sq_binder.specs.Subquery.{negated_if}
use Rattle.sq_binder.proofs.Clauses.Conditions.{test_found, test_stops}
use Rattle.sq_binder.proofs.OneByOne.Finds.{stop_found}
use Rattle.sq_binder.proofs.condition.whole_test.Goals as goal

pub returns-in_err-part : goal.returns-in_err-part
returns-in_err-part c = λ b before found.
    let stop = c.in_err-part.field-0.0 in
    stop_found test_seen (test (negated_if c.args.negated b)) before c.from_residual.result stop c.from_residual.ensures.1
    (test_stops c.args.negated b before stop (subst (λ r. Finds predicate_seen b before r) c.in_err-part.was found))

pub returns : goal.returns
returns c = λ b before found. test_found c.args.negated b before c.in_ok-part.field-0 (subst (λ r. Finds predicate_seen b before r) c.in_ok-part.was found)
