-- Left open for check_beside: its result; answered by Finds, Steps and Subqueries.
use Rattle.std.proofs.Common.{sym, ap, ◌∙◌, map}
use Rattle.sq_binding.specs.Condition.{beside, subquery}
use Rattle.sq_binding.specs.Found.{◌>>=◌, after, pure, then_joined}
use Rattle.sq_binding.specs.Condition.{must_be_beside}
use Rattle.sq_binding.specs.NumberedCondition.{columns_of}
use Rattle.sq_binding.specs.Seen.{column_of, select_seen}
use Rattle.sq_binding.proofs.Standing.SeenLevels.{columns_seen}
use Rattle.sq_binder.specs.Found.{counts_of, found_of}
use Rattle.sq_binder.proofs.OneByOne.Finds.{stop_found}
use Rattle.sq_binder.proofs.OneByOne.Steps.{stops_by, stops_here}
use Rattle.sq_binder.proofs.Clauses.Subqueries.{beside_fails, beside_found}
use Rattle.sq_binder.proofs.subquery.check_beside.Goals as goal

pub returns-in_err-query : goal.returns-in_err-query
returns-in_err-query c = λ b before found.
    stop_found select_seen (beside c.args.kind b) before c.from_residual.result c.in_err-query.field-0.0 c.from_residual.ensures.1
    (stops_here (subquery b (counts_of before)) (λ x. then_joined x ((must_be_beside c.args.kind (columns_of x.part) >>= λ u. pure x.part) (after (counts_of before) x))) c.in_err-query.field-0.0
    (c.in_err-query.ensures b before found))

pub returns-in-None : goal.returns-in-None
returns-in-None c = λ b before found.
    let q = c.in_ok-query.query in
    let subquery = c.in_ok-query.ensures b before found in (
      beside_found c.args.kind (counts_of before) (found_of select_seen q) b (map column_of c.as_slice.result.now) (columns_seen q.part ∙ ap (map column_of) (sym c.as_slice.ensures)) subquery.0
          (sym c.fault_beside.ensures ∙ c.in-None.is),
      subquery.1,
    )

pub returns-in-Some : goal.returns-in-Some
returns-in-Some c = λ b before found.
    let q = c.in_ok-query.query in
    let subquery = c.in_ok-query.ensures b before found in
    stops_by (beside c.args.kind b (counts_of before)) c.broken.result _ c.broken.ensures
    (beside_fails c.args.kind (counts_of before) (found_of select_seen q) b (map column_of c.as_slice.result.now) c.in-Some.fault (columns_seen q.part ∙ ap (map column_of) (sym c.as_slice.ensures)) subquery.0
    (sym c.fault_beside.ensures ∙ c.in-Some.is))
