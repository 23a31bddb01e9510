-- Left open for make_scalar: its result; answered by Finds, Steps and Subqueries.
use Rattle.std.proofs.Common.{Ok, sym, ap, ◌∙◌}
use Rattle.sq_binding.specs.Condition.{beside, scalar}
use Rattle.sq_binding.specs.Found.{◌>>=◌, after, has_found, pure, then_joined}
use Rattle.sq_binding.specs.QueryFindings.{a_status}
use Rattle.sq_binding.specs.Seen.{select_seen}
use Rattle.sq_binder.specs.Found.{counts_of, found_of}
use Rattle.sq_binder.proofs.OneByOne.Finds.{stop_found}
use Rattle.sq_binder.proofs.OneByOne.Steps.{stops_here}
use Rattle.sq_binder.proofs.Clauses.Subqueries.{failing_seen, scalar_found}
use Rattle.sq_binder.proofs.subquery.make_scalar.Goals as goal

pub returns-in_err-part : goal.returns-in_err-part
returns-in_err-part c = λ b before found.
    stop_found select_seen (scalar c.args.kind b) before c.from_residual.result c.in_err-part.field-0.0 c.from_residual.ensures.1
    (stops_here (beside c.args.kind b (counts_of before)) (λ x. then_joined x ((has_found a_status >>= λ u. pure x.part) (after (counts_of before) x))) c.in_err-part.field-0.0
    (c.in_err-part.ensures b before found))

pub returns : goal.returns
returns c = λ b before found.
    let q = c.in_ok-part.field-0 in
    let beside = c.in_ok-part.ensures b before found in (
      scalar_found c.args.kind (counts_of before) (found_of select_seen q) b beside.0 ∙ ap Ok (sym (failing_seen select_seen q.part c.failing.result q.brought c.failing.ensures.0)),
      ap counts_of c.failing.ensures.1 ∙ beside.1 ∙ ap (after (counts_of before)) (sym (failing_seen select_seen q.part c.failing.result q.brought c.failing.ensures.0)),
    )
