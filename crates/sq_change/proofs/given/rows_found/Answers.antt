-- Left open for rows_found: the clauses right, found and kinds; answered by Endings and Outcomes.
use Rattle.sq_meaning.specs.Change.{if_some}
use Rattle.sq_expression.specs.Fault.{rows_in}
use Rattle.sq_expression.proofs.Views.{failed_as}
use Rattle.sq_change.proofs.NewRows.Endings.{ends_so}
use Rattle.sq_change.proofs.OneByOne.Outcomes.{stops_as}
use Rattle.sq_change.proofs.given.rows_found.Goals as goal

pub returns-in_err-rows-clause-right : goal.returns-in_err-rows-clause-right
returns-in_err-rows-clause-right g c = λ parameters tables may well.
    ends_so c.from_residual.result c.in_err-rows.field-0.0 c.from_residual.ensures.1
    (c.in_err-rows.ensures.right parameters tables (rw (c.inputs.ensures.user, c.inputs.ensures.parameters) may) well)

pub returns-in_err-rows-clause-found : goal.returns-in_err-rows-clause-found
returns-in_err-rows-clause-found g c = λ parameters shown may well.
    stops_as rows_in c.from_residual.result c.in_err-rows.field-0.0 _ if_some c.from_residual.ensures.1
    (failed_as rows_in c.in_err-rows.field-0.0 _
    (rw (← c.inputs.ensures.user, ← c.inputs.ensures.parameters) (c.in_err-rows.ensures.rows parameters shown (rw (c.inputs.ensures.user, c.inputs.ensures.parameters) may) well)))

pub returns-clause-kinds : goal.returns-clause-kinds
returns-clause-kinds g c = λ parameters tables may well.
    c.in_ok-rows.ensures.kinds parameters tables (rw (c.inputs.ensures.user, c.inputs.ensures.parameters) may) well
