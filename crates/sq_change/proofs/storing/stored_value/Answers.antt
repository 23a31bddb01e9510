-- Left open: what the call of assign_value asks for, and the clause meant; answered by Outcomes.
use Rattle.std.proofs.Common.{Ok}
use Rattle.sq_meaning.specs.Assignment.{assigned}
use Rattle.sq_change.proofs.OneByOne.Outcomes.{goes_on, stops}
use Rattle.sq_change.proofs.storing.stored_value.Goals as goal

pub assign_value-requires-clause-kind : goal.assign_value-requires-clause-kind
assign_value-requires-clause-kind g c = (c.requires (Ok c.in_ok-value.value) c.in_ok-value.ensures).0

pub returns-clause-meant : goal.returns-clause-meant
returns-clause-meant g c = λ shown.
    goes_on c.assign_value.result _ c.in_ok-value.value (assigned c.args.column.domain) (c.in_ok-value.ensures shown) c.assign_value.ensures.fit

pub returns-in_err-value-clause-meant : goal.returns-in_err-value-clause-meant
returns-in_err-value-clause-meant g c = λ shown.
    stops c.from_residual.result c.in_err-value.field-0.0 _ (assigned c.args.column.domain) c.from_residual.ensures.1 (c.in_err-value.ensures shown)
