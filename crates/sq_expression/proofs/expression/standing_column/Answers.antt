-- Left open for standing_column: its result; answered by Standing.
use Rattle.sq_expression.proofs.Standing.{found_there}
use Rattle.sq_expression.proofs.expression.standing_column.Goals as goal

pub returns : goal.returns
returns c = found_there c.value_at.result _ c.value_at.ensures
