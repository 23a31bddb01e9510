-- Left open for column_named: its result; answered by ColumnTests.
use Rattle.std.proofs.Common.{sym, true, false, ◌∙◌}
use Rattle.sq_bound.proofs.ColumnTests.{sides_named}
use Rattle.sq_bound.proofs.keyed.column_named.Goals as goal

pub returns-then-is_constant : goal.returns-then-is_constant
returns-then-is_constant c =
    c.own_column.ensures ∙ sides_named c.args.test.now c.in_ok-left.left.now c.in_ok-left.right.now true c.in_ok-left.ensures (sym c.is_constant.ensures ∙ c.if-is_constant.true)

pub returns-else-is_constant : goal.returns-else-is_constant
returns-else-is_constant c = sides_named c.args.test.now c.in_ok-left.left.now c.in_ok-left.right.now false c.in_ok-left.ensures (sym c.is_constant.ensures ∙ c.if-is_constant.false)
