-- Left open for own_column: its result; answered by ColumnTests.
use Rattle.std.proofs.Common.{sym, ap, ◌∙◌}
use Rattle.sq_bound.proofs.ColumnTests.{column_here, column_further, column_of, operand_alone, operated_column, other_column}
use Rattle.sq_bound.specs.Keyed.{own_column}
use Rattle.sq_bound.proofs.keyed.+own_column.Goals as goal

pub returns-then-place-eq0 : goal.returns-then-place-eq0
returns-then-place-eq0 t c = sym (column_here c.args.expr.now c.in-Column.place c.in-Column.is c.if-place-eq0.true)

pub returns-else-place-eq0 : goal.returns-else-place-eq0
returns-else-place-eq0 t c = sym (column_further c.args.expr.now c.in-Column.place c.in-Column.is c.if-place-eq0.false)

pub returns-then-is_empty : goal.returns-then-is_empty
returns-then-is_empty t c =
    c.own_column.ensures ∙ ap column_of c.get.ensures ∙ sym (operand_alone own_column c.args.expr.now c.in-Operations.first c.in-Operations.rest c.in-Operations.is (c.is_empty.ensures.0 c.if-is_empty.true))

pub returns-else-is_empty : goal.returns-else-is_empty
returns-else-is_empty t c = sym (operated_column c.args.expr.now c.in-Operations.first c.in-Operations.rest c.in-Operations.is (λ none. cc (c.if-is_empty.ensures.1 none)))

pub returns-in_default : goal.returns-in_default
returns-in_default t c = sym (other_column c.args.expr.now c.in_default.not-Column c.in_default.not-Operations)
