-- Left open for is_constant: its result; answered by ColumnTests.
use Rattle.std.proofs.Common.{sym, ap, ◌∙◌}
use Rattle.sq_bound.proofs.ColumnTests.{constant_signed, constant_of, constant_so, literal_of, no_constant, operand_alone, operated_constant}
use Rattle.sq_bound.specs.Keyed.{is_constant}
use Rattle.sq_bound.proofs.keyed.+is_constant.Goals as goal

pub returns-in-Literal : goal.returns-in-Literal
returns-in-Literal t c = sym (constant_so c.args.expr.now c.in-Literal.is)

pub returns-in-Literal-2 : goal.returns-in-Literal-2
returns-in-Literal-2 t c = sym (constant_so c.args.expr.now c.in-Literal.is)

pub returns-in-Literal-3 : goal.returns-in-Literal-3
returns-in-Literal-3 t c = sym (constant_so c.args.expr.now c.in-Literal.is)

pub returns-in-Signed : goal.returns-in-Signed
returns-in-Signed t c = c.is_literal.ensures ∙ ap literal_of c.get.ensures ∙ sym (constant_signed c.args.expr.now c.in-Signed.field-0 c.in-Signed.operand c.in-Signed.is)

pub returns-then-is_empty : goal.returns-then-is_empty
returns-then-is_empty t c =
    c.is_constant.ensures ∙ ap constant_of c.get-then-is_empty.ensures
    ∙ sym (operand_alone is_constant c.args.expr.now c.in-Operations.first c.in-Operations.rest c.in-Operations.is (c.is_empty.ensures.0 c.if-is_empty.true))

pub returns-else-is_empty : goal.returns-else-is_empty
returns-else-is_empty t c =
    c.if-is_empty.false ∙ sym (operated_constant c.args.expr.now c.in-Operations.first c.in-Operations.rest c.in-Operations.is (λ none. cc (c.if-is_empty.false, c.is_empty.ensures.1 none)))

pub returns-in-User : goal.returns-in-User
returns-in-User t c = sym (no_constant c.args.expr.now c.in-User.is)

pub returns-in-User-2 : goal.returns-in-User-2
returns-in-User-2 t c = sym (no_constant c.args.expr.now c.in-User.is)
