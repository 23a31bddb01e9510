-- Left open for is_literal: its result; answered by ColumnTests.
use Rattle.std.proofs.Common.{sym, ap, ◌∙◌}
use Rattle.sq_bound.proofs.ColumnTests.{literal_of, literal_so, no_literal, operand_alone, operated_literal, signed_no_literal}
use Rattle.sq_bound.specs.Keyed.{is_literal}
use Rattle.sq_bound.proofs.keyed.+is_literal.Goals as goal

pub returns-in-Literal : goal.returns-in-Literal
returns-in-Literal t c = sym (literal_so c.args.expr.now c.in-Literal.field-0 c.in-Literal.is)

pub returns-then-is_empty : goal.returns-then-is_empty
returns-then-is_empty t c =
    c.is_literal.ensures ∙ ap literal_of c.get.ensures
    ∙ sym (operand_alone is_literal c.args.expr.now c.in-Operations.first c.in-Operations.rest c.in-Operations.is (c.is_empty.ensures.0 c.if-is_empty.true))

pub returns-else-is_empty : goal.returns-else-is_empty
returns-else-is_empty t c =
    c.if-is_empty.false ∙ sym (operated_literal c.args.expr.now c.in-Operations.first c.in-Operations.rest c.in-Operations.is (λ none. cc (c.if-is_empty.false, c.is_empty.ensures.1 none)))

pub returns-in-Parameter : goal.returns-in-Parameter
returns-in-Parameter t c = sym (no_literal c.args.expr.now c.in-Parameter.is)

pub returns-in-Parameter-2 : goal.returns-in-Parameter-2
returns-in-Parameter-2 t c = sym (no_literal c.args.expr.now c.in-Parameter.is)

pub returns-in-Parameter-3 : goal.returns-in-Parameter-3
returns-in-Parameter-3 t c = sym (no_literal c.args.expr.now c.in-Parameter.is)

pub returns-in-Parameter-4 : goal.returns-in-Parameter-4
returns-in-Parameter-4 t c = sym (no_literal c.args.expr.now c.in-Parameter.is)

pub returns-in-Signed : goal.returns-in-Signed
returns-in-Signed t c = sym (signed_no_literal c.args.expr.now c.in-Signed.field-0 c.in-Signed.field-1 c.in-Signed.is)
