-- Left open for has_truth: its result; answered by NamedRows.
use Rattle.sq_query.proofs.Keys.NamedRows.{compared_quiet, null_quiet}
use Rattle.sq_query.proofs.named.has_truth.Goals as goal

pub returns-then-is_plain : goal.returns-then-is_plain
returns-then-is_plain c = λ yes.
    compared_quiet c.args.test.now c.in-Compare.field-0 c.in-Compare.left c.in-Compare.right c.in-Compare.is (c.is_plain.ensures c.if-is_plain.true) (c.is_plain-then-is_plain.ensures yes)

pub returns-in-Null : goal.returns-in-Null
returns-in-Null c = λ yes. null_quiet c.args.test.now c.in-Null.field-0 c.in-Null.operand c.in-Null.is (c.is_plain-in-Null.ensures yes)
