-- Left open for assignments: the clause value; answered without a law.
use Rattle.std.proofs.Common.{rules}
use Rattle.sq_grammar.specs.Statement.{assignment}
use Rattle.sq_parse.proofs.statement.assignments.Goals as goal

pub returns-clause-value : goal.returns-clause-value
returns-clause-value c = c.comma_list.ensures.value (assignment c.args.left) (search rules)
