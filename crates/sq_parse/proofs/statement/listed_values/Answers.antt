-- Left open for listed_values: the clause value; answered without a law.
use Rattle.std.proofs.Common.{rules}
use Rattle.sq_grammar.specs.Expr.{inside}
use Rattle.sq_grammar.specs.Statement.{new_value}
use Rattle.sq_parse.proofs.statement.listed_values.Goals as goal

pub returns-clause-value : goal.returns-clause-value
returns-clause-value c = c.comma_list.ensures.value (new_value (inside c.args.left)) (search rules)
