-- Left open for column_constraints: the clause value; answered without a law.
use Rattle.std.proofs.Common.{rules}
use Rattle.sq_grammar.specs.Schema.{column_constraint}
use Rattle.sq_parse.proofs.table.column_constraints.Goals as goal

pub returns-clause-value : goal.returns-clause-value
returns-clause-value c = c.items.ensures.value (column_constraint c.args.left) (search rules)
