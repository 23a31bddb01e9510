-- Left open for table_elements: the clause value; answered without a law.
use Rattle.std.proofs.Common.{rules}
use Rattle.sq_grammar.specs.Schema.{table_element}
use Rattle.sq_parse.proofs.table.table_elements.Goals as goal

pub returns-clause-value : goal.returns-clause-value
returns-clause-value c = c.comma_list.ensures.value (table_element c.args.left) (search rules)
