-- Left open for tables: the clause value; answered without a law.
use Rattle.std.proofs.Common.{rules}
use Rattle.sq_grammar.specs.Select.{table_reference}
use Rattle.sq_phrase.proofs.select.tables.Goals as goal

pub returns-clause-value : goal.returns-clause-value
returns-clause-value c = c.comma_list.ensures.value table_reference (search rules)
