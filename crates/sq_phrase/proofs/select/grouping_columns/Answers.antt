-- Left open for grouping_columns: the clause value; answered without a law.
use Rattle.std.proofs.Common.{rules}
use Rattle.sq_grammar.specs.Names.{column_reference}
use Rattle.sq_phrase.proofs.select.grouping_columns.Goals as goal

pub returns-clause-value : goal.returns-clause-value
returns-clause-value c = c.comma_list.ensures.value column_reference (search rules)
