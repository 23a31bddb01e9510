-- Left open for sorts: the clause value; answered without a law.
use Rattle.std.proofs.Common.{rules}
use Rattle.sq_grammar.specs.Module.{sort_specification}
use Rattle.sq_parse.proofs.module.sorts.Goals as goal

pub returns-clause-value : goal.returns-clause-value
returns-clause-value c = c.comma_list.ensures.value sort_specification (search rules)
