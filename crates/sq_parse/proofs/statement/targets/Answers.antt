-- Left open for targets: the clause value; answered without a law.
use Rattle.std.proofs.Common.{rules}
use Rattle.sq_grammar.specs.Names.{parameter}
use Rattle.sq_parse.proofs.statement.targets.Goals as goal

pub returns-clause-value : goal.returns-clause-value
returns-clause-value c = c.comma_list.ensures.value parameter (search rules)
