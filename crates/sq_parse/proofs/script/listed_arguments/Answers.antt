-- Left open for listed_arguments: the clause value; answered without a law.
use Rattle.std.proofs.Common.{rules}
use Rattle.sq_grammar.specs.Script.{argument}
use Rattle.sq_parse.proofs.script.listed_arguments.Goals as goal

pub returns-clause-value : goal.returns-clause-value
returns-clause-value c = c.comma_list.ensures.value argument (search rules)
