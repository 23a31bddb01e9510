-- Left open for actions: the clause value; answered without a law.
use Rattle.std.proofs.Common.{rules}
use Rattle.sq_grammar.specs.Schema.{action}
use Rattle.sq_parse.proofs.grant.actions.Goals as goal

pub returns-clause-value : goal.returns-clause-value
returns-clause-value c = c.comma_list.ensures.value action (search rules)
