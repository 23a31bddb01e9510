-- Left open for all_items: the clause value; answered without a law.
use Rattle.std.proofs.Common.{rules}
use Rattle.sq_grammar.specs.Script.{item}
use Rattle.sq_parse.proofs.script.all_items.Goals as goal

pub returns-clause-value : goal.returns-clause-value
returns-clause-value c = c.items.ensures.value item (search rules)
