-- Left open for elements: the clause value; answered without a law.
use Rattle.std.proofs.Common.{◌-◌, rules}
use Rattle.sq_grammar.specs.Schema.{element}
use Rattle.sq_parse.proofs.schema.elements.Goals as goal

pub returns-clause-value : goal.returns-clause-value
returns-clause-value c = c.items.ensures.value (element c.args.left (c.args.left - 1)) (search rules)
