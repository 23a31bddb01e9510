-- Left open for more_definitions: the clause value; answered without a law.
use Rattle.std.proofs.Common.{◌-◌, rules}
use Rattle.sq_grammar.specs.Schema.{next_definition}
use Rattle.sq_parse.proofs.schema.more_definitions.Goals as goal

pub returns-clause-value : goal.returns-clause-value
returns-clause-value c = c.items.ensures.value (next_definition c.args.left (c.args.left - 1)) (search rules)
