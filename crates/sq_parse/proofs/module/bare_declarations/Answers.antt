-- Left open for bare_declarations: the clause value; answered without a law.
use Rattle.std.proofs.Common.{rules}
use Rattle.sq_grammar.specs.Module.{bare_declaration}
use Rattle.sq_parse.proofs.module.bare_declarations.Goals as goal

pub returns-clause-value : goal.returns-clause-value
returns-clause-value c = c.items.ensures.value bare_declaration (search rules)
