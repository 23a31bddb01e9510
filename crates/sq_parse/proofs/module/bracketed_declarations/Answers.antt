-- Left open for bracketed_declarations: the clause value; answered without a law.
use Rattle.std.proofs.Common.{rules}
use Rattle.sq_grammar.specs.Module.{declaration}
use Rattle.sq_parse.proofs.module.bracketed_declarations.Goals as goal

pub returns-clause-value : goal.returns-clause-value
returns-clause-value c = c.comma_list.ensures.value declaration (search rules)
