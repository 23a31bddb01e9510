-- Left open for is_too_deep: its result; answered by Cut.
use Rattle.std.proofs.Common.{◌&&◌, ap, ◌∙◌, sym, nat_eq}
use Rattle.sq_parse.proofs.Cut.{too_deep}
use Rattle.sq_grammar.specs.declared.brackets.TheConstants.{MAX_DEPTH}
use Rattle.sq_parse.proofs.error.is_too_deep.Goals as goal

pub returns-then-opens : goal.returns-then-opens
returns-then-opens c = ap (λ b. b && nat_eq c.open_brackets-open.result MAX_DEPTH) (sym c.if-opens.true) ∙ too_deep c.args.tokens.now c.args.index _ _ _ c.new.ensures c.sees-opens.ensures c.open_brackets-open.ensures.value

pub returns-else-opens : goal.returns-else-opens
returns-else-opens c = c.if-opens.false ∙ ap (λ b. b && nat_eq c.open_brackets-open.result MAX_DEPTH) (sym c.if-opens.false) ∙ too_deep c.args.tokens.now c.args.index _ _ _ c.new.ensures c.sees-opens.ensures c.open_brackets-open.ensures.value
