-- Left open for Grammar::primary: the clause value; answered by First.
use Rattle.std.proofs.Common.{◌≡◌, ◌∙◌, sym, ap, subst, Some, Ok}
use Rattle.sq_tree.specs.declared.expr.Primary.TheVariants as primary
use Rattle.sq_grammar.specs.Reads.{Reads, Stops}
use Rattle.sq_grammar.specs.Expr.{column, inside, primary_at}
use Rattle.sq_phrase.proofs.First.{at_number, at_text, at_name, at_word, at_symbol, at_end}
use Rattle.sq_phrase.proofs.expression.Grammar.primary.Goals as goal

pub returns-in-Some-Number-clause-value : goal.returns-in-Some-Number-clause-value
returns-in-Some-Number-clause-value g c =
    at_number c.args.self.now.left (inside c.args.self.now.left) c.args.tokens.now c.in-Some-Number.number (sym c.in-Some-Number.ensures ∙ ap Some c.in-Some-Number.field-0-is)
    ∙ ap (λ ts. Ok (primary.Number c.in-Some-Number.number, ts)) (sym c.skip.ensures)

pub returns-in_ok-characters-in-Some-Text-clause-value : goal.returns-in_ok-characters-in-Some-Text-clause-value
returns-in_ok-characters-in-Some-Text-clause-value g c =
    let same : c.in_ok-characters-in-Some-Text.characters ≡ c.in-Some-Text.characters = c.in_ok-characters-in-Some-Text.ensures ∙ c.get.ensures in
    at_text c.args.self.now.left (inside c.args.self.now.left) c.args.tokens.now c.in-Some-Text.characters (sym c.in-Some-Text.ensures ∙ ap Some c.in-Some-Text.field-0-is)
    ∙ (λ i. Ok (primary.Text (sym same i), sym c.skip-in-Some-Text.ensures i))

pub returns-in-Some-Name-clause-value : goal.returns-in-Some-Name-clause-value
returns-in-Some-Name-clause-value g c =
    let is = at_name c.args.self.now.left (inside c.args.self.now.left) c.args.tokens.now c.in-Some-Name.name (sym c.in-Some-Name.ensures ∙ ap Some c.in-Some-Name.field-0-is) in
    subst (λ o. Reads o c.column.result c.column.new.tokens) (ap (column c.in-Some-Name.name) c.skip-in-Some-Name.ensures ∙ sym is) c.column.ensures.value

pub returns-in-Some-Word-clause-value : goal.returns-in-Some-Word-clause-value
returns-in-Some-Word-clause-value g c =
    let is = at_word c.args.self.now.left (inside c.args.self.now.left) c.args.tokens.now c.in-Some-Word.field-0-0 (sym c.in-Some-Word.ensures ∙ ap Some c.in-Some-Word.field-0-is) in
    subst (λ o. Reads o c.word_primary.result c.word_primary.new.tokens) (sym is) c.word_primary.ensures.value

pub returns-in-Some-Symbol-clause-value : goal.returns-in-Some-Symbol-clause-value
returns-in-Some-Symbol-clause-value g c =
    let is = at_symbol c.args.self.now.left (inside c.args.self.now.left) c.args.tokens.now c.in-Some-Symbol.field-0-0 (sym c.in-Some-Symbol.ensures ∙ ap Some c.in-Some-Symbol.field-0-is) in
    subst (λ o. Reads o c.symbol_primary.result c.symbol_primary.new.tokens) (sym is) c.symbol_primary.ensures.value

pub returns-in-None-clause-value : goal.returns-in-None-clause-value
returns-in-None-clause-value g c =
    subst (Stops (primary_at c.args.self.now.left (inside c.args.self.now.left) c.args.tokens.now)) (sym c.stop.ensures)
    (at_end c.args.self.now.left (inside c.args.self.now.left) c.args.tokens.now (sym c.in-None.ensures))
