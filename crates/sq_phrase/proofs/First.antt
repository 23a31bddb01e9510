-- A primary by its first token.
use Rattle.std.proofs.Common.{◌≡◌, ◌∙◌, ℕ, Bool, true, false, cond, List, [], ◌∷◌, length, ap, sym, refl, Some, None, Ok, Err}
use Rattle.sq_lex.specs.declared.lexeme.Lexeme.{Lexeme}
use Rattle.sq_lex.specs.declared.lexeme.Lexeme.TheVariants as lexeme
use Rattle.sq_lex.specs.declared.name.Name.{Name}
use Rattle.sq_lex.specs.declared.number.Number.{Number}
use Rattle.sq_tree.specs.declared.expr.Expr.{Expr}
use Rattle.sq_tree.specs.declared.expr.Primary.TheVariants as primary
use Rattle.sq_lex.specs.declared.symbol.Symbol.{Symbol}
use Rattle.sq_lex.specs.declared.word.Word.{Word}
use Rattle.sq_grammar.specs.Reading.{Parser, Tokens, first_of, one_if_any, eat, expect, expect_symbol, opening_bracket, rest, stuck}
use Rattle.std.specs.Prelude.{nat_eq}
use Rattle.sq_lex.specs.declared.symbol.Symbol.TheVariants as symbol
use Rattle.sq_grammar.specs.Reads.{Stops}
use Rattle.sq_grammar.specs.declared.stop.Stop.TheVariants.{Unfit}
use Rattle.sq_grammar.proofs.Ends.Stops.{stops_here}
use Rattle.sq_grammar.specs.Expr.{bracketed, column, primary_at, symbol_primary, word_primary}

split : (ts : Tokens) (l : Lexeme) → first_of Some ts ≡ Some l → ts ≡ l ∷ rest ts
split [] l e = cc
split (t ∷ ts) l e = cc

module _ (left : ℕ) (inner : Parser Expr) (ts : Tokens) where
  pub at_number : (n : Number) → first_of Some ts ≡ Some (lexeme.Number n) → primary_at left inner ts ≡ Ok (primary.Number n, rest ts)
  unfolding primary_at one_if_any
  at_number n e = ap (primary_at left inner) (split ts (lexeme.Number n) e)

  pub at_text : (characters : List ℕ) → first_of Some ts ≡ Some (lexeme.Text characters) → primary_at left inner ts ≡ Ok (primary.Text characters, rest ts)
  unfolding primary_at one_if_any
  at_text characters e = ap (primary_at left inner) (split ts (lexeme.Text characters) e)

  pub at_name : (n : Name) → first_of Some ts ≡ Some (lexeme.Name n) → primary_at left inner ts ≡ column n (rest ts)
  unfolding primary_at one_if_any
  at_name n e = ap (primary_at left inner) (split ts (lexeme.Name n) e)

  pub at_word : (w : Word) → first_of Some ts ≡ Some (lexeme.Word w) → primary_at left inner ts ≡ word_primary left inner ts
  unfolding primary_at one_if_any eat
  at_word w e = let is = split ts (lexeme.Word w) e in ap (primary_at left inner) is ∙ ap (word_primary left inner) (sym is)

  pub at_symbol : (s : Symbol) → first_of Some ts ≡ Some (lexeme.Symbol s) → primary_at left inner ts ≡ symbol_primary left inner ts
  unfolding primary_at one_if_any
  at_symbol s e = let is = split ts (lexeme.Symbol s) e in ap (primary_at left inner) is ∙ ap (symbol_primary left inner) (sym is)

none_opened : (left : ℕ) (b : Bool) → nat_eq left 0 ≡ b → opening_bracket left [] ≡ Err 0
unfolding opening_bracket expect
none_opened left true e = ap (λ b. (cond b stuck (expect_symbol symbol.Open)) []) e
none_opened left false e = ap (λ b. (cond b stuck (expect_symbol symbol.Open)) []) e

none_read : (left : ℕ) (inner : Parser Expr) → Stops (primary_at left inner []) (Unfit 0)
unfolding primary_at one_if_any eat bracketed
none_read left inner = stops_here (opening_bracket left) _ [] (Unfit 0) (none_opened left (nat_eq left 0) refl)

pub at_end : (left : ℕ) (inner : Parser Expr) (ts : Tokens) → first_of Some ts ≡ None → Stops (primary_at left inner ts) (Unfit (length ts))
at_end left inner [] e = none_read left inner
at_end left inner (t ∷ ts) e = cc
