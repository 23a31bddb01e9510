-- A symbol is told by its rank among the symbols.
use Rattle.std.proofs.Common.{◌≡◌, ◌↔◌, ℕ, List, [], ◌∷◌, get_or, IsTrue, true, eqb, refl, sym, ap, ◌∙◌}
use Rattle.std.proofs.lemmas.Bool.{eqb-true, eq-eqb}
use Rattle.sq_lex.specs.Symbol.{symbol_rank, same_symbol}
use Rattle.sq_lex.specs.declared.symbol.Symbol.{Symbol}
use Rattle.sq_lex.specs.declared.symbol.Symbol.TheVariants as symbol

abbrev symbols : List Symbol
symbols = symbol.Open ∷ symbol.Close ∷ symbol.Comma ∷ symbol.Semicolon ∷ symbol.Dot ∷ symbol.Colon ∷ symbol.Star ∷ symbol.Plus ∷ symbol.Minus ∷ symbol.Slash ∷ symbol.Equal ∷ symbol.NotEqual ∷ symbol.Less ∷ symbol.Greater ∷ symbol.LessOrEqual ∷ symbol.GreaterOrEqual ∷ []

symbol-at : (s : Symbol) → get_or symbols (symbol_rank s) symbol.Open ≡ s
symbol-at symbol.Open = refl
symbol-at symbol.Close = refl
symbol-at symbol.Comma = refl
symbol-at symbol.Semicolon = refl
symbol-at symbol.Dot = refl
symbol-at symbol.Colon = refl
symbol-at symbol.Star = refl
symbol-at symbol.Plus = refl
symbol-at symbol.Minus = refl
symbol-at symbol.Slash = refl
symbol-at symbol.Equal = refl
symbol-at symbol.NotEqual = refl
symbol-at symbol.Less = refl
symbol-at symbol.Greater = refl
symbol-at symbol.LessOrEqual = refl
symbol-at symbol.GreaterOrEqual = refl

-- symbols of one rank are one symbol
pub same_symbol-true : (a b : Symbol) → same_symbol a b ≡ true → a ≡ b
same_symbol-true a b e = sym (symbol-at a) ∙ ap (λ n. get_or symbols n symbol.Open) (eqb-true (symbol_rank a) (symbol_rank b) e) ∙ symbol-at b

-- comparing ranks compares symbols
pub same_symbol_ranks : (p q : ℕ) (a b : Symbol) → p ≡ symbol_rank a → q ≡ symbol_rank b → IsTrue (eqb p q) ↔ (a ≡ b)
same_symbol_ranks p q a b at_a at_b = (
  λ same. same_symbol-true a b (ap (λ n. eqb n (symbol_rank b)) (sym at_a) ∙ ap (eqb p) (sym at_b) ∙ same),
  λ same. eq-eqb p q (at_a ∙ ap symbol_rank same ∙ sym at_b),
)
