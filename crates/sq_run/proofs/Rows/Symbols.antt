-- Symbols: one is found by its first bytes.
use Rattle.std.proofs.Common.{◌≡◌, ℕ, ◌==◌, cond, List, [], ◌∷◌, length, refl, sym, ap, ◌∙◌, arith, Option, Some, None, inl, inr, ◌⊎◌}
use Rattle.std.proofs.lemmas.Bool.{cond_both, eqb-true}
use Rattle.std.specs.Prelude.{slice_index}
use Rattle.sq_lex.specs.Spelling.{symbol_codes}
use Rattle.sq_lex.specs.Symbol.{symbol_of_one, symbol_of_two}
use Rattle.sq_lex.specs.declared.symbol.Symbol.{Symbol}
use Rattle.sq_lex.specs.declared.symbol.Symbol.TheVariants as symbol

pub symbol_length : (s : Symbol) → (length (symbol_codes s) ≡ 1) ⊎ (length (symbol_codes s) ≡ 2)
symbol_length symbol.Open = inl refl
symbol_length symbol.Close = inl refl
symbol_length symbol.Comma = inl refl
symbol_length symbol.Semicolon = inl refl
symbol_length symbol.Dot = inl refl
symbol_length symbol.Colon = inl refl
symbol_length symbol.Star = inl refl
symbol_length symbol.Plus = inl refl
symbol_length symbol.Minus = inl refl
symbol_length symbol.Slash = inl refl
symbol_length symbol.Equal = inl refl
symbol_length symbol.NotEqual = inr refl
symbol_length symbol.Less = inl refl
symbol_length symbol.Greater = inl refl
symbol_length symbol.LessOrEqual = inr refl
symbol_length symbol.GreaterOrEqual = inr refl

pub one_found : (s : Symbol) → length (symbol_codes s) ≡ 1 → symbol_of_one (slice_index (symbol_codes s) 0) ≡ Some s
one_found symbol.Open h = refl
one_found symbol.Close h = refl
one_found symbol.Comma h = refl
one_found symbol.Semicolon h = refl
one_found symbol.Dot h = refl
one_found symbol.Colon h = refl
one_found symbol.Star h = refl
one_found symbol.Plus h = refl
one_found symbol.Minus h = refl
one_found symbol.Slash h = refl
one_found symbol.Equal h = refl
one_found symbol.NotEqual h = absurd (omega (arith, h))
one_found symbol.Less h = refl
one_found symbol.Greater h = refl
one_found symbol.LessOrEqual h = absurd (omega (arith, h))
one_found symbol.GreaterOrEqual h = absurd (omega (arith, h))

pub two_found : (s : Symbol) → length (symbol_codes s) ≡ 2 → symbol_of_two (slice_index (symbol_codes s) 0) (slice_index (symbol_codes s) 1) ≡ Some s
two_found symbol.Open h = absurd (omega (arith, h))
two_found symbol.Close h = absurd (omega (arith, h))
two_found symbol.Comma h = absurd (omega (arith, h))
two_found symbol.Semicolon h = absurd (omega (arith, h))
two_found symbol.Dot h = absurd (omega (arith, h))
two_found symbol.Colon h = absurd (omega (arith, h))
two_found symbol.Star h = absurd (omega (arith, h))
two_found symbol.Plus h = absurd (omega (arith, h))
two_found symbol.Minus h = absurd (omega (arith, h))
two_found symbol.Slash h = absurd (omega (arith, h))
two_found symbol.Equal h = absurd (omega (arith, h))
two_found symbol.NotEqual h = refl
two_found symbol.Less h = absurd (omega (arith, h))
two_found symbol.Greater h = absurd (omega (arith, h))
two_found symbol.LessOrEqual h = refl
two_found symbol.GreaterOrEqual h = refl

-- what bytes are found to be they spell
pub record Found (bytes : List ℕ) (o : Option Symbol) : Type 0 where
  pub is : (s : Symbol) → o ≡ Some s → bytes ≡ symbol_codes s

codes_of : Option Symbol → List ℕ
codes_of None = []
codes_of (Some s) = symbol_codes s

it_is : (bytes : List ℕ) (t : Symbol) → bytes ≡ symbol_codes t → Found bytes (Some t)
unfolding codes_of
it_is bytes t h = record { is = λ s e. h ∙ ap codes_of e }

no_one : (bytes : List ℕ) → Found bytes None
no_one bytes = record { is = λ s e. cc }

pub twos : (a b : ℕ) → Found (a ∷ b ∷ []) (symbol_of_two a b)
twos a b =
    let P = Found (a ∷ b ∷ []) in
    cond_both (a == 60) (cond (b == 62) (Some symbol.NotEqual) (cond (b == 61) (Some symbol.LessOrEqual) None)) (cond (a == 62) (cond (b == 61) (Some symbol.GreaterOrEqual) None) None) P
    (λ x. cond_both (b == 62) (Some symbol.NotEqual) (cond (b == 61) (Some symbol.LessOrEqual) None) P (λ y. it_is (a ∷ b ∷ []) symbol.NotEqual (λ i. eqb-true a 60 x i ∷ eqb-true b 62 y i ∷ []))
    (λ z. cond_both (b == 61) (Some symbol.LessOrEqual) None P (λ y. it_is (a ∷ b ∷ []) symbol.LessOrEqual (λ i. eqb-true a 60 x i ∷ eqb-true b 61 y i ∷ [])) (λ n. no_one (a ∷ b ∷ []))))
    (λ z. cond_both (a == 62) (cond (b == 61) (Some symbol.GreaterOrEqual) None) None P
    (λ x. cond_both (b == 61) (Some symbol.GreaterOrEqual) None P (λ y. it_is (a ∷ b ∷ []) symbol.GreaterOrEqual (λ i. eqb-true a 62 x i ∷ eqb-true b 61 y i ∷ [])) (λ n. no_one (a ∷ b ∷ [])))
    (λ n. no_one (a ∷ b ∷ [])))

one_or : (a k : ℕ) (s : Symbol) (o : Option Symbol) → k ∷ [] ≡ symbol_codes s → Found (a ∷ []) o → Found (a ∷ []) (cond (a == k) (Some s) o)
one_or a k s o h later = cond_both (a == k) (Some s) o (Found (a ∷ [])) (λ e. it_is (a ∷ []) s (ap (λ c. c ∷ []) (eqb-true a k e) ∙ h)) (λ n. later)

pub ones : (a : ℕ) → Found (a ∷ []) (symbol_of_one a)
ones a =
    one_or a 40 symbol.Open _ refl (one_or a 41 symbol.Close _ refl (one_or a 44 symbol.Comma _ refl (one_or a 59 symbol.Semicolon _ refl (one_or a 46 symbol.Dot _ refl
    (one_or a 58 symbol.Colon _ refl (one_or a 42 symbol.Star _ refl (one_or a 43 symbol.Plus _ refl (one_or a 45 symbol.Minus _ refl (one_or a 47 symbol.Slash _ refl
    (one_or a 61 symbol.Equal _ refl (one_or a 60 symbol.Less _ refl (one_or a 62 symbol.Greater _ refl (no_one (a ∷ []))))))))))))))

-- the end of the bytes is part of no symbol
pub no_second : (a : ℕ) (s : Symbol) → symbol_of_two a 0 ≡ Some s → ⊥
no_second a s e = differ (sym none ∙ e)
  where
    differ : None ≡ Some s → ⊥
    differ i = cc

    none : symbol_of_two a 0 ≡ None
    none = cond_both (a == 60) None (cond (a == 62) None None) (λ o. o ≡ None) (λ x. refl) (λ x. cond_both (a == 62) None None (λ o. o ≡ None) (λ y. refl) (λ y. refl))
