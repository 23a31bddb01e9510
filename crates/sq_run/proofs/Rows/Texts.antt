-- Text literals: where they close.
use Rattle.std.proofs.Common.{◌≡◌, ℕ, suc, ◌+◌, ◌≤◌, ◌==◌, Bool, true, false, cond, List, [], ◌∷◌, ◌++◌, length, refl, sym, ap, ◌∙◌, arith}
use Rattle.std.proofs.lemmas.Bool.{and_parts, cond_both, eqb-true}
use Rattle.std.proofs.lemmas.Bool.Decides.{nat_tests}
use Rattle.std.specs.Prelude.{slice_index}
use Rattle.std.specs.List.{list_all}
use Rattle.sq_lex.specs.Characters.{quote, is_line_end, is_printable}
use Rattle.sq_lex.specs.Literal.{literal, after_quote, with_character}
use Rattle.sq_lex.specs.Spelling.{doubled}
use Rattle.sq_lex.specs.declared.literal.Literal.{Literal}
use Rattle.sq_lex.specs.declared.literal.Literal.TheVariants.{Closed, Open, BadByte}

no_line_end : (c : ℕ) → is_printable c ≡ true → is_line_end c ≡ false
no_line_end c p = grind (arith, nat_tests)

-- the literal whose characters these are, which no quote follows
pub closes : (cs rest : List ℕ) → list_all is_printable cs ≡ true → (slice_index rest 0 == quote) ≡ false → literal (doubled cs ++ (quote ∷ rest)) ≡ Closed cs (length (doubled cs) + 1)
closes [] [] each apart = refl
closes [] (r ∷ rest) each apart = ap (λ b. cond b (with_character quote 2 (literal rest)) (Closed [] 1)) apart
closes (c ∷ cs) rest each apart = by (c == quote) refl (closes cs rest both.1 apart)
  where
    both : (is_printable c ≡ true) × (list_all is_printable cs ≡ true)
    both = and_parts (is_printable c) (list_all is_printable cs) each

    by : (b : Bool) → (c == quote) ≡ b → literal (doubled cs ++ (quote ∷ rest)) ≡ Closed cs (length (doubled cs) + 1) → literal (doubled (c ∷ cs) ++ (quote ∷ rest)) ≡ Closed (c ∷ cs) (length (doubled (c ∷ cs)) + 1)
    by true q read =
        let long : 2 + (length (doubled cs) + 1) ≡ suc (suc (length (doubled cs))) + 1 = omega arith in
        rw q (ap (with_character quote 2) read ∙ (λ i. Closed (sym (eqb-true c quote q) i ∷ cs) (long i)))
    by false q read =
        let long : 1 + (length (doubled cs) + 1) ≡ suc (length (doubled cs)) + 1 = omega arith in
        rw q (ap (λ b. cond b (after_quote (doubled cs ++ quote ∷ rest)) (cond (is_line_end c) Open (cond (is_printable c) (with_character c 1 (literal (doubled cs ++ quote ∷ rest))) (BadByte 0)))) q
        ∙ ap (λ b. cond b Open (cond (is_printable c) (with_character c 1 (literal (doubled cs ++ quote ∷ rest))) (BadByte 0))) (no_line_end c both.0)
        ∙ ap (λ b. cond b (with_character c 1 (literal (doubled cs ++ quote ∷ rest))) (BadByte 0)) both.0
        ∙ ap (with_character c 1) read ∙ ap (Closed (c ∷ cs)) long)

-- a literal that is closed ends within the bytes, and no quote stands behind it
abbrev pub EndsApart : List ℕ → Literal → Type 0
EndsApart bytes (Closed cs size) = (size ≤ length bytes) × ((slice_index bytes size == quote) ≡ false)
EndsApart bytes Open = Unit {0}
EndsApart bytes (BadByte at) = Unit {0}

one_more : (b character : ℕ) (bytes : List ℕ) (l : Literal) → EndsApart bytes l → EndsApart (b ∷ bytes) (with_character character 1 l)
one_more b character bytes (Closed cs size) h =
    let one : 1 + size ≡ suc size = omega arith in
    (omega (arith, h.0), ap (λ n. slice_index (b ∷ bytes) n == quote) one ∙ h.1)
one_more b character bytes Open h = tt {0}
one_more b character bytes (BadByte at) h = tt {0}

two_more : (b c character : ℕ) (bytes : List ℕ) (l : Literal) → EndsApart bytes l → EndsApart (b ∷ c ∷ bytes) (with_character character 2 l)
two_more b c character bytes (Closed cs size) h =
    let two : 2 + size ≡ suc (suc size) = omega arith in
    (omega (arith, h.0), ap (λ n. slice_index (b ∷ c ∷ bytes) n == quote) two ∙ h.1)
two_more b c character bytes Open h = tt {0}
two_more b c character bytes (BadByte at) h = tt {0}

plain : (b : ℕ) (rest : List ℕ) → EndsApart rest (literal rest) → EndsApart (b ∷ rest) (cond (is_line_end b) Open (cond (is_printable b) (with_character b 1 (literal rest)) (BadByte 0)))
plain b rest h =
    cond_both (is_line_end b) Open (cond (is_printable b) (with_character b 1 (literal rest)) (BadByte 0)) (EndsApart (b ∷ rest)) (λ end. tt {0})
    (λ on. cond_both (is_printable b) (with_character b 1 (literal rest)) (BadByte 0) (EndsApart (b ∷ rest)) (λ p. one_more b b rest (literal rest) h) (λ bad. tt {0}))

pub ends_apart : (bytes : List ℕ) → EndsApart bytes (literal bytes)
ends_apart [] = tt {0}
ends_apart (b ∷ []) =
    cond_both (b == quote) (Closed [] 1) (cond (is_line_end b) Open (cond (is_printable b) (with_character b 1 (literal [])) (BadByte 0))) (EndsApart (b ∷ [])) (λ q. (omega arith, refl)) (λ nq. plain b [] (tt {0}))
ends_apart (b ∷ c ∷ more) =
    cond_both (b == quote) (after_quote (c ∷ more)) (cond (is_line_end b) Open (cond (is_printable b) (with_character b 1 (literal (c ∷ more))) (BadByte 0))) (EndsApart (b ∷ c ∷ more))
    (λ q. cond_both (c == quote) (with_character quote 2 (literal more)) (Closed [] 1) (EndsApart (b ∷ c ∷ more)) (λ r. two_more b c quote more (literal more) (ends_apart more)) (λ nr. (omega arith, nr)))
    (λ nq. plain b (c ∷ more) (ends_apart (c ∷ more)))
