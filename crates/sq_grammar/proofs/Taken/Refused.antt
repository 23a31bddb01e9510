-- A text that is refused has no tree, or only trees that are too deep. In the second case it is refused at the bracket that is one
-- too many.
use Rattle.std.proofs.Common.{◌≡◌, ℕ, ◌-◌, ◌<◌, Bool, true, false, ◌&&◌, [], ◌∷◌, ◌++◌, length, take, drop, Ok, Err, nat_lt, nat_eq, refl, sym, ◌∙◌, ap, subst, arith, append-nil, length-append}
use Rattle.std.proofs.lemmas.Bool.{ltb-true, ltb-false}
use Rattle.std.proofs.Math.Seq.{take-append_seam, drop-append_seam}
use Rattle.sq_lex.specs.declared.lexeme.Lexeme.TheVariants as lexeme
use Rattle.sq_lex.specs.declared.symbol.Symbol.TheVariants as symbol
use Rattle.sq_grammar.specs.declared.brackets.TheConstants.{MAX_DEPTH}
use Rattle.sq_grammar.specs.Reading.{Tokens, Outcome, Parser, and_then, sees, whole, end_of}
use Rattle.sq_grammar.specs.Brackets.{open_brackets, is_too_deep}
use Rattle.sq_grammar.proofs.Taken.Takes.{Takes, Deep, Moves}

-- the token from which on `n` are left is a bracket before which as many are open as may be
pub record Deepens (ts : Tokens) (n d : ℕ) : Type 0 where
  pub deeper : MAX_DEPTH < d
  pub too_deep : is_too_deep ts (length ts - n) ≡ true
  pub inside : length ts - n < length ts

err_is : (A : Type 0) (n m : ℕ) → (let a : Outcome A = Err n in let b : Outcome A = Err m in a ≡ b) → n ≡ m
err_is A n m e = cc

not_both : (A : Type 0) (x : A × Tokens) (n : ℕ) → (let a : Outcome A = Ok x in let b : Outcome A = Err n in a ≡ b) → ⊥
not_both A x n e = cc

index_is : (ts before after : Tokens) → ts ≡ before ++ lexeme.Symbol symbol.Open ∷ after → length ts - length (lexeme.Symbol symbol.Open ∷ after) ≡ length before
index_is ts before after is =
    let n = ap length is ∙ length-append before (lexeme.Symbol symbol.Open ∷ after) in
    omega (arith, n)

deep_at : (ts before after : Tokens) → ts ≡ before ++ lexeme.Symbol symbol.Open ∷ after → Moves before 0 MAX_DEPTH → is_too_deep ts (length before) ≡ true
deep_at ts before after is moves =
    let there : drop (length before) ts ≡ lexeme.Symbol symbol.Open ∷ after = ap (drop (length before)) is ∙ drop-append_seam before (lexeme.Symbol symbol.Open ∷ after) in
    let front : take (length before) ts ≡ before = ap (take (length before)) is ∙ take-append_seam before (lexeme.Symbol symbol.Open ∷ after) in
    let count : open_brackets before ≡ MAX_DEPTH = moves.steps 0 in
    ap (λ us. sees (lexeme.Symbol symbol.Open) us && nat_eq (open_brackets (take (length before) ts)) MAX_DEPTH) there ∙ ap (λ us. nat_eq (open_brackets us) MAX_DEPTH) front ∙ ap (λ n. nat_eq n MAX_DEPTH) count

pub refused_deep : {A : Type 0} (p : Parser A) (ts text : Tokens) (d : ℕ) (x : A) (n : ℕ) → Takes p text 0 0 d MAX_DEPTH x [] → text ≡ ts → whole p ts ≡ Err n → Deepens ts n d
refused_deep {A = A} p ts text d x n s same refused = by (nat_lt MAX_DEPTH d) refl
  where
    text_is : text ++ [] ≡ ts
    text_is = append-nil text ∙ same

    by : (deeper : Bool) → nat_lt MAX_DEPTH d ≡ deeper → Deepens ts n d
    by false is =
        let read : p ts ≡ Ok (x, []) = ap p (sym text_is) ∙ s.taken (ltb-false _ _ is) in
        absurd (not_both A (x, []) n (sym (ap (λ r. and_then r end_of) read) ∙ refused))
    by true is =
        let deep : Deep (p ts) ts 0 MAX_DEPTH = subst (λ us. Deep (p us) us 0 MAX_DEPTH) text_is (s.deep (ltb-true _ _ is)) in
        let count : n ≡ length (lexeme.Symbol symbol.Open ∷ deep.after) = err_is A _ _ (sym refused ∙ ap (λ r. and_then r end_of) deep.stops) in
        let index : length ts - n ≡ length deep.before = ap (λ m. length ts - m) count ∙ index_is ts deep.before deep.after deep.is in
        let long = ap length deep.is ∙ length-append deep.before (lexeme.Symbol symbol.Open ∷ deep.after) in
        record {
          deeper = ltb-true _ _ is;
          too_deep = ap (is_too_deep ts) index ∙ deep_at ts deep.before deep.after deep.is deep.open_before;
          inside = omega (arith, index, long);
        }
