-- A token at which the reading of a text is stuck goes on no text: no tree has the tokens up to it, whatever stands behind them. Where it is a
-- bracket that is one too many, deeper trees have.
use Rattle.std.proofs.Common.{◌≡◌, ℕ, ◌+◌, ◌-◌, ◌<◌, true, false, ◌&&◌, [], ◌∷◌, ◌++◌, length, take, Err, nat_eq, sym, ◌∙◌, ap, arith, append_assoc, length-append}
use Rattle.std.proofs.Math.Seq.{take-append_seam, drop-append_seam}
use Rattle.sq_lex.specs.declared.lexeme.Lexeme.{Lexeme}
use Rattle.sq_lex.specs.declared.lexeme.Lexeme.TheVariants as lexeme
use Rattle.sq_lex.specs.declared.symbol.Symbol.TheVariants as symbol
use Rattle.sq_grammar.specs.declared.brackets.TheConstants.{MAX_DEPTH}
use Rattle.sq_grammar.specs.Reading.{Tokens, Parser, sees, whole}
use Rattle.sq_grammar.specs.Brackets.{open_brackets, is_too_deep}
use Rattle.sq_grammar.proofs.Taken.Takes.{Takes}
use Rattle.sq_grammar.proofs.Taken.Refused.{Deepens, refused_deep}
use Rattle.sq_run.proofs.Tokens.Ahead.{Stuck}
use Rattle.sq_run.proofs.Tokens.Final.{Final, bind, ended}

-- the reading of a whole text stops at a token for good
abbrev pub StopsForGood : {T : Type 0} → Parser T → Type 0
StopsForGood rule = (ts : Tokens) (n : ℕ) → whole rule ts ≡ Err n → 0 < n → Stuck (whole rule) ts n

pub stops_for_good : {T : Type 0} {rule : Parser T} → Final rule → StopsForGood rule
stops_for_good h = (bind h ended).stops

-- whether a bracket is one too many is told by the tokens up to it
depth_at : (before : Tokens) (t : Lexeme) (after : Tokens) → is_too_deep (before ++ t ∷ after) (length before) ≡ (sees (lexeme.Symbol symbol.Open) (t ∷ []) && nat_eq (open_brackets before) MAX_DEPTH)
depth_at before t after =
    ap (λ us. sees (lexeme.Symbol symbol.Open) us && nat_eq (open_brackets (take (length before) (before ++ t ∷ after))) MAX_DEPTH) (drop-append_seam before (t ∷ after))
    ∙ ap (λ us. sees (lexeme.Symbol symbol.Open) (t ∷ []) && nat_eq (open_brackets us) MAX_DEPTH) (take-append_seam before (t ∷ after))

up_to : (before : Tokens) (t : Lexeme) (after : Tokens) → take (length before + 1) (before ++ t ∷ after) ≡ before ++ t ∷ []
up_to before t after =
    ap (take (length before + 1)) (sym (append_assoc before (t ∷ []) after))
    ∙ ap (λ n. take n ((before ++ t ∷ []) ++ after)) (sym (length-append before (t ∷ [])))
    ∙ take-append_seam (before ++ t ∷ []) after

module _ {T : Type 0} (rule : Parser T) (tokens_of : T → Tokens) (depth_of : T → ℕ) (takes : (tree : T) → Takes rule (tokens_of tree) 0 0 (depth_of tree) MAX_DEPTH tree []) where
  -- a tree with the tokens up to the one at which reading is stuck, and any others
  at_stop : (ts : Tokens) (n : ℕ) (k : Stuck (whole rule) ts n) → is_too_deep ts (length k.before) ≡ false → (tree : T) (other : Tokens) → tokens_of tree ≡ k.before ++ k.token ∷ other → ⊥
  at_stop ts n k shallow tree other is =
      let us : Tokens = k.before ++ k.token ∷ other in
      let deep : Deepens us (length (k.token ∷ other)) (depth_of tree) = refused_deep rule us (tokens_of tree) (depth_of tree) tree (length (k.token ∷ other)) (takes tree) is (k.same other) in
      let index : length us - length (k.token ∷ other) ≡ length k.before = omega (arith, length-append k.before (k.token ∷ other)) in
      let here : is_too_deep us (length k.before) ≡ is_too_deep ts (length k.before) = depth_at k.before k.token other ∙ sym (depth_at k.before k.token k.after) ∙ ap (λ vs. is_too_deep vs (length k.before)) (sym k.text_is) in
      true_false (sym (sym here ∙ sym (ap (is_too_deep us) index) ∙ deep.too_deep) ∙ shallow)
    where
      true_false : true ≡ false → ⊥
      true_false e = cc

  pub goes_no_further : StopsForGood rule → (ts : Tokens) (n : ℕ) → whole rule ts ≡ Err n → 0 < n → is_too_deep ts (length ts - n) ≡ false → (tree : T) (other : Tokens) → tokens_of tree ≡ take (length ts - n + 1) ts ++ other → ⊥
  goes_no_further final ts n refused room shallow tree other is =
      let k : Stuck (whole rule) ts n = final ts n refused room in
      let index : length ts - n ≡ length k.before = omega (arith, k.left, ap length k.text_is ∙ length-append k.before (k.token ∷ k.after)) in
      let begins : take (length ts - n + 1) ts ≡ k.before ++ k.token ∷ [] = ap (λ m. take (m + 1) ts) index ∙ ap (take (length k.before + 1)) k.text_is ∙ up_to k.before k.token k.after in
      at_stop ts n k (ap (is_too_deep ts) (sym index) ∙ shallow) tree other (is ∙ ap (λ us. us ++ other) begins ∙ append_assoc k.before (k.token ∷ []) other)
