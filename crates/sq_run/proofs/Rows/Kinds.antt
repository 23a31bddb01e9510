-- The longest spelling at a place, by the first bytes there: of a word, a number, a text or a symbol.
use Rattle.std.proofs.Common.{◌≡◌, ℕ, zero, suc, ◌+◌, ◌<◌, ◌≤◌, ◌==◌, ◌&&◌, ◌||◌, Bool, true, false, cond, List, [], ◌∷◌, ◌++◌, length, take, drop, map, refl, sym, ap, ◌∙◌, arith, inl, inr, ◌⊎◌, Option, Some, None}
use Rattle.std.proofs.lemmas.Bool.{and_parts, eqb-true}
use Rattle.std.proofs.lemmas.Bool.Decides.{nat_tests}
use Rattle.std.proofs.lemmas.List.{length-drop, length-take-le}
use Rattle.std.proofs.lemmas.List.Recursion.{is_count_by}
use Rattle.std.proofs.lemmas.List.Sums.{prefix_len-le-length}
use Rattle.std.specs.Prelude.{count_by, slice_index}
use Rattle.std.specs.List.{list_all, prefix_len}
use Rattle.std.specs.Char.{is_ascii_digit, is_ascii_alphabetic, to_ascii_uppercase}
use Rattle.sq_lex.specs.Characters.{point, quote, has, is_white}
use Rattle.sq_lex.specs.Piece.{begins_number, digits, fraction_size, lexeme_of_word}
use Rattle.sq_lex.specs.Reserved.{reserved}
use Rattle.sq_lex.specs.Spelling.{symbol_codes}
use Rattle.sq_lex.specs.declared.characters.Class.TheVariants as class
use Rattle.sq_lex.specs.declared.lexeme.Lexeme.{Lexeme}
use Rattle.sq_lex.specs.declared.lexeme.Lexeme.TheVariants as lexeme
use Rattle.sq_lex.specs.declared.symbol.Symbol.{Symbol}
use Rattle.sq_lex.specs.declared.symbol.Symbol.TheVariants as symbol
use Rattle.sq_lex.specs.declared.word.Word.{Word}
use Rattle.sq_run.specs.TextRow.{IsLexeme, IsWord}
use Rattle.sq_run.proofs.Rows.Runs.{begun, from_head, head, head_kept, no_run, number_size, number_some, numeral_begins, numeral_within, run_longest, run_passes, second_kept}

-- ---- how spellings begin

-- what the first byte of a spelling is, by the kind of its lexeme
abbrev pub Begins : List ℕ → Lexeme → Type 0
Begins bytes (lexeme.Word w) = is_ascii_alphabetic (head bytes) ≡ true
Begins bytes (lexeme.Name n) = is_ascii_alphabetic (head bytes) ≡ true
Begins bytes (lexeme.Number n) = begins_number bytes ≡ true
Begins bytes (lexeme.Text cs) = head bytes ≡ quote
Begins bytes (lexeme.Symbol s) = head bytes ≡ head (symbol_codes s)

begins_kept : (bytes : List ℕ) (n : ℕ) → 0 < n → begins_number (take n bytes) ≡ true → begins_number bytes ≡ true
begins_kept bytes zero some h = absurd (omega arith)
begins_kept [] (suc n) some h = h
begins_kept (b ∷ bytes) (suc zero) some h = by (is_ascii_digit b) refl
  where
    by : (d : Bool) → is_ascii_digit b ≡ d → begins_number (b ∷ bytes) ≡ true
    by true e = ap (λ c. c || (b == point && is_ascii_digit (slice_index (b ∷ bytes) 1))) e
    by false e = absurd (grind (arith, nat_tests))
begins_kept (b ∷ bytes) (suc (suc n)) some h =
    let second : slice_index (take (suc (suc n)) (b ∷ bytes)) 1 ≡ slice_index (b ∷ bytes) 1 = second_kept (b ∷ bytes) (suc (suc n)) (omega arith) in
    ap (λ c. is_ascii_digit b || (b == point && is_ascii_digit c)) (sym second) ∙ h

pub begins : (bytes : List ℕ) (n : ℕ) (m : Lexeme) → 0 < n → IsLexeme (take n bytes) m → Begins bytes m
begins bytes n (lexeme.Word w) some s = ap is_ascii_alphabetic (sym (head_kept bytes n some)) ∙ s.0.letter
begins bytes n (lexeme.Name x) some s = ap is_ascii_alphabetic (sym (head_kept bytes n some)) ∙ s.0.letter
begins bytes n (lexeme.Number x) some s =
    let i = s.1 in
    begins_kept bytes n some (numeral_begins (take n bytes) i.whole i.fraction i.spelled i.whole_digits i.fraction_digits i.some)
begins bytes n (lexeme.Text cs) some s = sym (head_kept bytes n some) ∙ ap head s.spelled
begins bytes n (lexeme.Symbol t) some s = sym (head_kept bytes n some) ∙ ap head s

pub true_false : true ≡ false → ⊥
true_false e = cc

-- a fact of the first byte of no symbol
no_symbol : (p : ℕ → Bool) (s : Symbol) → p 40 ≡ false → p 41 ≡ false → p 44 ≡ false → p 59 ≡ false → p 46 ≡ false → p 58 ≡ false → p 42 ≡ false → p 43 ≡ false → p 45 ≡ false → p 47 ≡ false → p 61 ≡ false → p 60 ≡ false → p 62 ≡ false
    → p (head (symbol_codes s)) ≡ false
no_symbol p symbol.Open a b c d e f g h i j k l m = a
no_symbol p symbol.Close a b c d e f g h i j k l m = b
no_symbol p symbol.Comma a b c d e f g h i j k l m = c
no_symbol p symbol.Semicolon a b c d e f g h i j k l m = d
no_symbol p symbol.Dot a b c d e f g h i j k l m = e
no_symbol p symbol.Colon a b c d e f g h i j k l m = f
no_symbol p symbol.Star a b c d e f g h i j k l m = g
no_symbol p symbol.Plus a b c d e f g h i j k l m = h
no_symbol p symbol.Minus a b c d e f g h i j k l m = i
no_symbol p symbol.Slash a b c d e f g h i j k l m = j
no_symbol p symbol.Equal a b c d e f g h i j k l m = k
no_symbol p symbol.NotEqual a b c d e f g h i j k l m = l
no_symbol p symbol.Less a b c d e f g h i j k l m = l
no_symbol p symbol.Greater a b c d e f g h i j k l m = m
no_symbol p symbol.LessOrEqual a b c d e f g h i j k l m = l
no_symbol p symbol.GreaterOrEqual a b c d e f g h i j k l m = m

-- the first byte of a symbol is no letter, no digit, no quote and no white space
pub letter_no_symbol : (s : Symbol) → is_ascii_alphabetic (head (symbol_codes s)) ≡ false
letter_no_symbol s = no_symbol is_ascii_alphabetic s refl refl refl refl refl refl refl refl refl refl refl refl refl

pub digit_no_symbol : (s : Symbol) → is_ascii_digit (head (symbol_codes s)) ≡ false
digit_no_symbol s = no_symbol is_ascii_digit s refl refl refl refl refl refl refl refl refl refl refl refl refl

pub quote_no_symbol : (s : Symbol) → (head (symbol_codes s) == quote) ≡ false
quote_no_symbol s = no_symbol (λ c. c == quote) s refl refl refl refl refl refl refl refl refl refl refl refl refl

pub white_no_symbol : (s : Symbol) → is_white (head (symbol_codes s)) ≡ false
white_no_symbol s = no_symbol is_white s refl refl refl refl refl refl refl refl refl refl refl refl refl

pub letter_no_number : (bytes : List ℕ) → is_ascii_alphabetic (head bytes) ≡ true → begins_number bytes ≡ true → ⊥
letter_no_number bytes l n = grind (arith, nat_tests)

pub quote_no_number : (bytes : List ℕ) → head bytes ≡ quote → begins_number bytes ≡ true → ⊥
quote_no_number bytes q n = true_false (sym n ∙ ap (λ c. is_ascii_digit c || (c == point && is_ascii_digit (slice_index bytes 1))) q)

-- ---- words

abbrev pub word_size : List ℕ → ℕ
word_size bytes = prefix_len (has class.Word) bytes

module _ (bytes : List ℕ) (letter : is_ascii_alphabetic (head bytes) ≡ true) where
  pub word_some : 0 < word_size bytes
  word_some = begun (has class.Word) bytes refl (ap (λ x. x || is_ascii_digit (head bytes) || head bytes == 95) letter)

  -- a spelling there is one of a word
  pub is_word : (n : ℕ) (m : Lexeme) → 0 < n → IsLexeme (take n bytes) m → IsWord (take n bytes)
  is_word n (lexeme.Word w) some s = s.0
  is_word n (lexeme.Name x) some s = s.0
  is_word n (lexeme.Number x) some s = absurd (letter_no_number bytes letter (begins bytes n (lexeme.Number x) some s))
  is_word n (lexeme.Text cs) some s = absurd (true_false (sym letter ∙ ap is_ascii_alphabetic (begins bytes n (lexeme.Text cs) some s)))
  is_word n (lexeme.Symbol t) some s = absurd (true_false (sym letter ∙ ap is_ascii_alphabetic (begins bytes n (lexeme.Symbol t) some s) ∙ letter_no_symbol t))

  pub word_bound : (n : ℕ) (m : Lexeme) → n ≤ length bytes → IsLexeme (take n bytes) m → n ≤ word_size bytes
  word_bound zero m within s = omega arith
  word_bound (suc n) m within s = run_longest (has class.Word) bytes (suc n) within (is_word (suc n) m (omega arith) s).each

  -- the run of a word spells a lexeme
  pub word_there : (o : Option Word) → reserved (map to_ascii_uppercase (take (word_size bytes) bytes)) ≡ o → IsLexeme (take (word_size bytes) bytes) (lexeme_of_word (map to_ascii_uppercase (take (word_size bytes) bytes)) o)
  word_there o e = by o e
    where
      spelled : IsWord (take (word_size bytes) bytes)
      spelled = record { letter = ap is_ascii_alphabetic (head_kept bytes (word_size bytes) word_some) ∙ letter; each = run_passes (has class.Word) bytes }

      by : (o : Option Word) → reserved (map to_ascii_uppercase (take (word_size bytes) bytes)) ≡ o → IsLexeme (take (word_size bytes) bytes) (lexeme_of_word (map to_ascii_uppercase (take (word_size bytes) bytes)) o)
      by None e = (spelled, refl, e)
      by (Some w) e = (spelled, e)

-- ---- numbers

-- of the symbols the point alone begins as a number does
point_alone : (t : Symbol) → head (symbol_codes t) ≡ point → length (symbol_codes t) ≡ 1
point_alone symbol.Dot e = refl
point_alone symbol.Open e = absurd (omega (arith, e))
point_alone symbol.Close e = absurd (omega (arith, e))
point_alone symbol.Comma e = absurd (omega (arith, e))
point_alone symbol.Semicolon e = absurd (omega (arith, e))
point_alone symbol.Colon e = absurd (omega (arith, e))
point_alone symbol.Star e = absurd (omega (arith, e))
point_alone symbol.Plus e = absurd (omega (arith, e))
point_alone symbol.Minus e = absurd (omega (arith, e))
point_alone symbol.Slash e = absurd (omega (arith, e))
point_alone symbol.Equal e = absurd (omega (arith, e))
point_alone symbol.NotEqual e = absurd (omega (arith, e))
point_alone symbol.Less e = absurd (omega (arith, e))
point_alone symbol.Greater e = absurd (omega (arith, e))
point_alone symbol.LessOrEqual e = absurd (omega (arith, e))
point_alone symbol.GreaterOrEqual e = absurd (omega (arith, e))

pub number_fits : (bytes : List ℕ) → number_size bytes ≤ length bytes
number_fits bytes = by (head (drop (digits bytes) bytes) == point) refl
  where
    by : (t : Bool) → (head (drop (digits bytes) bytes) == point) ≡ t → number_size bytes ≤ length bytes
    by true e =
        let behind : List ℕ = drop 1 (drop (digits bytes) bytes) in
        let size : fraction_size (drop (digits bytes) bytes) ≡ 1 + digits behind = ap (λ b. cond b (1 + digits behind) 0) e in
        omega (arith, size, prefix_len-le-length (has class.Digit) bytes, prefix_len-le-length (has class.Digit) behind, ap length (from_head (drop (digits bytes) bytes) e), length-drop (digits bytes) bytes)
    by false e =
        let size : fraction_size (drop (digits bytes) bytes) ≡ 0 = ap (λ b. cond b (1 + digits (drop 1 (drop (digits bytes) bytes))) 0) e in
        omega (arith, size, prefix_len-le-length (has class.Digit) bytes)

module _ (bytes : List ℕ) (numeric : begins_number bytes ≡ true) where
  -- a symbol there is shorter than the number
  pub symbol_there : (n : ℕ) (t : Symbol) → 0 < n → n ≤ length bytes → take n bytes ≡ symbol_codes t → n < number_size bytes
  symbol_there n t some within s = by (is_ascii_digit (head bytes)) refl
    where
      same : head bytes ≡ head (symbol_codes t)
      same = begins bytes n (lexeme.Symbol t) some s

      no_digits : (xs : List ℕ) → is_ascii_digit (head xs) ≡ false → digits xs ≡ 0
      no_digits [] e = refl
      no_digits (x ∷ xs) e = no_run (has class.Digit) x xs e

      by : (d : Bool) → is_ascii_digit (head bytes) ≡ d → n < number_size bytes
      by true e = absurd (true_false (sym e ∙ ap is_ascii_digit same ∙ digit_no_symbol t))
      by false e =
          let is_point = (and_parts (head bytes == point) (is_ascii_digit (slice_index bytes 1)) (ap (λ b. b || (head bytes == point && is_ascii_digit (slice_index bytes 1))) (sym e) ∙ numeric)).0 in
          let one : length (symbol_codes t) ≡ 1 = point_alone t (sym same ∙ eqb-true (head bytes) point is_point) in
          omega (arith, one, ap length s, length-take-le n bytes within, no_digits bytes e, number_some bytes numeric)

  -- a spelling there is one of a number, or a symbol that is shorter
  pub number_bound : (n : ℕ) (m : Lexeme) → n ≤ length bytes → IsLexeme (take n bytes) m → n ≤ number_size bytes
  number_bound zero m within s = omega arith
  number_bound (suc n) (lexeme.Word w) within s = absurd (letter_no_number bytes (begins bytes (suc n) (lexeme.Word w) (omega arith) s) numeric)
  number_bound (suc n) (lexeme.Name x) within s = absurd (letter_no_number bytes (begins bytes (suc n) (lexeme.Name x) (omega arith) s) numeric)
  number_bound (suc n) (lexeme.Number x) within s = numeral_within bytes (suc n) within s.1
  number_bound (suc n) (lexeme.Text cs) within s = absurd (quote_no_number bytes (begins bytes (suc n) (lexeme.Text cs) (omega arith) s) numeric)
  number_bound (suc n) (lexeme.Symbol t) within s = omega (arith, symbol_there (suc n) t (omega arith) within s)

-- how many of the bytes of a number are digits
counted : List ℕ → ℕ
counted [] = 0
counted (x ∷ xs) = cond (has class.Digit x) (1 + counted xs) (counted xs)

is_counted : (xs : List ℕ) → counted xs ≡ count_by (has class.Digit) xs
unfolding counted
is_counted xs = is_count_by counted (has class.Digit) refl (λ x ys. refl) xs

all_count : (xs : List ℕ) → list_all (has class.Digit) xs ≡ true → counted xs ≡ length xs
unfolding counted
all_count [] h = refl
all_count (x ∷ xs) h =
    let both = and_parts (has class.Digit x) (list_all (has class.Digit) xs) h in
    let one : counted (x ∷ xs) ≡ 1 + counted xs = ap (λ b. cond b (1 + counted xs) (counted xs)) both.0 in
    omega (arith, one, all_count xs both.1)

digits_count : (w f : List ℕ) → list_all (has class.Digit) w ≡ true → list_all (has class.Digit) f ≡ true → counted (w ++ point ∷ f) ≡ length w + length f
unfolding counted
digits_count [] f dw df = omega (arith, all_count f df)
digits_count (x ∷ w) f dw df =
    let both = and_parts (has class.Digit x) (list_all (has class.Digit) w) dw in
    let one : counted ((x ∷ w) ++ point ∷ f) ≡ 1 + counted (w ++ point ∷ f) = ap (λ b. cond b (1 + counted (w ++ point ∷ f)) (counted (w ++ point ∷ f))) both.0 in
    omega (arith, one, digits_count w f both.1 df)

pub numeral_count : (bytes w f : List ℕ) → (bytes ≡ w ++ point ∷ f) ⊎ ((bytes ≡ w) × (f ≡ [])) → list_all (has class.Digit) w ≡ true → list_all (has class.Digit) f ≡ true → count_by (has class.Digit) bytes ≡ length w + length f
numeral_count bytes w f (inl e) dw df = sym (is_counted bytes) ∙ ap counted e ∙ digits_count w f dw df
numeral_count bytes w f (inr e) dw df = omega (arith, is_counted bytes, ap counted e.0, all_count w dw, ap length e.1)
