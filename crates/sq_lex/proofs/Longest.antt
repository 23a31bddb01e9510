-- A token is the longest spelling at its place.
use Rattle.std.proofs.Common.{◌≡◌, ℕ, zero, suc, ◌+◌, ◌-◌, ◌<◌, ◌≤◌, ◌==◌, ◌&&◌, ◌||◌, Bool, true, false, cond, List, [], ◌∷◌, ◌++◌, length, take, drop, map, refl, sym, ap, subst, ◌∙◌, arith, inl, inr, ◌⊎◌, Option, Some, None}
use Rattle.std.proofs.Math.Seq.{take-add}
use Rattle.std.proofs.lemmas.Bool.{cond_both, and_parts, eqb-true, ltb-false}
use Rattle.std.proofs.lemmas.Bool.Decides.{nat_tests}
use Rattle.std.proofs.lemmas.List.{append-nil, length-take-le}
use Rattle.std.proofs.lemmas.List.Folds.{length-prefix_len}
use Rattle.std.specs.Prelude.{slice_index, nat_lt}
use Rattle.std.specs.List.{list_all, prefix_len}
use Rattle.std.specs.Char.{is_ascii_digit, is_ascii_alphabetic, to_ascii_uppercase}
use Rattle.sq_lex.specs.Characters.{line_feed, point, quote, has, is_white}
use Rattle.sq_lex.specs.Literal.{literal}
use Rattle.sq_lex.specs.Piece.{begins_comment, comment, word, number, text, symbol as symbol_piece, first_piece, begins_number, digits, fraction_size, lexeme_of_word, longest_symbol, piece_of_literal}
use Rattle.sq_lex.specs.Reserved.{reserved}
use Rattle.sq_lex.specs.Name.{IsWordSpelling}
use Rattle.sq_lex.specs.Number.{IsNumberSpelling}
use Rattle.sq_lex.specs.Spelling.{IsTextSpelling, IsSpelling, IsLongest, IsSpelled, doubled, symbol_codes}
use Rattle.sq_lex.specs.Symbol.{symbol_of_one, symbol_of_two}
use Rattle.sq_lex.specs.declared.characters.Class.TheVariants as class
use Rattle.sq_lex.specs.declared.fault.LexFaultKind.TheVariants as fault
use Rattle.sq_lex.specs.declared.lexeme.Lexeme.{Lexeme}
use Rattle.sq_lex.specs.declared.lexeme.Lexeme.TheVariants as lexeme
use Rattle.sq_lex.specs.declared.literal.Literal.{Literal}
use Rattle.sq_lex.specs.declared.literal.Literal.TheVariants.{Closed, Open, BadByte}
use Rattle.sq_lex.specs.declared.piece.Piece.{Piece}
use Rattle.sq_lex.specs.declared.piece.Piece.TheVariants as piece
use Rattle.sq_lex.specs.declared.symbol.Symbol.{Symbol}
use Rattle.sq_lex.specs.declared.symbol.Symbol.TheVariants as symbol
use Rattle.sq_lex.specs.declared.word.Word.{Word}
use Rattle.sq_lex.proofs.Quoted.{Says, said}
use Rattle.sq_lex.proofs.Runs.{run_passes, run_longest, begun, head_kept, number_longest, number_head_of, letter_alone, two_begin}

abbrev head : List ℕ → ℕ
head bytes = slice_index bytes 0

abbrev begins_as_number : ℕ → Bool
begins_as_number c = is_ascii_digit c || c == point

-- ---- a longer spelling of no kind

none_longer : (bytes : List ℕ) (m : Lexeme) → (IsWordSpelling bytes → ⊥) → (IsNumberSpelling bytes → ⊥) → ((cs : List ℕ) → IsTextSpelling bytes cs → ⊥) → ((s : Symbol) → bytes ≡ symbol_codes s → ⊥) → IsSpelling bytes m → ⊥
none_longer bytes (lexeme.Word w) a b c d s = a (s.0)
none_longer bytes (lexeme.Name w) a b c d s = a (s.0)
none_longer bytes (lexeme.Number w) a b c d s = b (s.1)
none_longer bytes (lexeme.Text cs) a b c d s = c cs s
none_longer bytes (lexeme.Symbol t) a b c d s = d t s

-- ---- how spellings begin

module _ (bytes : List ℕ) (n : ℕ) (some : 2 ≤ n) (within : n ≤ length bytes) where
  pub kept : head (take n bytes) ≡ head bytes
  kept = head_kept bytes n (omega arith)

  pub word_head : IsWordSpelling (take n bytes) → is_ascii_alphabetic (head bytes) ≡ true
  word_head s = ap is_ascii_alphabetic (sym kept) ∙ s.letter

  pub number_head : IsNumberSpelling (take n bytes) → begins_as_number (head bytes) ≡ true
  number_head s = ap begins_as_number (sym kept) ∙ number_head_of (take n bytes) s.whole s.fraction s.spelled s.whole_digits s.some

  pub text_head : (cs : List ℕ) → IsTextSpelling (take n bytes) cs → head bytes ≡ quote
  text_head cs s = sym kept ∙ ap (λ t. slice_index t 0) s.spelled

  pub symbol_head : (s : Symbol) → take n bytes ≡ symbol_codes s → (head bytes ≡ 60) ⊎ (head bytes ≡ 62)
  symbol_head s e =
      let long : 2 ≤ length (symbol_codes s) = omega (arith, ap length e, length-take-le n bytes within) in
      let same : head bytes ≡ head (symbol_codes s) = sym kept ∙ ap (λ t. slice_index t 0) e in
      subst (λ c. (c ≡ 60) ⊎ (c ≡ 62)) (sym same) (two_begin s long)

no_quote : (c : ℕ) → is_ascii_alphabetic c ≡ true → c ≡ quote → ⊥
no_quote c l e = let never : false ≡ true = ap is_ascii_alphabetic (sym e) ∙ l in cc

no_two : (p : ℕ → Bool) (c : ℕ) → p 60 ≡ false → p 62 ≡ false → p c ≡ true → (c ≡ 60) ⊎ (c ≡ 62) → ⊥
no_two p c x y h (inl e) = let never : true ≡ false = sym h ∙ ap p e ∙ x in cc
no_two p c x y h (inr e) = let never : true ≡ false = sym h ∙ ap p e ∙ y in cc

-- ---- words

abbrev word_size : List ℕ → ℕ
word_size bytes = prefix_len (has class.Word) bytes

filled : (p : ℕ → Bool) (bytes : List ℕ) → p 0 ≡ false → p (head bytes) ≡ true → 0 < length bytes
filled p [] z h = let never : true ≡ false = sym h ∙ z in cc
filled p (b ∷ bytes) z h = omega arith

word_some : (bytes : List ℕ) → is_ascii_alphabetic (head bytes) ≡ true → 0 < word_size bytes
word_some bytes l = begun (has class.Word) bytes (filled is_ascii_alphabetic bytes refl l) (ap (λ x. x || is_ascii_digit (head bytes) || head bytes == 95) l)

word_spelled : (bytes : List ℕ) → is_ascii_alphabetic (head bytes) ≡ true → nat_lt 18 (word_size bytes) ≡ false → IsWordSpelling (take (word_size bytes) bytes)
word_spelled bytes l few = record {
  letter = ap is_ascii_alphabetic (head_kept bytes (word_size bytes) (word_some bytes l)) ∙ l;
  each = run_passes (has class.Word) bytes;
  short = omega (arith, length-prefix_len (has class.Word) bytes, ltb-false 18 (word_size bytes) few);
}

-- the run of a word that is short enough is a spelling
pub word_taken : (bytes : List ℕ) (size : ℕ) → is_ascii_alphabetic (head bytes) ≡ true → size ≡ word_size bytes → size ≤ 18 → IsWordSpelling (take size bytes)
word_taken bytes size l e few = subst (λ n. IsWordSpelling (take n bytes)) (sym e) (word_spelled bytes l (grind (arith, nat_tests)))

word_longest : (bytes : List ℕ) → is_ascii_alphabetic (head bytes) ≡ true → (n : ℕ) (m : Lexeme) → word_size bytes < n → n ≤ length bytes → IsSpelling (take n bytes) m → ⊥
word_longest bytes l n m long within =
    let two : 2 ≤ n = omega (arith, word_some bytes l) in
    none_longer (take n bytes) m
    (λ s. let run = run_longest (has class.Word) bytes n within s.each in omega (arith, run))
    (λ s. letter_alone (head bytes) l (number_head bytes n two within s))
    (λ cs s. no_quote (head bytes) l (text_head bytes n two within cs s))
    (λ t e. no_two is_ascii_alphabetic (head bytes) refl refl l (symbol_head bytes n two within t e))

word_token : (bytes : List ℕ) → is_ascii_alphabetic (head bytes) ≡ true → nat_lt 18 (word_size bytes) ≡ false → (o : Option Word) → reserved (map to_ascii_uppercase (take (word_size bytes) bytes)) ≡ o
    → IsLongest bytes (word_size bytes) (lexeme_of_word (map to_ascii_uppercase (take (word_size bytes) bytes)) o)
word_token bytes l few (Some w) e = record { spelled = (word_spelled bytes l few, e); longest = word_longest bytes l }
word_token bytes l few None e = record { spelled = (word_spelled bytes l few, refl, e); longest = word_longest bytes l }

word_law : (bytes : List ℕ) → is_ascii_alphabetic (head bytes) ≡ true → IsSpelled bytes (word bytes)
unfolding word
word_law bytes l =
    let spelling = map to_ascii_uppercase (take (word_size bytes) bytes) in
    cond_both (nat_lt 18 (word_size bytes)) (piece.Fault 0 fault.LongName) (piece.Token (word_size bytes) (lexeme_of_word spelling (reserved spelling))) (IsSpelled bytes) (λ long. tt {0})
    (λ few. word_token bytes l few (reserved spelling) refl)

-- ---- numbers

weaker : (x y z : Bool) → (x || (y && z)) ≡ true → (x || y) ≡ true
weaker true y z h = refl
weaker false true z h = refl
weaker false false z h = h

abbrev rest_of : List ℕ → List ℕ
rest_of bytes = drop (digits bytes) bytes

no_digits : (b : ℕ) (bytes : List ℕ) → is_ascii_digit b ≡ false → digits (b ∷ bytes) ≡ 0
no_digits b bytes h = ap (λ t. cond t (1 + digits bytes) 0) h

number_some_by : (b : ℕ) (bytes : List ℕ) (t : Bool) → is_ascii_digit b ≡ t → begins_number (b ∷ bytes) ≡ true → 0 < digits (b ∷ bytes) + (fraction_size (rest_of (b ∷ bytes)) - 1)
number_some_by b bytes true e h = let run = begun (has class.Digit) (b ∷ bytes) (omega arith) e in omega (arith, run)
number_some_by b bytes false e h =
    let both = and_parts (b == point) (is_ascii_digit (slice_index bytes 0)) (ap (λ t. t || (b == point && is_ascii_digit (slice_index bytes 0))) (sym e) ∙ h) in
    let none = no_digits b bytes e in
    let shape : fraction_size (rest_of (b ∷ bytes)) ≡ 1 + digits bytes = ap (λ k. fraction_size (drop k (b ∷ bytes))) none ∙ ap (λ t. cond t (1 + digits bytes) 0) (both.0) in
    let run = begun (has class.Digit) bytes (filled is_ascii_digit bytes refl (both.1)) (both.1) in
    omega (arith, shape, run)

number_some : (bytes : List ℕ) → begins_number bytes ≡ true → 0 < digits bytes + (fraction_size (rest_of bytes) - 1)
number_some [] h = cc
number_some (b ∷ bytes) h = number_some_by b bytes (is_ascii_digit b) refl h

from_head : (xs : List ℕ) → (head xs == point) ≡ true → xs ≡ point ∷ drop 1 xs
from_head [] h = cc
from_head (x ∷ xs) h = ap (λ c. c ∷ xs) (eqb-true x point h)

number_spelled : (bytes : List ℕ) → begins_number bytes ≡ true → nat_lt 18 (digits bytes + (fraction_size (rest_of bytes) - 1)) ≡ false
    → (t : Bool) → (head (rest_of bytes) == point) ≡ t → IsNumberSpelling (take (digits bytes + fraction_size (rest_of bytes)) bytes)
number_spelled bytes h few true e =
    let after = drop 1 (rest_of bytes) in
    let one : 1 + digits after ≡ suc (digits after) = omega arith in
    let size : fraction_size (rest_of bytes) ≡ suc (digits after) = ap (λ b. cond b (1 + digits after) 0) e ∙ one in
    let tail : take (fraction_size (rest_of bytes)) (rest_of bytes) ≡ point ∷ take (digits after) after = (λ i. take (size i) (from_head (rest_of bytes) e i)) in
    let w : length (take (digits bytes) bytes) ≡ digits bytes = length-prefix_len (has class.Digit) bytes in
    let f : length (take (digits after) after) ≡ digits after = length-prefix_len (has class.Digit) after in
    let bound = ltb-false 18 (digits bytes + (fraction_size (rest_of bytes) - 1)) few in
    let some = number_some bytes h in
    record {
      whole = take (digits bytes) bytes;
      fraction = take (digits after) after;
      spelled = inl (take-add (digits bytes) (fraction_size (rest_of bytes)) bytes ∙ ap (λ t. take (digits bytes) bytes ++ t) tail);
      whole_digits = run_passes (has class.Digit) bytes;
      fraction_digits = run_passes (has class.Digit) after;
      some = omega (arith, w, f, size, some);
      few = omega (arith, w, f, size, bound);
    }
number_spelled bytes h few false e =
    let size : fraction_size (rest_of bytes) ≡ 0 = ap (λ b. cond b (1 + digits (drop 1 (rest_of bytes))) 0) e in
    let w : length (take (digits bytes) bytes) ≡ digits bytes = length-prefix_len (has class.Digit) bytes in
    let bound = ltb-false 18 (digits bytes + (fraction_size (rest_of bytes) - 1)) few in
    let some = number_some bytes h in
    record {
      whole = take (digits bytes) bytes;
      fraction = [];
      spelled = inr (take-add (digits bytes) (fraction_size (rest_of bytes)) bytes ∙ ap (λ k. take (digits bytes) bytes ++ take k (rest_of bytes)) size ∙ append-nil (take (digits bytes) bytes), refl);
      whole_digits = run_passes (has class.Digit) bytes;
      fraction_digits = refl;
      some = omega (arith, w, size, some);
      few = omega (arith, w, size, bound);
    }

-- the digits, the point and the digits of a number that is short enough are a spelling
pub number_taken : (bytes : List ℕ) (whole fraction places : ℕ) → begins_number bytes ≡ true → whole ≡ digits bytes → fraction ≡ fraction_size (drop whole bytes) → places ≡ fraction - 1 → whole + places ≤ 18
    → IsNumberSpelling (take (whole + fraction) bytes)
number_taken bytes whole fraction places h w f p few =
    let same : fraction ≡ fraction_size (rest_of bytes) = f ∙ ap (λ n. fraction_size (drop n bytes)) w in
    let short : digits bytes + (fraction_size (rest_of bytes) - 1) ≤ 18 = omega (arith, w, same, p, few) in
    let spelled = number_spelled bytes h (grind (arith, nat_tests)) (head (rest_of bytes) == point) refl in
    subst (λ n. IsNumberSpelling (take n bytes)) (sym ((λ i. w i + same i))) spelled

number_within : (bytes : List ℕ) (n : ℕ) → n ≤ length bytes → (w f : List ℕ) → (take n bytes ≡ w ++ point ∷ f) ⊎ ((take n bytes ≡ w) × (f ≡ [])) → list_all (has class.Digit) w ≡ true → list_all (has class.Digit) f ≡ true
    → n ≤ digits bytes + fraction_size (rest_of bytes)
number_within bytes n h w f (inl e) dw df = number_longest w bytes n f h e dw df
number_within bytes n h w f (inr e) dw df = let run = run_longest (has class.Digit) bytes n h (ap (list_all (has class.Digit)) (e.0) ∙ dw) in omega (arith, run)

number_no_quote : (c : ℕ) → begins_as_number c ≡ true → c ≡ quote → ⊥
number_no_quote c h e = let never : false ≡ true = ap begins_as_number (sym e) ∙ h in cc

number_token : (bytes : List ℕ) → begins_number bytes ≡ true → nat_lt 18 (digits bytes + (fraction_size (rest_of bytes) - 1)) ≡ false
    → IsLongest bytes (digits bytes + fraction_size (rest_of bytes)) (lexeme.Number (take (digits bytes + fraction_size (rest_of bytes)) bytes))
number_token bytes h few =
    let begins = weaker (is_ascii_digit (head bytes)) (head bytes == point) (is_ascii_digit (slice_index bytes 1)) h in
    record {
      spelled = (refl, number_spelled bytes h few (head (rest_of bytes) == point) refl);
      longest = λ n m long within.
          let two : 2 ≤ n = omega (arith, number_some bytes h) in
          none_longer (take n bytes) m
          (λ s. letter_alone (head bytes) (word_head bytes n two within s) begins)
          (λ s. let least = number_within bytes n within s.whole s.fraction s.spelled s.whole_digits s.fraction_digits in omega (arith, least))
          (λ cs s. number_no_quote (head bytes) begins (text_head bytes n two within cs s))
          (λ t e. no_two begins_as_number (head bytes) refl refl begins (symbol_head bytes n two within t e));
    }

number_law : (bytes : List ℕ) → begins_number bytes ≡ true → IsSpelled bytes (number bytes)
unfolding number
number_law bytes h =
    let size = digits bytes + fraction_size (rest_of bytes) in
    cond_both (nat_lt 18 (digits bytes + (fraction_size (rest_of bytes) - 1))) (piece.Fault 0 fault.LongNumber)
    (cond (is_ascii_alphabetic (slice_index bytes size)) (piece.Fault 0 fault.NumberThenLetter) (piece.Token size (lexeme.Number (take size bytes)))) (IsSpelled bytes) (λ long. tt {0})
    (λ few. cond_both (is_ascii_alphabetic (slice_index bytes size)) (piece.Fault 0 fault.NumberThenLetter) (piece.Token size (lexeme.Number (take size bytes))) (IsSpelled bytes) (λ letter. tt {0})
    (λ none. number_token bytes h few))

-- ---- text literals

text_within : (rest ds : List ℕ) (q size n : ℕ) → ((es : List ℕ) (k : ℕ) → k ≤ length rest → take k rest ≡ doubled es ++ quote ∷ [] → k ≤ size) → n ≤ suc (length rest) → take n (q ∷ rest) ≡ quote ∷ (doubled ds ++ quote ∷ []) → n ≤ 1 + size
text_within rest ds q size zero go h e = omega arith
text_within rest ds q size (suc n) go h e = let least = go ds n (omega arith) (ap (drop 1) e) in omega (arith, least)

quote_no_two : (c : ℕ) → c ≡ quote → (c ≡ 60) ⊎ (c ≡ 62) → ⊥
quote_no_two c e (inl h) = omega arith
quote_no_two c e (inr h) = omega arith

text_by : (q : ℕ) (rest : List ℕ) → q ≡ quote → (l : Literal) → Says rest l → IsSpelled (q ∷ rest) (piece_of_literal l)
text_by q rest is (Closed cs size) read =
    let one : 1 + size ≡ suc size = omega arith in
    cond_both (nat_lt 240 (length cs)) (piece.Fault 0 fault.LongText) (piece.Token (1 + size) (lexeme.Text cs)) (IsSpelled (q ∷ rest)) (λ long. tt {0})
    (λ few. record {
      spelled = record {
        spelled = ap (λ k. take k (q ∷ rest)) one ∙ (λ i. is i ∷ read.ends i);
        each = read.each;
        short = ltb-false 240 (length cs) few;
      };
      longest = λ n m long within.
          let two : 2 ≤ n = omega arith in
          none_longer (take n (q ∷ rest)) m
          (λ s. no_quote q (word_head (q ∷ rest) n two within s) is)
          (λ s. number_no_quote q (number_head (q ∷ rest) n two within s) is)
          (λ ds s. let least = text_within rest ds q size n read.longest within s.spelled in omega (arith, least))
          (λ t e. quote_no_two q is (symbol_head (q ∷ rest) n two within t e));
    })
text_by q rest is Open read = tt {0}
text_by q rest is (BadByte at) read = tt {0}

text_law : (bytes : List ℕ) → (head bytes == quote) ≡ true → IsSpelled bytes (text bytes)
unfolding text
text_law [] h = cc
text_law (q ∷ rest) h = text_by q rest (eqb-true q quote h) (literal rest) (said rest)

-- ---- symbols

got : Symbol → Option Symbol → Symbol
got s None = s
got s (Some t) = t

pub record Spells (bytes : List ℕ) (o : Option Symbol) : Type 0 where
  pub is : (s : Symbol) → o ≡ Some s → bytes ≡ symbol_codes s

spells : (bytes : List ℕ) (s : Symbol) → bytes ≡ symbol_codes s → Spells bytes (Some s)
unfolding got
spells bytes s h = record { is = λ t e. h ∙ ap (λ o. symbol_codes (got s o)) e }

spells_none : (bytes : List ℕ) → Spells bytes None
spells_none bytes = record { is = λ t e. cc }

two_spells : (a b : ℕ) → Spells (a ∷ b ∷ []) (symbol_of_two a b)
two_spells a b =
    let P = Spells (a ∷ b ∷ []) in
    cond_both (a == 60) (cond (b == 62) (Some symbol.NotEqual) (cond (b == 61) (Some symbol.LessOrEqual) None)) (cond (a == 62) (cond (b == 61) (Some symbol.GreaterOrEqual) None) None) P
    (λ x. cond_both (b == 62) (Some symbol.NotEqual) (cond (b == 61) (Some symbol.LessOrEqual) None) P (λ y. spells (a ∷ b ∷ []) symbol.NotEqual (λ i. eqb-true a 60 x i ∷ eqb-true b 62 y i ∷ []))
    (λ z. cond_both (b == 61) (Some symbol.LessOrEqual) None P (λ y. spells (a ∷ b ∷ []) symbol.LessOrEqual (λ i. eqb-true a 60 x i ∷ eqb-true b 61 y i ∷ [])) (λ n. spells_none (a ∷ b ∷ []))))
    (λ z. cond_both (a == 62) (cond (b == 61) (Some symbol.GreaterOrEqual) None) None P
    (λ x. cond_both (b == 61) (Some symbol.GreaterOrEqual) None P (λ y. spells (a ∷ b ∷ []) symbol.GreaterOrEqual (λ i. eqb-true a 62 x i ∷ eqb-true b 61 y i ∷ [])) (λ n. spells_none (a ∷ b ∷ [])))
    (λ n. spells_none (a ∷ b ∷ [])))

one_spells_or : (a k : ℕ) (s : Symbol) {o : Option Symbol} → k ∷ [] ≡ symbol_codes s → Spells (a ∷ []) o → Spells (a ∷ []) (cond (a == k) (Some s) o)
one_spells_or a k s {o} h later = cond_both (a == k) (Some s) o (Spells (a ∷ [])) (λ e. spells (a ∷ []) s (ap (λ c. c ∷ []) (eqb-true a k e) ∙ h)) (λ n. later)

one_spells : (a : ℕ) → Spells (a ∷ []) (symbol_of_one a)
one_spells a =
    one_spells_or a 40 symbol.Open refl (one_spells_or a 41 symbol.Close refl (one_spells_or a 44 symbol.Comma refl (one_spells_or a 59 symbol.Semicolon refl (one_spells_or a 46 symbol.Dot refl
    (one_spells_or a 58 symbol.Colon refl (one_spells_or a 42 symbol.Star refl (one_spells_or a 43 symbol.Plus refl (one_spells_or a 45 symbol.Minus refl (one_spells_or a 47 symbol.Slash refl
    (one_spells_or a 61 symbol.Equal refl (one_spells_or a 60 symbol.Less refl (one_spells_or a 62 symbol.Greater refl (spells_none (a ∷ []))))))))))))))

no_one : (a : ℕ) → symbol_of_two a 0 ≡ None
no_one a = cond_both (a == 60) None (cond (a == 62) None None) (λ o. o ≡ None) (λ x. refl) (λ x. cond_both (a == 62) None None (λ o. o ≡ None) (λ y. refl) (λ y. refl))

two_there : (bytes : List ℕ) (s : Symbol) → symbol_of_two (head bytes) (slice_index bytes 1) ≡ Some s → take 2 bytes ≡ head bytes ∷ slice_index bytes 1 ∷ []
two_there [] s e = cc
two_there (a ∷ []) s e = let never : None ≡ Some s = sym (no_one a) ∙ e in cc
two_there (a ∷ b ∷ bytes) s e = refl

one_there : (bytes : List ℕ) (s : Symbol) → symbol_of_one (head bytes) ≡ Some s → take 1 bytes ≡ head bytes ∷ []
one_there [] s e = cc
one_there (a ∷ bytes) s e = refl

begins_of : (xs w f : List ℕ) → (xs ≡ w ++ point ∷ f) ⊎ ((xs ≡ w) × (f ≡ [])) → list_all (has class.Digit) w ≡ true → list_all (has class.Digit) f ≡ true → 0 < length w + length f → begins_number xs ≡ true
begins_of xs [] [] s dw df some = absurd (omega arith)
begins_of xs [] (d ∷ f) (inl e) dw df some = ap begins_number e ∙ (and_parts (has class.Digit d) (list_all (has class.Digit) f) df).0
begins_of xs [] (d ∷ f) (inr e) dw df some = let none = ap length (e.1) in absurd (omega (arith, none))
begins_of xs (d ∷ w) f (inl e) dw df some =
    ap begins_number e ∙ ap (λ b. b || (d == point && is_ascii_digit (slice_index (w ++ point ∷ f) 0))) ((and_parts (has class.Digit d) (list_all (has class.Digit) w) dw).0)
begins_of xs (d ∷ w) f (inr e) dw df some =
    ap begins_number (e.0) ∙ ap (λ b. b || (d == point && is_ascii_digit (slice_index w 0))) ((and_parts (has class.Digit d) (list_all (has class.Digit) w) dw).0)

second_kept : (bytes : List ℕ) (n : ℕ) → 2 ≤ n → slice_index (take n bytes) 1 ≡ slice_index bytes 1
second_kept bytes zero h = absurd (omega arith)
second_kept bytes (suc zero) h = absurd (omega arith)
second_kept [] (suc (suc n)) h = refl
second_kept (a ∷ []) (suc (suc n)) h = refl
second_kept (a ∷ b ∷ bytes) (suc (suc n)) h = refl

symbol_short : (s : Symbol) → length (symbol_codes s) ≤ 2
symbol_short symbol.Open = omega arith
symbol_short symbol.Close = omega arith
symbol_short symbol.Comma = omega arith
symbol_short symbol.Semicolon = omega arith
symbol_short symbol.Dot = omega arith
symbol_short symbol.Colon = omega arith
symbol_short symbol.Star = omega arith
symbol_short symbol.Plus = omega arith
symbol_short symbol.Minus = omega arith
symbol_short symbol.Slash = omega arith
symbol_short symbol.Equal = omega arith
symbol_short symbol.NotEqual = omega arith
symbol_short symbol.Less = omega arith
symbol_short symbol.Greater = omega arith
symbol_short symbol.LessOrEqual = omega arith
symbol_short symbol.GreaterOrEqual = omega arith

two_found : (s : Symbol) → 2 ≤ length (symbol_codes s) → symbol_of_two (slice_index (symbol_codes s) 0) (slice_index (symbol_codes s) 1) ≡ Some s
two_found symbol.Open h = absurd (omega arith)
two_found symbol.Close h = absurd (omega arith)
two_found symbol.Comma h = absurd (omega arith)
two_found symbol.Semicolon h = absurd (omega arith)
two_found symbol.Dot h = absurd (omega arith)
two_found symbol.Colon h = absurd (omega arith)
two_found symbol.Star h = absurd (omega arith)
two_found symbol.Plus h = absurd (omega arith)
two_found symbol.Minus h = absurd (omega arith)
two_found symbol.Slash h = absurd (omega arith)
two_found symbol.Equal h = absurd (omega arith)
two_found symbol.NotEqual h = refl
two_found symbol.Less h = absurd (omega arith)
two_found symbol.Greater h = absurd (omega arith)
two_found symbol.LessOrEqual h = refl
two_found symbol.GreaterOrEqual h = refl

module _ (bytes : List ℕ) (nl : is_ascii_alphabetic (head bytes) ≡ false) (nn : begins_number bytes ≡ false) (nq : (head bytes == quote) ≡ false) where
  other_kinds : (n : ℕ) (m : Lexeme) → 2 ≤ n → n ≤ length bytes → ((t : Symbol) → take n bytes ≡ symbol_codes t → ⊥) → IsSpelling (take n bytes) m → ⊥
  other_kinds n m two within symbols =
      none_longer (take n bytes) m
      (λ s. let never : true ≡ false = sym (word_head bytes n two within s) ∙ nl in cc)
      (λ s.
      let begins : begins_number (take n bytes) ≡ true = begins_of (take n bytes) s.whole s.fraction s.spelled s.whole_digits s.fraction_digits s.some in
      let same : begins_number (take n bytes) ≡ begins_number bytes = (λ i. is_ascii_digit (kept bytes n two within i) || (kept bytes n two within i == point && is_ascii_digit (second_kept bytes n two i))) in
      let never : true ≡ false = sym begins ∙ same ∙ nn in cc)
      (λ cs s. let never : true ≡ false = sym (ap (λ c. c == quote) (text_head bytes n two within cs s)) ∙ nq in cc)
      symbols

  symbol_by : (two one : Option Symbol) → symbol_of_two (head bytes) (slice_index bytes 1) ≡ two → symbol_of_one (head bytes) ≡ one → IsSpelled bytes (longest_symbol two one)
  symbol_by (Some s) one e f = record {
    spelled = two_there bytes s e ∙ (two_spells (head bytes) (slice_index bytes 1)).is s e;
    longest = λ n m long within. other_kinds n m (omega arith) within (λ t g. omega (arith, ap length g, length-take-le n bytes within, symbol_short t));
  }
  symbol_by None (Some s) e f = record {
    spelled = one_there bytes s f ∙ (one_spells (head bytes)).is s f;
    longest = λ n m long within.
        let more : 2 ≤ n = omega arith in
        other_kinds n m more within
        (λ t g.
        let some : 2 ≤ length (symbol_codes t) = omega (arith, ap length g, length-take-le n bytes within) in
        let first : head bytes ≡ slice_index (symbol_codes t) 0 = sym (kept bytes n more within) ∙ ap (λ u. slice_index u 0) g in
        let next : slice_index bytes 1 ≡ slice_index (symbol_codes t) 1 = sym (second_kept bytes n more) ∙ ap (λ u. slice_index u 1) g in
        let never : None ≡ Some t = sym e ∙ (λ i. symbol_of_two (first i) (next i)) ∙ two_found t some in cc);
  }
  symbol_by None None e f = tt {0}

  pub symbol_law : IsSpelled bytes (symbol_piece bytes)
  unfolding symbol_piece
  symbol_law = symbol_by (symbol_of_two (head bytes) (slice_index bytes 1)) (symbol_of_one (head bytes)) refl refl

-- ---- any piece

comment_law : (bytes : List ℕ) → begins_comment bytes ≡ true → IsSpelled bytes (comment bytes)
unfolding comment
comment_law bytes begun =
    let size = prefix_len (has class.Comment) bytes in
    cond_both (size == length bytes || slice_index bytes size == line_feed) (piece.Separator size) (piece.Fault size fault.BadByte) (IsSpelled bytes)
    (λ end. inr (record { begun = begun; each = run_passes (has class.Comment) bytes; ended = end })) (λ bad. tt {0})

abbrev by_quote : List ℕ → Piece
by_quote bytes = cond (head bytes == quote) (text bytes) (symbol_piece bytes)

abbrev by_number : List ℕ → Piece
by_number bytes = cond (begins_number bytes) (number bytes) (by_quote bytes)

abbrev by_letter : List ℕ → Piece
by_letter bytes = cond (is_ascii_alphabetic (head bytes)) (word bytes) (by_number bytes)

abbrev by_comment : List ℕ → Piece
by_comment bytes = cond (begins_comment bytes) (comment bytes) (by_letter bytes)

pub piece_is_spelled : (bytes : List ℕ) → IsSpelled bytes (first_piece bytes)
unfolding first_piece
piece_is_spelled bytes =
    let P = IsSpelled bytes in
    cond_both (is_white (head bytes)) (piece.Separator 1) (by_comment bytes) P (λ white. inl (white, refl))
    (λ dark. cond_both (begins_comment bytes) (comment bytes) (by_letter bytes) P (λ c. comment_law bytes c)
    (λ nc. cond_both (is_ascii_alphabetic (head bytes)) (word bytes) (by_number bytes) P (λ l. word_law bytes l)
    (λ nl. cond_both (begins_number bytes) (number bytes) (by_quote bytes) P (λ d. number_law bytes d)
    (λ nn. cond_both (head bytes == quote) (text bytes) (symbol_piece bytes) P (λ q. text_law bytes q) (λ nq. symbol_law bytes nl nn nq)))))
