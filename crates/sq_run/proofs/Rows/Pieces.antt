-- The piece at the front of bytes is the separator or the token that the rule of rows finds there.
use Rattle.std.proofs.Common.{◌≡◌, ℕ, zero, suc, ◌+◌, ◌<◌, ◌≤◌, ◌==◌, ◌||◌, true, false, cond, List, [], ◌∷◌, length, take, drop, map, refl, sym, ap, ◌∙◌, arith, inl, inr, ◌⊎◌, Option, Some, None, nat_lt}
use Rattle.std.proofs.lemmas.Bool.{cond_both, eqb-true, ltb-false}
use Rattle.std.proofs.lemmas.List.{length-take-le}
use Rattle.std.proofs.lemmas.List.Folds.{length-prefix_len}
use Rattle.std.proofs.lemmas.List.Sums.{prefix_len-le-length}
use Rattle.std.specs.Prelude.{slice_index}
use Rattle.std.specs.List.{prefix_len}
use Rattle.std.specs.Char.{is_ascii_alphabetic, to_ascii_uppercase}
use Rattle.sq_lex.specs.Characters.{line_feed, quote, has, is_white}
use Rattle.sq_lex.specs.Literal.{literal}
use Rattle.sq_lex.specs.Piece.{begins_comment, begins_number, comment, first_piece, lexeme_of_word, longest_symbol, number, piece_of_literal, symbol as symbol_piece, text, word}
use Rattle.sq_lex.specs.Reserved.{reserved}
use Rattle.sq_lex.specs.Spelling.{IsSeparator, symbol_codes}
use Rattle.sq_lex.specs.Symbol.{symbol_of_one, symbol_of_two}
use Rattle.sq_lex.specs.declared.characters.Class.TheVariants as class
use Rattle.sq_lex.specs.declared.fault.LexFaultKind.TheVariants as fault
use Rattle.sq_lex.specs.declared.lexeme.Lexeme.{Lexeme}
use Rattle.sq_lex.specs.declared.lexeme.Lexeme.TheVariants as lexeme
use Rattle.sq_lex.specs.declared.literal.Literal.{Literal}
use Rattle.sq_lex.specs.declared.literal.Literal.TheVariants.{Closed, Open, BadByte}
use Rattle.sq_lex.specs.declared.piece.Piece.{Piece}
use Rattle.sq_lex.specs.declared.piece.Piece.TheVariants as piece
use Rattle.sq_lex.specs.declared.symbol.Symbol.{Symbol}
use Rattle.sq_lex.specs.declared.word.Word.{Word}
use Rattle.sq_lex.proofs.Quoted.{IsRead, Says, said}
use Rattle.sq_run.specs.TextRow.{IsLexeme, IsToken}
use Rattle.sq_run.proofs.Rows.Kinds.{begins, number_bound, number_fits, numeral_count, quote_no_number, quote_no_symbol, true_false, word_bound, word_size, word_there}
use Rattle.sq_run.proofs.Rows.Runs.{head, number_read, number_size, places, run_passes}
use Rattle.sq_run.proofs.Rows.Symbols.{no_second, ones, symbol_length, two_found, twos}
use Rattle.sq_run.proofs.Rows.Texts.{EndsApart, ends_apart}

-- what a piece is by the rule; of a fault nothing is said here
abbrev pub IsPiece : List ℕ → Piece → Type 0
IsPiece bytes (piece.Separator size) = IsSeparator bytes size
IsPiece bytes (piece.Token size l) = IsToken bytes size l
IsPiece bytes (piece.Fault at kind) = Unit {0}

module _ (bytes : List ℕ) (no_comment : begins_comment bytes ≡ false) where
  -- ---- words

  module _ (letter : is_ascii_alphabetic (head bytes) ≡ true) where
    word_token : nat_lt 18 (word_size bytes) ≡ false → (o : Option Word) → reserved (map to_ascii_uppercase (take (word_size bytes) bytes)) ≡ o → IsToken bytes (word_size bytes) (lexeme_of_word (map to_ascii_uppercase (take (word_size bytes) bytes)) o)
    word_token few None e = record {
      no_comment = no_comment;
      within = prefix_len-le-length (has class.Word) bytes;
      spelled = word_there bytes letter None e;
      longest = λ n m longer within s. omega (arith, longer, word_bound bytes letter n m within s);
      short = omega (arith, length-prefix_len (has class.Word) bytes, ltb-false 18 (word_size bytes) few);
      apart = tt;
    }
    word_token few (Some w) e = record {
      no_comment = no_comment;
      within = prefix_len-le-length (has class.Word) bytes;
      spelled = word_there bytes letter (Some w) e;
      longest = λ n m longer within s. omega (arith, longer, word_bound bytes letter n m within s);
      short = omega (arith, length-prefix_len (has class.Word) bytes, ltb-false 18 (word_size bytes) few);
      apart = tt;
    }

    word_piece : IsPiece bytes (word bytes)
    unfolding word
    word_piece =
        let codes = map to_ascii_uppercase (take (word_size bytes) bytes) in
        cond_both (nat_lt 18 (word_size bytes)) (piece.Fault 0 fault.LongName) (piece.Token (word_size bytes) (lexeme_of_word codes (reserved codes))) (IsPiece bytes) (λ long. tt {0}) (λ few. word_token few (reserved codes) refl)

  -- ---- numbers

  module _ (numeric : begins_number bytes ≡ true) where
    number_token : nat_lt 18 (places bytes) ≡ false → is_ascii_alphabetic (slice_index bytes (number_size bytes)) ≡ false → IsToken bytes (number_size bytes) (lexeme.Number (take (number_size bytes) bytes))
    number_token few apart =
        let r = number_read bytes numeric in
        let i = r.numeral in
        record {
          no_comment = no_comment;
          within = number_fits bytes;
          spelled = (refl, i);
          longest = λ n m longer within s. omega (arith, longer, number_bound bytes numeric n m within s);
          short = omega (arith, numeral_count (take (number_size bytes) bytes) i.whole i.fraction i.spelled i.whole_digits i.fraction_digits, r.count, ltb-false 18 (places bytes) few);
          apart = apart;
        }

    number_piece : IsPiece bytes (number bytes)
    unfolding number
    number_piece =
        cond_both (nat_lt 18 (places bytes)) (piece.Fault 0 fault.LongNumber)
        (cond (is_ascii_alphabetic (slice_index bytes (number_size bytes))) (piece.Fault 0 fault.NumberThenLetter) (piece.Token (number_size bytes) (lexeme.Number (take (number_size bytes) bytes)))) (IsPiece bytes) (λ long. tt {0})
        (λ few. cond_both (is_ascii_alphabetic (slice_index bytes (number_size bytes))) (piece.Fault 0 fault.NumberThenLetter) (piece.Token (number_size bytes) (lexeme.Number (take (number_size bytes) bytes))) (IsPiece bytes) (λ letter. tt {0})
        (λ apart. number_token few apart))

-- ---- texts

module _ (q : ℕ) (rest : List ℕ) (is : q ≡ quote) (no_comment : begins_comment (q ∷ rest) ≡ false) where
  text_longest : (cs : List ℕ) (size : ℕ) → IsRead rest cs size → (n : ℕ) (m : Lexeme) → 1 + size < n → n ≤ length (q ∷ rest) → IsLexeme (take n (q ∷ rest)) m → ⊥
  text_longest cs size read zero m longer within s = omega (arith, longer)
  text_longest cs size read (suc n) (lexeme.Word w) longer within s = true_false (sym (begins (q ∷ rest) (suc n) (lexeme.Word w) (omega arith) s) ∙ ap is_ascii_alphabetic is)
  text_longest cs size read (suc n) (lexeme.Name x) longer within s = true_false (sym (begins (q ∷ rest) (suc n) (lexeme.Name x) (omega arith) s) ∙ ap is_ascii_alphabetic is)
  text_longest cs size read (suc n) (lexeme.Number x) longer within s = quote_no_number (q ∷ rest) is (begins (q ∷ rest) (suc n) (lexeme.Number x) (omega arith) s)
  text_longest cs size read (suc n) (lexeme.Text ds) longer within s = omega (arith, longer, read.longest ds n (omega (arith, within)) (ap (drop 1) s.spelled))
  text_longest cs size read (suc n) (lexeme.Symbol t) longer within s =
      true_false (sym (ap (λ c. c == quote) (sym (begins (q ∷ rest) (suc n) (lexeme.Symbol t) (omega arith) s) ∙ is)) ∙ quote_no_symbol t)

  text_by : (l : Literal) → Says rest l → EndsApart rest l → IsPiece (q ∷ rest) (piece_of_literal l)
  text_by (Closed cs size) read apart =
      let one : 1 + size ≡ suc size = omega arith in
      cond_both (nat_lt 240 (length cs)) (piece.Fault 0 fault.LongText) (piece.Token (1 + size) (lexeme.Text cs)) (IsPiece (q ∷ rest)) (λ long. tt {0})
      (λ few. record {
        no_comment = no_comment;
        within = omega (arith, apart.0);
        spelled = record { spelled = ap (λ k. take k (q ∷ rest)) one ∙ (λ i. is i ∷ read.ends i); each = read.each };
        longest = text_longest cs size read;
        short = ltb-false 240 (length cs) few;
        apart = ap (λ k. slice_index (q ∷ rest) k == quote) one ∙ apart.1;
      })
  text_by Open read apart = tt {0}
  text_by (BadByte at) read apart = tt {0}

text_piece : (bytes : List ℕ) → begins_comment bytes ≡ false → (head bytes == quote) ≡ true → IsPiece bytes (text bytes)
unfolding text
text_piece [] no_comment h = cc
text_piece (q ∷ rest) no_comment h = text_by q rest (eqb-true q quote h) no_comment (literal rest) (said rest) (ends_apart rest)

-- ---- symbols

pub two_there : (bytes : List ℕ) (s : Symbol) → symbol_of_two (head bytes) (slice_index bytes 1) ≡ Some s → (take 2 bytes ≡ symbol_codes s) × (2 ≤ length bytes)
two_there [] s e = cc
two_there (a ∷ []) s e = absurd (no_second a s e)
two_there (a ∷ b ∷ bytes) s e = ((twos a b).is s e, omega arith)

pub one_there : (bytes : List ℕ) (s : Symbol) → symbol_of_one (head bytes) ≡ Some s → (take 1 bytes ≡ symbol_codes s) × (1 ≤ length bytes)
one_there [] s e = cc
one_there (a ∷ bytes) s e = ((ones a).is s e, omega arith)

pub two_at : (bytes : List ℕ) (n : ℕ) (t : Symbol) → n ≤ length bytes → take n bytes ≡ symbol_codes t → length (symbol_codes t) ≡ 2 → symbol_of_two (head bytes) (slice_index bytes 1) ≡ Some t
two_at bytes n t within s long = by bytes n within s (omega (arith, ap length s, length-take-le n bytes within, long))
  where
    by : (bytes : List ℕ) (n : ℕ) → n ≤ length bytes → take n bytes ≡ symbol_codes t → n ≡ 2 → symbol_of_two (head bytes) (slice_index bytes 1) ≡ Some t
    by bytes zero within s e = absurd (omega (arith, e))
    by bytes (suc zero) within s e = absurd (omega (arith, e))
    by [] (suc (suc n)) within s e = absurd (omega arith)
    by (a ∷ []) (suc (suc n)) within s e = absurd (omega arith)
    by (a ∷ b ∷ bytes) (suc (suc n)) within s e = (λ i. symbol_of_two (slice_index (s i) 0) (slice_index (s i) 1)) ∙ two_found t long

module _ (bytes : List ℕ) (no_comment : begins_comment bytes ≡ false) (nl : is_ascii_alphabetic (head bytes) ≡ false) (nn : begins_number bytes ≡ false) (nq : (head bytes == quote) ≡ false) where
  -- a spelling there is one of a symbol
  is_symbol : (n : ℕ) (m : Lexeme) → 0 < n → IsLexeme (take n bytes) m → (t : Symbol) × (take n bytes ≡ symbol_codes t)
  is_symbol n (lexeme.Word w) some s = absurd (true_false (sym (begins bytes n (lexeme.Word w) some s) ∙ nl))
  is_symbol n (lexeme.Name x) some s = absurd (true_false (sym (begins bytes n (lexeme.Name x) some s) ∙ nl))
  is_symbol n (lexeme.Number x) some s = absurd (true_false (sym (begins bytes n (lexeme.Number x) some s) ∙ nn))
  is_symbol n (lexeme.Text cs) some s = absurd (true_false (sym (ap (λ c. c == quote) (begins bytes n (lexeme.Text cs) some s)) ∙ nq))
  is_symbol n (lexeme.Symbol t) some s = (t, s)

  longest_by : (size : ℕ) → ((t : Symbol) → symbol_of_two (head bytes) (slice_index bytes 1) ≡ Some t → 2 ≤ size) → 1 ≤ size → (n : ℕ) (m : Lexeme) → size < n → n ≤ length bytes → IsLexeme (take n bytes) m → ⊥
  longest_by size two one n m longer within s = by (is_symbol n m (omega (arith, longer)) s)
    where
      by : (t : Symbol) × (take n bytes ≡ symbol_codes t) → ⊥
      by found = to (symbol_length found.0)
        where
          to : (length (symbol_codes found.0) ≡ 1) ⊎ (length (symbol_codes found.0) ≡ 2) → ⊥
          to (inl h) = omega (arith, h, ap length found.1, length-take-le n bytes within, longer, one)
          to (inr h) = omega (arith, h, ap length found.1, length-take-le n bytes within, longer, two found.0 (two_at bytes n found.0 within found.1 h))

  symbol_by : (two one : Option Symbol) → symbol_of_two (head bytes) (slice_index bytes 1) ≡ two → symbol_of_one (head bytes) ≡ one → IsPiece bytes (longest_symbol two one)
  symbol_by (Some s) one e f =
      let found = two_there bytes s e in
      record {
        no_comment = no_comment;
        within = found.1;
        spelled = found.0;
        longest = longest_by 2 (λ t i. omega arith) (omega arith);
        short = tt;
        apart = tt;
      }
  symbol_by None (Some s) e f =
      let found = one_there bytes s f in
      record {
        no_comment = no_comment;
        within = found.1;
        spelled = found.0;
        longest = longest_by 1 (λ t i. absurd (differ t (sym e ∙ i))) (omega arith);
        short = tt;
        apart = tt;
      }
    where
      differ : (t : Symbol) → None ≡ Some t → ⊥
      differ t i = cc
  symbol_by None None e f = tt {0}

  symbols_piece : IsPiece bytes (symbol_piece bytes)
  unfolding symbol_piece
  symbols_piece = symbol_by (symbol_of_two (head bytes) (slice_index bytes 1)) (symbol_of_one (head bytes)) refl refl

-- ---- any piece

comment_piece : (bytes : List ℕ) → begins_comment bytes ≡ true → IsPiece bytes (comment bytes)
unfolding comment
comment_piece bytes begun =
    let size = prefix_len (has class.Comment) bytes in
    cond_both (size == length bytes || slice_index bytes size == line_feed) (piece.Separator size) (piece.Fault size fault.BadByte) (IsPiece bytes)
    (λ end. inr (record { begun = begun; each = run_passes (has class.Comment) bytes; ended = end })) (λ bad. tt {0})

abbrev by_quote : List ℕ → Piece
by_quote bytes = cond (head bytes == quote) (text bytes) (symbol_piece bytes)

abbrev by_number : List ℕ → Piece
by_number bytes = cond (begins_number bytes) (number bytes) (by_quote bytes)

abbrev by_letter : List ℕ → Piece
by_letter bytes = cond (is_ascii_alphabetic (head bytes)) (word bytes) (by_number bytes)

abbrev by_comment : List ℕ → Piece
by_comment bytes = cond (begins_comment bytes) (comment bytes) (by_letter bytes)

-- a separator or a token that is found is one by the rule
pub piece_found : (bytes : List ℕ) → IsPiece bytes (first_piece bytes)
unfolding first_piece
piece_found bytes =
    let P = IsPiece bytes in
    cond_both (is_white (head bytes)) (piece.Separator 1) (by_comment bytes) P (λ white. inl (white, refl))
    (λ dark. cond_both (begins_comment bytes) (comment bytes) (by_letter bytes) P (λ c. comment_piece bytes c)
    (λ nc. cond_both (is_ascii_alphabetic (head bytes)) (word bytes) (by_number bytes) P (λ l. word_piece bytes nc l)
    (λ nl. cond_both (begins_number bytes) (number bytes) (by_quote bytes) P (λ d. number_piece bytes nc d)
    (λ nn. cond_both (head bytes == quote) (text bytes) (symbol_piece bytes) P (λ q. text_piece bytes nc q) (λ nq. symbols_piece bytes nc nl nn nq)))))
