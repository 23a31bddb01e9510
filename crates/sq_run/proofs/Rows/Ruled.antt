-- The separator or the token that the rule of rows gives is the piece that is found.
use Rattle.std.proofs.Common.{◌≡◌, ℕ, zero, suc, ◌+◌, ◌<◌, ◌≤◌, ◌==◌, ◌||◌, Bool, true, false, cond, List, [], ◌∷◌, ◌++◌, length, take, drop, map, refl, sym, ap, ◌∙◌, arith, inl, inr, ◌⊎◌, Option, Some, None, append_assoc, nat_lt}
use Rattle.std.proofs.lemmas.Bool.{and_parts, eqb-true, ltb-false, ltb-true}
use Rattle.std.proofs.lemmas.Bool.Decides.{nat_tests}
use Rattle.std.proofs.lemmas.List.{get_or-drop, length-append, length-take-le, take-append-drop}
use Rattle.std.proofs.lemmas.List.Sums.{prefix_len-le-length, prefix_len_passes}
use Rattle.std.specs.Prelude.{count_by, slice_index}
use Rattle.std.specs.List.{prefix_len}
use Rattle.std.specs.Char.{is_ascii_alphabetic, to_ascii_uppercase}
use Rattle.sq_lex.specs.Characters.{line_feed, minus, point, quote, has, is_white}
use Rattle.sq_lex.specs.Literal.{literal}
use Rattle.sq_lex.specs.Piece.{begins_comment, begins_number, comment, first_piece, lexeme_of_word, longest_symbol, number, piece_of_literal, symbol as symbol_piece, text, word}
use Rattle.sq_lex.specs.Reserved.{reserved}
use Rattle.sq_lex.specs.Spelling.{IsComment, IsSeparator, doubled, symbol_codes}
use Rattle.sq_lex.specs.Symbol.{symbol_of_one, symbol_of_two}
use Rattle.sq_lex.specs.declared.characters.Class.TheVariants as class
use Rattle.sq_lex.specs.declared.fault.LexFaultKind.TheVariants as fault
use Rattle.sq_lex.specs.declared.lexeme.Lexeme.{Lexeme}
use Rattle.sq_lex.specs.declared.lexeme.Lexeme.TheVariants as lexeme
use Rattle.sq_lex.specs.declared.literal.Literal.TheVariants.{Closed}
use Rattle.sq_lex.specs.declared.piece.Piece.{Piece}
use Rattle.sq_lex.specs.declared.piece.Piece.TheVariants as piece
use Rattle.sq_lex.specs.declared.symbol.Symbol.{Symbol}
use Rattle.sq_run.specs.TextRow.{IsLexeme, IsToken, IsWord}
use Rattle.sq_run.proofs.Rows.Kinds.{begins, letter_no_number, letter_no_symbol, number_bound, number_fits, numeral_count, quote_no_number, quote_no_symbol, symbol_there, true_false, white_no_symbol, word_bound, word_size, word_there}
use Rattle.sq_run.proofs.Rows.Pieces.{two_at, two_there}
use Rattle.sq_run.proofs.Rows.Runs.{head, number_read, number_size, places, run_longest}
use Rattle.sq_run.proofs.Rows.Symbols.{one_found, symbol_length}
use Rattle.sq_run.proofs.Rows.Texts.{closes}

-- no bytes spell nothing
pub some_bytes : (bytes : List ℕ) (n : ℕ) (m : Lexeme) → IsLexeme (take n bytes) m → 0 < n
some_bytes bytes (suc n) m s = omega arith
some_bytes bytes zero (lexeme.Word w) s = absurd (true_false (sym s.0.letter))
some_bytes bytes zero (lexeme.Name x) s = absurd (true_false (sym s.0.letter))
some_bytes bytes zero (lexeme.Number x) s = absurd (by s.1.whole s.1.fraction s.1.spelled s.1.some)
  where
    by : (w f : List ℕ) → ([] ≡ w ++ point ∷ f) ⊎ (([] ≡ w) × (f ≡ [])) → 0 < length w + length f → ⊥
    by w f (inl e) some = omega (arith, ap length e, length-append w (point ∷ f))
    by w f (inr e) some = omega (arith, some, ap length e.0, ap length e.1)
some_bytes bytes zero (lexeme.Text cs) s = absurd (omega (arith, ap length s.spelled))
some_bytes bytes zero (lexeme.Symbol t) s = absurd (by (symbol_length t))
  where
    by : (length (symbol_codes t) ≡ 1) ⊎ (length (symbol_codes t) ≡ 2) → ⊥
    by (inl h) = omega (arith, h, ap length s)
    by (inr h) = omega (arith, h, ap length s)

not_less : (a b : ℕ) → b ≤ a → nat_lt a b ≡ false
not_less a b h = by (nat_lt a b) refl
  where
    by : (c : Bool) → nat_lt a b ≡ c → c ≡ false
    by true e = absurd (omega (arith, ltb-true _ _ e, h))
    by false e = refl

-- ---- white space and comments

abbrev by_quote : List ℕ → Piece
by_quote bytes = cond (head bytes == quote) (text bytes) (symbol_piece bytes)

abbrev by_number : List ℕ → Piece
by_number bytes = cond (begins_number bytes) (number bytes) (by_quote bytes)

abbrev by_letter : List ℕ → Piece
by_letter bytes = cond (is_ascii_alphabetic (head bytes)) (word bytes) (by_number bytes)

pub comment_size : (bytes : List ℕ) (size : ℕ) → IsComment bytes size → prefix_len (has class.Comment) bytes ≡ size
comment_size bytes size c = by (size == length bytes) refl
  where
    beyond : (bytes : List ℕ) (n : ℕ) → slice_index bytes n ≡ line_feed → n < length bytes
    beyond [] n e = absurd (omega (arith, e))
    beyond (b ∷ bytes) zero e = omega arith
    beyond (b ∷ bytes) (suc n) e = omega (arith, beyond bytes n e)

    by : (b : Bool) → (size == length bytes) ≡ b → prefix_len (has class.Comment) bytes ≡ size
    by true e =
        let all = eqb-true size (length bytes) e in
        omega (arith, all, run_longest (has class.Comment) bytes size (omega (arith, all)) c.each, prefix_len-le-length (has class.Comment) bytes)
    by false e =
        let feed : slice_index bytes size ≡ line_feed = eqb-true (slice_index bytes size) line_feed (ap (λ b. b || slice_index bytes size == line_feed) (sym e) ∙ c.ended) in
        let within = beyond bytes size feed in
        omega (arith, run_longest (has class.Comment) bytes size (omega (arith, within)) c.each, least feed (nat_lt size (prefix_len (has class.Comment) bytes)) refl)
      where
        least : slice_index bytes size ≡ line_feed → (t : Bool) → nat_lt size (prefix_len (has class.Comment) bytes) ≡ t → prefix_len (has class.Comment) bytes ≤ size
        least feed true t = absurd (true_false (sym (prefix_len_passes (has class.Comment) bytes size 0 (ltb-true _ _ t)) ∙ ap (has class.Comment) feed))
        least feed false t = ltb-false _ _ t

pub separator_found : (bytes : List ℕ) (size : ℕ) → IsSeparator bytes size → first_piece bytes ≡ piece.Separator size
unfolding first_piece comment
separator_found bytes size (inl white) = ap (λ b. cond b (piece.Separator 1) (cond (begins_comment bytes) (comment bytes) (by_letter bytes))) white.0 ∙ ap (λ n. piece.Separator n) (sym white.1)
separator_found bytes size (inr c) =
    let dark : is_white (head bytes) ≡ false = dark_minus bytes c.begun in
    let same = comment_size bytes size c in
    ap (λ b. cond b (piece.Separator 1) (cond (begins_comment bytes) (comment bytes) (by_letter bytes))) dark
    ∙ ap (λ b. cond b (comment bytes) (by_letter bytes)) c.begun
    ∙ (λ i. cond (same i == length bytes || slice_index bytes (same i) == line_feed) (piece.Separator (same i)) (piece.Fault (same i) fault.BadByte))
    ∙ ap (λ b. cond b (piece.Separator size) (piece.Fault size fault.BadByte)) c.ended
  where
    dark_minus : (bytes : List ℕ) → begins_comment bytes ≡ true → is_white (head bytes) ≡ false
    dark_minus bytes b = ap is_white (eqb-true (head bytes) minus (and_parts (head bytes == minus) (slice_index bytes 1 == minus) b).0)

-- ---- tokens

module _ (bytes : List ℕ) (size : ℕ) (no_comment : begins_comment bytes ≡ false) (within : size ≤ length bytes) (longest : (n : ℕ) (m : Lexeme) → size < n → n ≤ length bytes → IsLexeme (take n bytes) m → ⊥) where
  -- a spelling is no longer
  no_longer : (n : ℕ) (m : Lexeme) → n ≤ length bytes → IsLexeme (take n bytes) m → n ≤ size
  no_longer n m within s = by (nat_lt size n) refl
    where
      by : (b : Bool) → nat_lt size n ≡ b → n ≤ size
      by true e = absurd (longest n m (ltb-true _ _ e) within s)
      by false e = ltb-false _ _ e

  -- where no white space and no comment begins
  behind_comment : is_white (head bytes) ≡ false → first_piece bytes ≡ by_letter bytes
  unfolding first_piece
  behind_comment dark =
      ap (λ b. cond b (piece.Separator 1) (cond (begins_comment bytes) (comment bytes) (by_letter bytes))) dark
      ∙ ap (λ b. cond b (comment bytes) (by_letter bytes)) no_comment

  module _ (letter : is_ascii_alphabetic (head bytes) ≡ true) (spelled : IsWord (take size bytes)) (short : length (take size bytes) ≤ 18) where
    word_is : (l : Lexeme) → IsLexeme (take size bytes) l → word_size bytes ≡ size
    word_is l s =
        let there : word_size bytes ≤ size = no_longer (word_size bytes) _ (prefix_len-le-length (has class.Word) bytes) (word_there bytes letter (reserved (map to_ascii_uppercase (take (word_size bytes) bytes))) refl) in
        omega (arith, there, word_bound bytes letter size l within s)

    word_found : (l : Lexeme) → IsLexeme (take size bytes) l → lexeme_of_word (map to_ascii_uppercase (take size bytes)) (reserved (map to_ascii_uppercase (take size bytes))) ≡ l → first_piece bytes ≡ piece.Token size l
    unfolding word
    word_found l s is =
        let same = word_is l s in
        let few : nat_lt 18 size ≡ false = not_less 18 size (omega (arith, short, length-take-le size bytes within)) in
        behind_comment (grind (arith, nat_tests))
        ∙ ap (λ b. cond b (word bytes) (by_number bytes)) letter
        ∙ (λ i. cond (nat_lt 18 (same i)) (piece.Fault 0 fault.LongName) (piece.Token (same i) (lexeme_of_word (map to_ascii_uppercase (take (same i) bytes)) (reserved (map to_ascii_uppercase (take (same i) bytes))))))
        ∙ ap (λ b. cond b (piece.Fault 0 fault.LongName) (piece.Token size (lexeme_of_word (map to_ascii_uppercase (take size bytes)) (reserved (map to_ascii_uppercase (take size bytes)))))) few
        ∙ ap (λ m. piece.Token size m) is

  module _ (numeric : begins_number bytes ≡ true) where
    number_is : (l : Lexeme) → IsLexeme (take size bytes) l → number_size bytes ≡ size
    number_is l s =
        let there : number_size bytes ≤ size = no_longer (number_size bytes) (lexeme.Number (take (number_size bytes) bytes)) (number_fits bytes) (refl, (number_read bytes numeric).numeral) in
        omega (arith, there, number_bound bytes numeric size l within s)

    few_places : (l : Lexeme) → IsLexeme (take size bytes) l → count_by (has class.Digit) (take size bytes) ≤ 18 → places bytes ≤ 18
    few_places l s short =
        let r = number_read bytes numeric in
        let i = r.numeral in
        omega (arith, short, ap (λ n. count_by (has class.Digit) (take n bytes)) (number_is l s), numeral_count (take (number_size bytes) bytes) i.whole i.fraction i.spelled i.whole_digits i.fraction_digits, r.count)

    dark_number : is_white (head bytes) ≡ false
    dark_number = grind (arith, nat_tests)

    number_found : (x : List ℕ) → IsLexeme (take size bytes) (lexeme.Number x) → count_by (has class.Digit) (take size bytes) ≤ 18 → is_ascii_alphabetic (slice_index bytes size) ≡ false → first_piece bytes ≡ piece.Token size (lexeme.Number x)
    unfolding number
    number_found x s short apart =
        let same = number_is (lexeme.Number x) s in
        let few : nat_lt 18 (places bytes) ≡ false = not_less 18 (places bytes) (few_places (lexeme.Number x) s short) in
        behind_comment dark_number
        ∙ ap (λ b. cond b (word bytes) (by_number bytes)) (no_letter (is_ascii_alphabetic (head bytes)) refl)
        ∙ ap (λ b. cond b (number bytes) (by_quote bytes)) numeric
        ∙ ap (λ b. cond b (piece.Fault 0 fault.LongNumber) (cond (is_ascii_alphabetic (slice_index bytes (number_size bytes))) (piece.Fault 0 fault.NumberThenLetter) (piece.Token (number_size bytes) (lexeme.Number (take (number_size bytes) bytes))))) few
        ∙ (λ i. cond (is_ascii_alphabetic (slice_index bytes (same i))) (piece.Fault 0 fault.NumberThenLetter) (piece.Token (same i) (lexeme.Number (take (same i) bytes))))
        ∙ ap (λ b. cond b (piece.Fault 0 fault.NumberThenLetter) (piece.Token size (lexeme.Number (take size bytes)))) apart
        ∙ ap (λ y. piece.Token size (lexeme.Number y)) (sym s.0)
      where
        no_letter : (b : Bool) → is_ascii_alphabetic (head bytes) ≡ b → is_ascii_alphabetic (head bytes) ≡ false
        no_letter true e = absurd (letter_no_number bytes e numeric)
        no_letter false e = e

  no_number : ((t : Bool) → begins_number bytes ≡ t → t ≡ true → ⊥) → begins_number bytes ≡ false
  no_number never = by (begins_number bytes) refl
    where
      by : (t : Bool) → begins_number bytes ≡ t → t ≡ false
      by true e = absurd (never true e refl)
      by false e = refl

  text_found : (cs : List ℕ) → IsLexeme (take size bytes) (lexeme.Text cs) → length cs ≤ 240 → (slice_index bytes size == quote) ≡ false → first_piece bytes ≡ piece.Token size (lexeme.Text cs)
  unfolding text
  text_found cs s short apart =
      let some = some_bytes bytes size (lexeme.Text cs) s in
      let opens : head bytes ≡ quote = begins bytes size (lexeme.Text cs) some s in
      let whole : bytes ≡ quote ∷ (doubled cs ++ (quote ∷ drop size bytes)) =
      sym (take-append-drop size bytes) ∙ ap (λ t. t ++ drop size bytes) s.spelled ∙ ap (λ t. quote ∷ t) (append_assoc (doubled cs) (quote ∷ []) (drop size bytes)) in
      let next : (slice_index (drop size bytes) 0 == quote) ≡ false = ap (λ c. c == quote) (get_or-drop size bytes 0 0 ∙ ap (slice_index bytes) (omega arith)) ∙ apart in
      let read : literal (drop 1 bytes) ≡ Closed cs (length (doubled cs) + 1) = ap (λ t. literal (drop 1 t)) whole ∙ closes cs (drop size bytes) s.each next in
      let long : 1 + (length (doubled cs) + 1) ≡ size = omega (arith, ap length s.spelled, length-take-le size bytes within, length-append (doubled cs) (quote ∷ [])) in
      let few : nat_lt 240 (length cs) ≡ false = not_less 240 (length cs) short in
      behind_comment (ap is_white opens)
      ∙ ap (λ b. cond b (word bytes) (by_number bytes)) (ap is_ascii_alphabetic opens)
      ∙ ap (λ b. cond b (number bytes) (by_quote bytes)) (no_number (λ t e i. quote_no_number bytes opens (e ∙ i)))
      ∙ ap (λ b. cond b (text bytes) (symbol_piece bytes)) (ap (λ c. c == quote) opens)
      ∙ ap piece_of_literal read
      ∙ ap (λ b. cond b (piece.Fault 0 fault.LongText) (piece.Token (1 + (length (doubled cs) + 1)) (lexeme.Text cs))) few
      ∙ ap (λ n. piece.Token n (lexeme.Text cs)) long

  module _ (t : Symbol) (s : take size bytes ≡ symbol_codes t) where
    opens : head bytes ≡ head (symbol_codes t)
    opens = begins bytes size (lexeme.Symbol t) (some_bytes bytes size (lexeme.Symbol t) s) s

    never_number : begins_number bytes ≡ true → ⊥
    never_number numeric =
        let there : number_size bytes ≤ size = no_longer (number_size bytes) (lexeme.Number (take (number_size bytes) bytes)) (number_fits bytes) (refl, (number_read bytes numeric).numeral) in
        omega (arith, there, symbol_there bytes numeric size t (some_bytes bytes size (lexeme.Symbol t) s) within s)

    symbol_is : symbol_piece bytes ≡ piece.Token size (lexeme.Symbol t)
    unfolding symbol_piece
    symbol_is = by (symbol_length t)
      where
        none_longer : length (symbol_codes t) ≡ 1 → (o : Option Symbol) → symbol_of_two (head bytes) (slice_index bytes 1) ≡ o → o ≡ None
        none_longer h None e = refl
        none_longer h (Some u) e =
            let found = two_there bytes u e in
            absurd (longest 2 (lexeme.Symbol u) (omega (arith, h, ap length s, length-take-le size bytes within)) found.1 found.0)

        one_at : (bytes : List ℕ) (n : ℕ) → n ≤ length bytes → take n bytes ≡ symbol_codes t → n ≡ 1 → head bytes ≡ head (symbol_codes t)
        one_at bytes zero w i e = absurd (omega (arith, e))
        one_at [] (suc n) w i e = absurd (omega arith)
        one_at (b ∷ bytes) (suc n) w i e = ap head i

        by : (length (symbol_codes t) ≡ 1) ⊎ (length (symbol_codes t) ≡ 2) → longest_symbol (symbol_of_two (head bytes) (slice_index bytes 1)) (symbol_of_one (head bytes)) ≡ piece.Token size (lexeme.Symbol t)
        by (inl h) =
            let n : size ≡ 1 = omega (arith, h, ap length s, length-take-le size bytes within) in
            (λ i. longest_symbol (none_longer h (symbol_of_two (head bytes) (slice_index bytes 1)) refl i) ((ap symbol_of_one (one_at bytes size within s n) ∙ one_found t h) i))
            ∙ ap (λ k. piece.Token k (lexeme.Symbol t)) (sym n)
        by (inr h) =
            let n : size ≡ 2 = omega (arith, h, ap length s, length-take-le size bytes within) in
            ap (λ o. longest_symbol o (symbol_of_one (head bytes))) (two_at bytes size t within s h) ∙ ap (λ k. piece.Token k (lexeme.Symbol t)) (sym n)

    symbol_found : first_piece bytes ≡ piece.Token size (lexeme.Symbol t)
    symbol_found =
        behind_comment (ap is_white opens ∙ white_no_symbol t)
        ∙ ap (λ b. cond b (word bytes) (by_number bytes)) (ap is_ascii_alphabetic opens ∙ letter_no_symbol t)
        ∙ ap (λ b. cond b (number bytes) (by_quote bytes)) (no_number (λ b e i. never_number (e ∙ i)))
        ∙ ap (λ b. cond b (text bytes) (symbol_piece bytes)) (ap (λ c. c == quote) opens ∙ quote_no_symbol t)
        ∙ symbol_is

pub token_found : (bytes : List ℕ) (size : ℕ) (l : Lexeme) → IsToken bytes size l → first_piece bytes ≡ piece.Token size l
token_found bytes size (lexeme.Word w) t =
    word_found bytes size t.no_comment t.within t.longest (begins bytes size (lexeme.Word w) (some_bytes bytes size (lexeme.Word w) t.spelled) t.spelled) t.spelled.0 t.short (lexeme.Word w) t.spelled
    (ap (lexeme_of_word (map to_ascii_uppercase (take size bytes))) t.spelled.1)
token_found bytes size (lexeme.Name x) t =
    word_found bytes size t.no_comment t.within t.longest (begins bytes size (lexeme.Name x) (some_bytes bytes size (lexeme.Name x) t.spelled) t.spelled) t.spelled.0 t.short (lexeme.Name x) t.spelled
    (ap (lexeme_of_word (map to_ascii_uppercase (take size bytes))) t.spelled.2 ∙ ap (λ y. lexeme.Name y) (sym t.spelled.1))
token_found bytes size (lexeme.Number x) t =
    number_found bytes size t.no_comment t.within t.longest (begins bytes size (lexeme.Number x) (some_bytes bytes size (lexeme.Number x) t.spelled) t.spelled) x t.spelled t.short t.apart
token_found bytes size (lexeme.Text cs) t = text_found bytes size t.no_comment t.within t.longest cs t.spelled t.short t.apart
token_found bytes size (lexeme.Symbol s) t = symbol_found bytes size t.no_comment t.within t.longest s t.spelled
