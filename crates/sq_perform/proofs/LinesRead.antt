-- The bytes of a text up to a line end are read the same whatever stands behind it.
use Rattle.std.proofs.Common.{◌≡◌, ℕ, zero, suc, ◌+◌, ◌-◌, ◌≤◌, ◌==◌, ◌&&◌, ◌||◌, Bool, false, cond, append_assoc, List, [], ◌∷◌, ◌++◌, length, map, take, drop, refl, sym, ap, subst, ◌∙◌, arith, Result, Ok, Err, Option, Some, None}
use Rattle.std.proofs.lemmas.Bool.{cond_both, ne_eqb}
use Rattle.std.proofs.lemmas.List.{take-append-le, drop-append-le, length-append, length-drop, map-append}
use Rattle.std.proofs.lemmas.List.Sums.{prefix_len-le-length}
use Rattle.std.specs.Prelude.{nat_lt, slice_index}
use Rattle.std.specs.List.{prefix_len}
use Rattle.std.specs.Char.{is_ascii_digit, is_ascii_alphabetic, to_ascii_uppercase}
use Rattle.sq_lex.specs.Characters.{line_feed, minus, point, quote, has, is_white, is_line_end, is_printable}
use Rattle.sq_lex.specs.Literal.{literal, after_quote, with_character}
use Rattle.sq_lex.specs.Piece.{begins_comment, begins_number, comment, digits, first_piece, fraction_size, lexeme_of_word, longest_symbol, number, piece_of_literal, symbol, text, word}
use Rattle.sq_lex.specs.Reserved.{reserved}
use Rattle.sq_lex.specs.Symbol.{symbol_of_one, symbol_of_two}
use Rattle.sq_lex.specs.declared.characters.Class.TheVariants as class
use Rattle.sq_lex.specs.declared.fault.LexFaultKind.TheVariants as fault
use Rattle.sq_lex.specs.declared.lexeme.Lexeme.TheVariants as lexeme
use Rattle.sq_lex.specs.declared.literal.Literal.{Literal}
use Rattle.sq_lex.specs.declared.literal.Literal.TheVariants.{Closed, Open, BadByte}
use Rattle.sq_lex.specs.declared.piece.Piece.{Piece}
use Rattle.sq_lex.specs.declared.piece.Piece.TheVariants as piece
use Rattle.sq_lex.specs.Position.{next, past, start}
use Rattle.sq_lex.specs.Reading.{followed, reading, token_at, tokens_from, with_piece}
use Rattle.sq_lex.specs.Token.{lexemes}
use Rattle.sq_lex.specs.declared.fault.LexFault.{LexFault}
use Rattle.sq_lex.specs.declared.lexeme.Lexeme.{Lexeme}
use Rattle.sq_lex.specs.declared.position.Position.{Position}
use Rattle.sq_lex.specs.declared.symbol.Symbol.{Symbol}
use Rattle.sq_lex.specs.declared.token.Token.{Token}
use Rattle.sq_perform.specs.Texts.{Spells}

-- a run of bytes of a class ends at the line end
stops : (p : ℕ → Bool) → p 10 ≡ false → (u more : List ℕ) → prefix_len p (u ++ 10 ∷ more) ≡ prefix_len p u
stops p ends [] more = ap (λ t. cond t (1 + prefix_len p more) 0) ends
stops p ends (x ∷ u) more = ap (λ k. cond (p x) (1 + k) 0) (stops p ends u more)

index : (u more : List ℕ) (n : ℕ) → n ≤ length u → slice_index (u ++ 10 ∷ more) n ≡ slice_index (u ++ 10 ∷ []) n
index [] more zero h = refl
index [] more (suc n) h = absurd (omega arith)
index (x ∷ u) more zero h = refl
index (x ∷ u) more (suc n) h = index u more n (omega arith)

ends_behind : (u more : List ℕ) (n : ℕ) → n ≤ length u → (n == length (u ++ 10 ∷ more)) ≡ false
ends_behind u more n h =
    let whole = length-append u (10 ∷ more) in
    ne_eqb n (length (u ++ 10 ∷ more)) (λ e. omega (arith, whole, e, h))

-- ---- pieces, as they are in front of a line end

abbrev comment_by : ℕ → ℕ → Piece
comment_by size behind = cond (behind == line_feed) (piece.Separator size) (piece.Fault size fault.BadByte)

comment_here : (u more : List ℕ) → comment (u ++ 10 ∷ more) ≡ comment_by (prefix_len (has class.Comment) u) (slice_index (u ++ 10 ∷ []) (prefix_len (has class.Comment) u))
unfolding comment
comment_here u more =
    let bytes = u ++ 10 ∷ more in
    let size = prefix_len (has class.Comment) u in
    let within = prefix_len-le-length (has class.Comment) u in
    ap (λ k. cond (k == length bytes || slice_index bytes k == line_feed) (piece.Separator k) (piece.Fault k fault.BadByte)) (stops (has class.Comment) refl u more)
    ∙ ap (λ t. cond (t || slice_index bytes size == line_feed) (piece.Separator size) (piece.Fault size fault.BadByte)) (ends_behind u more size within)
    ∙ ap (comment_by size) (index u more size within)

abbrev word_by : ℕ → List ℕ → Piece
word_by size bytes = cond (nat_lt 18 size) (piece.Fault 0 fault.LongName) (piece.Token size (lexeme_of_word (map to_ascii_uppercase bytes) (reserved (map to_ascii_uppercase bytes))))

word_here : (u more : List ℕ) → word (u ++ 10 ∷ more) ≡ word_by (prefix_len (has class.Word) u) (take (prefix_len (has class.Word) u) u)
unfolding word
word_here u more =
    let bytes = u ++ 10 ∷ more in
    let size = prefix_len (has class.Word) u in
    ap (λ k. word_by k (take k bytes)) (stops (has class.Word) refl u more)
    ∙ ap (word_by size) (take-append-le size u (10 ∷ more) (prefix_len-le-length (has class.Word) u))

fraction_here : (u more : List ℕ) → fraction_size (u ++ 10 ∷ more) ≡ fraction_size u
fraction_here [] more = refl
fraction_here (x ∷ u) more = ap (λ k. cond (x == point) (1 + k) 0) (stops (has class.Digit) refl u more)

fraction_fits : (u : List ℕ) → fraction_size u ≤ length u
fraction_fits [] = omega arith
fraction_fits (x ∷ u) =
    let within = prefix_len-le-length (has class.Digit) u in
    cond_both (x == point) (1 + digits u) 0 (λ k. k ≤ suc (length u)) (λ e. omega (arith, within)) (λ e. omega arith)

abbrev number_by : ℕ → ℕ → ℕ → List ℕ → Piece
number_by whole fraction behind bytes =
    cond (nat_lt 18 (whole + (fraction - 1))) (piece.Fault 0 fault.LongNumber)
    (cond (is_ascii_alphabetic behind) (piece.Fault 0 fault.NumberThenLetter) (piece.Token (whole + fraction) (lexeme.Number bytes)))

abbrev fraction_of : List ℕ → ℕ
fraction_of u = fraction_size (drop (digits u) u)

abbrev number_size : List ℕ → ℕ
number_size u = digits u + fraction_of u

number_fits : (u : List ℕ) → number_size u ≤ length u
number_fits u =
    let whole = prefix_len-le-length (has class.Digit) u in
    let fraction = fraction_fits (drop (digits u) u) in
    let left = length-drop (digits u) u in
    omega (arith, whole, fraction, left)

number_here : (u more : List ℕ) → number (u ++ 10 ∷ more) ≡ number_by (digits u) (fraction_of u) (slice_index (u ++ 10 ∷ []) (number_size u)) (take (number_size u) u)
unfolding number
number_here u more =
    let bytes = u ++ 10 ∷ more in
    let within = number_fits u in
    ap (λ k. number_by k (fraction_size (drop k bytes)) (slice_index bytes (k + fraction_size (drop k bytes))) (take (k + fraction_size (drop k bytes)) bytes)) (stops (has class.Digit) refl u more)
    ∙ ap (λ r. number_by (digits u) (fraction_size r) (slice_index bytes (digits u + fraction_size r)) (take (digits u + fraction_size r) bytes)) (drop-append-le (digits u) u (10 ∷ more) (prefix_len-le-length (has class.Digit) u))
    ∙ ap (λ f. number_by (digits u) f (slice_index bytes (digits u + f)) (take (digits u + f) bytes)) (fraction_here (drop (digits u) u) more)
    ∙ ap (λ b. number_by (digits u) (fraction_of u) b (take (number_size u) bytes)) (index u more (number_size u) within)
    ∙ ap (number_by (digits u) (fraction_of u) (slice_index (u ++ 10 ∷ []) (number_size u))) (take-append-le (number_size u) u (10 ∷ more) within)

mutual
  literal_here : (u more : List ℕ) → literal (u ++ 10 ∷ more) ≡ literal (u ++ 10 ∷ [])
  literal_here [] more = refl
  literal_here (x ∷ u) more = λ i. cond (x == quote) (quoted_here u more i) (cond (is_line_end x) Open (cond (is_printable x) (with_character x 1 (literal_here u more i)) (BadByte 0)))

  quoted_here : (u more : List ℕ) → after_quote (u ++ 10 ∷ more) ≡ after_quote (u ++ 10 ∷ [])
  quoted_here [] more = refl
  quoted_here (x ∷ u) more = λ i. cond (x == quote) (with_character quote 2 (literal_here u more i)) (Closed [] 1)

-- ---- the piece at the front

here : (u more : List ℕ) → first_piece (u ++ 10 ∷ more) ≡ first_piece (u ++ 10 ∷ [])
unfolding first_piece text symbol
here [] more = refl
here (x ∷ u) more =
    let comments = comment_here (x ∷ u) more ∙ sym (comment_here (x ∷ u) []) in
    let words = word_here (x ∷ u) more ∙ sym (word_here (x ∷ u) []) in
    let numbers = number_here (x ∷ u) more ∙ sym (number_here (x ∷ u) []) in
    let second = index u more 0 (omega arith) in
    λ i. cond (is_white x) (piece.Separator 1)
    (cond (x == minus && second i == minus) (comments i)
    (cond (is_ascii_alphabetic x) (words i)
    (cond (is_ascii_digit x || (x == point && is_ascii_digit (second i))) (numbers i)
    (cond (x == quote) (piece_of_literal (literal_here u more i))
    (longest_symbol (symbol_of_two x (second i)) (symbol_of_one x))))))

-- ---- how long it is

abbrev Fits : ℕ → Piece → Type 0
Fits n (piece.Separator size) = size ≤ n
Fits n (piece.Token size l) = size ≤ n
Fits n (piece.Fault at kind) = Unit {0}

either : (n : ℕ) (b : Bool) (p q : Piece) → Fits n p → Fits n q → Fits n (cond b p q)
either n b p q x y = cond_both b p q (Fits n) (λ e. x) (λ e. y)

abbrev FitsLiteral : ℕ → Literal → Type 0
FitsLiteral n (Closed characters size) = size ≤ n
FitsLiteral n Open = Unit {0}
FitsLiteral n (BadByte at) = Unit {0}

longer : (n spelled character : ℕ) (l : Literal) → FitsLiteral n l → FitsLiteral (spelled + n) (with_character character spelled l)
longer n spelled character (Closed characters size) h = omega (arith, h)
longer n spelled character Open h = tt {0}
longer n spelled character (BadByte at) h = tt {0}

more_fits : (n m : ℕ) (l : Literal) → n ≤ m → FitsLiteral n l → FitsLiteral m l
more_fits n m (Closed characters size) le h = omega (arith, le, h)
more_fits n m Open le h = tt {0}
more_fits n m (BadByte at) le h = tt {0}

either_literal : (n : ℕ) (b : Bool) (p q : Literal) → FitsLiteral n p → FitsLiteral n q → FitsLiteral n (cond b p q)
either_literal n b p q x y = cond_both b p q (FitsLiteral n) (λ e. x) (λ e. y)

mutual
  literal_fits : (bytes : List ℕ) → FitsLiteral (length bytes) (literal bytes)
  literal_fits [] = tt {0}
  literal_fits (x ∷ bytes) =
      either_literal (suc (length bytes)) (x == quote) _ _ (more_fits _ _ (after_quote bytes) (omega arith) (quoted_fits bytes))
      (either_literal (suc (length bytes)) (is_line_end x) _ _ (tt {0})
      (either_literal (suc (length bytes)) (is_printable x) _ _ (more_fits _ _ (with_character x 1 (literal bytes)) (omega arith) (longer (length bytes) 1 x (literal bytes) (literal_fits bytes))) (tt {0})))

  quoted_fits : (bytes : List ℕ) → FitsLiteral (suc (length bytes)) (after_quote bytes)
  quoted_fits [] = omega arith
  quoted_fits (x ∷ bytes) =
      either_literal (suc (suc (length bytes))) (x == quote) _ _ (more_fits _ _ (with_character quote 2 (literal bytes)) (omega arith) (longer (length bytes) 2 quote (literal bytes) (literal_fits bytes))) (omega arith)

text_fits : (n : ℕ) (l : Literal) → FitsLiteral n l → Fits (suc n) (piece_of_literal l)
text_fits n (Closed characters size) h = either (suc n) (nat_lt 240 (length characters)) (piece.Fault 0 fault.LongText) (piece.Token (1 + size) (lexeme.Text characters)) (tt {0}) (omega (arith, h))
text_fits n Open h = tt {0}
text_fits n (BadByte at) h = tt {0}

symbol_fits : (n : ℕ) (two one : Option Symbol) → 2 ≤ n → Fits n (longest_symbol two one)
symbol_fits n (Some two) one h = h
symbol_fits n None (Some one) h = omega (arith, h)
symbol_fits n None None h = tt {0}

comment_fits : (n size behind : ℕ) → size ≤ n → Fits n (comment_by size behind)
comment_fits n size behind h = either n (behind == line_feed) (piece.Separator size) (piece.Fault size fault.BadByte) h (tt {0})

word_fits : (n size : ℕ) (bytes : List ℕ) → size ≤ n → Fits n (word_by size bytes)
word_fits n size bytes h = either n (nat_lt 18 size) _ _ (tt {0}) h

number_piece_fits : (n whole fraction behind : ℕ) (bytes : List ℕ) → whole + fraction ≤ n → Fits n (number_by whole fraction behind bytes)
number_piece_fits n whole fraction behind bytes h =
    either n (nat_lt 18 (whole + (fraction - 1))) _ _ (tt {0}) (either n (is_ascii_alphabetic behind) _ _ (tt {0}) h)

plus_one : (n : ℕ) → n + 1 ≡ suc n
plus_one n = omega arith

longer_by : (k n : ℕ) → k ≤ n → k ≤ suc n
longer_by k n h = omega (arith, h)

within_line : (b : ℕ) (u : List ℕ) → Fits (suc (suc (length u))) (first_piece ((b ∷ u) ++ 10 ∷ []))
unfolding first_piece text symbol
within_line b u =
    let n = suc (suc (length u)) in
    let bytes = (b ∷ u) ++ 10 ∷ [] in
    let run : (p : ℕ → Bool) → prefix_len p (b ∷ u) ≤ n = λ p. let h = prefix_len-le-length p (b ∷ u) in omega (arith, h) in
    let numbers = number_fits (b ∷ u) in
    let whole = length-append u (10 ∷ []) in
    either n (is_white b) _ _ (omega arith)
    (either n (begins_comment bytes) _ _ (subst (Fits n) (sym (comment_here (b ∷ u) [])) (comment_fits n _ _ (run (has class.Comment))))
    (either n (is_ascii_alphabetic b) _ _ (subst (Fits n) (sym (word_here (b ∷ u) [])) (word_fits n _ _ (run (has class.Word))))
    (either n (begins_number bytes) _ _ (subst (Fits n) (sym (number_here (b ∷ u) [])) (number_piece_fits n (digits (b ∷ u)) (fraction_of (b ∷ u)) (slice_index bytes (number_size (b ∷ u))) (take (number_size (b ∷ u)) (b ∷ u)) (longer_by (number_size (b ∷ u)) (suc (length u)) numbers)))
    (either n (b == quote) _ _ (subst (λ k. Fits (suc k) (piece_of_literal (literal (u ++ 10 ∷ [])))) (whole ∙ plus_one (length u)) (text_fits _ (literal (u ++ 10 ∷ [])) (literal_fits (u ++ 10 ∷ []))))
    (symbol_fits n _ _ (omega arith))))))

-- ---- a text, and what stands behind its line end

abbrev Reading : Type 0
Reading = Result (List Token) LexFault

followed_ok : (tokens : List Token) (rest : Reading) (all : List Token) → followed tokens rest ≡ Ok all → (more : List Token) × (rest ≡ Ok more) × (tokens ++ more ≡ all)
followed_ok tokens (Ok more) all e = (more, refl, cc)
followed_ok tokens (Err fault) all e = cc

followed_twice : (a b : List Token) (rest : Reading) → followed a (followed b rest) ≡ followed (a ++ b) rest
followed_twice a b (Ok more) = ap Ok (sym (append_assoc a b more))
followed_twice a b (Err fault) = refl

nothing_before : (tokens : List Token) (rest : Reading) → [] ≡ tokens → rest ≡ followed tokens rest
nothing_before tokens (Ok more) e = ap (λ t. Ok (t ++ more)) e
nothing_before tokens (Err fault) e = refl

less : (n m : ℕ) → n ≤ suc m → n - 1 ≤ m
less n m h = omega (arith, h)

go_on : (more : List ℕ) (b : ℕ) (u : List ℕ) (position : Position) (tokens : List Token) (p : Piece) → Fits (suc (suc (length u))) p
    → ((left : ℕ) → left ≤ suc (length u) → (read : List Token) → tokens_from (next position b) left (u ++ 10 ∷ []) ≡ Ok read
    → tokens_from (next position b) left (u ++ 10 ∷ more) ≡ followed read (tokens_from (past position (b ∷ u ++ 10 ∷ [])) 0 more))
    → with_piece position (b ∷ u ++ 10 ∷ []) p (λ size. tokens_from (next position b) (size - 1) (u ++ 10 ∷ [])) ≡ Ok tokens
    → with_piece position (b ∷ u ++ 10 ∷ more) p (λ size. tokens_from (next position b) (size - 1) (u ++ 10 ∷ more)) ≡ followed tokens (tokens_from (past position (b ∷ u ++ 10 ∷ [])) 0 more)
go_on more b u position tokens (piece.Separator size) fits behind read = behind (size - 1) (less size (suc (length u)) fits) tokens read
go_on more b u position tokens (piece.Token size l) fits behind read =
    let (rest, is, whole) = followed_ok (token_at position l ∷ []) (tokens_from (next position b) (size - 1) (u ++ 10 ∷ [])) tokens read in
    let beyond = tokens_from (past position (b ∷ u ++ 10 ∷ [])) 0 more in
    ap (followed (token_at position l ∷ [])) (behind (size - 1) (less size (suc (length u)) fits) rest is)
    ∙ followed_twice (token_at position l ∷ []) rest beyond
    ∙ ap (λ t. followed t beyond) whole
go_on more b u position tokens (piece.Fault at kind) fits behind read = cc

lines_from : (u more : List ℕ) (left : ℕ) (position : Position) (tokens : List Token) → left ≤ suc (length u) → tokens_from position left (u ++ 10 ∷ []) ≡ Ok tokens
    → tokens_from position left (u ++ 10 ∷ more) ≡ followed tokens (tokens_from (past position (u ++ 10 ∷ [])) 0 more)
unfolding first_piece
lines_from [] more zero position tokens h read = nothing_before tokens (tokens_from (next position 10) 0 more) cc
lines_from [] more (suc zero) position tokens h read = nothing_before tokens (tokens_from (next position 10) 0 more) cc
lines_from [] more (suc (suc left)) position tokens h read = absurd (omega (arith, h))
lines_from (b ∷ u) more (suc left) position tokens h read = lines_from u more left (next position b) tokens (omega (arith, h)) read
lines_from (b ∷ u) more zero position tokens h read =
    ap (λ p. with_piece position (b ∷ u ++ 10 ∷ more) p (λ size. tokens_from (next position b) (size - 1) (u ++ 10 ∷ more))) (here (b ∷ u) more)
    ∙ go_on more b u position tokens (first_piece (b ∷ u ++ 10 ∷ [])) (within_line b u) (λ l le ts r. lines_from u more l (next position b) ts le r) read

-- ---- lexemes, wherever their bytes stand

record Again (bytes : List ℕ) (left : ℕ) (position : Position) (tokens : List Token) : Type 0 where
  again : List Token
  read : tokens_from position left bytes ≡ Ok again
  same : lexemes again ≡ lexemes tokens

piece_again : (b : ℕ) (bytes : List ℕ) (first second : Position) (p : Piece) (tokens : List Token) → first_piece (b ∷ bytes) ≡ p
    → ((left : ℕ) (read : List Token) → tokens_from (next first b) left bytes ≡ Ok read → Again bytes left (next second b) read)
    → with_piece first (b ∷ bytes) p (λ size. tokens_from (next first b) (size - 1) bytes) ≡ Ok tokens → Again (b ∷ bytes) 0 second tokens
piece_again b bytes first second (piece.Separator size) tokens is behind read =
    let rest = behind (size - 1) tokens read in
    record {
      again = rest.again;
      read = ap (λ p. with_piece second (b ∷ bytes) p (λ size. tokens_from (next second b) (size - 1) bytes)) is ∙ rest.read;
      same = rest.same;
    }
piece_again b bytes first second (piece.Token size l) tokens is behind read =
    let (others, here, whole) = followed_ok (token_at first l ∷ []) (tokens_from (next first b) (size - 1) bytes) tokens read in
    let rest = behind (size - 1) others here in
    record {
      again = token_at second l ∷ rest.again;
      read = ap (λ p. with_piece second (b ∷ bytes) p (λ size. tokens_from (next second b) (size - 1) bytes)) is ∙ ap (followed (token_at second l ∷ [])) rest.read;
      same = ap (λ t. l ∷ t) rest.same ∙ ap lexemes whole;
    }
piece_again b bytes first second (piece.Fault at kind) tokens is behind read = cc

anywhere : (bytes : List ℕ) (left : ℕ) (first second : Position) (tokens : List Token) → tokens_from first left bytes ≡ Ok tokens → Again bytes left second tokens
anywhere [] zero first second tokens read = record { again = []; read = refl; same = ap lexemes (let same : [] ≡ tokens = cc in same) }
anywhere [] (suc left) first second tokens read = record { again = []; read = refl; same = ap lexemes (let same : [] ≡ tokens = cc in same) }
anywhere (b ∷ bytes) (suc left) first second tokens read =
    let rest = anywhere bytes left (next first b) (next second b) tokens read in
    record { again = rest.again; read = rest.read; same = rest.same }
anywhere (b ∷ bytes) zero first second tokens read =
    piece_again b bytes first second (first_piece (b ∷ bytes)) tokens refl (λ l ts r. anywhere bytes l (next first b) (next second b) ts r) read

-- ---- the law

-- Where the first text ends with a line end, the lexemes of both are those of the first, and then those of the second.
pub lines_joined : (u more : List ℕ) (one two : List Lexeme) → Spells (u ++ 10 ∷ []) one → Spells more two → Spells (u ++ 10 ∷ more) (one ++ two)
unfolding reading
lines_joined u more one two first second =
    let rest = anywhere more 0 start (past start (u ++ 10 ∷ [])) second.tokens second.read in
    record {
      tokens = first.tokens ++ rest.again;
      read = lines_from u more 0 start first.tokens (omega arith) first.read ∙ ap (followed first.tokens) rest.read;
      same = map-append (λ t. t.lexeme) first.tokens rest.again ∙ (λ i. first.same i ++ (rest.same ∙ second.same) i);
    }
