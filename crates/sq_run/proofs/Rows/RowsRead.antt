-- A text is read as these tokens exactly where it is a row of them.
use Rattle.std.proofs.Common.{◌≡◌, ℕ, zero, suc, ◌+◌, ◌-◌, ◌<◌, ◌≤◌, ◌==◌, true, false, List, [], ◌∷◌, length, take, drop, Result, Ok, Err, refl, sym, ap, subst, ◌∙◌, arith, inl, inr}
use Rattle.std.proofs.lemmas.Bool.{and_parts, eqb-true}
use Rattle.std.proofs.lemmas.List.{length-drop, length-take-le}
use Rattle.std.proofs.lemmas.List.Sums.{prefix_len-le-length}
use Rattle.std.specs.Prelude.{slice_index}
use Rattle.sq_lex.specs.Characters.{has, is_white, minus}
use Rattle.sq_lex.specs.Piece.{first_piece}
use Rattle.sq_lex.specs.Position.{next, past, start}
use Rattle.sq_lex.specs.Reading.{fault_at, followed, reading, token_at, tokens_from, with_piece}
use Rattle.sq_lex.specs.Spelling.{IsSeparator}
use Rattle.sq_lex.specs.declared.characters.Class.TheVariants as class
use Rattle.sq_lex.specs.declared.fault.LexFault.{LexFault}
use Rattle.sq_lex.specs.declared.lexeme.Lexeme.{Lexeme}
use Rattle.sq_lex.specs.declared.piece.Piece.{Piece}
use Rattle.sq_lex.specs.declared.piece.Piece.TheVariants as piece
use Rattle.sq_lex.specs.declared.position.Position.{Position}
use Rattle.sq_lex.specs.declared.token.Token.{Token}
use Rattle.sq_run.specs.TextRow.{IsRowFrom, IsRowOfTokens, IsToken, ReadingsAreRows, nothing, separator, token}
use Rattle.sq_run.proofs.Rows.Pieces.{IsPiece, piece_found}
use Rattle.sq_run.proofs.Rows.Ruled.{comment_size, separator_found, some_bytes, token_found}
use Rattle.sq_run.proofs.Rows.Runs.{begun, head}

-- ---- positions

past_byte : (position : Position) (bytes : List ℕ) → (past position bytes).byte ≡ position.byte + length bytes
past_byte position [] = omega arith
past_byte position (b ∷ bytes) = omega (arith, past_byte (next position b) bytes)

behind_byte : (position : Position) (size : ℕ) (bytes : List ℕ) → size ≤ length bytes → (past position (take size bytes)).byte ≡ position.byte + size
behind_byte position size bytes within = omega (arith, past_byte position (take size bytes), length-take-le size bytes within)

-- after the bytes of a piece the reading goes on at the next position
gone_on : (position : Position) (n : ℕ) (bytes : List ℕ) → tokens_from position n bytes ≡ tokens_from (past position (take n bytes)) 0 (drop n bytes)
gone_on position zero bytes = refl
gone_on position (suc n) [] = refl
gone_on position (suc n) (b ∷ bytes) = gone_on (next position b) n bytes

behind : (position : Position) (size b : ℕ) (bytes : List ℕ) → 0 < size → tokens_from (next position b) (size - 1) bytes ≡ tokens_from (past position (take size (b ∷ bytes))) 0 (drop size (b ∷ bytes))
behind position zero b bytes some = absurd (omega arith)
behind position (suc n) b bytes some = let less : suc n - 1 ≡ n = omega arith in ap (λ k. tokens_from (next position b) k bytes) less ∙ gone_on (next position b) n bytes

-- a reading by its first piece
by_piece : (position : Position) (b : ℕ) (bytes : List ℕ) (p : Piece) → first_piece (b ∷ bytes) ≡ p → tokens_from position 0 (b ∷ bytes) ≡ with_piece position (b ∷ bytes) p (λ n. tokens_from (next position b) (n - 1) bytes)
by_piece position b bytes p is = ap (λ q. with_piece position (b ∷ bytes) q (λ n. tokens_from (next position b) (n - 1) bytes)) is

-- ---- a separator takes some of the bytes

pub record Takes (bytes : List ℕ) (size : ℕ) : Type 0 where
  pub some : 0 < size
  pub within : size ≤ length bytes

separator_takes : (bytes : List ℕ) (size : ℕ) → IsSeparator bytes size → Takes bytes size
separator_takes bytes size (inl white) = record { some = omega (arith, white.1); within = omega (arith, white.1, filled bytes white.0) }
  where
    filled : (bytes : List ℕ) → is_white (head bytes) ≡ true → 0 < length bytes
    filled [] h = absurd (true_false (sym h))
      where
        true_false : true ≡ false → ⊥
        true_false e = cc
    filled (b ∷ bytes) h = omega arith
separator_takes bytes size (inr c) =
    let first : has class.Comment (head bytes) ≡ true = ap (has class.Comment) (eqb-true (head bytes) minus (and_parts (head bytes == minus) (slice_index bytes 1 == minus) c.begun).0) in
    record { some = omega (arith, comment_size bytes size c, begun (has class.Comment) bytes refl first); within = omega (arith, comment_size bytes size c, prefix_len-le-length (has class.Comment) bytes) }

-- ---- a row is read

separator_read : (position : Position) (bytes : List ℕ) (size : ℕ) → IsSeparator bytes size → tokens_from position 0 bytes ≡ tokens_from (past position (take size bytes)) 0 (drop size bytes)
separator_read position [] size is = let t = separator_takes [] size is in absurd (omega (arith, t.some, t.within))
separator_read position (b ∷ bytes) size is = by_piece position b bytes (piece.Separator size) (separator_found (b ∷ bytes) size is) ∙ behind position size b bytes (separator_takes (b ∷ bytes) size is).some

token_read : (position : Position) (bytes : List ℕ) (size : ℕ) (l : Lexeme) → IsToken bytes size l → tokens_from position 0 bytes ≡ followed (token_at position l ∷ []) (tokens_from (past position (take size bytes)) 0 (drop size bytes))
token_read position [] size l t = absurd (omega (arith, t.within, some_bytes [] size l t.spelled))
token_read position (b ∷ bytes) size l t =
    by_piece position b bytes (piece.Token size l) (token_found (b ∷ bytes) size l t) ∙ ap (followed (token_at position l ∷ [])) (behind position size b bytes (some_bytes (b ∷ bytes) size l t.spelled))

row_read : (at : ℕ) (bytes : List ℕ) (tokens : List Token) → IsRowFrom at bytes tokens → (position : Position) → position.byte ≡ at → tokens_from position 0 bytes ≡ Ok tokens
row_read at bytes tokens (nothing n) position here = refl
row_read at bytes tokens (separator n size bs ts is more) position here =
    let t = separator_takes bs size is in
    separator_read position bs size is ∙ row_read (n + size) (drop size bs) ts more (past position (take size bs)) (omega (arith, here, behind_byte position size bs t.within))
row_read at bytes tokens (token n size bs l ts is more) position here =
    token_read position bs size l is
    ∙ ap (followed (token_at position l ∷ [])) (row_read (n + size) (drop size bs) ts more (past position (take size bs)) (omega (arith, here, behind_byte position size bs is.within)))
    ∙ ap (λ k. Ok (record { lexeme = l; start = k } ∷ ts)) here

-- ---- what is read is a row

tokens_are : (ts us : List Token) → (let r : Result (List Token) LexFault = Ok ts in let s : Result (List Token) LexFault = Ok us in r ≡ s) → ts ≡ us
tokens_are ts us e = cc

-- how what follows a token was read
pub record Follows (t : Token) (rest : Result (List Token) LexFault) (tokens : List Token) : Type 0 where
  pub others : List Token
  pub read : rest ≡ Ok others
  pub all : t ∷ others ≡ tokens

follows : (t : Token) (rest : Result (List Token) LexFault) (tokens : List Token) → followed (t ∷ []) rest ≡ Ok tokens → Follows t rest tokens
follows t (Ok more) tokens e = record { others = more; read = refl; all = tokens_are (t ∷ more) tokens e }
follows t (Err fault) tokens e = cc

read_row : (n : ℕ) (bytes : List ℕ) → length bytes < n → (position : Position) (tokens : List Token) → tokens_from position 0 bytes ≡ Ok tokens → IsRowFrom position.byte bytes tokens
read_row zero bytes less position tokens e = absurd (omega arith)
read_row (suc n) [] less position tokens e = subst (IsRowFrom position.byte []) (tokens_are [] tokens e) (nothing position.byte)
read_row (suc n) (b ∷ bytes) less position tokens e = by (first_piece (b ∷ bytes)) refl (piece_found (b ∷ bytes)) (λ us i. read_row n us (omega (arith, i)))
  where
    fewer : (size : ℕ) → 0 < size → size ≤ length (b ∷ bytes) → length (drop size (b ∷ bytes)) < length (b ∷ bytes)
    fewer size some within = omega (arith, length-drop size (b ∷ bytes))

    by : (p : Piece) → first_piece (b ∷ bytes) ≡ p → IsPiece (b ∷ bytes) p → ((us : List ℕ) → length us < length (b ∷ bytes) → (p : Position) (ts : List Token) → tokens_from p 0 us ≡ Ok ts → IsRowFrom p.byte us ts) → IsRowFrom position.byte (b ∷ bytes) tokens
    by (piece.Separator size) is ruled others =
        let t = separator_takes (b ∷ bytes) size ruled in
        let rest = others (drop size (b ∷ bytes)) (fewer size t.some t.within) (past position (take size (b ∷ bytes))) tokens (sym (separator_read position (b ∷ bytes) size ruled) ∙ e) in
        separator position.byte size (b ∷ bytes) tokens ruled (subst (λ k. IsRowFrom k (drop size (b ∷ bytes)) tokens) (behind_byte position size (b ∷ bytes) t.within) rest)
    by (piece.Token size l) is ruled others =
        let some = some_bytes (b ∷ bytes) size l ruled.spelled in
        let f = follows (token_at position l) _ tokens (sym (token_read position (b ∷ bytes) size l ruled) ∙ e) in
        let rest = others (drop size (b ∷ bytes)) (fewer size some ruled.within) (past position (take size (b ∷ bytes))) f.others f.read in
        subst (IsRowFrom position.byte (b ∷ bytes)) f.all
        (token position.byte size (b ∷ bytes) l f.others ruled (subst (λ k. IsRowFrom k (drop size (b ∷ bytes)) f.others) (behind_byte position size (b ∷ bytes) ruled.within) rest))
    by (piece.Fault at kind) is ruled others = absurd (never (sym (by_piece position b bytes (piece.Fault at kind) is) ∙ e))
      where
        never : Err (fault_at (past position (take at (b ∷ bytes))) kind) ≡ Ok tokens → ⊥
        never i = cc

-- The laws, of any text: its reading gives these tokens exactly where it is a row of them.
pub row_is_read : (text : List ℕ) (tokens : List Token) → IsRowOfTokens text tokens → reading text ≡ Ok tokens
unfolding reading
row_is_read text tokens row = row_read 0 text tokens row start refl

pub read_is_row : (text : List ℕ) (tokens : List Token) → reading text ≡ Ok tokens → IsRowOfTokens text tokens
unfolding reading
read_is_row text tokens read = read_row (suc (length text)) text (omega arith) start tokens read

-- no text is two rows
pub one_row : (text : List ℕ) (tokens others : List Token) → IsRowOfTokens text tokens → IsRowOfTokens text others → tokens ≡ others
one_row text tokens others a b = tokens_are tokens others (sym (row_is_read text tokens a) ∙ row_is_read text others b)

pub readings_are_rows : ReadingsAreRows
unfolding ReadingsAreRows
readings_are_rows text tokens = (read_is_row text tokens, row_is_read text tokens)
