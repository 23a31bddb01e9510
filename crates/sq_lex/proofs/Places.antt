-- A reading from a byte on: the position there, and the tokens read after a piece.
use Rattle.std.proofs.Common.{◌≡◌, ℕ, ◌+◌, ◌-◌, ◌<◌, ◌≤◌, List, [], ◌∷◌, ◌++◌, length, take, drop, refl, ap, sym, ◌∙◌, arith, length-drop, length-take-le, zero-add, Result, Err}
use Rattle.std.proofs.lemmas.List.{drop-drop}
use Rattle.std.proofs.Math.Seq.{take-add}
use Rattle.sq_lex.specs.declared.fault.LexFault.{LexFault}
use Rattle.sq_lex.specs.declared.fault.LexFaultKind.{LexFaultKind}
use Rattle.sq_lex.specs.declared.lexeme.Lexeme.{Lexeme}
use Rattle.sq_lex.specs.declared.piece.Piece.{Piece}
use Rattle.sq_lex.specs.declared.piece.Piece.TheVariants as piece
use Rattle.sq_lex.specs.declared.position.Position.{Position}
use Rattle.sq_lex.specs.declared.token.Token.{Token}
use Rattle.sq_lex.specs.Piece.{first_piece, IsWithin}
use Rattle.sq_lex.specs.Position.{start, next, past, position}
use Rattle.sq_lex.specs.Reading.{followed, token_at, fault_at, tokens_from}
use Rattle.sq_lex.proofs.LiteralLemmas.{take-all}
use Rattle.sq_lex.proofs.ReadingLemmas.{tokens_from-separator, tokens_from-token, tokens_from-fault}

past-append : (p : Position) (xs ys : List ℕ) → past p (xs ++ ys) ≡ past (past p xs) ys
past-append p [] ys = refl
past-append p (x ∷ xs) ys = past-append (next p x) xs ys

past-byte : (p : Position) (xs : List ℕ) → (past p xs).byte ≡ p.byte + length xs
past-byte p [] = omega arith
past-byte p (x ∷ xs) = let later = past-byte (next p x) xs in omega (arith, later)

-- the position behind further bytes
pub position-further : (text : List ℕ) (at size : ℕ) → past (position text at) (take size (drop at text)) ≡ position text (at + size)
position-further text at size = sym (ap (past start) (take-add at size text) ∙ past-append start (take at text) (take size (drop at text)))

pub position-byte : (text : List ℕ) (at : ℕ) → at ≤ length text → (position text at).byte ≡ at
position-byte text at within =
    let some = length-take-le at text within in
    past-byte start (take at text) ∙ zero-add (length (take at text)) ∙ some

-- what the code lends as the rest of a text
pub lent : (text : List ℕ) (at : ℕ) → take (length text - at) (drop at text) ≡ drop at text
lent text at = take-all (length text - at) (drop at text) (let n = length-drop at text in omega (arith, n))

-- the reading of a text from a byte on
abbrev pub from : List ℕ → ℕ → Result (List Token) LexFault
from text at = tokens_from (position text at) 0 (drop at text)

from-further : (text : List ℕ) (at size : ℕ) → tokens_from (past (position text at) (take size (drop at text))) 0 (drop size (drop at text)) ≡ from text (at + size)
from-further text at size =
    ap (λ p. tokens_from p 0 (drop size (drop at text))) (position-further text at size) ∙ ap (tokens_from (position text (at + size)) 0) (drop-drop size at text)

module _ (text : List ℕ) (at : ℕ) (here : at < length text) (bytes : List ℕ) (lends : bytes ≡ drop at text) where
  some : 0 < length bytes
  some = let n = length-drop at text in let same = ap length lends in omega (arith, n, same, here)

  from-lent : from text at ≡ tokens_from (position text at) 0 bytes
  from-lent = ap (tokens_from (position text at) 0) (sym lends)

  further-lent : (size : ℕ) → tokens_from (past (position text at) (take size bytes)) 0 (drop size bytes) ≡ from text (at + size)
  further-lent size = ap (λ bs. tokens_from (past (position text at) (take size bs)) 0 (drop size bs)) lends ∙ from-further text at size

  pub from-separator : (p : Piece) (size : ℕ) → p ≡ first_piece bytes → p ≡ piece.Separator size → IsWithin (length bytes) p → from text at ≡ from text (at + size)
  from-separator p size first is within = from-lent ∙ tokens_from-separator (position text at) bytes p size some first is within ∙ further-lent size

  pub from-token : (p : Piece) (size : ℕ) (lexeme : Lexeme) → p ≡ first_piece bytes → p ≡ piece.Token size lexeme → IsWithin (length bytes) p → from text at ≡ followed (record { lexeme = lexeme; start = at } ∷ []) (from text (at + size))
  from-token p size lexeme first is within =
      from-lent
      ∙ tokens_from-token (position text at) bytes p size lexeme some first is within
      ∙ ap (followed (token_at (position text at) lexeme ∷ [])) (further-lent size)
      ∙ ap (λ n. followed (record { lexeme = lexeme; start = n } ∷ []) (from text (at + size))) (position-byte text at (omega (arith, here)))

  pub from-fault : (p : Piece) (before : ℕ) (kind : LexFaultKind) → p ≡ first_piece bytes → p ≡ piece.Fault before kind → from text at ≡ Err (fault_at (position text (at + before)) kind)
  from-fault p before kind first is =
      from-lent ∙ tokens_from-fault (position text at) bytes p before kind some first is
      ∙ ap (λ bs. Err (fault_at (past (position text at) (take before bs)) kind)) lends
      ∙ ap (λ q. Err (fault_at q kind)) (position-further text at before)
