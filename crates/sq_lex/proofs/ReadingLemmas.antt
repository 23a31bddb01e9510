-- A reading, piece by piece.
use Rattle.std.proofs.Common.{◌≡◌, ℕ, zero, suc, ◌-◌, ◌<◌, List, [], ◌∷◌, ◌++◌, length, take, drop, refl, ap, sym, subst, ◌∙◌, arith, append_assoc, Result, Ok, Err}
use Rattle.sq_lex.specs.declared.fault.LexError.{LexError}
use Rattle.sq_lex.specs.declared.fault.LexError.TheVariants.{NoMemory, Fault}
use Rattle.sq_lex.specs.declared.fault.LexFault.{LexFault}
use Rattle.sq_lex.specs.declared.fault.LexFaultKind.{LexFaultKind}
use Rattle.sq_lex.specs.declared.lexeme.Lexeme.{Lexeme}
use Rattle.sq_lex.specs.declared.piece.Piece.{Piece}
use Rattle.sq_lex.specs.declared.piece.Piece.TheVariants as piece
use Rattle.sq_lex.specs.declared.position.Position.{Position}
use Rattle.sq_lex.specs.declared.token.Token.{Token}
use Rattle.sq_lex.specs.Piece.{first_piece, IsWithin}
use Rattle.sq_lex.specs.Position.{next, past}
use Rattle.sq_lex.specs.Reading.{followed, token_at, fault_at, with_piece, tokens_from, IsCause}

pub followed-nil : (rest : Result (List Token) LexFault) → followed [] rest ≡ rest
followed-nil (Ok more) = refl
followed-nil (Err fault) = refl

followed_more : (tokens : List Token) (token : Token) (rest : Result (List Token) LexFault) → followed (tokens ++ token ∷ []) rest ≡ followed tokens (followed (token ∷ []) rest)
followed_more tokens token (Ok more) = ap Ok (append_assoc tokens (token ∷ []) more)
followed_more tokens token (Err fault) = refl

-- a token that was read joins those before it
pub followed_push : (old new : List Token) (token : Token) (whole rest : Result (List Token) LexFault) → new ≡ old ++ token ∷ [] → whole ≡ followed (token ∷ []) rest → followed new rest ≡ followed old whole
followed_push old new token whole rest pushed read = ap (λ tokens. followed tokens rest) pushed ∙ followed_more old token rest ∙ ap (followed old) (sym read)

-- a fault of what is left is the whole's
pub IsCause-followed : (tokens : List Token) (rest whole : Result (List Token) LexFault) (error : LexError) → followed tokens rest ≡ whole → IsCause rest error → IsCause whole error
IsCause-followed tokens rest whole NoMemory joined cause = tt {0}
IsCause-followed tokens rest whole (Fault fault) joined cause = sym joined ∙ ap (followed tokens) cause

-- after the bytes of a piece the reading goes on at the next position
tokens_from-drop : (position : Position) (n : ℕ) (bytes : List ℕ) → tokens_from position n bytes ≡ tokens_from (past position (take n bytes)) 0 (drop n bytes)
tokens_from-drop position zero bytes = refl
tokens_from-drop position (suc n) [] = refl
tokens_from-drop position (suc n) (b ∷ bytes) = tokens_from-drop (next position b) n bytes

-- after the bytes of a piece whose first byte is b the reading goes on at the next position
rest_of_piece : (position : Position) (size b : ℕ) (bytes : List ℕ) → 0 < size → tokens_from (next position b) (size - 1) bytes ≡ tokens_from (past position (take size (b ∷ bytes))) 0 (drop size (b ∷ bytes))
rest_of_piece position zero b bytes some = absurd (omega arith)
rest_of_piece position (suc n) b bytes some =
    let less : suc n - 1 ≡ n = omega arith in
    ap (λ k. tokens_from (next position b) k bytes) less ∙ tokens_from-drop (next position b) n bytes

-- a reading by its first piece
module _ (position : Position) where
  with_first : (b : ℕ) (bytes : List ℕ) (p : Piece) → first_piece (b ∷ bytes) ≡ p → tokens_from position 0 (b ∷ bytes) ≡ with_piece position (b ∷ bytes) p (λ n. tokens_from (next position b) (n - 1) bytes)
  with_first b bytes p is = ap (λ q. with_piece position (b ∷ bytes) q (λ n. tokens_from (next position b) (n - 1) bytes)) is

  pub tokens_from-separator : (bytes : List ℕ) (p : Piece) (size : ℕ) → 0 < length bytes → p ≡ first_piece bytes → p ≡ piece.Separator size → IsWithin (length bytes) p → tokens_from position 0 bytes ≡ tokens_from (past position (take size bytes)) 0 (drop size bytes)
  tokens_from-separator [] p size some first is within = absurd (omega arith)
  tokens_from-separator (b ∷ bytes) p size some first is within =
      with_first b bytes _ (sym first ∙ is) ∙ rest_of_piece position size b bytes (subst (IsWithin (length (b ∷ bytes))) is within).0

  pub tokens_from-token : (bytes : List ℕ) (p : Piece) (size : ℕ) (lexeme : Lexeme) → 0 < length bytes → p ≡ first_piece bytes → p ≡ piece.Token size lexeme → IsWithin (length bytes) p → tokens_from position 0 bytes ≡ followed (token_at position lexeme ∷ []) (tokens_from (past position (take size bytes)) 0 (drop size bytes))
  tokens_from-token [] p size lexeme some first is within = absurd (omega arith)
  tokens_from-token (b ∷ bytes) p size lexeme some first is within =
      with_first b bytes _ (sym first ∙ is) ∙ ap (followed (token_at position lexeme ∷ [])) (rest_of_piece position size b bytes (subst (IsWithin (length (b ∷ bytes))) is within).0)

  pub tokens_from-fault : (bytes : List ℕ) (p : Piece) (at : ℕ) (kind : LexFaultKind) → 0 < length bytes → p ≡ first_piece bytes → p ≡ piece.Fault at kind → tokens_from position 0 bytes ≡ Err (fault_at (past position (take at bytes)) kind)
  tokens_from-fault [] p at kind some first is = absurd (omega arith)
  tokens_from-fault (b ∷ bytes) p at kind some first is = with_first b bytes _ (sym first ∙ is)
