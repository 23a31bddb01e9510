-- The reading of a text: its bytes as a row of separators and tokens, each as long as possible. Or the first fault from the left.
use Rattle.std.specs.Prelude.{◌≡◌, ℕ, zero, suc, ◌-◌, List, [], ◌∷◌, ◌++◌, take, Result, Ok, Err}
use Rattle.sq_lex.specs.declared.fault.LexError.{LexError}
use Rattle.sq_lex.specs.declared.fault.LexError.TheVariants.{NoMemory, Fault}
use Rattle.sq_lex.specs.declared.fault.LexFault.{LexFault}
use Rattle.sq_lex.specs.declared.fault.LexFaultKind.{LexFaultKind}
use Rattle.sq_lex.specs.declared.lexeme.Lexeme.{Lexeme}
use Rattle.sq_lex.specs.declared.piece.Piece.{Piece}
use Rattle.sq_lex.specs.declared.piece.Piece.TheVariants as piece
use Rattle.sq_lex.specs.declared.position.Position.{Position}
use Rattle.sq_lex.specs.declared.token.Token.{Token}
use Rattle.sq_lex.specs.Piece.{first_piece}
use Rattle.sq_lex.specs.Position.{start, next, past}

-- a lexeme at a position
abbrev pub token_at : Position → Lexeme → Token
token_at position lexeme = record { lexeme = lexeme; start = position.byte }

abbrev pub fault_at : Position → LexFaultKind → LexFault
fault_at position kind = record { kind = kind; line = position.line; column = position.column }

-- tokens, and then the tokens of the rest
abbrev pub followed : List Token → Result (List Token) LexFault → Result (List Token) LexFault
followed tokens (Ok more) = Ok (tokens ++ more)
followed tokens (Err fault) = Err fault

-- the piece at the front of the bytes at a position, and then the tokens of the bytes after it
abbrev pub with_piece : Position → List ℕ → Piece → (ℕ → Result (List Token) LexFault)
    → Result (List Token) LexFault
with_piece position bytes (piece.Separator size) rest = rest size
with_piece position bytes (piece.Token size lexeme) rest =
    followed (token_at position lexeme ∷ []) (rest size)
with_piece position bytes (piece.Fault at kind) rest = Err (fault_at (past position (take at bytes)) kind)

-- the tokens of the bytes at a position, if the first `left` bytes still belong to the piece before
abbrev pub tokens_from : Position → ℕ → List ℕ → Result (List Token) LexFault
tokens_from position left [] = Ok []
tokens_from position (suc left) (b ∷ bytes) = tokens_from (next position b) left bytes
tokens_from position zero (b ∷ bytes) =
    with_piece position (b ∷ bytes) (first_piece (b ∷ bytes))
    (λ size. tokens_from (next position b) (size - 1) bytes)

-- the tokens of a text with their first bytes, or its first fault
unfoldable pub reading : List ℕ → Result (List Token) LexFault
reading text = tokens_from start 0 text

-- why a reading gave no tokens: its first fault, or that memory ran out
abbrev pub IsCause : Result (List Token) LexFault → LexError → Type 0
IsCause reading NoMemory = Unit {0}
IsCause reading (Fault fault) = reading ≡ Err fault
