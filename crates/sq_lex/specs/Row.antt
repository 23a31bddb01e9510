-- A text as a row of separators and tokens (ISO/IEC 9075:1992, 5.2 <token> and <separator>).
use Rattle.std.specs.Prelude.{ℕ, ◌≡◌, ◌+◌, List, [], ◌∷◌, ◌++◌, drop}
use Rattle.sq_lex.specs.declared.token.Token.{Token}
use Rattle.sq_lex.specs.Spelling.{IsLongest, IsSeparator}

-- the first bytes of a text, up to the given one, are separators and these tokens, each the longest spelling from its start
pub data IsRow (text : List ℕ) : ℕ → List Token → Type 0 where
  nothing : IsRow text 0 []
  separator : (at size : ℕ) (tokens : List Token) → IsRow text at tokens → IsSeparator (drop at text) size
      → IsRow text (at + size) tokens
  token : (at size : ℕ) (tokens : List Token) (t : Token) → IsRow text at tokens
      → IsLongest (drop at text) size t.lexeme → t.start ≡ at → IsRow text (at + size) (tokens ++ t ∷ [])
