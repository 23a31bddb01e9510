-- The spellings of lexemes (ISO/IEC 9075:1992, 5.2 and 5.3), each said of all its bytes at once.
use Rattle.std.specs.Prelude.{ℕ, ◌≡◌, ◌<◌, ◌≤◌, ◌⊎◌, ◌==◌, ◌||◌, true, List, [], ◌∷◌, ◌++◌, length, map, take, slice_index, codes, Some, None, if◌then◌else◌}
use Rattle.std.specs.Char.{to_ascii_uppercase}
use Rattle.std.specs.List.{list_all}
use Rattle.sq_lex.specs.Characters.{line_feed, quote, has, is_printable, is_white}
use Rattle.sq_lex.specs.Name.{IsWordSpelling}
use Rattle.sq_lex.specs.Number.{IsNumberSpelling}
use Rattle.sq_lex.specs.Piece.{begins_comment}
use Rattle.sq_lex.specs.Reserved.{reserved}
use Rattle.sq_lex.specs.declared.characters.Class.TheVariants as class
use Rattle.sq_lex.specs.declared.lexeme.Lexeme.{Lexeme}
use Rattle.sq_lex.specs.declared.lexeme.Lexeme.TheVariants as lexeme
use Rattle.sq_lex.specs.declared.piece.Piece.{Piece}
use Rattle.sq_lex.specs.declared.piece.Piece.TheVariants as piece
use Rattle.sq_lex.specs.declared.symbol.Symbol.{Symbol}
use Rattle.sq_lex.specs.declared.symbol.Symbol.TheVariants as symbol

-- characters with each quote doubled
abbrev pub doubled : List ℕ → List ℕ
doubled [] = []
doubled (c ∷ cs) = if c == quote then quote ∷ quote ∷ doubled cs else c ∷ doubled cs

-- a quote, the characters with each quote doubled, and a quote; at most 240 characters (own rule)
pub record IsTextSpelling (bytes characters : List ℕ) : Type 0 where
  pub spelled : bytes ≡ quote ∷ (doubled characters ++ quote ∷ [])
  pub each : list_all is_printable characters ≡ true
  pub short : length characters ≤ 240

abbrev pub symbol_codes : Symbol → List ℕ
symbol_codes symbol.Open = codes "("
symbol_codes symbol.Close = codes ")"
symbol_codes symbol.Comma = codes ","
symbol_codes symbol.Semicolon = codes ";"
symbol_codes symbol.Dot = codes "."
symbol_codes symbol.Colon = codes ":"
symbol_codes symbol.Star = codes "*"
symbol_codes symbol.Plus = codes "+"
symbol_codes symbol.Minus = codes "-"
symbol_codes symbol.Slash = codes "/"
symbol_codes symbol.Equal = codes "="
symbol_codes symbol.NotEqual = codes "<>"
symbol_codes symbol.Less = codes "<"
symbol_codes symbol.Greater = codes ">"
symbol_codes symbol.LessOrEqual = codes "<="
symbol_codes symbol.GreaterOrEqual = codes ">="

-- the rows of the table of tokens: a word is folded to upper case, and is a name if it is not reserved
abbrev pub IsSpelling : List ℕ → Lexeme → Type 0
IsSpelling bytes (lexeme.Word word) =
    IsWordSpelling bytes × (reserved (map to_ascii_uppercase bytes) ≡ Some word)
IsSpelling bytes (lexeme.Name name) =
    IsWordSpelling bytes × (name ≡ map to_ascii_uppercase bytes)
    × (reserved (map to_ascii_uppercase bytes) ≡ None)
IsSpelling bytes (lexeme.Number number) = (number ≡ bytes) × IsNumberSpelling bytes
IsSpelling bytes (lexeme.Text characters) = IsTextSpelling bytes characters
IsSpelling bytes (lexeme.Symbol s) = bytes ≡ symbol_codes s

-- the first `size` bytes spell the lexeme, and no more of them spell any
pub record IsLongest (bytes : List ℕ) (size : ℕ) (l : Lexeme) : Type 0 where
  pub spelled : IsSpelling (take size bytes) l
  pub longest : (n : ℕ) (m : Lexeme) → size < n → n ≤ length bytes → IsSpelling (take n bytes) m → ⊥

-- two minus signs and the characters of a comment, up to the end of the line or of the text
pub record IsComment (bytes : List ℕ) (size : ℕ) : Type 0 where
  pub begun : begins_comment bytes ≡ true
  pub each : list_all (has class.Comment) (take size bytes) ≡ true
  pub ended : (size == length bytes || slice_index bytes size == line_feed) ≡ true

-- the first `size` bytes are a separator: one of white space, or a comment
abbrev pub IsSeparator : List ℕ → ℕ → Type 0
IsSeparator bytes size = ((is_white (slice_index bytes 0) ≡ true) × (size ≡ 1)) ⊎ IsComment bytes size

-- A separator is one, and a token is the longest spelling there. Nothing is said of a fault. If a word, a number or a literal is too long,
-- or a letter comes directly after a number, fewer bytes may be a spelling. The text has no reading all the same.
abbrev pub IsSpelled : List ℕ → Piece → Type 0
IsSpelled bytes (piece.Separator size) = IsSeparator bytes size
IsSpelled bytes (piece.Token size l) = IsLongest bytes size l
IsSpelled bytes (piece.Fault at kind) = Unit {0}
