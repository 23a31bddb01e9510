-- The rule of a text's tokens (ISO/IEC 9075:1992, 5.2 <token> and <separator>): a text is a row of separators and tokens, none of which
-- could be longer. Limits of length are no part of a spelling.
use Rattle.std.specs.Prelude.{ℕ, ◌≡◌, ◌+◌, ◌<◌, ◌≤◌, ◌⊎◌, ◌==◌, true, false, List, [], ◌∷◌, ◌++◌, length, map, take, drop, slice_index, count_by, Some, None, Ok, ⊤}
use Rattle.std.specs.Char.{is_ascii_alphabetic, to_ascii_uppercase}
use Rattle.std.specs.List.{list_all}
use Rattle.sq_lex.specs.Characters.{point, quote, has, is_printable}
use Rattle.sq_lex.specs.Piece.{begins_comment}
use Rattle.sq_lex.specs.Reading.{reading}
use Rattle.sq_lex.specs.Reserved.{reserved}
use Rattle.sq_lex.specs.Spelling.{IsSeparator, doubled, symbol_codes}
use Rattle.sq_lex.specs.declared.characters.Class.TheVariants as class
use Rattle.sq_lex.specs.declared.lexeme.Lexeme.{Lexeme}
use Rattle.sq_lex.specs.declared.lexeme.Lexeme.TheVariants as lexeme
use Rattle.sq_lex.specs.declared.token.Token.{Token}

-- ---- spellings

-- a letter, then letters, digits and `_`
pub record IsWord (bytes : List ℕ) : Type 0 where
  pub letter : is_ascii_alphabetic (slice_index bytes 0) ≡ true
  pub each : list_all (has class.Word) bytes ≡ true

-- digits with at most one point among, before or after them
pub record IsNumeral (bytes : List ℕ) : Type 0 where
  pub whole : List ℕ
  pub fraction : List ℕ
  pub spelled : (bytes ≡ whole ++ point ∷ fraction) ⊎ ((bytes ≡ whole) × (fraction ≡ []))
  pub whole_digits : list_all (has class.Digit) whole ≡ true
  pub fraction_digits : list_all (has class.Digit) fraction ≡ true
  pub some : 0 < length whole + length fraction

-- a quote, characters with each quote doubled, and a quote
pub record IsQuoted (bytes characters : List ℕ) : Type 0 where
  pub spelled : bytes ≡ quote ∷ (doubled characters ++ quote ∷ [])
  pub each : list_all is_printable characters ≡ true

-- the bytes spell the lexeme: a word is folded to upper case, and is a name where it is not reserved
abbrev pub IsLexeme : List ℕ → Lexeme → Type 0
IsLexeme bytes (lexeme.Word word) = IsWord bytes × (reserved (map to_ascii_uppercase bytes) ≡ Some word)
IsLexeme bytes (lexeme.Name name) =
    IsWord bytes × (name ≡ map to_ascii_uppercase bytes) × (reserved (map to_ascii_uppercase bytes) ≡ None)
IsLexeme bytes (lexeme.Number number) = (number ≡ bytes) × IsNumeral bytes
IsLexeme bytes (lexeme.Text characters) = IsQuoted bytes characters
IsLexeme bytes (lexeme.Symbol s) = bytes ≡ symbol_codes s

-- ---- limits (own rules)

-- a word has 18 characters at most, a number 18 digits, a text 240 characters
abbrev pub IsShort : List ℕ → Lexeme → Type 0
IsShort bytes (lexeme.Word _) = length bytes ≤ 18
IsShort bytes (lexeme.Name _) = length bytes ≤ 18
IsShort bytes (lexeme.Number _) = count_by (has class.Digit) bytes ≤ 18
IsShort bytes (lexeme.Text characters) = length characters ≤ 240
IsShort bytes (lexeme.Symbol _) = ⊤

-- no letter stands directly behind a number, and no quote behind a text, of which it would be a character
abbrev pub IsApart : ℕ → Lexeme → Type 0
IsApart behind (lexeme.Number _) = is_ascii_alphabetic behind ≡ false
IsApart behind (lexeme.Text _) = (behind == quote) ≡ false
IsApart behind _ = ⊤

-- ---- a row

-- The first `size` bytes are this token: they spell it, no more of them spell any, and no comment begins there.
pub record IsToken (bytes : List ℕ) (size : ℕ) (l : Lexeme) : Type 0 where
  pub no_comment : begins_comment bytes ≡ false
  pub within : size ≤ length bytes
  pub spelled : IsLexeme (take size bytes) l
  pub longest : (n : ℕ) (m : Lexeme) → size < n → n ≤ length bytes → IsLexeme (take n bytes) m → ⊥
  pub short : IsShort (take size bytes) l
  pub apart : IsApart (slice_index bytes size) l

-- bytes, of which the first is the text's byte of this number, are separators and these tokens
pub data IsRowFrom : ℕ → List ℕ → List Token → Type 0 where
  nothing : (at : ℕ) → IsRowFrom at [] []
  separator : (at size : ℕ) (bytes : List ℕ) (tokens : List Token) → IsSeparator bytes size
      → IsRowFrom (at + size) (drop size bytes) tokens → IsRowFrom at bytes tokens
  token : (at size : ℕ) (bytes : List ℕ) (l : Lexeme) (tokens : List Token) → IsToken bytes size l
      → IsRowFrom (at + size) (drop size bytes) tokens
      → IsRowFrom at bytes (record { lexeme = l; start = at } ∷ tokens)

-- the text is separators and these tokens
abbrev pub IsRowOfTokens : List ℕ → List Token → Type 0
IsRowOfTokens text tokens = IsRowFrom 0 text tokens

-- the reading of a text gives these tokens exactly where the text is a row of them
unfoldable pub ReadingsAreRows : Type 0
ReadingsAreRows =
    (text : List ℕ) (tokens : List Token)
    → (reading text ≡ Ok tokens → IsRowOfTokens text tokens)
    × (IsRowOfTokens text tokens → reading text ≡ Ok tokens)
