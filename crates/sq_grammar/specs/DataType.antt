-- Data types (ISO/IEC 9075:1992, 6.1).
use Rattle.std.specs.Prelude.{Bool, true, false, Option, Some, None}
use Rattle.sq_lex.specs.declared.lexeme.Lexeme.{Lexeme}
use Rattle.sq_lex.specs.declared.lexeme.Lexeme.TheVariants as lexeme
use Rattle.sq_lex.specs.declared.symbol.Symbol.TheVariants as symbol
use Rattle.sq_lex.specs.declared.word.Word.TheVariants as word
use Rattle.sq_lex.specs.declared.number.Number.{Number}
use Rattle.sq_tree.specs.declared.data_type.DataType.{DataType}
use Rattle.sq_tree.specs.declared.data_type.DataType.TheVariants.{Smallint, Integer, Int, Exact, Character, Varying}
use Rattle.sq_tree.specs.declared.data_type.ExactWord.TheVariants.{Numeric, Decimal, Dec}
use Rattle.sq_tree.specs.declared.data_type.CharacterWord.{CharacterWord}
use Rattle.sq_tree.specs.declared.data_type.CharacterWord.TheVariants as fixed
use Rattle.sq_tree.specs.declared.data_type.VaryingWord.{VaryingWord}
use Rattle.sq_tree.specs.declared.data_type.VaryingWord.TheVariants.{CharacterVarying, CharVarying, Varchar}
use Rattle.sq_tree.specs.declared.data_type.Precision.{Precision}
use Rattle.sq_grammar.specs.declared.type_word.TypeWord.{TypeWord}
use Rattle.sq_grammar.specs.declared.type_word.TypeWord.TheVariants as first
use Rattle.sq_grammar.specs.Reading.{Parser, ◌>>=◌, ◌>>◌, pure, stuck, eat_word, expect_symbol, one_if_any, number, behind, comma}

-- number [ "," number ] ")", after the bracket, which is read already
unfoldable pub precision_from : Parser Precision
precision_from = do
  precision ← number
  scale ← behind comma number
  expect_symbol symbol.Close
  pure (record { precision = precision; scale = scale })

-- [ "(" number [ "," number ] ")" ]
unfoldable pub precision : Parser (Option Precision)
precision = behind (lexeme.Symbol symbol.Open) precision_from

-- number ")", after the bracket, which is read already
unfoldable pub length_from : Parser Number
length_from = do
  n ← number
  expect_symbol symbol.Close
  pure n

-- "(" number ")"
unfoldable pub length_in : Parser Number
length_in = expect_symbol symbol.Open >> length_from

-- [ "(" number ")" ]
unfoldable pub length_if_any : Parser (Option Number)
length_if_any = behind (lexeme.Symbol symbol.Open) length_from

abbrev pub varying_of : CharacterWord → VaryingWord
varying_of fixed.Character = CharacterVarying
varying_of fixed.Char = CharVarying

abbrev pub by_varying : CharacterWord → Bool → Parser DataType
by_varying w true = length_in >>= λ n. pure (Varying (varying_of w) n)
by_varying w false = length_if_any >>= λ n. pure (Character w n)

-- [ VARYING ] and the length, after CHARACTER or CHAR
unfoldable pub character_type : CharacterWord → Parser DataType
character_type w = eat_word word.Varying >>= by_varying w

-- the word that a type begins with
abbrev pub type_word_of : Lexeme → Option TypeWord
type_word_of (lexeme.Word word.Smallint) = Some first.Smallint
type_word_of (lexeme.Word word.Integer) = Some first.Integer
type_word_of (lexeme.Word word.Int) = Some first.Int
type_word_of (lexeme.Word word.Numeric) = Some (first.Exact Numeric)
type_word_of (lexeme.Word word.Decimal) = Some (first.Exact Decimal)
type_word_of (lexeme.Word word.Dec) = Some (first.Exact Dec)
type_word_of (lexeme.Word word.Character) = Some (first.Character fixed.Character)
type_word_of (lexeme.Word word.Char) = Some (first.Character fixed.Char)
type_word_of (lexeme.Word word.Varchar) = Some first.Varchar
type_word_of _ = None

abbrev pub type_by : Option TypeWord → Parser DataType
type_by None = stuck
type_by (Some first.Smallint) = pure Smallint
type_by (Some first.Integer) = pure Integer
type_by (Some first.Int) = pure Int
type_by (Some (first.Exact w)) = precision >>= λ p. pure (Exact w p)
type_by (Some (first.Character w)) = character_type w
type_by (Some first.Varchar) = length_in >>= λ n. pure (Varying Varchar n)

-- type = SMALLINT | INTEGER | INT
--      | ( NUMERIC | DECIMAL | DEC ) [ "(" number [ "," number ] ")" ]
--      | ( CHARACTER | CHAR ) [ "(" number ")" ]
--      | ( CHARACTER VARYING | CHAR VARYING | VARCHAR ) "(" number ")"
unfoldable pub data_type : Parser DataType
data_type = one_if_any type_word_of >>= type_by
