-- Data types (ISO/IEC 9075:1992, 6.1): their tokens.
use Rattle.std.specs.Prelude.{[], ◌∷◌, ◌++◌}
use Rattle.sq_lex.specs.declared.lexeme.Lexeme.TheVariants as lexeme
use Rattle.sq_lex.specs.declared.symbol.Symbol.TheVariants as symbol
use Rattle.sq_lex.specs.declared.word.Word.TheVariants as word
use Rattle.sq_lex.specs.declared.number.Number.{Number}
use Rattle.sq_tree.specs.Tree.{Tokens, optional, bracketed}
use Rattle.sq_tree.specs.declared.data_type.DataType.{DataType}
use Rattle.sq_tree.specs.declared.data_type.DataType.TheVariants.{Smallint, Integer, Int, Exact, Character, Varying}
use Rattle.sq_tree.specs.declared.data_type.ExactWord.{ExactWord}
use Rattle.sq_tree.specs.declared.data_type.ExactWord.TheVariants.{Numeric, Decimal, Dec}
use Rattle.sq_tree.specs.declared.data_type.CharacterWord.{CharacterWord}
use Rattle.sq_tree.specs.declared.data_type.CharacterWord.TheVariants as fixed
use Rattle.sq_tree.specs.declared.data_type.VaryingWord.{VaryingWord}
use Rattle.sq_tree.specs.declared.data_type.VaryingWord.TheVariants.{CharacterVarying, CharVarying, Varchar}
use Rattle.sq_tree.specs.declared.data_type.Precision.{Precision}

-- NUMERIC | DECIMAL | DEC
abbrev pub exact_word_tokens : ExactWord → Tokens
exact_word_tokens Numeric = lexeme.Word word.Numeric ∷ []
exact_word_tokens Decimal = lexeme.Word word.Decimal ∷ []
exact_word_tokens Dec = lexeme.Word word.Dec ∷ []

-- CHARACTER | CHAR
abbrev pub character_word_tokens : CharacterWord → Tokens
character_word_tokens fixed.Character = lexeme.Word word.Character ∷ []
character_word_tokens fixed.Char = lexeme.Word word.Char ∷ []

-- CHARACTER VARYING | CHAR VARYING | VARCHAR
abbrev pub varying_word_tokens : VaryingWord → Tokens
varying_word_tokens CharacterVarying = lexeme.Word word.Character ∷ lexeme.Word word.Varying ∷ []
varying_word_tokens CharVarying = lexeme.Word word.Char ∷ lexeme.Word word.Varying ∷ []
varying_word_tokens Varchar = lexeme.Word word.Varchar ∷ []

-- "," number
abbrev pub scale_tokens : Number → Tokens
scale_tokens scale = lexeme.Symbol symbol.Comma ∷ lexeme.Number scale ∷ []

-- "(" number [ "," number ] ")"
abbrev pub precision_tokens : Precision → Tokens
precision_tokens p = bracketed (lexeme.Number p.precision ∷ optional scale_tokens p.scale)

-- "(" number ")"
abbrev pub length_tokens : Number → Tokens
length_tokens length = bracketed (lexeme.Number length ∷ [])

-- type = SMALLINT | INTEGER | INT
--      | ( NUMERIC | DECIMAL | DEC ) [ "(" number [ "," number ] ")" ]
--      | ( CHARACTER | CHAR ) [ "(" number ")" ]
--      | ( CHARACTER VARYING | CHAR VARYING | VARCHAR ) "(" number ")"
abbrev pub data_type_tokens : DataType → Tokens
data_type_tokens Smallint = lexeme.Word word.Smallint ∷ []
data_type_tokens Integer = lexeme.Word word.Integer ∷ []
data_type_tokens Int = lexeme.Word word.Int ∷ []
data_type_tokens (Exact name precision) = exact_word_tokens name ++ optional precision_tokens precision
data_type_tokens (Character name length) = character_word_tokens name ++ optional length_tokens length
data_type_tokens (Varying name length) = varying_word_tokens name ++ length_tokens length
