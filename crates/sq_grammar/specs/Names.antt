-- Names of tables and columns, parameters and signed numbers (ISO/IEC 9075:1992, 5.3, 5.4, 6.2 and 6.4).
use Rattle.std.specs.Prelude.{Bool, true, false, Option, Some, None, [], ◌∷◌}
use Rattle.sq_lex.specs.declared.lexeme.Lexeme.{Lexeme}
use Rattle.sq_lex.specs.declared.lexeme.Lexeme.TheVariants as lexeme
use Rattle.sq_lex.specs.declared.symbol.Symbol.TheVariants as symbol
use Rattle.sq_lex.specs.declared.word.Word.TheVariants as word
use Rattle.sq_lex.specs.declared.name.Name.{Name}
use Rattle.sq_tree.specs.declared.list.CommaList.{CommaList}
use Rattle.sq_tree.specs.declared.names.TableName.{TableName}
use Rattle.sq_tree.specs.declared.names.ColumnReference.{ColumnReference}
use Rattle.sq_tree.specs.declared.names.Parameter.{Parameter}
use Rattle.sq_tree.specs.declared.names.Indicator.{Indicator}
use Rattle.sq_tree.specs.declared.expr.Sign.{Sign}
use Rattle.sq_tree.specs.declared.expr.Sign.TheVariants.{Plus, Minus}
use Rattle.sq_tree.specs.declared.expr.SignedNumber.{SignedNumber}
use Rattle.sq_grammar.specs.Reading.{Parser, ◌>>=◌, ◌>>◌, pure, eat_symbol, eat_word, expect_symbol, token_if_any, name, number, behind, comma_separated}

abbrev pub dot : Lexeme
dot = lexeme.Symbol symbol.Dot

-- [ "." name ]
abbrev pub name_behind_dot : Parser (Option Name)
name_behind_dot = behind dot name

abbrev pub qualified_table : Name → Option Name → TableName
qualified_table first None = record { schema = None; table = first }
qualified_table first (Some second) = record { schema = Some first; table = second }

-- table-name = name [ "." name ]
unfoldable pub table_name : Parser TableName
table_name = do
  first ← name
  second ← name_behind_dot
  pure (qualified_table first second)

abbrev pub column_of : Name → Name → Option Name → ColumnReference
column_of first second None = record { qualifier = Some (qualified_table first None); column = second }
column_of first second (Some third) = record {
  qualifier = Some (qualified_table first (Some second));
  column = third;
}

abbrev pub column_by : Name → Option Name → Parser ColumnReference
column_by first None = pure (record { qualifier = None; column = first })
column_by first (Some second) = do
  third ← name_behind_dot
  pure (column_of first second third)

-- column-ref = name [ "." name [ "." name ] ], whose first name is read already
unfoldable pub column_from : Name → Parser ColumnReference
column_from first = do
  second ← name_behind_dot
  column_by first second

unfoldable pub column_reference : Parser ColumnReference
column_reference = name >>= column_from

-- ":" name, whose colon is read already
abbrev pub some_indicator : Bool → Parser (Option Indicator)
some_indicator written = name >>= λ n. pure (Some (record { word = written; name = n }))

abbrev pub by_colon : Bool → Parser (Option Indicator)
by_colon true = some_indicator false
by_colon false = pure None

abbrev pub by_word : Bool → Parser (Option Indicator)
by_word true = expect_symbol symbol.Colon >> some_indicator true
by_word false = eat_symbol symbol.Colon >>= by_colon

-- [ [ INDICATOR ] ":" name ]
unfoldable pub indicator : Parser (Option Indicator)
indicator = eat_word word.Indicator >>= by_word

-- parameter = ":" name [ [ INDICATOR ] ":" name ], whose colon is read already
unfoldable pub parameter_from : Parser Parameter
parameter_from = do
  n ← name
  i ← indicator
  pure (record { name = n; indicator = i })

unfoldable pub parameter : Parser Parameter
parameter = expect_symbol symbol.Colon >> parameter_from

-- "+" | "-"
abbrev pub sign_if_any : Parser (Option Sign)
sign_if_any = token_if_any ((lexeme.Symbol symbol.Plus, Plus) ∷ (lexeme.Symbol symbol.Minus, Minus) ∷ [])

-- [ "+" | "-" ] number
unfoldable pub signed_number : Parser SignedNumber
signed_number = do
  sign ← sign_if_any
  n ← number
  pure (record { sign = sign; number = n })

-- columns = "(" name { "," name } ")", after the bracket, which is read already
unfoldable pub columns_from : Parser (CommaList Name)
columns_from = do
  columns ← comma_separated name
  expect_symbol symbol.Close
  pure columns

unfoldable pub columns : Parser (CommaList Name)
columns = expect_symbol symbol.Open >> columns_from

-- [ columns ]
unfoldable pub columns_if_any : Parser (Option (CommaList Name))
columns_if_any = behind (lexeme.Symbol symbol.Open) columns_from
