-- Module texts (ISO/IEC 9075:1992, 12.1, 12.3 and 13.1).
use Rattle.std.specs.Prelude.{ℕ, Bool, true, false, [], ◌∷◌, Option, Some, None}
use Rattle.sq_lex.specs.declared.lexeme.Lexeme.TheVariants as lexeme
use Rattle.sq_lex.specs.declared.symbol.Symbol.TheVariants as symbol
use Rattle.sq_lex.specs.declared.word.Word.TheVariants as word
use Rattle.sq_lex.specs.declared.number.Number.{Number}
use Rattle.sq_tree.specs.declared.list.CommaList.{CommaList}
use Rattle.sq_tree.specs.declared.module.ModuleText.{ModuleText}
use Rattle.sq_tree.specs.declared.module.ModuleItem.{ModuleItem}
use Rattle.sq_tree.specs.declared.module.ModuleItem.TheVariants as items
use Rattle.sq_tree.specs.declared.module.Cursor.{Cursor}
use Rattle.sq_tree.specs.declared.module.SortSpecification.{SortSpecification}
use Rattle.sq_tree.specs.declared.module.SortKey.{SortKey}
use Rattle.sq_tree.specs.declared.module.SortKey.TheVariants.{Column, Position}
use Rattle.sq_tree.specs.declared.module.SortDirection.{SortDirection}
use Rattle.sq_tree.specs.declared.module.SortDirection.TheVariants.{Asc, Desc}
use Rattle.sq_tree.specs.declared.module.Procedure.{Procedure}
use Rattle.sq_tree.specs.declared.module.Declarations.{Declarations}
use Rattle.sq_tree.specs.declared.module.Declarations.TheVariants.{Bracketed, Bare}
use Rattle.sq_tree.specs.declared.module.BareDeclaration.{BareDeclaration}
use Rattle.sq_tree.specs.declared.module.Declaration.{Declaration}
use Rattle.sq_tree.specs.declared.module.Declaration.TheVariants.{Parameter, Sqlcode, Sqlstate}
use Rattle.sq_tree.specs.declared.query.Query.{Query}
use Rattle.sq_grammar.specs.Reading.{Parser, ◌>>=◌, ◌>>◌, pure, stuck, eat_symbol, eat_word, expect_word, expect_symbol, one_if_any, number_of, name, token_if_any, behind, comma_separated, all}
use Rattle.sq_grammar.specs.DataType.{data_type}
use Rattle.sq_grammar.specs.Query.{query}
use Rattle.sq_grammar.specs.Statement.{statement}

abbrev pub by_sqlstate : Bool → Parser (Option Declaration)
by_sqlstate true = pure (Some Sqlstate)
by_sqlstate false = pure None

abbrev pub by_sqlcode : Bool → Parser (Option Declaration)
by_sqlcode true = pure (Some Sqlcode)
by_sqlcode false = eat_word word.Sqlstate >>= by_sqlstate

abbrev pub by_colon : Bool → Parser (Option Declaration)
by_colon true = do
  n ← name
  t ← data_type
  pure (Some (Parameter n t))
by_colon false = eat_word word.Sqlcode >>= by_sqlcode

-- declaration = ":" name type | SQLCODE | SQLSTATE, if it comes
unfoldable pub declaration_if_any : Parser (Option Declaration)
declaration_if_any = eat_symbol symbol.Colon >>= by_colon

abbrev pub declared : Option Declaration → Parser Declaration
declared None = stuck
declared (Some d) = pure d

unfoldable pub declaration : Parser Declaration
declaration = declaration_if_any >>= declared

abbrev pub uncommaed : Option Declaration → Parser (Option BareDeclaration)
uncommaed None = pure None
uncommaed (Some d) = pure (Some (record { comma = false; declaration = d }))

abbrev pub by_comma : Bool → Parser (Option BareDeclaration)
by_comma true = declaration >>= λ d. pure (Some (record { comma = true; declaration = d }))
by_comma false = declaration_if_any >>= uncommaed

-- [ "," ] declaration, if it comes
unfoldable pub bare_declaration : Parser (Option BareDeclaration)
bare_declaration = eat_symbol symbol.Comma >>= by_comma

abbrev pub by_open : Bool → Parser Declarations
by_open true = do
  ds ← comma_separated declaration
  expect_symbol symbol.Close
  pure (Bracketed ds)
by_open false = do
  first ← declaration
  rest ← all bare_declaration
  pure (Bare first rest)

-- declarations = "(" declaration { "," declaration } ")" | declaration { [ "," ] declaration }
unfoldable pub declarations : Parser Declarations
declarations = eat_symbol symbol.Open >>= by_open

-- PROCEDURE name declarations ";" statement ";", whose first word is read already
unfoldable pub procedure : ℕ → Parser Procedure
procedure left = do
  n ← name
  ds ← declarations
  expect_symbol symbol.Semicolon
  s ← statement left
  expect_symbol symbol.Semicolon
  pure (record { name = n; declarations = ds; statement = s })

abbrev pub by_number : Option Number → Parser SortKey
by_number None = name >>= λ n. pure (Column n)
by_number (Some n) = pure (Position n)

-- name | number
unfoldable pub sort_key : Parser SortKey
sort_key = one_if_any number_of >>= by_number

-- [ ASC | DESC ]
abbrev pub direction_if_any : Parser (Option SortDirection)
direction_if_any = token_if_any ((lexeme.Word word.Asc, Asc) ∷ (lexeme.Word word.Desc, Desc) ∷ [])

-- sort = ( name | number ) [ ASC | DESC ]
unfoldable pub sort_specification : Parser SortSpecification
sort_specification = do
  k ← sort_key
  d ← direction_if_any
  pure (record { key = k; direction = d })

-- BY sort { "," sort }
unfoldable pub by_sorts : Parser (CommaList SortSpecification)
by_sorts = expect_word word.By >> comma_separated sort_specification

-- [ ORDER BY sort { "," sort } ]
unfoldable pub order_by : Parser (Option (CommaList SortSpecification))
order_by = behind (lexeme.Word word.Order) by_sorts

-- query [ ORDER BY sort { "," sort } ]
unfoldable pub ordered_query : ℕ → Parser (Query × Option (CommaList SortSpecification))
ordered_query left = do
  q ← query left
  o ← order_by
  pure (q, o)

-- DECLARE name [ INSENSITIVE ] [ SCROLL ] CURSOR FOR query [ ORDER BY .. ] [ ";" ], whose first word is read already
unfoldable pub cursor : ℕ → Parser Cursor
cursor left = do
  n ← name
  i ← eat_word word.Insensitive
  s ← eat_word word.Scroll
  expect_word word.Cursor
  expect_word word.For
  q ← ordered_query left
  e ← eat_symbol symbol.Semicolon
  pure (record { name = n; insensitive = i; scroll = s; query = q.0; order_by = q.1; semicolon = e })

abbrev pub by_procedure : ℕ → Bool → Parser (Option ModuleItem)
by_procedure left true = procedure left >>= λ p. pure (Some (items.Procedure p))
by_procedure left false = pure None

abbrev pub by_declare : ℕ → Bool → Parser (Option ModuleItem)
by_declare left true = cursor left >>= λ c. pure (Some (items.Cursor c))
by_declare left false = eat_word word.Procedure >>= by_procedure left

-- cursor [ ";" ] | procedure, if it comes
unfoldable pub item : ℕ → Parser (Option ModuleItem)
item left = eat_word word.Declare >>= by_declare left

-- module-text = MODULE name LANGUAGE name AUTHORIZATION name { cursor [ ";" ] | procedure }
unfoldable pub module_text : ℕ → Parser ModuleText
module_text left = do
  expect_word word.Module
  n ← name
  expect_word word.Language
  l ← name
  expect_word word.Authorization
  a ← name
  is ← all (item left)
  pure (record { name = n; language = l; authorization = a; items = is })
