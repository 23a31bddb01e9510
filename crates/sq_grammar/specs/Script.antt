-- Script texts (own rule).
use Rattle.std.specs.Prelude.{ℕ, Bool, true, false, List, Option, Some, None, if◌then◌else◌, codes}
use Rattle.std.specs.Cmp.Lexicographic.{pointwise}
use Rattle.std.specs.Prelude.{nat_eq}
use Rattle.sq_lex.specs.declared.lexeme.Lexeme.{Lexeme}
use Rattle.sq_lex.specs.declared.lexeme.Lexeme.TheVariants as lexeme
use Rattle.sq_lex.specs.declared.symbol.Symbol.TheVariants as symbol
use Rattle.sq_lex.specs.declared.word.Word.TheVariants as word
use Rattle.sq_lex.specs.declared.name.Name.{Name}
use Rattle.sq_tree.specs.declared.script.ScriptText.{ScriptText}
use Rattle.sq_tree.specs.declared.script.ScriptItem.{ScriptItem}
use Rattle.sq_tree.specs.declared.script.ScriptItem.TheVariants.{Call, Table}
use Rattle.sq_tree.specs.declared.script.Arguments.{Arguments}
use Rattle.sq_tree.specs.declared.script.Arguments.TheVariants.{Unwritten, Empty, Listed}
use Rattle.sq_tree.specs.declared.script.Argument.{Argument}
use Rattle.sq_tree.specs.declared.script.Argument.TheVariants as value
use Rattle.sq_grammar.specs.Reading.{Parser, ◌>>=◌, ◌>>◌, pure, eat_symbol, eat_word, expect_symbol, one_if_any, text_of, name, comma_separated, all}
use Rattle.sq_grammar.specs.Names.{signed_number}

abbrev pub by_text : Option (List ℕ) → Parser Argument
by_text None = signed_number >>= λ n. pure (value.Number n)
by_text (Some characters) = pure (value.Text characters)

abbrev pub by_star : Bool → Parser Argument
by_star true = pure value.Null
by_star false = one_if_any text_of >>= by_text

-- value = [ "+" | "-" ] number | text | "*"
unfoldable pub argument : Parser Argument
argument = eat_symbol symbol.Star >>= by_star

abbrev pub by_close : Bool → Parser Arguments
by_close true = pure Empty
by_close false = do
  arguments ← comma_separated argument
  expect_symbol symbol.Close
  pure (Listed arguments)

abbrev pub by_open : Bool → Parser Arguments
by_open true = eat_symbol symbol.Close >>= by_close
by_open false = pure Unwritten

-- [ "(" [ value { "," value } ] ")" ]
unfoldable pub arguments : Parser Arguments
arguments = eat_symbol symbol.Open >>= by_open

-- name "." name
unfoldable pub two_names : Parser (Name × Name)
two_names = do
  first ← name
  expect_symbol symbol.Dot
  second ← name
  pure (first, second)

abbrev pub is_call : Lexeme → Bool
is_call (lexeme.Name n) = pointwise nat_eq n (codes "CALL")
is_call _ = false

abbrev pub call_word : Lexeme → Option (Unit {0})
call_word t = if is_call t then Some tt else None

abbrev pub by_call : Option (Unit {0}) → Parser (Option ScriptItem)
by_call None = pure None
by_call (Some _) = do
  names ← two_names
  arguments ← arguments
  expect_symbol symbol.Semicolon
  pure (Some (Call names.0 names.1 arguments))

abbrev pub by_table : Bool → Parser (Option ScriptItem)
by_table true = do
  names ← two_names
  expect_symbol symbol.Semicolon
  pure (Some (Table names.0 names.1))
by_table false = one_if_any call_word >>= by_call

-- ( CALL name "." name [ .. ] | TABLE name "." name ) ";"
unfoldable pub item : Parser (Option ScriptItem)
item = eat_word word.Table >>= by_table

-- script-text = { item ";" }
unfoldable pub script_text : Parser ScriptText
script_text = do
  items ← all item
  pure (record { items = items })
