-- Script texts (own rule): their tokens.
use Rattle.std.specs.Prelude.{ℕ, [], ◌∷◌, ◌++◌, codes}
use Rattle.sq_lex.specs.declared.lexeme.Lexeme.TheVariants as lexeme
use Rattle.sq_lex.specs.declared.symbol.Symbol.TheVariants as symbol
use Rattle.sq_lex.specs.declared.word.Word.TheVariants as word
use Rattle.sq_tree.specs.Tree.{Tokens, bracketed}
use Rattle.sq_tree.specs.Brackets.{deepest}
use Rattle.sq_tree.specs.List.{comma_tokens, row_tokens}
use Rattle.sq_tree.specs.Expr.{signed_number_tokens}
use Rattle.sq_tree.specs.declared.script.ScriptText.{ScriptText}
use Rattle.sq_tree.specs.declared.script.ScriptItem.{ScriptItem}
use Rattle.sq_tree.specs.declared.script.ScriptItem.TheVariants.{Call, Table}
use Rattle.sq_tree.specs.declared.script.Arguments.{Arguments}
use Rattle.sq_tree.specs.declared.script.Arguments.TheVariants.{Unwritten, Empty, Listed}
use Rattle.sq_tree.specs.declared.script.Argument.{Argument}
use Rattle.sq_tree.specs.declared.script.Argument.TheVariants as argument

-- argument = [ "+" | "-" ] number | text | "*"
abbrev pub argument_tokens : Argument → Tokens
argument_tokens (argument.Number n) = signed_number_tokens n
argument_tokens (argument.Text characters) = lexeme.Text characters ∷ []
argument_tokens argument.Null = lexeme.Symbol symbol.Star ∷ []

-- [ "(" [ argument { "," argument } ] ")" ]
abbrev pub arguments_tokens : Arguments → Tokens
arguments_tokens Unwritten = []
arguments_tokens Empty = bracketed []
arguments_tokens (Listed arguments) = bracketed (comma_tokens argument_tokens arguments)

-- item = CALL name "." name [ .. ] | TABLE name "." name
abbrev pub script_item_tokens : ScriptItem → Tokens
script_item_tokens (Call «module» procedure arguments) =
    lexeme.Name (codes "CALL") ∷ lexeme.Name «module» ∷ lexeme.Symbol symbol.Dot ∷ lexeme.Name procedure
    ∷ arguments_tokens arguments
script_item_tokens (Table schema table) =
    lexeme.Word word.Table ∷ lexeme.Name schema ∷ lexeme.Symbol symbol.Dot ∷ lexeme.Name table ∷ []

-- item ";"
abbrev pub ended_item_tokens : ScriptItem → Tokens
ended_item_tokens item = script_item_tokens item ++ lexeme.Symbol symbol.Semicolon ∷ []

-- script-text = { item ";" }
abbrev pub script_tokens : ScriptText → Tokens
script_tokens s = row_tokens ended_item_tokens s.items

-- the greatest number of round brackets open at once
abbrev pub script_depth : ScriptText → ℕ
script_depth s = deepest (script_tokens s)
