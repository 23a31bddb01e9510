-- Module texts (ISO/IEC 9075:1992, 12.1, 12.3 and 13.1): their tokens.
use Rattle.std.specs.Prelude.{ℕ, [], ◌∷◌, ◌++◌}
use Rattle.sq_lex.specs.declared.lexeme.Lexeme.{Lexeme}
use Rattle.sq_lex.specs.declared.lexeme.Lexeme.TheVariants as lexeme
use Rattle.sq_lex.specs.declared.symbol.Symbol.TheVariants as symbol
use Rattle.sq_lex.specs.declared.word.Word.TheVariants as word
use Rattle.sq_tree.specs.Tree.{Tokens, if_written, optional, bracketed}
use Rattle.sq_tree.specs.Brackets.{deepest}
use Rattle.sq_tree.specs.List.{comma_tokens, row_tokens}
use Rattle.sq_tree.specs.DataType.{data_type_tokens}
use Rattle.sq_tree.specs.Query.{query_tokens}
use Rattle.sq_tree.specs.Statement.{statement_tokens}
use Rattle.sq_tree.specs.declared.list.CommaList.{CommaList}
use Rattle.sq_tree.specs.declared.module.ModuleText.{ModuleText}
use Rattle.sq_tree.specs.declared.module.ModuleItem.{ModuleItem}
use Rattle.sq_tree.specs.declared.module.ModuleItem.TheVariants as item
use Rattle.sq_tree.specs.declared.module.Cursor.{Cursor}
use Rattle.sq_tree.specs.declared.module.SortSpecification.{SortSpecification}
use Rattle.sq_tree.specs.declared.module.SortKey.{SortKey}
use Rattle.sq_tree.specs.declared.module.SortKey.TheVariants.{Column, Position}
use Rattle.sq_tree.specs.declared.module.SortDirection.{SortDirection}
use Rattle.sq_tree.specs.declared.module.SortDirection.TheVariants.{Asc, Desc}
use Rattle.sq_tree.specs.declared.module.Procedure.{Procedure}
use Rattle.sq_tree.specs.declared.module.Declarations.{Declarations}
use Rattle.sq_tree.specs.declared.module.Declarations.TheVariants.{Bracketed, Bare}
use Rattle.sq_tree.specs.declared.module.BareDeclaration.{BareDeclaration}
use Rattle.sq_tree.specs.declared.module.Declaration.{Declaration}
use Rattle.sq_tree.specs.declared.module.Declaration.TheVariants.{Parameter, Sqlcode, Sqlstate}

-- name | number
abbrev pub sort_key_token : SortKey → Lexeme
sort_key_token (Column name) = lexeme.Name name
sort_key_token (Position number) = lexeme.Number number

-- ASC | DESC
abbrev pub direction_tokens : SortDirection → Tokens
direction_tokens Asc = lexeme.Word word.Asc ∷ []
direction_tokens Desc = lexeme.Word word.Desc ∷ []

-- sort = ( name | number ) [ ASC | DESC ]
abbrev pub sort_specification_tokens : SortSpecification → Tokens
sort_specification_tokens s = sort_key_token s.key ∷ optional direction_tokens s.direction

-- ORDER BY sort { "," sort }
abbrev pub order_by_tokens : CommaList SortSpecification → Tokens
order_by_tokens sorts =
    lexeme.Word word.Order ∷ lexeme.Word word.By ∷ comma_tokens sort_specification_tokens sorts

-- cursor = DECLARE name [ INSENSITIVE ] [ SCROLL ] CURSOR FOR query [ ORDER BY .. ], and [ ";" ]
abbrev pub cursor_tokens : Cursor → Tokens
cursor_tokens c = lexeme.Word word.Declare ∷ lexeme.Name c.name ∷ if_written c.insensitive
    (lexeme.Word word.Insensitive ∷ []) ++ if_written c.scroll (lexeme.Word word.Scroll ∷ [])
    ++ lexeme.Word word.Cursor ∷ lexeme.Word word.For ∷ query_tokens c.query
    ++ optional order_by_tokens c.order_by ++ if_written c.semicolon (lexeme.Symbol symbol.Semicolon ∷ [])

-- declaration = ":" name type | SQLCODE | SQLSTATE
abbrev pub declaration_tokens : Declaration → Tokens
declaration_tokens (Parameter name data_type) =
    lexeme.Symbol symbol.Colon ∷ lexeme.Name name ∷ data_type_tokens data_type
declaration_tokens Sqlcode = lexeme.Word word.Sqlcode ∷ []
declaration_tokens Sqlstate = lexeme.Word word.Sqlstate ∷ []

-- [ "," ] declaration
abbrev pub bare_declaration_tokens : BareDeclaration → Tokens
bare_declaration_tokens b =
    if_written b.comma (lexeme.Symbol symbol.Comma ∷ []) ++ declaration_tokens b.declaration

-- declarations = "(" declaration { "," declaration } ")" | declaration { [ "," ] declaration }
abbrev pub declarations_tokens : Declarations → Tokens
declarations_tokens (Bracketed declarations) = bracketed (comma_tokens declaration_tokens declarations)
declarations_tokens (Bare first rest) = declaration_tokens first ++ row_tokens bare_declaration_tokens rest

-- procedure = PROCEDURE name declarations ";" statement ";"
abbrev pub procedure_tokens : Procedure → Tokens
procedure_tokens p = lexeme.Word word.Procedure ∷ lexeme.Name p.name ∷ declarations_tokens p.declarations
    ++ lexeme.Symbol symbol.Semicolon ∷ statement_tokens p.statement ++ lexeme.Symbol symbol.Semicolon ∷ []

-- cursor [ ";" ] | procedure
abbrev pub module_item_tokens : ModuleItem → Tokens
module_item_tokens (item.Cursor cursor) = cursor_tokens cursor
module_item_tokens (item.Procedure procedure) = procedure_tokens procedure

-- module-text = MODULE name LANGUAGE name AUTHORIZATION name { cursor [ ";" ] | procedure }
abbrev pub module_tokens : ModuleText → Tokens
module_tokens m = lexeme.Word word.Module ∷ lexeme.Name m.name ∷ lexeme.Word word.Language
    ∷ lexeme.Name m.language ∷ lexeme.Word word.Authorization ∷ lexeme.Name m.authorization
    ∷ row_tokens module_item_tokens m.items

-- the greatest number of round brackets open at once
abbrev pub module_depth : ModuleText → ℕ
module_depth s = deepest (module_tokens s)
