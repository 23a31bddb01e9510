-- Names of tables and columns, and parameters (ISO/IEC 9075:1992, 5.4, 6.2 and 6.4): their tokens.
use Rattle.std.specs.Prelude.{[], ◌∷◌, ◌++◌}
use Rattle.sq_lex.specs.declared.lexeme.Lexeme.TheVariants as lexeme
use Rattle.sq_lex.specs.declared.symbol.Symbol.TheVariants as symbol
use Rattle.sq_lex.specs.declared.word.Word.TheVariants as word
use Rattle.sq_lex.specs.declared.name.Name.{Name}
use Rattle.sq_tree.specs.Tree.{Tokens, if_written, optional, bracketed}
use Rattle.sq_tree.specs.List.{comma_tokens}
use Rattle.sq_tree.specs.declared.list.CommaList.{CommaList}
use Rattle.sq_tree.specs.declared.names.TableName.{TableName}
use Rattle.sq_tree.specs.declared.names.ColumnReference.{ColumnReference}
use Rattle.sq_tree.specs.declared.names.Parameter.{Parameter}
use Rattle.sq_tree.specs.declared.names.Indicator.{Indicator}

-- name
abbrev pub name_tokens : Name → Tokens
name_tokens name = lexeme.Name name ∷ []

-- name "."
abbrev pub name_dot : Name → Tokens
name_dot name = lexeme.Name name ∷ lexeme.Symbol symbol.Dot ∷ []

-- table-name = [ name "." ] name
abbrev pub table_name_tokens : TableName → Tokens
table_name_tokens t = optional name_dot t.schema ++ name_tokens t.table

-- table-name "."
abbrev pub qualifier_dot : TableName → Tokens
qualifier_dot q = table_name_tokens q ++ lexeme.Symbol symbol.Dot ∷ []

-- column-ref = [ table-name "." ] name
abbrev pub column_reference_tokens : ColumnReference → Tokens
column_reference_tokens c = optional qualifier_dot c.qualifier ++ name_tokens c.column

-- [ INDICATOR ] ":" name
abbrev pub indicator_tokens : Indicator → Tokens
indicator_tokens i = if_written i.word (lexeme.Word word.Indicator ∷ [])
    ++ lexeme.Symbol symbol.Colon ∷ lexeme.Name i.name ∷ []

-- parameter = ":" name [ [ INDICATOR ] ":" name ]
abbrev pub parameter_tokens : Parameter → Tokens
parameter_tokens p = lexeme.Symbol symbol.Colon ∷ lexeme.Name p.name ∷ optional indicator_tokens p.indicator

-- columns = "(" name { "," name } ")"
abbrev pub columns_tokens : CommaList Name → Tokens
columns_tokens names = bracketed (comma_tokens name_tokens names)
