-- Schema texts (ISO/IEC 9075:1992, 10.3, 11.1, 11.3 to 11.9, 11.19 and 11.36): their tokens.
use Rattle.std.specs.Prelude.{ℕ, [], ◌∷◌, ◌++◌}
use Rattle.sq_lex.specs.declared.lexeme.Lexeme.TheVariants as lexeme
use Rattle.sq_lex.specs.declared.symbol.Symbol.TheVariants as symbol
use Rattle.sq_lex.specs.declared.word.Word.TheVariants as word
use Rattle.sq_tree.specs.Tree.{Tokens, if_written, optional, bracketed}
use Rattle.sq_tree.specs.Brackets.{deepest}
use Rattle.sq_tree.specs.List.{comma_tokens, row_tokens}
use Rattle.sq_tree.specs.Names.{table_name_tokens, columns_tokens}
use Rattle.sq_tree.specs.Expr.{signed_number_tokens}
use Rattle.sq_tree.specs.DataType.{data_type_tokens}
use Rattle.sq_tree.specs.Cond.{cond_tokens, query_specification_tokens}
use Rattle.sq_tree.specs.declared.cond.Cond.{Cond}
use Rattle.sq_tree.specs.declared.schema.SchemaText.{SchemaText}
use Rattle.sq_tree.specs.declared.schema.SchemaDefinition.{SchemaDefinition}
use Rattle.sq_tree.specs.declared.schema.SchemaElement.{SchemaElement}
use Rattle.sq_tree.specs.declared.schema.SchemaElement.TheVariants.{Table, View, Grant}
use Rattle.sq_tree.specs.declared.schema.TableDefinition.{TableDefinition}
use Rattle.sq_tree.specs.declared.schema.TableElement.{TableElement}
use Rattle.sq_tree.specs.declared.schema.TableElement.TheVariants as element
use Rattle.sq_tree.specs.declared.schema.ForeignKey.{ForeignKey}
use Rattle.sq_tree.specs.declared.schema.References.{References}
use Rattle.sq_tree.specs.declared.schema.ColumnDefinition.{ColumnDefinition}
use Rattle.sq_tree.specs.declared.schema.DefaultValue.{DefaultValue}
use Rattle.sq_tree.specs.declared.schema.DefaultValue.TheVariants as default
use Rattle.sq_tree.specs.declared.schema.ColumnConstraint.{ColumnConstraint}
use Rattle.sq_tree.specs.declared.schema.ColumnConstraint.TheVariants as constraint
use Rattle.sq_tree.specs.declared.schema.ViewDefinition.{ViewDefinition}
use Rattle.sq_tree.specs.declared.schema.GrantStatement.{GrantStatement}
use Rattle.sq_tree.specs.declared.schema.Privileges.{Privileges}
use Rattle.sq_tree.specs.declared.schema.Privileges.TheVariants as privileges
use Rattle.sq_tree.specs.declared.schema.Action.{Action}
use Rattle.sq_tree.specs.declared.schema.Action.TheVariants as action
use Rattle.sq_tree.specs.declared.schema.Grantee.{Grantee}
use Rattle.sq_tree.specs.declared.schema.Grantee.TheVariants as grantee

-- references = REFERENCES table-name [ columns ]
abbrev pub references_tokens : References → Tokens
references_tokens r =
    lexeme.Word word.References ∷ table_name_tokens r.table ++ optional columns_tokens r.columns

-- FOREIGN KEY columns references
abbrev pub foreign_key_tokens : ForeignKey → Tokens
foreign_key_tokens f = lexeme.Word word.Foreign ∷ lexeme.Word word.Key ∷ columns_tokens f.columns
    ++ references_tokens f.references

-- default = [ "+" | "-" ] number | text | USER | NULL
abbrev pub default_tokens : DefaultValue → Tokens
default_tokens (default.Number n) = signed_number_tokens n
default_tokens (default.Text characters) = lexeme.Text characters ∷ []
default_tokens default.User = lexeme.Word word.User ∷ []
default_tokens default.Null = lexeme.Word word.Null ∷ []

-- DEFAULT default
abbrev pub default_clause_tokens : DefaultValue → Tokens
default_clause_tokens value = lexeme.Word word.Default ∷ default_tokens value

-- CHECK "(" condition ")"
abbrev pub check_tokens : Cond → Tokens
check_tokens cond = lexeme.Word word.Check ∷ bracketed (cond_tokens cond)

-- constraint = NOT NULL | UNIQUE | PRIMARY KEY | references | CHECK "(" condition ")"
abbrev pub column_constraint_tokens : ColumnConstraint → Tokens
column_constraint_tokens constraint.NotNull = lexeme.Word word.Not ∷ lexeme.Word word.Null ∷ []
column_constraint_tokens constraint.Unique = lexeme.Word word.Unique ∷ []
column_constraint_tokens constraint.PrimaryKey = lexeme.Word word.Primary ∷ lexeme.Word word.Key ∷ []
column_constraint_tokens (constraint.References references) = references_tokens references
column_constraint_tokens (constraint.Check cond) = check_tokens cond

-- column = name type [ DEFAULT default ] { constraint }
abbrev pub column_definition_tokens : ColumnDefinition → Tokens
column_definition_tokens c =
    lexeme.Name c.name ∷ data_type_tokens c.data_type ++ optional default_clause_tokens c.default
    ++ row_tokens column_constraint_tokens c.constraints

-- element = column | UNIQUE columns | PRIMARY KEY columns | FOREIGN KEY columns references | CHECK "(" condition ")"
abbrev pub table_element_tokens : TableElement → Tokens
table_element_tokens (element.Column column) = column_definition_tokens column
table_element_tokens (element.Unique columns) = lexeme.Word word.Unique ∷ columns_tokens columns
table_element_tokens (element.PrimaryKey columns) =
    lexeme.Word word.Primary ∷ lexeme.Word word.Key ∷ columns_tokens columns
table_element_tokens (element.ForeignKey key) = foreign_key_tokens key
table_element_tokens (element.Check cond) = check_tokens cond

-- table = CREATE TABLE table-name "(" element { "," element } ")"
abbrev pub table_definition_tokens : TableDefinition → Tokens
table_definition_tokens t = lexeme.Word word.Create ∷ lexeme.Word word.Table ∷ table_name_tokens t.name
    ++ bracketed (comma_tokens table_element_tokens t.elements)

-- view = CREATE VIEW table-name [ columns ] AS specification [ WITH CHECK OPTION ]
abbrev pub view_definition_tokens : ViewDefinition → Tokens
view_definition_tokens v = lexeme.Word word.Create ∷ lexeme.Word word.View ∷ table_name_tokens v.name
    ++ optional columns_tokens v.columns ++ lexeme.Word word.As ∷ query_specification_tokens v.query
    ++ if_written v.check_option
    (lexeme.Word word.With ∷ lexeme.Word word.Check ∷ lexeme.Word word.Option ∷ [])

-- action = SELECT | INSERT | DELETE | UPDATE [ columns ] | REFERENCES [ columns ]
abbrev pub action_tokens : Action → Tokens
action_tokens action.Select = lexeme.Word word.Select ∷ []
action_tokens action.Insert = lexeme.Word word.Insert ∷ []
action_tokens action.Delete = lexeme.Word word.Delete ∷ []
action_tokens (action.Update columns) = lexeme.Word word.Update ∷ optional columns_tokens columns
action_tokens (action.References columns) = lexeme.Word word.References ∷ optional columns_tokens columns

-- privileges = ALL PRIVILEGES | action { "," action }
abbrev pub privileges_tokens : Privileges → Tokens
privileges_tokens privileges.All = lexeme.Word word.All ∷ lexeme.Word word.Privileges ∷ []
privileges_tokens (privileges.Actions actions) = comma_tokens action_tokens actions

-- grantee = PUBLIC | name
abbrev pub grantee_tokens : Grantee → Tokens
grantee_tokens grantee.Public = lexeme.Word word.Public ∷ []
grantee_tokens (grantee.User name) = lexeme.Name name ∷ []

-- grant = GRANT privileges ON [ TABLE ] table-name TO grantee { "," grantee } [ WITH GRANT OPTION ]
abbrev pub grant_tokens : GrantStatement → Tokens
grant_tokens g = lexeme.Word word.Grant ∷ privileges_tokens g.privileges
    ++ lexeme.Word word.On ∷ if_written g.table_word (lexeme.Word word.Table ∷ [])
    ++ table_name_tokens g.table ++ lexeme.Word word.To ∷ comma_tokens grantee_tokens g.grantees
    ++ if_written g.grant_option
    (lexeme.Word word.With ∷ lexeme.Word word.Grant ∷ lexeme.Word word.Option ∷ [])

-- table | view | grant
abbrev pub schema_element_tokens : SchemaElement → Tokens
schema_element_tokens (Table table) = table_definition_tokens table
schema_element_tokens (View view) = view_definition_tokens view
schema_element_tokens (Grant grant) = grant_tokens grant

-- schema = CREATE SCHEMA AUTHORIZATION name { table | view | grant }, and [ ";" ]
abbrev pub schema_definition_tokens : SchemaDefinition → Tokens
schema_definition_tokens s =
    lexeme.Word word.Create ∷ lexeme.Word word.Schema ∷ lexeme.Word word.Authorization
    ∷ lexeme.Name s.authorization ∷ row_tokens schema_element_tokens s.elements
    ++ if_written s.semicolon (lexeme.Symbol symbol.Semicolon ∷ [])

-- schema-text = schema [ ";" ] { schema [ ";" ] }
abbrev pub schema_tokens : SchemaText → Tokens
schema_tokens s = schema_definition_tokens s.first ++ row_tokens schema_definition_tokens s.rest

-- the greatest number of round brackets open at once
abbrev pub schema_depth : SchemaText → ℕ
schema_depth s = deepest (schema_tokens s)
