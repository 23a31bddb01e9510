-- Schema texts (ISO/IEC 9075:1992, 10.3, 11.1, 11.3 to 11.9, 11.19 and 11.36).
use Rattle.std.specs.Prelude.{ℕ, Bool, true, false, ◌&&◌, ◌||◌, List, Option, Some, None, if◌then◌else◌}
use Rattle.sq_lex.specs.declared.lexeme.Lexeme.TheVariants as lexeme
use Rattle.sq_lex.specs.declared.symbol.Symbol.TheVariants as symbol
use Rattle.sq_lex.specs.declared.word.Word.TheVariants as word
use Rattle.sq_lex.specs.declared.name.Name.{Name}
use Rattle.sq_tree.specs.declared.cond.Cond.{Cond}
use Rattle.sq_tree.specs.declared.schema.SchemaText.{SchemaText}
use Rattle.sq_tree.specs.declared.schema.SchemaDefinition.{SchemaDefinition}
use Rattle.sq_tree.specs.declared.schema.SchemaElement.{SchemaElement}
use Rattle.sq_tree.specs.declared.schema.SchemaElement.TheVariants.{Table, View, Grant}
use Rattle.sq_tree.specs.declared.schema.TableDefinition.{TableDefinition}
use Rattle.sq_tree.specs.declared.schema.TableElement.{TableElement}
use Rattle.sq_tree.specs.declared.schema.TableElement.TheVariants as elements
use Rattle.sq_tree.specs.declared.schema.ForeignKey.{ForeignKey}
use Rattle.sq_tree.specs.declared.schema.References.{References}
use Rattle.sq_tree.specs.declared.schema.ColumnDefinition.{ColumnDefinition}
use Rattle.sq_tree.specs.declared.schema.DefaultValue.{DefaultValue}
use Rattle.sq_tree.specs.declared.schema.DefaultValue.TheVariants as defaults
use Rattle.sq_tree.specs.declared.schema.ColumnConstraint.{ColumnConstraint}
use Rattle.sq_tree.specs.declared.schema.ColumnConstraint.TheVariants as constraints
use Rattle.sq_tree.specs.declared.schema.ViewDefinition.{ViewDefinition}
use Rattle.sq_tree.specs.declared.schema.GrantStatement.{GrantStatement}
use Rattle.sq_tree.specs.declared.schema.Privileges.{Privileges}
use Rattle.sq_tree.specs.declared.schema.Privileges.TheVariants as privilege
use Rattle.sq_tree.specs.declared.schema.Action.{Action}
use Rattle.sq_tree.specs.declared.schema.Action.TheVariants as actions
use Rattle.sq_tree.specs.declared.schema.Grantee.{Grantee}
use Rattle.sq_tree.specs.declared.schema.Grantee.TheVariants as grantees
use Rattle.sq_grammar.specs.Reading.{Parser, Tokens, ◌>>=◌, ◌>>◌, pure, eat_symbol, eat_word, expect_word, expect_symbol, sees, rest, one_if_any, name_of, text_of, name, behind, comma_separated, all}
use Rattle.sq_grammar.specs.Names.{table_name, signed_number, columns, columns_if_any}
use Rattle.sq_grammar.specs.DataType.{data_type}
use Rattle.sq_grammar.specs.Cond as conditions
use Rattle.sq_grammar.specs.Cond.{must_be_cond, query_specification}

-- Each rule below begins after the words that it has in common with others; they are read already.

-- REFERENCES table-name [ columns ]
unfoldable pub references_from : Parser References
references_from = do
  t ← table_name
  cs ← columns_if_any
  pure (record { table = t; columns = cs })

unfoldable pub references : Parser References
references = expect_word word.References >> references_from

abbrev pub by_text : Option (List ℕ) → Parser DefaultValue
by_text None = signed_number >>= λ n. pure (defaults.Number n)
by_text (Some characters) = pure (defaults.Text characters)

abbrev pub by_null : Bool → Parser DefaultValue
by_null true = pure defaults.Null
by_null false = one_if_any text_of >>= by_text

abbrev pub by_user : Bool → Parser DefaultValue
by_user true = pure defaults.User
by_user false = eat_word word.Null >>= by_null

-- default = [ "+" | "-" ] number | text | USER | NULL
unfoldable pub default_value : Parser DefaultValue
default_value = eat_word word.User >>= by_user

-- [ DEFAULT default ]
unfoldable pub default_clause : Parser (Option DefaultValue)
default_clause = behind (lexeme.Word word.Default) default_value

-- CHECK "(" condition ")", in which the bracket is one of `left`
unfoldable pub check : ℕ → Parser Cond
check left = do
  expect_symbol symbol.Open
  c ← must_be_cond (conditions.inside left)
  expect_symbol symbol.Close
  pure c

abbrev pub constraint_check : ℕ → Bool → Parser (Option ColumnConstraint)
constraint_check left true = check left >>= λ c. pure (Some (constraints.Check c))
constraint_check left false = pure None

abbrev pub constraint_references : ℕ → Bool → Parser (Option ColumnConstraint)
constraint_references left true = references_from >>= λ r. pure (Some (constraints.References r))
constraint_references left false = eat_word word.Check >>= constraint_check left

abbrev pub constraint_primary : ℕ → Bool → Parser (Option ColumnConstraint)
constraint_primary left true = expect_word word.Key >> pure (Some constraints.PrimaryKey)
constraint_primary left false = eat_word word.References >>= constraint_references left

abbrev pub constraint_unique : ℕ → Bool → Parser (Option ColumnConstraint)
constraint_unique left true = pure (Some constraints.Unique)
constraint_unique left false = eat_word word.Primary >>= constraint_primary left

abbrev pub constraint_not : ℕ → Bool → Parser (Option ColumnConstraint)
constraint_not left true = expect_word word.Null >> pure (Some constraints.NotNull)
constraint_not left false = eat_word word.Unique >>= constraint_unique left

-- constraint = NOT NULL | UNIQUE | PRIMARY KEY | references | CHECK "(" condition ")", if it comes
unfoldable pub column_constraint : ℕ → Parser (Option ColumnConstraint)
column_constraint left = eat_word word.Not >>= constraint_not left

-- column = name type [ DEFAULT default ] { constraint }
unfoldable pub column_definition : ℕ → Name → Parser ColumnDefinition
column_definition left n = do
  t ← data_type
  d ← default_clause
  cs ← all (column_constraint left)
  pure (record { name = n; data_type = t; default = d; constraints = cs })

unfoldable pub foreign_key : Parser ForeignKey
foreign_key = do
  expect_word word.Key
  cs ← columns
  r ← references
  pure (record { columns = cs; references = r })

abbrev pub element_foreign : ℕ → Bool → Parser TableElement
element_foreign left true = foreign_key >>= λ k. pure (elements.ForeignKey k)
element_foreign left false = do
  expect_word word.Check
  c ← check left
  pure (elements.Check c)

abbrev pub element_primary : ℕ → Bool → Parser TableElement
element_primary left true = do
  expect_word word.Key
  cs ← columns
  pure (elements.PrimaryKey cs)
element_primary left false = eat_word word.Foreign >>= element_foreign left

abbrev pub element_unique : ℕ → Bool → Parser TableElement
element_unique left true = columns >>= λ cs. pure (elements.Unique cs)
element_unique left false = eat_word word.Primary >>= element_primary left

-- UNIQUE columns | PRIMARY KEY columns | FOREIGN KEY columns references | CHECK "(" condition ")"
unfoldable pub table_constraint : ℕ → Parser TableElement
table_constraint left = eat_word word.Unique >>= element_unique left

abbrev pub element_name : ℕ → Option Name → Parser TableElement
element_name left None = table_constraint left
element_name left (Some n) = column_definition left n >>= λ c. pure (elements.Column c)

-- item = column | table constraint
unfoldable pub table_element : ℕ → Parser TableElement
table_element left = one_if_any name_of >>= element_name left

-- CREATE TABLE table-name "(" item { "," item } ")"; `left` brackets may be opened after this one
unfoldable pub table_definition : ℕ → Parser TableDefinition
table_definition left = do
  n ← table_name
  expect_symbol symbol.Open
  es ← comma_separated (table_element left)
  expect_symbol symbol.Close
  pure (record { name = n; elements = es })

abbrev pub by_with_check : Bool → Parser Bool
by_with_check true = do
  expect_word word.Check
  expect_word word.Option
  pure true
by_with_check false = pure false

-- [ WITH CHECK OPTION ]
unfoldable pub check_option : Parser Bool
check_option = eat_word word.With >>= by_with_check

-- CREATE VIEW table-name [ columns ] AS specification [ WITH CHECK OPTION ]
unfoldable pub view_definition : ℕ → Parser ViewDefinition
view_definition left = do
  n ← table_name
  cs ← columns_if_any
  expect_word word.As
  q ← query_specification left
  o ← check_option
  pure (record { name = n; columns = cs; query = q; check_option = o })

abbrev pub action_update : Bool → Parser Action
action_update true = columns_if_any >>= λ cs. pure (actions.Update cs)
action_update false = do
  expect_word word.References
  cs ← columns_if_any
  pure (actions.References cs)

abbrev pub action_delete : Bool → Parser Action
action_delete true = pure actions.Delete
action_delete false = eat_word word.Update >>= action_update

abbrev pub action_insert : Bool → Parser Action
action_insert true = pure actions.Insert
action_insert false = eat_word word.Delete >>= action_delete

abbrev pub action_select : Bool → Parser Action
action_select true = pure actions.Select
action_select false = eat_word word.Insert >>= action_insert

-- action = SELECT | INSERT | DELETE | UPDATE [ columns ] | REFERENCES [ columns ]
unfoldable pub action : Parser Action
action = eat_word word.Select >>= action_select

abbrev pub by_all : Bool → Parser Privileges
by_all true = expect_word word.Privileges >> pure privilege.All
by_all false = comma_separated action >>= λ acts. pure (privilege.Actions acts)

-- privileges = ALL PRIVILEGES | action { "," action }
unfoldable pub privileges : Parser Privileges
privileges = eat_word word.All >>= by_all

abbrev pub by_public : Bool → Parser Grantee
by_public true = pure grantees.Public
by_public false = name >>= λ n. pure (grantees.User n)

-- grantee = PUBLIC | name
unfoldable pub grantee : Parser Grantee
grantee = eat_word word.Public >>= by_public

abbrev pub by_with_grant : Bool → Parser Bool
by_with_grant true = do
  expect_word word.Grant
  expect_word word.Option
  pure true
by_with_grant false = pure false

-- [ WITH GRANT OPTION ]
unfoldable pub grant_option : Parser Bool
grant_option = eat_word word.With >>= by_with_grant

-- GRANT privileges ON [ TABLE ] table-name TO grantee { "," grantee } [ WITH GRANT OPTION ]
unfoldable pub grant : Parser GrantStatement
grant = do
  ps ← privileges
  expect_word word.On
  w ← eat_word word.Table
  t ← table_name
  expect_word word.To
  gs ← comma_separated grantee
  o ← grant_option
  pure (record { privileges = ps; table_word = w; table = t; grantees = gs; grant_option = o })

-- CREATE comes next, and after it TABLE or VIEW
abbrev pub sees_created : Tokens → Bool
sees_created ts = sees (lexeme.Word word.Create) ts
    && (sees (lexeme.Word word.Table) (rest ts) || sees (lexeme.Word word.View) (rest ts))

abbrev pub by_table : ℕ → ℕ → Bool → Parser (Option SchemaElement)
by_table left inner true = table_definition inner >>= λ t. pure (Some (Table t))
by_table left inner false = do
  expect_word word.View
  v ← view_definition left
  pure (Some (View v))

-- table | view, with its first word
unfoldable pub created : ℕ → ℕ → Parser (Option SchemaElement)
created left inner = do
  expect_word word.Create
  t ← eat_word word.Table
  by_table left inner t

abbrev pub nothing : Parser (Option SchemaElement)
nothing = pure None

abbrev pub by_grant : ℕ → ℕ → Bool → Parser (Option SchemaElement)
by_grant left inner true = grant >>= λ g. pure (Some (Grant g))
by_grant left inner false = λ ts. (if sees_created ts then created left inner else nothing) ts

-- table | view | grant, if it comes; `inner` brackets may be opened inside a table's own
unfoldable pub element : ℕ → ℕ → Parser (Option SchemaElement)
element left inner = eat_word word.Grant >>= by_grant left inner

-- CREATE SCHEMA AUTHORIZATION name { table | view | grant } [ ";" ], whose first word is read already
unfoldable pub schema_definition : ℕ → ℕ → Parser SchemaDefinition
schema_definition left inner = do
  expect_word word.Schema
  expect_word word.Authorization
  n ← name
  es ← all (element left inner)
  s ← eat_symbol symbol.Semicolon
  pure (record { authorization = n; elements = es; semicolon = s })

-- a schema definition with its first word, if it comes
abbrev pub next_definition : ℕ → ℕ → Parser (Option SchemaDefinition)
next_definition left inner = behind (lexeme.Word word.Create) (schema_definition left inner)

-- schema-text = schema [ ";" ] { schema [ ";" ] }
unfoldable pub schema_text : ℕ → ℕ → Parser SchemaText
schema_text left inner = do
  expect_word word.Create
  first ← schema_definition left inner
  rest ← all (next_definition left inner)
  pure (record { first = first; rest = rest })
