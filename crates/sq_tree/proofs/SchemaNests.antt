-- Schema texts close the brackets that they open, and are as deep as their parts say.
use Rattle.std.proofs.Common.{◌≡◌, ◌+◌, ◌≤◌, [], ◌∷◌, Option, Some, None, refl, arith}
use Rattle.sq_tree.specs.Schema.{references_tokens, foreign_key_tokens, default_tokens, default_clause_tokens, check_tokens, column_constraint_tokens, column_definition_tokens, table_element_tokens, table_definition_tokens, view_definition_tokens, action_tokens, privileges_tokens, grantee_tokens, grant_tokens, schema_element_tokens, schema_definition_tokens, schema_tokens, schema_depth}
use Rattle.sq_tree.proofs.CondDepth.{cond_depth}
use Rattle.sq_tree.proofs.DataTypeDepth.{bracket_depth}
use Rattle.sq_tree.proofs.SchemaDepth.{references_depth, foreign_key_depth, column_constraint_depth, column_definition_depth, table_element_depth, table_definition_depth, view_definition_depth, action_depth, privileges_depth, grant_depth, schema_element_depth, schema_definition_depth, schema_text_depth}
use Rattle.sq_tree.proofs.Nests.{Nests, nests-deepest, nests-as, nests-plain, nests-append, nests-bracketed, nests-if_written, nests-none, nests-row, nests-optional0, nests-comma, nests-comma0}
use Rattle.sq_tree.proofs.ExprNests.{signed_number_nests, table_name_nests}
use Rattle.sq_tree.proofs.CondNests.{cond_nests, query_specification_nests}
use Rattle.sq_tree.proofs.StatementNests.{columns_nests, some_columns_nests, data_type_nests}
use Rattle.sq_lex.specs.declared.lexeme.Lexeme.TheVariants as lexeme
use Rattle.sq_lex.specs.declared.symbol.Symbol.TheVariants as symbol
use Rattle.sq_lex.specs.declared.word.Word.TheVariants as word
use Rattle.sq_tree.specs.declared.cond.Cond.{Cond}
use Rattle.sq_tree.specs.declared.schema.SchemaText.{SchemaText}
use Rattle.sq_tree.specs.declared.schema.SchemaDefinition.{SchemaDefinition}
use Rattle.sq_tree.specs.declared.schema.SchemaElement.{SchemaElement}
use Rattle.sq_tree.specs.declared.schema.SchemaElement.TheVariants.{Table, View, Grant}
use Rattle.sq_tree.specs.declared.schema.TableDefinition.{TableDefinition}
use Rattle.sq_tree.specs.declared.schema.TableElement.{TableElement}
use Rattle.sq_tree.specs.declared.schema.TableElement.TheVariants as element
use Rattle.sq_tree.specs.declared.schema.ForeignKey.{ForeignKey}
use Rattle.sq_tree.specs.declared.schema.References.{References}
use Rattle.sq_tree.specs.declared.schema.ColumnDefinition.{ColumnDefinition}
use Rattle.sq_tree.specs.declared.schema.DefaultValue.{DefaultValue}
use Rattle.sq_tree.specs.declared.schema.DefaultValue.TheVariants as default
use Rattle.sq_tree.specs.declared.schema.ColumnConstraint.{ColumnConstraint}
use Rattle.sq_tree.specs.declared.schema.ColumnConstraint.TheVariants as constraint
use Rattle.sq_tree.specs.declared.schema.ViewDefinition.{ViewDefinition}
use Rattle.sq_tree.specs.declared.schema.GrantStatement.{GrantStatement}
use Rattle.sq_tree.specs.declared.schema.Privileges.{Privileges}
use Rattle.sq_tree.specs.declared.schema.Privileges.TheVariants as privileges
use Rattle.sq_tree.specs.declared.schema.Action.{Action}
use Rattle.sq_tree.specs.declared.schema.Action.TheVariants as action
use Rattle.sq_tree.specs.declared.schema.Grantee.{Grantee}
use Rattle.sq_tree.specs.declared.schema.Grantee.TheVariants as grantee

references_nests : (r : References) → Nests (references_tokens r) (references_depth r)
references_nests r = nests-as (nests-plain _ (λ n. refl) (nests-append (table_name_nests r.table) (some_columns_nests r.columns))) (omega arith)

bracket_depth-small : {A : Type 0} (o : Option A) → bracket_depth o ≤ 1
bracket_depth-small None = omega arith
bracket_depth-small (Some x) = omega arith

foreign_key_nests : (f : ForeignKey) → Nests (foreign_key_tokens f) (foreign_key_depth f)
foreign_key_nests f = nests-as (nests-plain _ (λ n. refl) (nests-plain _ (λ n. refl) (nests-append (columns_nests f.columns) (references_nests f.references)))) (omega (arith, bracket_depth-small f.references.columns))

default_nests : (d : DefaultValue) → Nests (default_tokens d) 0
default_nests (default.Number n) = signed_number_nests n
default_nests (default.Text characters) = (nests-plain _ (λ n. refl) nests-none)
default_nests default.User = (nests-plain _ (λ n. refl) nests-none)
default_nests default.Null = (nests-plain _ (λ n. refl) nests-none)

default_clause_nests : (d : DefaultValue) → Nests (default_clause_tokens d) 0
default_clause_nests d = (nests-plain _ (λ n. refl) (default_nests d))

check_nests : (c : Cond) → Nests (check_tokens c) (cond_depth c + 1)
check_nests c = (nests-plain _ (λ n. refl) (nests-bracketed (cond_nests c)))

constraint_nests : (c : ColumnConstraint) → Nests (column_constraint_tokens c) (column_constraint_depth c)
constraint_nests constraint.NotNull = (nests-plain _ (λ n. refl) (nests-plain _ (λ n. refl) nests-none))
constraint_nests constraint.Unique = (nests-plain _ (λ n. refl) nests-none)
constraint_nests constraint.PrimaryKey = (nests-plain _ (λ n. refl) (nests-plain _ (λ n. refl) nests-none))
constraint_nests (constraint.References references) = references_nests references
constraint_nests (constraint.Check cond) = check_nests cond

column_nests : (c : ColumnDefinition) → Nests (column_definition_tokens c) (column_definition_depth c)
column_nests c = nests-as (nests-plain _ (λ n. refl) (nests-append (nests-append (data_type_nests c.data_type) (nests-optional0 default_clause_tokens default_clause_nests c.default)) (nests-row column_constraint_tokens column_constraint_depth constraint_nests c.constraints))) (omega arith)

table_element_nests : (e : TableElement) → Nests (table_element_tokens e) (table_element_depth e)
table_element_nests (element.Column column) = column_nests column
table_element_nests (element.Unique columns) = (nests-plain _ (λ n. refl) (columns_nests columns))
table_element_nests (element.PrimaryKey columns) = (nests-plain _ (λ n. refl) (nests-plain _ (λ n. refl) (columns_nests columns)))
table_element_nests (element.ForeignKey key) = foreign_key_nests key
table_element_nests (element.Check cond) = check_nests cond

table_nests : (t : TableDefinition) → Nests (table_definition_tokens t) (table_definition_depth t)
table_nests t = nests-as (nests-plain _ (λ n. refl) (nests-plain _ (λ n. refl) (nests-append (table_name_nests t.name) (nests-bracketed (nests-comma table_element_tokens table_element_depth table_element_nests t.elements))))) (omega arith)

view_nests : (v : ViewDefinition) → Nests (view_definition_tokens v) (view_definition_depth v)
view_nests v = nests-as (nests-plain _ (λ n. refl) (nests-plain _ (λ n. refl) (nests-append (nests-append (nests-append (table_name_nests v.name) (some_columns_nests v.columns)) (nests-plain _ (λ n. refl) (query_specification_nests v.query))) (nests-if_written {ts = lexeme.Word word.With ∷ lexeme.Word word.Check ∷ lexeme.Word word.Option ∷ []} v.check_option (nests-plain _ (λ n. refl) (nests-plain _ (λ n. refl) (nests-plain _ (λ n. refl) nests-none))))))) (omega arith)

action_nests : (a : Action) → Nests (action_tokens a) (action_depth a)
action_nests action.Select = (nests-plain _ (λ n. refl) nests-none)
action_nests action.Insert = (nests-plain _ (λ n. refl) nests-none)
action_nests action.Delete = (nests-plain _ (λ n. refl) nests-none)
action_nests (action.Update columns) = (nests-plain _ (λ n. refl) (some_columns_nests columns))
action_nests (action.References columns) = (nests-plain _ (λ n. refl) (some_columns_nests columns))

privileges_nests : (p : Privileges) → Nests (privileges_tokens p) (privileges_depth p)
privileges_nests privileges.All = (nests-plain _ (λ n. refl) (nests-plain _ (λ n. refl) nests-none))
privileges_nests (privileges.Actions actions) = nests-comma action_tokens action_depth action_nests actions

grantee_nests : (g : Grantee) → Nests (grantee_tokens g) 0
grantee_nests grantee.Public = (nests-plain _ (λ n. refl) nests-none)
grantee_nests (grantee.User name) = (nests-plain _ (λ n. refl) nests-none)

grant_nests : (g : GrantStatement) → Nests (grant_tokens g) (grant_depth g)
grant_nests g = nests-as (nests-plain _ (λ n. refl) (nests-append (nests-append (nests-append (nests-append (privileges_nests g.privileges) (nests-plain _ (λ n. refl) (nests-if_written {ts = lexeme.Word word.Table ∷ []} g.table_word (nests-plain _ (λ n. refl) nests-none)))) (table_name_nests g.table)) (nests-plain _ (λ n. refl) (nests-comma0 grantee_tokens grantee_nests g.grantees))) (nests-if_written {ts = lexeme.Word word.With ∷ lexeme.Word word.Grant ∷ lexeme.Word word.Option ∷ []} g.grant_option (nests-plain _ (λ n. refl) (nests-plain _ (λ n. refl) (nests-plain _ (λ n. refl) nests-none)))))) (omega arith)

schema_element_nests : (e : SchemaElement) → Nests (schema_element_tokens e) (schema_element_depth e)
schema_element_nests (Table table) = table_nests table
schema_element_nests (View view) = view_nests view
schema_element_nests (Grant grant) = grant_nests grant

schema_nests : (s : SchemaDefinition) → Nests (schema_definition_tokens s) (schema_definition_depth s)
schema_nests s = nests-as (nests-plain _ (λ n. refl) (nests-plain _ (λ n. refl) (nests-plain _ (λ n. refl) (nests-plain _ (λ n. refl) (nests-append (nests-row schema_element_tokens schema_element_depth schema_element_nests s.elements) (nests-if_written {ts = lexeme.Symbol symbol.Semicolon ∷ []} s.semicolon (nests-plain _ (λ n. refl) nests-none))))))) (omega arith)

-- the depth of a schema text, by that of its parts
pub schema_depth-parts : (s : SchemaText) → schema_depth s ≡ schema_text_depth s
schema_depth-parts s = nests-deepest {ts = schema_tokens s} (nests-append (schema_nests s.first) (nests-row schema_definition_tokens schema_definition_depth schema_nests s.rest))
