-- Schema texts: the depth of each tree, from the depth of its parts.
use Rattle.std.specs.Prelude.{ℕ, ◌+◌, max}
use Rattle.sq_tree.proofs.ListDepth.{comma_depth, row_depth}
use Rattle.sq_tree.proofs.DataTypeDepth.{data_type_depth, bracket_depth}
use Rattle.sq_tree.proofs.CondDepth.{cond_depth, query_specification_depth}
use Rattle.sq_tree.specs.declared.schema.SchemaText.{SchemaText}
use Rattle.sq_tree.specs.declared.schema.SchemaDefinition.{SchemaDefinition}
use Rattle.sq_tree.specs.declared.schema.SchemaElement.{SchemaElement}
use Rattle.sq_tree.specs.declared.schema.SchemaElement.TheVariants.{Table, View, Grant}
use Rattle.sq_tree.specs.declared.schema.TableDefinition.{TableDefinition}
use Rattle.sq_tree.specs.declared.schema.TableElement.{TableElement}
use Rattle.sq_tree.specs.declared.schema.TableElement.TheVariants as element
use Rattle.sq_tree.specs.declared.schema.ForeignKey.{ForeignKey}
use Rattle.sq_tree.specs.declared.schema.References.{References}
use Rattle.sq_tree.specs.declared.schema.ColumnDefinition.{ColumnDefinition}
use Rattle.sq_tree.specs.declared.schema.ColumnConstraint.{ColumnConstraint}
use Rattle.sq_tree.specs.declared.schema.ColumnConstraint.TheVariants as constraint
use Rattle.sq_tree.specs.declared.schema.ViewDefinition.{ViewDefinition}
use Rattle.sq_tree.specs.declared.schema.GrantStatement.{GrantStatement}
use Rattle.sq_tree.specs.declared.schema.Privileges.{Privileges}
use Rattle.sq_tree.specs.declared.schema.Privileges.TheVariants as privileges
use Rattle.sq_tree.specs.declared.schema.Action.{Action}
use Rattle.sq_tree.specs.declared.schema.Action.TheVariants as action

abbrev pub references_depth : References → ℕ
references_depth r = bracket_depth r.columns

abbrev pub foreign_key_depth : ForeignKey → ℕ
foreign_key_depth f = 1

abbrev pub column_constraint_depth : ColumnConstraint → ℕ
column_constraint_depth (constraint.References references) = references_depth references
column_constraint_depth (constraint.Check cond) = cond_depth cond + 1
column_constraint_depth _ = 0

abbrev pub column_definition_depth : ColumnDefinition → ℕ
column_definition_depth c = max (data_type_depth c.data_type) (row_depth column_constraint_depth c.constraints)

abbrev pub table_element_depth : TableElement → ℕ
table_element_depth (element.Column column) = column_definition_depth column
table_element_depth (element.Unique columns) = 1
table_element_depth (element.PrimaryKey columns) = 1
table_element_depth (element.ForeignKey key) = foreign_key_depth key
table_element_depth (element.Check cond) = cond_depth cond + 1

abbrev pub table_definition_depth : TableDefinition → ℕ
table_definition_depth t = comma_depth table_element_depth t.elements + 1

abbrev pub view_definition_depth : ViewDefinition → ℕ
view_definition_depth v = max (bracket_depth v.columns) (query_specification_depth v.query)

abbrev pub action_depth : Action → ℕ
action_depth (action.Update columns) = bracket_depth columns
action_depth (action.References columns) = bracket_depth columns
action_depth _ = 0

abbrev pub privileges_depth : Privileges → ℕ
privileges_depth privileges.All = 0
privileges_depth (privileges.Actions actions) = comma_depth action_depth actions

abbrev pub grant_depth : GrantStatement → ℕ
grant_depth g = privileges_depth g.privileges

abbrev pub schema_element_depth : SchemaElement → ℕ
schema_element_depth (Table table) = table_definition_depth table
schema_element_depth (View view) = view_definition_depth view
schema_element_depth (Grant grant) = grant_depth grant

abbrev pub schema_definition_depth : SchemaDefinition → ℕ
schema_definition_depth s = row_depth schema_element_depth s.elements

abbrev pub schema_text_depth : SchemaText → ℕ
schema_text_depth s = max (schema_definition_depth s.first) (row_depth schema_definition_depth s.rest)
