-- Two schema texts with one list of tokens are one, and so for their parts.
use Rattle.std.proofs.Common.{◌≡◌, ℕ, suc, max, ◌<◌, [], Some, refl, arith}
use Rattle.sq_tree.specs.declared.schema.SchemaText.{SchemaText}
use Rattle.sq_tree.specs.declared.schema.SchemaDefinition.{SchemaDefinition}
use Rattle.sq_tree.specs.declared.schema.SchemaElement.{SchemaElement}
use Rattle.sq_tree.specs.declared.schema.TableDefinition.{TableDefinition}
use Rattle.sq_tree.specs.declared.schema.TableElement.{TableElement}
use Rattle.sq_tree.specs.declared.schema.TableElement.TheVariants.{Column}
use Rattle.sq_tree.specs.declared.schema.ForeignKey.{ForeignKey}
use Rattle.sq_tree.specs.declared.schema.References.{References}
use Rattle.sq_tree.specs.declared.schema.ColumnDefinition.{ColumnDefinition}
use Rattle.sq_tree.specs.declared.schema.DefaultValue.{DefaultValue}
use Rattle.sq_tree.specs.declared.schema.ColumnConstraint.{ColumnConstraint}
use Rattle.sq_tree.specs.declared.schema.ViewDefinition.{ViewDefinition}
use Rattle.sq_tree.specs.declared.schema.GrantStatement.{GrantStatement}
use Rattle.sq_tree.specs.declared.schema.Privileges.{Privileges}
use Rattle.sq_tree.specs.declared.schema.Action.{Action}
use Rattle.sq_tree.specs.declared.schema.Grantee.{Grantee}
use Rattle.sq_tree.specs.Schema.{references_tokens, foreign_key_tokens, default_clause_tokens, column_constraint_tokens, column_definition_tokens, table_element_tokens, table_definition_tokens, view_definition_tokens, action_tokens, privileges_tokens, grantee_tokens, grant_tokens, schema_element_tokens, schema_definition_tokens, schema_tokens, schema_depth}
use Rattle.sq_tree.proofs.SchemaDepth.{column_constraint_depth, table_element_depth, table_definition_depth, view_definition_depth, action_depth, privileges_depth, grant_depth, schema_element_depth, schema_definition_depth}
use Rattle.sq_grammar.proofs.Sound.Spells.{some_is}
use Rattle.sq_grammar.proofs.Taken.CondTakes.{inner_cond_takes}
use Rattle.sq_grammar.proofs.Taken.QueryTakes.{specification_takes}
use Rattle.sq_grammar.proofs.Taken.TableTakes.{EndsConstraint, EndsColumn, references_takes, foreign_key_takes, default_clause_takes, column_constraint_takes, table_element_takes, table_definition_takes}
use Rattle.sq_grammar.proofs.Taken.SchemaTakes.{EndsElement, EndsDefinition, view_definition_takes, action_takes, privileges_takes, grantee_takes, grant_takes, element_takes, schema_definition_takes}
use Rattle.sq_grammar.proofs.Taken.TextTakes.{end_of_query, type_taken, schema_taken}
use Rattle.sq_grammar.proofs.Unique.OneTree.{one_tree, behind_first}

end_of_constraint : EndsConstraint []
end_of_constraint = record { dot = refl; bracket = refl; varying = refl; default = refl }

end_of_column : EndsColumn []
end_of_column = record { constraint = end_of_constraint; not = refl; unique = refl; primary = refl; references = refl; check = refl }

end_of_element : EndsElement []
end_of_element = record { table = end_of_query.table; with_word = refl }

end_of_definition : EndsDefinition []
end_of_definition = record { element = end_of_element; grant = refl; created = refl; semicolon = refl }

-- ---- tables

pub one_references : (a b : References) → references_tokens a ≡ references_tokens b → a ≡ b
one_references a b same = one_tree (references_takes a {a = 0} {left = 0} {rest = []} refl refl) (references_takes b refl refl) (omega arith) (omega arith) same

pub one_foreign_key : (a b : ForeignKey) → foreign_key_tokens a ≡ foreign_key_tokens b → a ≡ b
one_foreign_key a b same = one_tree (foreign_key_takes a {a = 0} {left = 0} {rest = []} refl refl) (foreign_key_takes b refl refl) (omega arith) (omega arith) (behind_first same)

pub one_default_value : (a b : DefaultValue) → default_clause_tokens a ≡ default_clause_tokens b → a ≡ b
one_default_value a b same = some_is a b (one_tree (default_clause_takes (Some a) {a = 0} {left = 0} {rest = []} refl) (default_clause_takes (Some b) refl) (omega arith) (omega arith) same)

pub one_column_constraint : (a b : ColumnConstraint) → column_constraint_tokens a ≡ column_constraint_tokens b → a ≡ b
one_column_constraint a b same =
    let left : ℕ = suc (max (column_constraint_depth a) (column_constraint_depth b)) in
    let takes = column_constraint_takes type_taken inner_cond_takes left (omega arith) in
    some_is a b (one_tree (takes a [] end_of_constraint) (takes b [] end_of_constraint) (omega arith) (omega arith) same)

pub one_table_element : (a b : TableElement) → table_element_tokens a ≡ table_element_tokens b → a ≡ b
one_table_element a b same =
    let left : ℕ = suc (max (table_element_depth a) (table_element_depth b)) in
    let takes = table_element_takes type_taken inner_cond_takes left (omega arith) in
    one_tree (takes a [] end_of_column) (takes b [] end_of_column) (omega arith) (omega arith) same

-- as elements of a table
pub one_column_definition : (a b : ColumnDefinition) → column_definition_tokens a ≡ column_definition_tokens b → a ≡ b
one_column_definition a b same = let elements = one_table_element (Column a) (Column b) same in cc

pub one_table_definition : (a b : TableDefinition) → table_definition_tokens a ≡ table_definition_tokens b → a ≡ b
one_table_definition a b same =
    let inner : ℕ = suc (max (table_definition_depth a) (table_definition_depth b)) in
    let room : 0 < inner = omega arith in
    one_tree (table_definition_takes type_taken inner_cond_takes inner room a {rest = []}) (table_definition_takes type_taken inner_cond_takes inner room b) (omega arith) (omega arith) (behind_first (behind_first same))

-- ---- views and grants

pub one_view_definition : (a b : ViewDefinition) → view_definition_tokens a ≡ view_definition_tokens b → a ≡ b
one_view_definition a b same =
    let left : ℕ = suc (max (view_definition_depth a) (view_definition_depth b)) in
    let takes = view_definition_takes specification_takes left (omega arith) in
    one_tree (takes a [] end_of_element) (takes b [] end_of_element) (omega arith) (omega arith) (behind_first (behind_first same))

pub one_action : (a b : Action) → action_tokens a ≡ action_tokens b → a ≡ b
one_action a b same =
    let left : ℕ = suc (max (action_depth a) (action_depth b)) in
    one_tree (action_takes a {a = 0} {left = left} {rest = []} (omega arith) refl) (action_takes b (omega arith) refl) (omega arith) (omega arith) same

pub one_privileges : (a b : Privileges) → privileges_tokens a ≡ privileges_tokens b → a ≡ b
one_privileges a b same =
    let left : ℕ = suc (max (privileges_depth a) (privileges_depth b)) in
    one_tree (privileges_takes a {a = 0} {left = left} {rest = []} (omega arith) refl refl) (privileges_takes b (omega arith) refl refl) (omega arith) (omega arith) same

pub one_grantee : (a b : Grantee) → grantee_tokens a ≡ grantee_tokens b → a ≡ b
one_grantee a b same = one_tree (grantee_takes a {a = 0} {left = 0} {rest = []}) (grantee_takes b) (omega arith) (omega arith) same

pub one_grant_statement : (a b : GrantStatement) → grant_tokens a ≡ grant_tokens b → a ≡ b
one_grant_statement a b same =
    let left : ℕ = suc (max (grant_depth a) (grant_depth b)) in
    one_tree (grant_takes a {a = 0} {left = left} {rest = []} (omega arith) refl refl) (grant_takes b (omega arith) refl refl) (omega arith) (omega arith) (behind_first same)

-- ---- texts

pub one_schema_element : (a b : SchemaElement) → schema_element_tokens a ≡ schema_element_tokens b → a ≡ b
one_schema_element a b same =
    let inner : ℕ = suc (max (schema_element_depth a) (schema_element_depth b)) in
    let takes = element_takes type_taken inner_cond_takes specification_takes inner (omega arith) in
    some_is a b (one_tree (takes a [] end_of_element) (takes b [] end_of_element) (omega arith) (omega arith) same)

pub one_schema_definition : (a b : SchemaDefinition) → schema_definition_tokens a ≡ schema_definition_tokens b → a ≡ b
one_schema_definition a b same =
    let inner : ℕ = suc (max (schema_definition_depth a) (schema_definition_depth b)) in
    let takes = schema_definition_takes type_taken inner_cond_takes specification_takes inner (omega arith) in
    one_tree (takes a [] end_of_definition) (takes b [] end_of_definition) (omega arith) (omega arith) (behind_first same)

pub one_schema_text : (a b : SchemaText) → schema_tokens a ≡ schema_tokens b → a ≡ b
one_schema_text a b same =
    let inner : ℕ = suc (max (schema_depth a) (schema_depth b)) in
    one_tree (schema_taken inner (omega arith) a) (schema_taken inner (omega arith) b) (omega arith) (omega arith) same
