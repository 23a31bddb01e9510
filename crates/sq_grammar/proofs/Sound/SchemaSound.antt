-- Schema texts are spelled by what was read.
use Rattle.std.proofs.Common.{◌≡◌, ℕ, ◌+◌, ◌-◌, ◌≤◌, true, false, [], ◌∷◌, ◌++◌, Some, None, refl, sym, ◌∙◌, ap, arith, append_assoc}
use Rattle.sq_lex.specs.declared.lexeme.Lexeme.TheVariants as lexeme
use Rattle.sq_lex.specs.declared.symbol.Symbol.TheVariants as symbol
use Rattle.sq_lex.specs.declared.word.Word.TheVariants as word
use Rattle.sq_lex.specs.declared.name.Name.{Name}
use Rattle.sq_tree.specs.declared.schema.SchemaElement.TheVariants.{Table, View, Grant}
use Rattle.sq_tree.specs.declared.schema.TableElement.TheVariants as elements
use Rattle.sq_tree.specs.declared.schema.DefaultValue.TheVariants as defaults
use Rattle.sq_tree.specs.declared.schema.ColumnConstraint.TheVariants as constraints
use Rattle.sq_tree.specs.declared.schema.Privileges.TheVariants as privilege
use Rattle.sq_tree.specs.declared.schema.Action.TheVariants as actions
use Rattle.sq_tree.specs.declared.schema.Grantee.TheVariants as grantees
use Rattle.sq_tree.specs.Tree.{Tokens, if_written, optional, bracketed}
use Rattle.sq_tree.proofs.TreeDepth.{optional_depth}
use Rattle.sq_tree.specs.List.{comma_tokens}
use Rattle.sq_tree.specs.Names.{name_tokens, table_name_tokens}
use Rattle.sq_tree.specs.Cond.{cond_tokens}
use Rattle.sq_tree.proofs.CondDepth.{cond_depth}
use Rattle.sq_tree.specs.Schema as tree
use Rattle.sq_tree.proofs.SchemaDepth as depths
use Rattle.sq_tree.proofs.SchemaNests.{schema_depth-parts}
use Rattle.sq_grammar.specs.Reading.{eat, one_if_any, name_of, text_of, name, comma_separated, all}
use Rattle.sq_grammar.specs.Names.{table_name, signed_number, columns, columns_if_any}
use Rattle.sq_grammar.specs.DataType.{data_type}
use Rattle.sq_grammar.specs.Cond as conditions
use Rattle.sq_grammar.specs.Cond.{must_be_cond, query_specification}
use Rattle.sq_grammar.specs.Schema.{references_from, references, default_value, default_clause, check, column_constraint, column_definition, foreign_key, table_constraint, table_element, table_definition, check_option, view_definition, action, privileges, grantee, grant_option, grant, sees_created, created, element, schema_definition, next_definition, schema_text}
use Rattle.sq_grammar.proofs.Sound.Spells.{as_deep, Sound, After, sound, unsound, built, andthen, eats, eaten, expected, maybe, following, either, names, a_name, a_text, lists, rows, behinds, behinds_with, lifted}
use Rattle.sq_grammar.proofs.Sound.NamesSound.{table_names, signed_numbers, column_lists, a_column_list}
use Rattle.sq_grammar.proofs.Sound.DataTypeSound.{data_type_sound}
use Rattle.sq_grammar.proofs.Sound.CondSound.{inner_cond_sound, query_specification_sound}

references_behind : (left : ℕ) → 1 ≤ left → After (lexeme.Word word.References ∷ []) 0 left references_from tree.references_tokens depths.references_depth
unfolding references_from
references_behind left room = andthen table_name _ (table_names left) (λ t. andthen columns_if_any _ (a_column_list left room) (λ cs. built (record { table = t; columns = cs }) _ _ refl (λ h. omega arith)))

references_sound : (left : ℕ) → 1 ≤ left → Sound references tree.references_tokens depths.references_depth left
unfolding references
references_sound left room = sound (expected (lexeme.Word word.References) _ (references_behind left room))

default_sound : (left : ℕ) → Sound default_value tree.default_tokens (λ _. 0) left
unfolding default_value
default_sound left = sound (eaten (lexeme.Word word.User) _
    (built defaults.User _ _ refl (λ h. omega arith))
    (eaten (lexeme.Word word.Null) _
    (built defaults.Null _ _ refl (λ h. omega arith))
    (maybe (one_if_any text_of) _ (a_text left)
    (andthen signed_number _ (signed_numbers left) (λ n. built (defaults.Number n) _ _ refl (λ h. omega arith)))
    (λ cs. built (defaults.Text cs) _ _ refl (λ h. omega arith)))))

default_clause_sound : (left : ℕ) → Sound default_clause (optional tree.default_clause_tokens) (optional_depth (λ _. 0)) left
unfolding default_clause
default_clause_sound left = behinds (lexeme.Word word.Default) default_value left (default_sound left)

check_sound : (left : ℕ) → 1 ≤ left → Sound (check left) (λ c. bracketed (cond_tokens c)) (λ c. cond_depth c + 1) left
unfolding check
check_sound left room = sound (expected (lexeme.Symbol symbol.Open) _ (andthen (must_be_cond (conditions.inside left)) _ (lifted left (omega arith) (inner_cond_sound left)) (λ c. expected (lexeme.Symbol symbol.Close) _ (built c _ _ refl (λ h. omega arith)))))

constraint_sound : (left : ℕ) → 1 ≤ left → Sound (column_constraint left) (optional tree.column_constraint_tokens) (optional_depth depths.column_constraint_depth) left
unfolding column_constraint
constraint_sound left room = sound (eaten (lexeme.Word word.Not) _
    (expected (lexeme.Word word.Null) _ (built (Some constraints.NotNull) _ _ refl (λ h. omega arith)))
    (eaten (lexeme.Word word.Unique) _
    (built (Some constraints.Unique) _ _ refl (λ h. omega arith))
    (eaten (lexeme.Word word.Primary) _
    (expected (lexeme.Word word.Key) _ (built (Some constraints.PrimaryKey) _ _ refl (λ h. omega arith)))
    (eaten (lexeme.Word word.References) _
    (following references_from _ (references_behind left room) (λ r. built (Some (constraints.References r)) _ _ refl (λ h. h)))
    (eaten (lexeme.Word word.Check) _
    (andthen (check left) _ (check_sound left room) (λ c. built (Some (constraints.Check c)) _ _ refl (λ h. omega arith)))
    (built None _ _ refl (λ h. omega arith)))))))

column_sound : (left : ℕ) → 1 ≤ left → (n : Name) → After (name_tokens n) 0 left (column_definition left n) tree.column_definition_tokens depths.column_definition_depth
unfolding column_definition
column_sound left room n = andthen data_type _ (data_type_sound left room) (λ t. andthen default_clause _ (default_clause_sound left) (λ d. andthen (all (column_constraint left)) _ (rows (column_constraint left) tree.column_constraint_tokens depths.column_constraint_depth left (constraint_sound left room)) (λ cs.
    built (record { name = n; data_type = t; default = d; constraints = cs }) _ _ refl (λ h. omega arith))))

foreign_key_behind : (left : ℕ) → 1 ≤ left → After (lexeme.Word word.Foreign ∷ []) 0 left foreign_key tree.foreign_key_tokens (λ _. 1)
unfolding foreign_key
foreign_key_behind left room = expected (lexeme.Word word.Key) _ (andthen columns _ (column_lists left room) (λ cs. andthen references _ (references_sound left room) (λ r. built (record { columns = cs; references = r }) _ _ refl (λ h. room))))

table_constraint_sound : (left : ℕ) → 1 ≤ left → Sound (table_constraint left) tree.table_element_tokens depths.table_element_depth left
unfolding table_constraint
table_constraint_sound left room = sound (eaten (lexeme.Word word.Unique) _
    (andthen columns _ (column_lists left room) (λ cs. built (elements.Unique cs) _ _ refl (λ h. room)))
    (eaten (lexeme.Word word.Primary) _
    (expected (lexeme.Word word.Key) _ (andthen columns _ (column_lists left room) (λ cs. built (elements.PrimaryKey cs) _ _ refl (λ h. room))))
    (eaten (lexeme.Word word.Foreign) _
    (following foreign_key _ (foreign_key_behind left room) (λ k. built (elements.ForeignKey k) _ _ refl (λ h. room)))
    (expected (lexeme.Word word.Check) _ (andthen (check left) _ (check_sound left room) (λ c. built (elements.Check c) _ _ refl (λ h. omega arith)))))))

element_sound : (left : ℕ) → 1 ≤ left → Sound (table_element left) tree.table_element_tokens depths.table_element_depth left
unfolding table_element
element_sound left room = sound (maybe (one_if_any name_of) _ (a_name left)
    (unsound (table_constraint_sound left room))
    (λ n. following (column_definition left n) _ (column_sound left room n) (λ c. built (elements.Column c) _ _ refl (λ h. h))))

table_sound : (left : ℕ) → 2 ≤ left → After (lexeme.Word word.Create ∷ lexeme.Word word.Table ∷ []) 0 left (table_definition (left - 1)) tree.table_definition_tokens depths.table_definition_depth
unfolding table_definition
table_sound left room = andthen table_name _ (table_names left) (λ n. expected (lexeme.Symbol symbol.Open) _ (andthen (comma_separated (table_element (left - 1))) _ (lifted left (omega arith) (lists (table_element (left - 1)) (left - 1) (element_sound (left - 1) (omega arith)))) (λ es.
    expected (lexeme.Symbol symbol.Close) _ (built (record { name = n; elements = es }) _ _ (simp append_assoc) (λ h. omega arith)))))

check_option_sound : (left : ℕ) → Sound check_option (λ o. if_written o (lexeme.Word word.With ∷ lexeme.Word word.Check ∷ lexeme.Word word.Option ∷ [])) (λ _. 0) left
unfolding check_option
check_option_sound left = sound (eaten (lexeme.Word word.With) _
    (expected (lexeme.Word word.Check) _ (expected (lexeme.Word word.Option) _ (built true _ _ refl (λ h. omega arith))))
    (built false _ _ refl (λ h. omega arith)))

view_sound : (left : ℕ) → 1 ≤ left → After (lexeme.Word word.Create ∷ lexeme.Word word.View ∷ []) 0 left (view_definition left) tree.view_definition_tokens depths.view_definition_depth
unfolding view_definition
view_sound left room = andthen table_name _ (table_names left) (λ n. andthen columns_if_any _ (a_column_list left room) (λ cs. expected (lexeme.Word word.As) _ (andthen (query_specification left) _ (query_specification_sound left) (λ q. andthen check_option _ (check_option_sound left) (λ o.
    built (record { name = n; columns = cs; query = q; check_option = o }) _ _ (simp append_assoc) (λ h. omega arith))))))

action_sound : (left : ℕ) → 1 ≤ left → Sound action tree.action_tokens depths.action_depth left
unfolding action
action_sound left room = sound (eaten (lexeme.Word word.Select) _
    (built actions.Select _ _ refl (λ h. omega arith))
    (eaten (lexeme.Word word.Insert) _
    (built actions.Insert _ _ refl (λ h. omega arith))
    (eaten (lexeme.Word word.Delete) _
    (built actions.Delete _ _ refl (λ h. omega arith))
    (eaten (lexeme.Word word.Update) _
    (andthen columns_if_any _ (a_column_list left room) (λ cs. built (actions.Update cs) _ _ refl (λ h. omega arith)))
    (expected (lexeme.Word word.References) _ (andthen columns_if_any _ (a_column_list left room) (λ cs. built (actions.References cs) _ _ refl (λ h. omega arith))))))))

privileges_sound : (left : ℕ) → 1 ≤ left → Sound privileges tree.privileges_tokens depths.privileges_depth left
unfolding privileges
privileges_sound left room = sound (eaten (lexeme.Word word.All) _
    (expected (lexeme.Word word.Privileges) _ (built privilege.All _ _ refl (λ h. omega arith)))
    (andthen (comma_separated action) _ (lists action left (action_sound left room)) (λ acts. built (privilege.Actions acts) _ _ refl (λ h. omega arith))))

grantee_sound : (left : ℕ) → Sound grantee tree.grantee_tokens (λ _. 0) left
unfolding grantee
grantee_sound left = sound (eaten (lexeme.Word word.Public) _
    (built grantees.Public _ _ refl (λ h. omega arith))
    (andthen name _ (names left) (λ n. built (grantees.User n) _ _ refl (λ h. omega arith))))

grant_option_sound : (left : ℕ) → Sound grant_option (λ o. if_written o (lexeme.Word word.With ∷ lexeme.Word word.Grant ∷ lexeme.Word word.Option ∷ [])) (λ _. 0) left
unfolding grant_option
grant_option_sound left = sound (eaten (lexeme.Word word.With) _
    (expected (lexeme.Word word.Grant) _ (expected (lexeme.Word word.Option) _ (built true _ _ refl (λ h. omega arith))))
    (built false _ _ refl (λ h. omega arith)))

grant_text : (head w t gs o : Tokens) → (head ++ lexeme.Word word.On ∷ w) ++ t ++ lexeme.Word word.To ∷ gs ++ o ≡ ((((head ++ lexeme.Word word.On ∷ []) ++ w) ++ t) ++ lexeme.Word word.To ∷ []) ++ gs ++ o
grant_text head w t gs o =
    ap (λ u. u ++ t ++ lexeme.Word word.To ∷ gs ++ o) (sym (append_assoc head (lexeme.Word word.On ∷ []) w)) ∙ ap (λ u. u ++ o) (sym (append_assoc (((head ++ lexeme.Word word.On ∷ []) ++ w) ++ t) (lexeme.Word word.To ∷ []) gs))

grant_sound : (left : ℕ) → 1 ≤ left → After (lexeme.Word word.Grant ∷ []) 0 left grant tree.grant_tokens (λ g. depths.privileges_depth g.privileges)
unfolding grant
grant_sound left room = andthen privileges _ (privileges_sound left room) (λ ps. expected (lexeme.Word word.On) _ (andthen (eat (lexeme.Word word.Table)) _ (eats (lexeme.Word word.Table) left) (λ w. andthen table_name _ (table_names left) (λ t.
    expected (lexeme.Word word.To) _ (andthen (comma_separated grantee) _ (lists grantee left (grantee_sound left)) (λ gs. andthen grant_option _ (grant_option_sound left) (λ o.
    built (record { privileges = ps; table_word = w; table = t; grantees = gs; grant_option = o }) _ _ (grant_text (lexeme.Word word.Grant ∷ tree.privileges_tokens ps) (if_written w (lexeme.Word word.Table ∷ [])) (table_name_tokens t) (comma_tokens tree.grantee_tokens gs) (if_written o (lexeme.Word word.With ∷ lexeme.Word word.Grant ∷ lexeme.Word word.Option ∷ []))) (λ h. omega arith))))))))

created_sound : (left : ℕ) → 2 ≤ left → Sound (created left (left - 1)) (optional tree.schema_element_tokens) (optional_depth depths.schema_element_depth) left
unfolding created
created_sound left room = sound (expected (lexeme.Word word.Create) _ (eaten (lexeme.Word word.Table) _
    (following (table_definition (left - 1)) _ (table_sound left room) (λ t. built (Some (Table t)) _ _ refl (λ h. h)))
    (expected (lexeme.Word word.View) _ (following (view_definition left) _ (view_sound left (omega arith)) (λ v. built (Some (View v)) _ _ refl (λ h. h))))))

schema_element_sound : (left : ℕ) → 2 ≤ left → Sound (element left (left - 1)) (optional tree.schema_element_tokens) (optional_depth depths.schema_element_depth) left
unfolding element
schema_element_sound left room = sound (eaten (lexeme.Word word.Grant) _
    (following grant _ (grant_sound left (omega arith)) (λ g. built (Some (Grant g)) _ _ refl (λ h. h)))
    (either sees_created _ _ (unsound (created_sound left room)) (built None _ _ refl (λ h. omega arith))))

definition_sound : (left : ℕ) → 2 ≤ left → After (lexeme.Word word.Create ∷ []) 0 left (schema_definition left (left - 1)) tree.schema_definition_tokens depths.schema_definition_depth
unfolding schema_definition
definition_sound left room = expected (lexeme.Word word.Schema) _ (expected (lexeme.Word word.Authorization) _ (andthen name _ (names left) (λ n. andthen (all (element left (left - 1))) _ (rows (element left (left - 1)) tree.schema_element_tokens depths.schema_element_depth left (schema_element_sound left room)) (λ es. andthen (eat (lexeme.Symbol symbol.Semicolon)) _ (eats (lexeme.Symbol symbol.Semicolon) left) (λ s.
    built (record { authorization = n; elements = es; semicolon = s }) _ _ refl (λ h. omega arith))))))

by_parts : (left : ℕ) → 2 ≤ left → Sound (schema_text left (left - 1)) tree.schema_tokens depths.schema_text_depth left
unfolding schema_text
by_parts left room = sound (expected (lexeme.Word word.Create) _ (following (schema_definition left (left - 1)) _ (definition_sound left room) (λ first.
    andthen (all (next_definition left (left - 1))) _ (rows (next_definition left (left - 1)) tree.schema_definition_tokens depths.schema_definition_depth left (behinds_with (lexeme.Word word.Create) (schema_definition left (left - 1)) left (definition_sound left room))) (λ more.
    built (record { first = first; rest = more }) _ _ refl (λ h. omega arith)))))

pub schema_sound : (left : ℕ) → 2 ≤ left → Sound (schema_text left (left - 1)) tree.schema_tokens tree.schema_depth left
schema_sound left room = as_deep schema_depth-parts (by_parts left room)
