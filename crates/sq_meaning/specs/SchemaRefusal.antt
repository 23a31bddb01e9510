-- The schema texts that are refused, and the places (ISO/IEC 9075:1992, 10.3, 11.1, 11.3 to 11.9, 11.19 and 11.36).
-- Each rule is asked of an element, of the user of its schema, and of the elements before it.
use Rattle.std.specs.Bool.{beq}
use Rattle.std.specs.List.{enumerate_from, list_all, list_any, zip}
use Rattle.std.specs.Option.{option_or}
use Rattle.std.specs.Prelude.{ℕ, Bool, true, false, not, ◌&&◌, ◌||◌, List, [], ◌∷◌, ◌++◌, map, length, is_none, is_err, if◌then◌else◌, nat_lt, ◌==◌, fold, find, filter_map, flat_map, Option, option_and_then, option_map, option_to_list, Some, None}
use Rattle.std.specs.Result.{result_ok}
use Rattle.sq_lex.specs.declared.name.Name.{Name}
use Rattle.sq_value.specs.Domain.{domain_length, is_of_numbers}
use Rattle.sq_value.specs.declared.domain.Domain.{Domain}
use Rattle.sq_value.specs.declared.value.Value.TheVariants as value
use Rattle.sq_tree.specs.declared.cond.Cond.{Cond}
use Rattle.sq_tree.specs.declared.list.CommaList.{CommaList}
use Rattle.sq_tree.specs.declared.schema.Action.{Action}
use Rattle.sq_tree.specs.declared.schema.Action.TheVariants as action
use Rattle.sq_tree.specs.declared.schema.ColumnDefinition.{ColumnDefinition}
use Rattle.sq_tree.specs.declared.schema.DefaultValue.{DefaultValue}
use Rattle.sq_tree.specs.declared.schema.DefaultValue.TheVariants as default
use Rattle.sq_tree.specs.declared.schema.GrantStatement.{GrantStatement}
use Rattle.sq_tree.specs.declared.schema.Privileges.{Privileges}
use Rattle.sq_tree.specs.declared.schema.Privileges.TheVariants as privileges
use Rattle.sq_tree.specs.declared.schema.References.{References}
use Rattle.sq_tree.specs.declared.schema.SchemaDefinition.{SchemaDefinition}
use Rattle.sq_tree.specs.declared.schema.SchemaElement.{SchemaElement}
use Rattle.sq_tree.specs.declared.schema.SchemaElement.TheVariants as element
use Rattle.sq_tree.specs.declared.schema.SchemaText.{SchemaText}
use Rattle.sq_tree.specs.declared.schema.TableDefinition.{TableDefinition}
use Rattle.sq_tree.specs.declared.schema.ViewDefinition.{ViewDefinition}
use Rattle.sq_meaning.specs.Assignment.{assigned}
use Rattle.sq_meaning.specs.Environment.{TableName, same_name, same_table}
use Rattle.sq_meaning.specs.Spelled.{cond_of, domain_of, listed, listed_if_any, select_of, number_with_sign, table_of}
use Rattle.sq_meaning.specs.Tables.{descriptor_of}
use Rattle.sq_meaning.specs.Tables.{column_names}
use Rattle.sq_meaning.specs.Binding.{Judged, has_syntax_fault, lacks_privilege}
use Rattle.sq_meaning.specs.Catalog.{column_domain, tables_of, view_names}
use Rattle.sq_meaning.specs.Privilege.{Privilege}
use Rattle.sq_meaning.specs.Privileges.{holds, may_grant_on, updatable_here}
use Rattle.sq_meaning.specs.Schema.{Constraint, Elements, Reference, checks, column_definitions, constraints, has_name_twice, is_among, keys, not_null_columns, primary_keys, referenced_columns, table_columns, table_named, table_references}
use Rattle.sq_meaning.specs.Site.{Site, cond_sites, known_tables, outside, select_count, select_sites}
use Rattle.sq_meaning.specs.WellFormedStatement.{beside_table}
use Rattle.sq_meaning.specs.declared.refusal.SchemaFault.{SchemaFault}
use Rattle.sq_meaning.specs.declared.refusal.SchemaFault.TheVariants as schema_fault
use Rattle.sq_meaning.specs.Words.{is_none_or, is_some_and}

-- ---- the names of an element

abbrev pub same_user : Name → TableName → Bool
same_user user t = same_name t.user user

abbrev pub is_made : Elements → TableName → Bool
is_made elements t = list_any (λ d. same_table d.table t) (tables_of elements)

abbrev pub columns_of_made : Elements → TableName → List Name
columns_of_made elements t =
    flat_map column_names (option_to_list (result_ok (descriptor_of (tables_of elements) t)))

-- the elements up to this one: a table may reference itself
abbrev pub with_element : Elements → Name → SchemaElement → Elements
with_element before user e = record { user = user; element = e } ∷ before

-- ---- a name used again

-- the name of a table or view in the user's own schema is used again
abbrev pub is_made_again : Elements → Name → TableName → Bool
is_made_again before user t = same_user user t && is_made before t

abbrev pub view_sites : Elements → Name → ViewDefinition → List Site
view_sites before user v = select_sites (known_tables (tables_of before)) outside (select_of user v.query)

abbrev pub view_judged : Elements → Name → Judged
view_judged before user = record { known = known_tables (tables_of before); holds = holds before user }

abbrev pub view_has_fault : Elements → Name → ViewDefinition → Bool
view_has_fault before user v = has_syntax_fault (view_judged before user) (view_sites before user v)

-- The names of a view's columns are the names of its list. If there is no list and its query has no fault, they are
-- the names of the query.
abbrev pub names_repeat : Elements → Name → ViewDefinition → Option (CommaList Name) → Bool
names_repeat before user v (Some columns) = has_name_twice (listed columns)
names_repeat before user v None =
    not (view_has_fault before user v)
    && has_name_twice (filter_map (λ n. n) (view_names (tables_of before) user v))

abbrev pub name_twice : Elements → Name → SchemaElement → Bool
name_twice before user (element.Table t) =
    is_made_again before user (table_of user t.name) || has_name_twice (table_columns t)
name_twice before user (element.View v) =
    is_made_again before user (table_of user v.name) || names_repeat before user v v.columns
name_twice before user (element.Grant g) = false

-- ---- a table or a column that is not there

abbrev pub has_unknown : List Name → List Name → Bool
has_unknown columns names = list_any (λ n. not (is_among columns n)) names

abbrev pub reference_unknown : Elements → Name → References → Bool
reference_unknown elements user r =
    not (is_made elements (table_of user r.table))
    || has_unknown (columns_of_made elements (table_of user r.table)) (listed_if_any r.columns)

abbrev pub constraint_unknown : Elements → Name → List Name → Constraint → Bool
constraint_unknown elements user columns (Constraint.not_null name) = false
constraint_unknown elements user columns (Constraint.unique names) = has_unknown columns names
constraint_unknown elements user columns (Constraint.primary_key names) = has_unknown columns names
constraint_unknown elements user columns (Constraint.referential names r) =
    has_unknown columns names || reference_unknown elements user r
constraint_unknown elements user columns (Constraint.check c) = false

abbrev pub action_columns : Action → List Name
action_columns (action.Update columns) = listed_if_any columns
action_columns (action.References columns) = listed_if_any columns
action_columns _ = []

abbrev pub actions_of : Privileges → List Action
actions_of privileges.All = []
actions_of (privileges.Actions actions) = listed actions

abbrev pub grant_unknown : Elements → Name → GrantStatement → Bool
grant_unknown before user g =
    not (is_made before (table_of user g.table))
    || has_unknown (columns_of_made before (table_of user g.table))
    (flat_map action_columns (actions_of g.privileges))

abbrev pub unknown_name : Elements → Name → SchemaElement → Bool
unknown_name before user (element.Table t) =
    list_any (constraint_unknown (with_element before user (element.Table t)) user (table_columns t))
    (constraints t)
unknown_name before user (element.View v) = false
unknown_name before user (element.Grant g) = grant_unknown before user g

-- ---- columns of a table

-- a precision, scale or length that is none
abbrev pub bad_type : SchemaElement → Bool
bad_type (element.Table t) = list_any (λ c. is_none (domain_of c.data_type)) (column_definitions t)
bad_type _ = false

-- a column of a key is declared NOT NULL
abbrev pub nullable_key : SchemaElement → Bool
nullable_key (element.Table t) = list_any (has_unknown (not_null_columns t)) (keys t)
nullable_key _ = false

-- the value that a default clause gives, stored in its column; USER needs 18 characters (own rule)
abbrev pub is_bad_default : Domain → DefaultValue → Bool
is_bad_default d (default.Number n) = is_err (assigned d (value.Num (number_with_sign n)))
is_bad_default d (default.Text characters) = is_err (assigned d (value.Chars characters))
is_bad_default d default.User = nat_lt (domain_length d) 18
is_bad_default d default.Null = false

abbrev pub column_bad_default : ColumnDefinition → Bool
column_bad_default c = is_some_and (is_bad_default (column_domain c)) c.default

abbrev pub bad_default : SchemaElement → Bool
bad_default (element.Table t) = list_any column_bad_default (column_definitions t)
bad_default _ = false

abbrev pub too_many_columns : SchemaElement → Bool
too_many_columns (element.Table t) = nat_lt 64 (length (column_definitions t))
too_many_columns _ = false

-- ---- keys and references

-- a column twice, or more than 6 columns
abbrev pub is_bad_list : List Name → Bool
is_bad_list names = has_name_twice names || nat_lt 6 (length names)

abbrev pub is_bad_key : Constraint → Bool
is_bad_key (Constraint.not_null name) = false
is_bad_key (Constraint.unique names) = is_bad_list names
is_bad_key (Constraint.primary_key names) = is_bad_list names
is_bad_key (Constraint.referential names r) = is_bad_list names || is_bad_list (listed_if_any r.columns)
is_bad_key (Constraint.check c) = false

-- a table has one primary key at most
abbrev pub bad_key : SchemaElement → Bool
bad_key (element.Table t) = nat_lt 1 (length (primary_keys t)) || list_any is_bad_key (constraints t)
bad_key _ = false

-- a key has these columns, in any order
abbrev pub is_key : List Name → List Name → Bool
is_key names key = length names == length key && not (has_unknown key names)

abbrev pub domain_of_column : TableDefinition → Name → Option Domain
domain_of_column t name = option_map column_domain (find (λ c. same_name c.name name) (column_definitions t))

-- both are numbers, or both are texts
abbrev pub are_of_one_sort : Option Domain → Option Domain → Bool
are_of_one_sort (Some d) (Some e) = beq (is_of_numbers d) (is_of_numbers e)
are_of_one_sort _ _ = false

abbrev pub are_paired : TableDefinition → TableDefinition → Name × Name → Bool
are_paired t target names = are_of_one_sort (domain_of_column t names.0) (domain_of_column target names.1)

-- the referenced columns are a key of the target, and pair with the referencing ones: numbers with numbers, texts with
-- texts (own rule)
abbrev pub pairs_well : TableDefinition → List Name → TableDefinition → List Name → Bool
pairs_well t names target referenced =
    list_any (is_key referenced) (keys target) && length names == length referenced
    && list_all (are_paired t target) (zip names referenced)

abbrev pub referenced_table : Elements → Name → References → Option TableDefinition
referenced_table elements user r = table_named elements (table_of user r.table)

-- the target is a base table, and the columns pair well with its referenced columns
abbrev pub is_good_reference : Elements → Name → TableDefinition → Reference → Bool
is_good_reference elements user t r =
    is_some_and (λ target. is_some_and (pairs_well t r.columns target)
    (referenced_columns target r.references))
    (referenced_table elements user r.references)

abbrev pub bad_reference : Elements → Name → SchemaElement → Bool
bad_reference before user (element.Table t) =
    list_any (λ r. not (is_good_reference (with_element before user (element.Table t)) user t r))
    (table_references t)
bad_reference before user _ = false

-- ---- CHECK (11.9): no subquery, set function, USER or parameter (own rule)

abbrev pub is_refused_in_check : Site → Bool
is_refused_in_check Site.user_read = true
is_refused_in_check Site.subquery_read = true
is_refused_in_check _ = false

abbrev pub check_sites : Elements → Name → TableDefinition → Cond → List Site
check_sites elements user t c =
    cond_sites (known_tables (tables_of elements)) (beside_table (table_of user t.name)) (cond_of user c)

abbrev pub is_bad_check : Elements → Name → TableDefinition → Cond → Bool
is_bad_check elements user t c =
    has_syntax_fault (view_judged elements user) (check_sites elements user t c)
    || list_any is_refused_in_check (check_sites elements user t c)

abbrev pub bad_check : Elements → Name → SchemaElement → Bool
bad_check before user (element.Table t) =
    list_any (is_bad_check (with_element before user (element.Table t)) user t) (checks t)
bad_check before user _ = false

-- ---- views (11.19)

-- a column list of another count, or no list and a column without a name
abbrev pub has_bad_names : Elements → Name → ViewDefinition → Option (CommaList Name) → Bool
has_bad_names before user v (Some columns) =
    not (length (listed columns) == select_count (tables_of before) (select_of user v.query))
has_bad_names before user v None = list_any is_none (view_names (tables_of before) user v)

abbrev pub bad_view : Elements → Name → SchemaElement → Bool
bad_view before user (element.View v) = view_has_fault before user v || has_bad_names before user v v.columns
bad_view before user _ = false

abbrev pub bad_check_option : Elements → Name → SchemaElement → Bool
bad_check_option before user (element.View v) =
    v.check_option && is_none (updatable_here (tables_of before) (select_of user v.query))
bad_check_option before user _ = false

-- ---- privileges

abbrev pub columns_referenced : Elements → Name → References → Option (List Name)
columns_referenced elements user r =
    option_and_then (λ target. referenced_columns target r) (referenced_table elements user r)

abbrev pub may_reference_column : Elements → Name → References → Name → Bool
may_reference_column elements user r column =
    holds elements user (table_of user r.table) (Privilege.references column)

-- REFERENCES on each referenced column
abbrev pub may_reference : Elements → Name → Reference → Bool
may_reference elements user r =
    is_none_or (list_all (may_reference_column elements user r.references))
    (columns_referenced elements user r.references)

-- the columns on which an action grants: without a column list, all
abbrev pub columns_granted : List Name → Option (CommaList Name) → List Name
columns_granted columns None = columns
columns_granted columns (Some list) = listed list

abbrev pub action_privileges : List Name → Action → List Privilege
action_privileges columns action.Select = Privilege.select ∷ []
action_privileges columns action.Insert = Privilege.insert ∷ []
action_privileges columns action.Delete = Privilege.delete ∷ []
action_privileges columns (action.Update list) = map Privilege.update (columns_granted columns list)
action_privileges columns (action.References list) = map Privilege.references (columns_granted columns list)

abbrev pub all_privileges : List Name → List Privilege
all_privileges columns =
    Privilege.select ∷ Privilege.insert ∷ Privilege.delete ∷ map Privilege.update columns
    ++ map Privilege.references columns

-- all that is named has to be held with the grant option; of ALL PRIVILEGES something (own rule)
abbrev pub may_grant : (Privilege → Bool) → List Name → Privileges → Bool
may_grant held columns privileges.All = list_any held (all_privileges columns)
may_grant held columns (privileges.Actions actions) =
    list_all held (flat_map (action_privileges columns) (listed actions))

abbrev pub privilege_lacking : Elements → Name → SchemaElement → Bool
privilege_lacking before user (element.Table t) =
    not (list_all (may_reference (with_element before user (element.Table t)) user) (table_references t))
privilege_lacking before user (element.View v) =
    lacks_privilege (view_judged before user) (view_sites before user v)
privilege_lacking before user (element.Grant g) =
    not (may_grant (may_grant_on before user (table_of user g.table))
    (columns_of_made before (table_of user g.table)) g.privileges)

-- ---- the user's own schema; a column twice in a grant

abbrev pub action_repeats : Action → Bool
action_repeats a = has_name_twice (action_columns a)

abbrev pub other_schema : Name → SchemaElement → Bool
other_schema user (element.Table t) = not (same_user user (table_of user t.name))
other_schema user (element.View v) = not (same_user user (table_of user v.name))
other_schema user (element.Grant g) = list_any action_repeats (actions_of g.privileges)

-- more than 1000 tables and views (own rule)
abbrev pub too_many_tables : Elements → Name → SchemaElement → Bool
too_many_tables before user e = nat_lt 1000 (length (tables_of (with_element before user e)))

-- ---- the first refusal

abbrev pub refused_for : Elements → Name → SchemaElement → SchemaFault → Bool
refused_for before user e schema_fault.NameTwice = name_twice before user e
refused_for before user e schema_fault.UnknownName = unknown_name before user e
refused_for before user e schema_fault.BadType = bad_type e
refused_for before user e schema_fault.NullableKey = nullable_key e
refused_for before user e schema_fault.BadKey = bad_key e
refused_for before user e schema_fault.BadReference = bad_reference before user e
refused_for before user e schema_fault.BadCheck = bad_check before user e
refused_for before user e schema_fault.BadDefault = bad_default e
refused_for before user e schema_fault.BadView = bad_view before user e
refused_for before user e schema_fault.BadCheckOption = bad_check_option before user e
refused_for before user e schema_fault.PrivilegeMissing = privilege_lacking before user e
refused_for before user e schema_fault.TooManyColumns = too_many_columns e
refused_for before user e schema_fault.OtherSchema = other_schema user e
refused_for before user e schema_fault.TooManyTables = too_many_tables before user e

-- the order in which they are looked for in one element
abbrev pub schema_faults : List SchemaFault
schema_faults =
    schema_fault.NameTwice ∷ schema_fault.UnknownName ∷ schema_fault.BadType ∷ schema_fault.NullableKey
    ∷ schema_fault.BadKey
    ∷ schema_fault.BadReference ∷ schema_fault.BadCheck ∷ schema_fault.BadDefault ∷ schema_fault.BadView
    ∷ schema_fault.BadCheckOption
    ∷ schema_fault.PrivilegeMissing ∷ schema_fault.TooManyColumns ∷ schema_fault.OtherSchema
    ∷ schema_fault.TooManyTables ∷ []

-- A schema definition's own CREATE (no element), or an element: its text, its schema definition in the text and its
-- number there, each from 0.
pub record Part : Type 0 where
  pub text : ℕ
  pub schema : ℕ
  pub number : Option ℕ
  pub user : Name
  pub element : Option SchemaElement

abbrev pub parts_of_schema : ℕ → ℕ × SchemaDefinition → List Part
parts_of_schema text s =
    record { text = text; schema = s.0; number = None; user = (s.1).authorization; element = None }
    ∷ map (λ e. record {
      text = text;
      schema = s.0;
      number = Some e.0;
      user = (s.1).authorization;
      element = Some e.1;
    }) (enumerate_from 0 (s.1).elements)

abbrev pub parts_of_text : ℕ × SchemaText → List Part
parts_of_text t = flat_map (parts_of_schema t.0) (enumerate_from 0 ((t.1).first ∷ (t.1).rest))

-- in the order of the texts
abbrev pub schema_parts : List SchemaText → List Part
schema_parts texts = flat_map parts_of_text (enumerate_from 0 texts)

-- why a part is refused: a user has one schema; an element for the first of its faults
abbrev pub part_fault : List Name → Elements → Name → Option SchemaElement → Option SchemaFault
part_fault users before user None = if is_among users user then Some schema_fault.NameTwice else None
part_fault users before user (Some e) = find (refused_for before user e) schema_faults

pub record SchemaRefusal : Type 0 where
  pub text : ℕ
  pub schema : ℕ
  pub element : Option ℕ
  pub fault : SchemaFault

abbrev pub part_refusal : Part → SchemaFault → SchemaRefusal
part_refusal p f = record { text = p.text; schema = p.schema; element = p.number; fault = f }

abbrev pub users_with : List Name → Name → Option SchemaElement → List Name
users_with users user None = user ∷ users
users_with users user (Some e) = users

abbrev pub elements_with : Elements → Name → Option SchemaElement → Elements
elements_with before user None = before
elements_with before user (Some e) = with_element before user e

abbrev pub schema_refusal : List Name → Elements → List Part → Option SchemaRefusal
schema_refusal users before [] = None
schema_refusal users before (p ∷ ps) =
    option_or (option_map (part_refusal p) (part_fault users before p.user p.element))
    (schema_refusal (users_with users p.user p.element) (elements_with before p.user p.element) ps)

-- the first refusal of some schema texts
abbrev pub first_schema_refusal : List SchemaText → Option SchemaRefusal
first_schema_refusal texts = schema_refusal [] [] (schema_parts texts)

-- the elements of some schema texts
abbrev pub elements_of : List SchemaText → Elements
elements_of texts = fold (λ before p. elements_with before p.user p.element) [] (schema_parts texts)
