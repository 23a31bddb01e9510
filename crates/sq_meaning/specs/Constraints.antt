-- Constraints (ISO/IEC 9075:1992, 4.10, 11.4 and 11.6 to 11.9). They are checked at the end of each statement.
use Rattle.std.specs.List.{AllByRecursion, list_all, list_any}
use Rattle.std.specs.Prelude.{◌≡◌, ℕ, Bool, not, ◌||◌, List, [], ◌∷◌, map, if◌then◌else◌, ⊤, slice_get, filter_map, flat_map, option_to_list, Some, None, Ok, Err}
use Rattle.sq_lex.specs.declared.name.Name.{Name}
use Rattle.sq_value.specs.Domain.{IsInDomain}
use Rattle.sq_value.specs.Key.{in_columns}
use Rattle.sq_value.specs.SetFunctions.{is_null as is_null_value}
use Rattle.sq_value.specs.declared.domain.Domain.{Domain}
use Rattle.sq_value.specs.declared.truth.Truth.{Truth}
use Rattle.sq_value.specs.declared.truth.Truth.TheVariants as truth
use Rattle.sq_store.specs.Content.{Content, table_at}
use Rattle.sq_tree.specs.declared.cond.Cond.{Cond}
use Rattle.sq_tree.specs.declared.schema.References.{References}
use Rattle.sq_tree.specs.declared.schema.TableDefinition.{TableDefinition}
use Rattle.sq_meaning.specs.Environment.{Env, Item, Row, TableName, alone, outermost, within}
use Rattle.sq_meaning.specs.Query.{rows, truth}
use Rattle.sq_meaning.specs.Rows.{same_row}
use Rattle.sq_meaning.specs.Spelled.{cond_of, table_of}
use Rattle.sq_meaning.specs.Status.{Outcome, and_then, ◌>>=◌}
use Rattle.sq_meaning.specs.Tables.{by_name, rows_in}
use Rattle.sq_meaning.specs.declared.status.Status.{Status}
use Rattle.sq_meaning.specs.declared.status.Status.TheVariants as status
use Rattle.sq_meaning.specs.Catalog.{column_domain}
use Rattle.sq_meaning.specs.Schema.{BaseTable, Elements, Reference, base_place, base_tables, checks, column_definitions, keys, not_null_columns, place_among, referenced_columns, table_columns, table_named, table_references}
use Rattle.sq_meaning.specs.Words.{has_twice}

abbrev pub demanded : Bool → Status → Outcome (Unit {0})
demanded holds s = if holds then Ok tt else Err s

abbrev pub places_among : List Name → List Name → List ℕ
places_among names columns = filter_map (place_among names) columns

-- the values of a row in some columns of its table
abbrev pub values_in : TableDefinition → List Name → Row → Row
values_in t columns row = in_columns row (places_among (table_columns t) columns)

abbrev pub has_null : Row → Bool
has_null values = list_any is_null_value values

-- the rows of a base table now
abbrev pub rows_of_base : Elements → Content → TableName → List Row
rows_of_base elements content name =
    flat_map (λ place. rows_in (table_at content place)) (option_to_list (base_place elements name))

-- ---- of one row

abbrev pub own_item : BaseTable → Item
own_item t = record {
  reference = record { table = t.name; correlation = None };
  columns = table_columns t.definition;
}

-- the environment of a CHECK: one row of its table, which is named by its own name
abbrev pub check_env : BaseTable → Row → Env Item
check_env t row = within (alone (own_item t ∷ []) (row ∷ [])) (outermost [] [])

-- a CHECK is satisfied when it is not false
abbrev pub satisfied : Outcome Truth → Outcome (Unit {0})
satisfied (Ok truth.False) = Err status.IntegrityConstraintViolation
satisfied (Ok truth.Unknown) = Ok tt
satisfied (Ok truth.True) = Ok tt
satisfied (Err s) = Err s

-- the condition of a CHECK has no subquery, parameter or USER, so nothing but the row is read
abbrev pub check_satisfied : BaseTable → Row → Cond → Outcome (Unit {0})
check_satisfied t row condition =
    satisfied (truth (by_name [] [] []) (cond_of t.name.user condition) (check_env t row))

abbrev pub not_null_satisfied : BaseTable → Row → Outcome (Unit {0})
not_null_satisfied t row =
    demanded (not (has_null (values_in t.definition (not_null_columns t.definition) row)))
    status.IntegrityConstraintViolation

abbrev pub all_satisfied : {A : Type 0} → (A → Outcome (Unit {0})) → List A → Outcome (Unit {0})
all_satisfied test [] = Ok tt
all_satisfied test (x ∷ xs) = and_then (test x) (λ _. all_satisfied test xs)

-- NOT NULL, and then each CHECK in the order of the text
abbrev pub row_satisfied : BaseTable → Row → Outcome (Unit {0})
row_satisfied t row = do
  _ ← not_null_satisfied t row
  all_satisfied (check_satisfied t row) (checks t.definition)

-- ---- of one table

-- no two rows are the same in all columns of a key
abbrev pub key_satisfied : TableDefinition → List Row → List Name → Bool
key_satisfied t rows key = not (has_twice same_row (map (values_in t key) rows))

abbrev pub keys_satisfied : BaseTable → List Row → Outcome (Unit {0})
keys_satisfied t rows =
    demanded (list_all (key_satisfied t.definition rows) (keys t.definition))
    status.IntegrityConstraintViolation

-- ---- references: some referencing column is null, or a row of the other table is the same in the paired columns

abbrev pub is_referenced : Row → List Row → Bool
is_referenced values referenced = has_null values || list_any (same_row values) referenced

-- the values of the referenced columns in all rows of the other table
abbrev pub referenced_values : Elements → Content → TableName → References → List Row
referenced_values elements content target references =
    flat_map (λ t. flat_map (λ columns. map (values_in t columns) (rows_of_base elements content target))
    (option_to_list (referenced_columns t references)))
    (option_to_list (table_named elements target))

abbrev pub reference_satisfied : Elements → Content → BaseTable → Reference → Bool
reference_satisfied elements content t r =
    list_all (λ row. is_referenced (values_in t.definition r.columns row)
    (referenced_values elements content (table_of t.name.user r.references.table) r.references))
    (rows_of_base elements content t.name)

abbrev pub references_satisfied : Elements → Content → BaseTable → Outcome (Unit {0})
references_satisfied elements content t =
    demanded (list_all (reference_satisfied elements content t) (table_references t.definition))
    status.IntegrityConstraintViolation

-- ---- the first that fails

-- In the changed table row by row, by rising number; then its keys; then the references of all tables.
abbrev pub constraints_checked : Elements → BaseTable → Content → Outcome (Unit {0})
constraints_checked elements t content = do
  _ ← all_satisfied (row_satisfied t) (rows_of_base elements content t.name)
  _ ← keys_satisfied t (rows_of_base elements content t.name)
  all_satisfied (references_satisfied elements content) (base_tables elements)

-- ---- constraints hold

-- each value is null or of its column's domain
abbrev pub AreInDomains : List Domain → Row → Type 0
AreInDomains [] [] = ⊤
AreInDomains (d ∷ ds) (v ∷ vs) = IsInDomain d v × AreInDomains ds vs
AreInDomains _ _ = ⊥

abbrev pub DomainsHold : Elements → Content → BaseTable → Type 0
DomainsHold elements content t =
    AllByRecursion (AreInDomains (map column_domain (column_definitions t.definition)))
    (rows_of_base elements content t.name)

-- the constraints of each row, the keys and the references of a table are satisfied
abbrev pub ChecksHold : Elements → Content → BaseTable → Type 0
ChecksHold elements content t =
    (all_satisfied (row_satisfied t) (rows_of_base elements content t.name) ≡ Ok tt)
    × (keys_satisfied t (rows_of_base elements content t.name) ≡ Ok tt)
    × (references_satisfied elements content t ≡ Ok tt)

-- the property holds of every base table
abbrev pub EachTable : Elements → (BaseTable → Type 0) → Type 0
EachTable elements P = (place : ℕ) (t : BaseTable) → slice_get (base_tables elements) place ≡ Some t → P t

abbrev pub AllChecksHold : Elements → Content → Type 0
AllChecksHold elements content = EachTable elements (ChecksHold elements content)

-- all constraints hold: of all rows of all tables
abbrev pub ConstraintsHold : Elements → Content → Type 0
ConstraintsHold elements content =
    EachTable elements (DomainsHold elements content) × AllChecksHold elements content
