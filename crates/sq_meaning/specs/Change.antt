-- INSERT, UPDATE and DELETE (ISO/IEC 9075:1992, 13.6 to 13.10): from a database to the one after it, or a status. With
-- a status nothing is changed. Statuses come in this order: of choosing rows; no data; of values and storing; of row
-- numbers; of check options; of constraints. All reading is of the database before the statement.
use Rattle.std.specs.List.{enumerate_from, list_any, zip}
use Rattle.std.specs.Prelude.{ℕ, ◌+◌, Bool, not, List, [], ◌∷◌, map, length, nat_eq, nat_le, ◌==◌, slice_get, slice_set, fold, filter, find, filter_map, Option, unwrap_or, option_map, option_and_then, Some, None, Ok, Err}
use Rattle.sq_lex.specs.declared.name.Name.{Name}
use Rattle.sq_value.specs.SetFunctions.{numbers}
use Rattle.sq_value.specs.declared.domain.Domain.{Domain}
use Rattle.sq_value.specs.declared.domain.Domain.TheVariants as domain
use Rattle.sq_value.specs.declared.value.Value.{Value}
use Rattle.sq_value.specs.declared.value.Value.TheVariants as value
use Rattle.sq_store.specs.Content.{Content, changed, inserted, table_at, with_table}
use Rattle.sq_store.specs.declared.table.Numbered.{Numbered}
use Rattle.sq_store.specs.declared.table.Table.{Table}
use Rattle.sq_tree.specs.declared.list.CommaList.{CommaList}
use Rattle.sq_tree.specs.declared.schema.ColumnDefinition.{ColumnDefinition}
use Rattle.sq_tree.specs.declared.schema.DefaultValue.{DefaultValue}
use Rattle.sq_tree.specs.declared.schema.DefaultValue.TheVariants as default
use Rattle.sq_tree.specs.declared.statement.Delete.{Delete}
use Rattle.sq_tree.specs.declared.statement.Insert.{Insert}
use Rattle.sq_tree.specs.declared.statement.InsertSource.{InsertSource}
use Rattle.sq_tree.specs.declared.statement.InsertSource.TheVariants as source
use Rattle.sq_tree.specs.declared.statement.NewValue.{NewValue}
use Rattle.sq_tree.specs.declared.statement.NewValue.TheVariants as new_value
use Rattle.sq_tree.specs.declared.statement.Update.{Update}
use Rattle.sq_meaning.specs.Assignment.{assigned}
use Rattle.sq_meaning.specs.Environment.{Env, Input, Item, Row, TableName, outermost}
use Rattle.sq_meaning.specs.Expression.{Reading, user_value, value}
use Rattle.sq_meaning.specs.Query.{rows}
use Rattle.sq_meaning.specs.Spelled.{Named, clause, expr_of, listed, select_of, number_with_sign, table_of}
use Rattle.sq_meaning.specs.Status.{Outcome, and_then, each, well_formed, ◌>>=◌}
use Rattle.sq_meaning.specs.Syntax.{Clause}
use Rattle.sq_meaning.specs.Syntax.{absent}
use Rattle.sq_meaning.specs.Tables.{TableDescriptor, Tables, by_name, column_names, descriptor_of}
use Rattle.sq_meaning.specs.Target.{Target, chosen_numbers, meets_check_option, searched_target, seen_at, target_of}
use Rattle.sq_meaning.specs.declared.status.Status.TheVariants as status
use Rattle.sq_meaning.specs.Catalog.{column_domain, tables_of}
use Rattle.sq_meaning.specs.Constraints.{all_satisfied, constraints_checked, demanded}
use Rattle.sq_meaning.specs.Schema.{BaseTable, Elements, base_tables, column_definitions, place_among}

-- the inputs of a statement: the schema elements, the greatest row number, the database, the parameters, and the module's user
pub record Setting : Type 0 where
  pub elements : Elements
  pub row_numbers : ℕ
  pub content : Content
  pub inputs : List Input
  pub user : Name

abbrev pub tables_in : Setting → Tables
tables_in s = tables_of s.elements

abbrev pub reading_in : Setting → Reading Named
reading_in s = by_name (tables_in s) s.content s.user

abbrev pub outer_env : Setting → Env Item
outer_env s = outermost s.inputs s.user

abbrev pub base_at : Setting → ℕ → Outcome BaseTable
base_at s place = well_formed (slice_get (base_tables s.elements) place)

abbrev pub rows_at : Setting → ℕ → List Numbered
rows_at s place = (table_at s.content place).rows

-- ---- new values (9.2)

-- null is stored unchanged
abbrev pub stored_value : Setting → Env Item → Domain → NewValue → Outcome Value
stored_value s env d (new_value.Expr e) = value (reading_in s) (expr_of e) env >>= assigned d
stored_value s env d new_value.Null = assigned d value.Null

abbrev pub domain_at : BaseTable → ℕ → Domain
domain_at t place =
    unwrap_or (slice_get (map column_domain (column_definitions t.definition)) place) domain.Int

-- one after the other: the first is evaluated and stored before the second is evaluated
abbrev pub stored_values : Setting → Env Item → BaseTable → List (ℕ × NewValue) → Outcome (List (ℕ × Value))
stored_values s env t news =
    each (λ n. and_then (stored_value s env (domain_at t n.0) n.1) (λ v. Ok (n.0, v))) news

-- the value of the column at a place, if one is given
abbrev pub given_at : List (ℕ × Value) → ℕ → Option Value
given_at given place = option_map (λ g. g.1) (find (λ g. g.0 == place) given)

-- ---- after the change

abbrev pub check_options_met : Setting → Target → List Row → Outcome (Unit {0})
check_options_met s target rows = all_satisfied (meets_check_option (reading_in s) (outer_env s) target) rows

-- a database, if the constraints that concern the change hold in it
abbrev pub completed_with : Setting → BaseTable → Content → Outcome Content
completed_with s t content = do
  _ ← constraints_checked s.elements t content
  Ok content

-- the database with a table changed, if check options and constraints allow it
abbrev pub completed : Setting → Target → BaseTable → List Row → Table → Outcome Content
completed s target t rows changed = do
  _ ← check_options_met s target rows
  completed_with s t (with_table s.content target.place changed)

-- ---- INSERT (13.8)

-- the place in the base table of the column that the statement's table has under a name
abbrev pub place_under : TableDescriptor → Target → Name → Option ℕ
place_under d target name = option_and_then (slice_get target.columns) (place_among (column_names d) name)

-- the places in the base table of the columns that an insert column list names; without one, of all columns
abbrev pub insert_places : TableDescriptor → Target → Option (CommaList Name) → List ℕ
insert_places d target None = target.columns
insert_places d target (Some columns) = filter_map (place_under d target) (listed columns)

abbrev pub stored_row : BaseTable → List ℕ → Row → Outcome (List (ℕ × Value))
stored_row t places row =
    each (λ p. and_then (assigned (domain_at t p.0) p.1) (λ v. Ok (p.0, v))) (zip places row)

abbrev pub if_some : {A : Type 0} → List A → Outcome (List A)
if_some [] = Err status.NoData
if_some (x ∷ xs) = Ok (x ∷ xs)

-- the values that are given, row by row; the rows of a query are all computed before any is stored
abbrev pub given_rows : Setting → BaseTable → List ℕ → InsertSource → Outcome (List (List (ℕ × Value)))
given_rows s t places (source.Values values) = do
  row ← stored_values s (outer_env s) t (zip places (listed values))
  Ok (row ∷ [])
given_rows s t places (source.Query q) = do
  found ← rows (reading_in s) (select_of s.user q) (outer_env s)
  some ← if_some found
  each (stored_row t places) some

-- the value of a column that is given none (11.5); USER is the caller
abbrev pub value_of_default : Name → Option DefaultValue → Value
value_of_default user None = value.Null
value_of_default user (Some (default.Number n)) = value.Num (number_with_sign n)
value_of_default user (Some (default.Text characters)) = value.Chars characters
value_of_default user (Some default.User) = user_value user
value_of_default user (Some default.Null) = value.Null

abbrev pub value_or_default : Setting → ColumnDefinition → Option Value → Outcome Value
value_or_default s c None = assigned (column_domain c) (value_of_default s.user c.default)
value_or_default s c (Some v) = Ok v

-- a new row: each column has the value that is given for it, or else its default
abbrev pub new_row : Setting → BaseTable → List (ℕ × Value) → Outcome Row
new_row s t given =
    each (λ p. value_or_default s p.1 (given_at given p.0))
    (enumerate_from 0 (column_definitions t.definition))

-- new rows take the next numbers (own rule)
abbrev pub has_numbers : Setting → ℕ → List Row → Bool
has_numbers s place rows = nat_le ((table_at s.content place).next + length rows) (s.row_numbers + 1)

abbrev pub with_rows : Table → List Row → Table
with_rows t rows = fold inserted t rows

abbrev pub insert_outcome : Setting → Insert → Outcome Content
insert_outcome s i = do
  d ← descriptor_of (tables_in s) (table_of s.user i.table)
  target ← target_of (tables_in s) (table_of s.user i.table)
  t ← base_at s target.place
  given ← given_rows s t (insert_places d target i.columns) i.source
  rows ← each (new_row s t) given
  _ ← demanded (has_numbers s target.place rows) status.NoRowNumberLeft
  completed s target t rows (with_rows (table_at s.content target.place) rows)

-- ---- the rows that UPDATE and DELETE change (13.6, 13.7, 13.9 and 13.10)

-- the rows that a statement changes: the rows that its search condition keeps, or the one that a cursor is on
pub data Which : Type 0 where
  searched : Clause Named → Which
  numbered : ℕ → Which

abbrev pub which_target : Setting → TableName → Which → Outcome Target
which_target s name (Which.searched clause) = searched_target (tables_in s) name clause
which_target s name (Which.numbered n) = searched_target (tables_in s) name absent

-- the numbers of the rows that are changed; if the search condition keeps none, there is no data
abbrev pub numbers_changed : Setting → Target → Which → Outcome (List ℕ)
numbers_changed s target (Which.searched clause) =
    chosen_numbers (reading_in s) (outer_env s) target (rows_at s target.place) >>= if_some
numbers_changed s target (Which.numbered n) = Ok (n ∷ [])

abbrev pub is_numbered : List ℕ → Numbered → Bool
is_numbered numbers r = list_any (nat_eq r.number) numbers

-- ---- UPDATE

abbrev pub set_places : TableDescriptor → Target → Update → List (ℕ × NewValue)
set_places d target u =
    filter_map (λ a. option_map (λ place. (place, a.value)) (place_under d target a.column))
    (listed u.assignments)

abbrev pub item_alone : TableDescriptor → Item
item_alone d = record { reference = record { table = d.table; correlation = None }; columns = column_names d }

-- the environment in which the statement sees a row of the base table: as its table's columns
abbrev pub row_env : Setting → TableDescriptor → Target → Row → Env Item
row_env s d target row =
    seen_at (record { item = item_alone d; columns = target.columns; condition = absent }) row (outer_env s)

abbrev pub with_values : List (ℕ × Value) → Row → Row
with_values given row = fold (λ r g. slice_set r g.0 g.1) row given

-- a row after the set clauses, which read the values before
abbrev pub updated_row : Setting → TableDescriptor → Target → BaseTable → Update → Numbered → Outcome Numbered
updated_row s d target t u r = do
  given ← stored_values s (row_env s d target r.row) t (set_places d target u)
  Ok (record { number = r.number; row = with_values given r.row })

abbrev pub replaced : List Numbered → Numbered → Numbered
replaced changed r = unwrap_or (find (λ c. c.number == r.number) changed) r

abbrev pub with_replaced : Table → List Numbered → Table
with_replaced t changed = record { rows = map (replaced changed) t.rows; next = t.next }

abbrev pub update_outcome : Setting → Update → Which → Outcome Content
update_outcome s u which = do
  d ← descriptor_of (tables_in s) (table_of s.user u.table)
  target ← which_target s (table_of s.user u.table) which
  t ← base_at s target.place
  numbers ← numbers_changed s target which
  changed ← each (updated_row s d target t u) (filter (is_numbered numbers) (rows_at s target.place))
  completed s target t (map (λ r. r.row) changed) (with_replaced (table_at s.content target.place) changed)

-- ---- DELETE

abbrev pub without : Table → List ℕ → Table
without t numbers = record { rows = filter (λ r. not (is_numbered numbers r)) t.rows; next = t.next }

abbrev pub delete_outcome : Setting → Delete → Which → Outcome Content
delete_outcome s x which = do
  target ← which_target s (table_of s.user x.table) which
  t ← base_at s target.place
  numbers ← numbers_changed s target which
  completed s target t [] (without (table_at s.content target.place) numbers)
