-- Tables that may be changed, and the query specifications that are updatable. Such a query is over one such table, and shows
-- columns of it, each once (ISO/IEC 9075:1992, 7.9; own rule).
use Rattle.std.specs.Prelude.{ℕ, Bool, true, false, not, ◌&&◌, if◌then◌else◌, List, [], ◌∷◌, map, slice_get, Option, Some, None, Ok}
use Rattle.std.specs.List.{list_all, zip}
use Rattle.std.specs.Option.{option_map, option_and_then}
use Rattle.sq_lex.specs.declared.name.Name.{Name}
use Rattle.sq_meaning.specs.Environment.{TableName, TableReference}
use Rattle.sq_meaning.specs.Spelled.{Named}
use Rattle.sq_meaning.specs.Syntax.{Clause, Expr, SelectList, Select, column, all_columns, expressions, select}
use Rattle.sq_meaning.specs.Tables.{Declared}
use Rattle.sq_meaning.specs.Target.{are_distinct}
use Rattle.sq_meaning.specs.Privilege.{Privilege}
use Rattle.sq_meaning.specs.declared.fault.BindingFault.TheVariants as fault
use Rattle.sq_bound.specs.Known.{Under}
use Rattle.sq_bound.specs.declared.condition.TablePlace.{TablePlace}
use Rattle.sq_binding.specs.Condition.{clause_bound}
use Rattle.sq_binding.specs.Found.{Binding, Found, from_first, pure}
use Rattle.sq_binding.specs.From.{NamedTable, NamedTables, column_over}
use Rattle.sq_binding.specs.Numbered.{Numbered}
use Rattle.sq_binding.specs.NumberedCondition.{NumberedClause, NumberedGroups, NumberedSelect}
use Rattle.sq_binding.specs.Outcome.{Outcome, ◌>>=◌, and_then, or_fault}
use Rattle.sq_binding.specs.Scope.{FromItem}
use Rattle.sq_binding.specs.Select.{Surroundings, of_lines}

-- The rows of a base table under a table that may be changed. For each column of the table, the column there that it is.
pub record UnderTable : Type 0 where
  pub leaf : Under
  pub columns : List ℕ

-- the meanings of names in the statements of a user: the tables, the leaves of the tables that may be changed, and the privileges
pub record UserNames : Type 0 where
  pub user : Name
  pub tables : NamedTables
  pub under : TableName → Option UnderTable
  pub holds : TableName → Privilege → Bool

-- in no query, and with no set function allowed
abbrev pub outside : UserNames → List Declared → Surroundings
outside names parameters = record {
  names = names.tables;
  parameters = parameters;
  scopes = [];
  functions_allowed = false;
}

-- ---- tables that may be changed

pub record ChangedTable : Type 0 where
  pub reference : TableReference
  pub table : NamedTable
  pub under : UnderTable

abbrev pub table_over : TableReference → NamedTable → UnderTable → ChangedTable
table_over r t u = record { reference = r; table = t; under = u }

-- the table of a name, if it exists and may be changed
abbrev pub changed_table : UserNames → TableName → Outcome ChangedTable
changed_table names t = do
  table ← or_fault fault.UnknownTable (names.tables t)
  under ← or_fault fault.NotUpdatable (names.under t)
  Ok (table_over (record { table = t; correlation = None }) table under)

-- the table as an item, each column at its position in the base table
abbrev pub item_at_leaf : ChangedTable → FromItem
item_at_leaf t = record {
  reference = t.reference;
  columns = map column_over (zip t.under.columns t.table.columns);
}

-- the rows of the base table that meet a condition, and the conditions of the views in between
pub record NumberedTarget : Type 0 where
  pub table : TablePlace
  pub leaf : Under
  pub condition : NumberedClause

abbrev pub target_over : ChangedTable → NumberedClause → NumberedTarget
target_over t condition = record { table = t.table.place; leaf = t.under.leaf; condition = condition }

abbrev pub condition_bound : Surroundings → ChangedTable → Clause Named → Binding NumberedClause
condition_bound a t c = from_first (clause_bound (of_lines (item_at_leaf t ∷ []) a) c)

-- ---- updatable query specifications

-- the table that it is over, its rows, and the columns of the base table that are shown
pub record NumberedUpdatable : Type 0 where
  pub table : TableName
  pub target : NumberedTarget
  pub columns : List ℕ

abbrev pub only_one : List TableReference → Option TableReference
only_one (r ∷ []) = Some r
only_one _ = None

abbrev pub is_grouped : NumberedGroups → Bool
is_grouped NumberedGroups.not_grouped = false
is_grouped (NumberedGroups.grouped columns functions having) = true

-- each row is a row of a table: there are no DISTINCT and no groups
abbrev pub has_plain_rows : NumberedSelect → Bool
has_plain_rows (NumberedSelect.select distinct list from filter groups columns can_fail number) =
    not distinct && not (is_grouped groups)

abbrev pub from_of : Select Named → List TableReference
from_of (select distinct list from filter by having) = from

abbrev pub list_of : Select Named → SelectList Named
list_of (select distinct list from filter by having) = list

abbrev pub filter_of : Select Named → Clause Named
filter_of (select distinct list from filter by having) = filter

abbrev pub shown_of : NumberedSelect → List Numbered
shown_of (NumberedSelect.select distinct list from filter groups columns can_fail number) = list

abbrev pub may_be_changed : UserNames → TableReference → Option ChangedTable
may_be_changed names r =
    option_and_then (λ t. option_map (table_over r t) (names.under r.table)) (names.tables r.table)

abbrev pub only_table : UserNames → Select Named → NumberedSelect → Option ChangedTable
only_table names q s =
    if has_plain_rows s then option_and_then (may_be_changed names) (only_one (from_of q)) else None

-- a select item that is a column reference and nothing more
abbrev pub is_reference : Expr Named → Bool
is_reference (column c) = true
is_reference _ = false

abbrev pub is_of_references : SelectList Named → Bool
is_of_references all_columns = true
is_of_references (expressions es) = list_all is_reference es

-- the column of the base table that is shown
abbrev pub leaf_column : UnderTable → Numbered → Option ℕ
leaf_column u (Numbered.column p) = slice_get u.columns p.column
leaf_column u _ = None

abbrev pub leaf_columns : UnderTable → List Numbered → Option (List ℕ)
leaf_columns u [] = Some []
leaf_columns u (e ∷ es) =
    option_and_then (λ n. option_map (λ ns. n ∷ ns) (leaf_columns u es)) (leaf_column u e)

abbrev pub if_distinct : List ℕ → Option (List ℕ)
if_distinct columns = if are_distinct columns then Some columns else None

-- the columns that a select list shows, if it has only columns, each once
abbrev pub columns_shown : UnderTable → SelectList Named → List Numbered → Option (List ℕ)
columns_shown u list shown =
    if is_of_references list then option_and_then if_distinct (leaf_columns u shown) else None

-- a condition with a subquery is none of an updatable query
abbrev pub updatable_where : ChangedTable → Option (List ℕ) → Found NumberedClause → Option NumberedUpdatable
updatable_where t None x = None
updatable_where t (Some columns) x =
    if x.findings.has_subquery
    then None
    else Some (record { table = t.reference.table; target = target_over t x.part; columns = columns })

-- a part with the result made of it in its place
abbrev pub made : {A B : Type 0} → (Found A → B) → Found A → Found B
made f x = record {
  part = f x;
  calls = x.calls;
  calls_can_fail = x.calls_can_fail;
  findings = x.findings;
  subqueries = x.subqueries;
}

abbrev pub updatable_over : Surroundings → Select Named → NumberedSelect → Option ChangedTable
    → Binding (Option NumberedUpdatable)
updatable_over a q s None = pure None
updatable_over a q s (Some t) =
    λ counts. and_then (condition_bound a t (filter_of q) counts)
    (λ x. Ok (made (updatable_where t (columns_shown t.under (list_of q) (shown_of s))) x))

-- the updatable query that a bound query specification is, if it is one: its condition is bound once more, on rows of the base table
abbrev pub updatable_bound : UserNames → Surroundings → Select Named → NumberedSelect
    → Binding (Option NumberedUpdatable)
updatable_bound names a q s = updatable_over a q s (only_table names q s)
