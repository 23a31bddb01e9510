-- The bound forms of cursors (ISO/IEC 9075:1992, 13.1).
use Rattle.std.specs.Prelude.{Bool, if◌then◌else◌, List, [], Option, Some, None, Ok}
use Rattle.sq_tree.specs.declared.«module».Cursor.{Cursor}
use Rattle.sq_meaning.specs.Environment.{TableName}
use Rattle.sq_meaning.specs.Rows.{SortColumn}
use Rattle.sq_meaning.specs.Spelled.{Named, listed_if_any, query_of}
use Rattle.sq_meaning.specs.Syntax.{Query, Select}
use Rattle.sq_meaning.specs.Tables.{Declared}
use Rattle.sq_meaning.specs.WellFormedStatement.{is_plain, only_specification}
use Rattle.sq_tree.specs.declared.«module».SortSpecification.{SortSpecification}
use Rattle.sq_binding.specs.Changeable.{NumberedUpdatable, UserNames, outside, updatable_bound}
use Rattle.sq_binding.specs.Condition.{select_bound}
use Rattle.sq_binding.specs.Found.{Binding, Counts, Found, ◌>>=◌, outcome, pure}
use Rattle.sq_binding.specs.NumberedCondition.{NumberedSelect, ResultColumn, columns_of}
use Rattle.sq_binding.specs.Order.{names_of, order_bound}
use Rattle.sq_binding.specs.Outcome.{Outcome, and_then}
use Rattle.sq_binding.specs.QueryExpression.{NumberedQuery, columns_of_query, query_bound}
use Rattle.sq_binding.specs.Select.{Surroundings}
use Rattle.sq_binding.specs.Whole.{at_first, permitted, whole}

-- the rows that a cursor goes over: the rows of a query, sorted by columns, or rows of a base table
pub data NumberedRows : Type 0 where
  sorted : NumberedQuery → List SortColumn → NumberedRows
  updatable : NumberedUpdatable → NumberedRows

pub record NumberedCursor : Type 0 where
  pub insensitive : Bool
  pub scroll : Bool
  -- the table that an updatable cursor is over
  pub table : Option TableName
  pub columns : List ResultColumn
  pub rows : NumberedRows

abbrev pub sorted_cursor : Cursor → NumberedQuery → List SortColumn → NumberedCursor
sorted_cursor c q order = record {
  insensitive = c.insensitive;
  scroll = c.scroll;
  table = None;
  columns = columns_of_query q;
  rows = NumberedRows.sorted q order;
}

abbrev pub updatable_cursor : Cursor → NumberedSelect → NumberedUpdatable → NumberedCursor
updatable_cursor c s u = record {
  insensitive = c.insensitive;
  scroll = c.scroll;
  table = Some u.table;
  columns = columns_of s;
  rows = NumberedRows.updatable u;
}

-- ---- a query expression, in the order of ORDER BY

abbrev pub sorted_bound : Surroundings → Query Named → List SortSpecification
    → Binding (NumberedQuery × List SortColumn)
sorted_bound a q order = do
  x ← query_bound a q
  by ← outcome (order_bound (names_of (columns_of_query x)) order)
  pure (x, by)

-- ---- a query specification alone, without ORDER BY, SCROLL and INSENSITIVE: the cursor is updatable if the
-- specification is

abbrev pub cursor_over : Cursor → NumberedSelect → Option NumberedUpdatable → NumberedCursor
cursor_over c s None = sorted_cursor c (NumberedQuery.select s) []
cursor_over c s (Some u) = updatable_cursor c s u

abbrev pub behind : {A : Type 0} → Found A → Counts
behind x = record { functions = 0; subqueries = x.subqueries }

abbrev pub select_cursor : UserNames → Surroundings → Cursor → Select Named → Found NumberedSelect
    → Outcome NumberedCursor
select_cursor names a c q x =
    and_then (permitted x)
    (λ s. and_then (updatable_bound names a q s (behind x)) (λ y. Ok (cursor_over c s y.part)))

abbrev pub plain_specification : Cursor → Query Named → Option (Select Named)
plain_specification c q = if is_plain c then only_specification q else None

abbrev pub cursor_of : UserNames → Surroundings → Cursor → Query Named → Option (Select Named)
    → Outcome NumberedCursor
cursor_of names a c query (Some q) = and_then (select_bound a q at_first) (select_cursor names a c q)
cursor_of names a c query None =
    and_then (whole (sorted_bound a query (listed_if_any c.order_by))) (λ x. Ok (sorted_cursor c x.0 x.1))

-- a cursor of a user's module, for the parameters of the procedure that opens it
abbrev pub cursor_bound : UserNames → List Declared → Cursor → Outcome NumberedCursor
cursor_bound names parameters c =
    let query =
    query_of names.user c.query in cursor_of names (outside names parameters) c query
    (plain_specification c query)
