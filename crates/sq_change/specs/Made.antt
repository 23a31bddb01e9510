-- The first results of INSERT, UPDATE and DELETE (ISO/IEC 9075:1992, 13.6 to 13.10). They are the numbers of the rows that they
-- change, and the new rows, or the status that comes first. Check options and constraints come after all of it.
use Rattle.std.specs.List.{enumerate_from, position, zip}
use Rattle.std.specs.Prelude.{ℕ, ◌+◌, Bool, List, [], ◌∷◌, length, nat_eq, nat_le, slice_get, Option, None, Some, option_and_then, Ok, Err}
use Rattle.sq_lex.specs.declared.name.Name.{Name}
use Rattle.sq_value.specs.declared.domain.Domain.{Domain}
use Rattle.sq_value.specs.declared.value.Value.{Value}
use Rattle.sq_store.specs.Content.{Content, row_at, table_at}
use Rattle.sq_store.specs.declared.table.Numbered.{Numbered}
use Rattle.sq_store.specs.declared.table.Table.{Table}
use Rattle.sq_meaning.specs.Assignment.{assigned}
use Rattle.sq_meaning.specs.Environment.{Line, Row, outermost}
use Rattle.sq_meaning.specs.Expression.{user_value, value}
use Rattle.sq_meaning.specs.Placed.{by_place}
use Rattle.sq_meaning.specs.Query.{rows}
use Rattle.sq_meaning.specs.Status.{Outcome, each, well_formed, ◌>>=◌}
use Rattle.sq_meaning.specs.Change.{if_some, with_values}
use Rattle.sq_meaning.specs.Constraints.{demanded}
use Rattle.sq_meaning.specs.declared.status.Status.TheVariants as status
use Rattle.sq_bound.specs.Condition.{select_of}
use Rattle.sq_bound.specs.Expression.{expr_of}
use Rattle.sq_bound.specs.declared.condition.BoundSpecification.{BoundSpecification}
use Rattle.sq_bound.specs.declared.condition.TablePlace.{TablePlace}
use Rattle.sq_bound.specs.declared.expression.BoundExpr.{BoundExpr}
use Rattle.sq_bound.specs.declared.names.BaseColumn.{BaseColumn}
use Rattle.sq_bound.specs.declared.names.BaseTable.{BaseTable}
use Rattle.sq_bound.specs.declared.names.ColumnDefault.{ColumnDefault}
use Rattle.sq_bound.specs.declared.names.ColumnDefault.TheVariants as default
use Rattle.sq_bound.specs.declared.names.ObjectColumn.{ObjectColumn}
use Rattle.sq_bound.specs.declared.query.Target.{Target}
use Rattle.sq_bound.specs.declared.statement.BoundAssignment.{BoundAssignment}
use Rattle.sq_bound.specs.declared.statement.BoundInsert.{BoundInsert}
use Rattle.sq_bound.specs.declared.statement.ChangeTarget.{ChangeTarget}
use Rattle.sq_bound.specs.declared.statement.ChangeTarget.TheVariants as target
use Rattle.sq_bound.specs.declared.statement.InsertedRows.{InsertedRows}
use Rattle.sq_bound.specs.declared.statement.InsertedRows.TheVariants as source
use Rattle.sq_expression.specs.Fault.{Meets}
use Rattle.sq_expression.specs.Frame.{inputs_of}
use Rattle.sq_expression.specs.declared.fault.Fault.{Fault}
use Rattle.sq_query.specs.Row.{outside}
use Rattle.sq_query.specs.Table.{stored_numbered}
use Rattle.sq_query.specs.Target.{conditions_of, is_true_of, numbers_chosen}

-- the inputs of a statement: the queries of the views, the tables before it, its user, and the values of the parameters
pub record Seen : Type 0 where
  pub views : List BoundSpecification
  pub tables : Content
  pub user : Name
  pub values : List Value

-- the inputs of a statement of this user
abbrev pub seen_by : List BoundSpecification → Content → Name → List Value → Seen
seen_by views tables user values = record { views = views; tables = tables; user = user; values = values }

-- the rows of each base table and view
abbrev pub Shown : Type 0
Shown = TablePlace → Outcome (List Row)

-- the fault is the status with which this ends, or memory was refused
abbrev pub Fails : {A : Type 0} → Fault → Outcome A → Type 0
Fails {A} f outcome = Meets {A = A} (Err f) outcome

-- ---- the rows that UPDATE and DELETE change

-- searched: the numbers of the rows for which each condition in turn is true, at least one (13.7, 13.10)
abbrev pub numbers_found : Shown → Seen → Target → Outcome (List ℕ)
numbers_found shown s t =
    stored_numbered s.tables t.base >>= numbers_chosen (is_true_of shown s.values s.user) (conditions_of t)
    >>= if_some

-- positioned: the number of the row that the cursor is on (13.6, 13.9)
abbrev pub number_given : Option ℕ → Outcome (List ℕ)
number_given on = well_formed on >>= λ n. Ok (n ∷ [])

abbrev pub numbers_changed : Shown → Seen → ChangeTarget → Option ℕ → Outcome (List ℕ)
numbers_changed shown s (target.Searched t) on = numbers_found shown s t
numbers_changed shown s (target.Positioned p) on = number_given on

-- ---- values (9.2)

-- the value of an expression on a line, as a column of the domain stores it
abbrev pub value_stored : Shown → Seen → Line → Domain → BoundExpr → Outcome Value
value_stored shown s line d e =
    value (by_place shown) (expr_of [] e) (outside line s.values s.user) >>= assigned d

-- ---- UPDATE (13.9, 13.10)

-- the values of set clauses and the positions of their columns; all read the row as it was
abbrev pub value_set : Shown → Seen → Row → BoundAssignment → Outcome (ℕ × Value)
value_set shown s row a =
    value_stored shown s (row ∷ []) a.column.domain a.value >>= λ v. Ok (a.column.position, v)

abbrev pub row_updated : Shown → Seen → List BoundAssignment → Row → Outcome Row
row_updated shown s assignments row =
    each (value_set shown s row) assignments >>= λ given. Ok (with_values given row)

-- the row under a number, after the set clauses
abbrev pub numbered_updated : Shown → Seen → List BoundAssignment → Numbered → Outcome Numbered
numbered_updated shown s assignments r =
    row_updated shown s assignments r.row >>= λ row. Ok (record { number = r.number; row = row })

abbrev pub updated_under : Shown → Seen → List BoundAssignment → Table → ℕ → Outcome Numbered
updated_under shown s assignments t number =
    well_formed (row_at t number) >>= numbered_updated shown s assignments

abbrev pub rows_updated : Shown → Seen → List BoundAssignment → ℕ → List ℕ → Outcome (List Numbered)
rows_updated shown s assignments place numbers =
    each (updated_under shown s assignments (table_at s.tables place)) numbers

-- ---- INSERT (13.8)

-- the values of VALUES, each stored before the next is evaluated
abbrev pub value_given : Shown → Seen → ObjectColumn × BoundExpr → Outcome Value
value_given shown s p = value_stored shown s [] p.0.domain p.1

abbrev pub values_given : Shown → Seen → List ObjectColumn → List BoundExpr → Outcome Row
values_given shown s columns es = each (value_given shown s) (zip columns es)

-- a row as the columns store it
abbrev pub stored_in : ObjectColumn × Value → Outcome Value
stored_in p = assigned p.0.domain p.1

abbrev pub row_stored : List ObjectColumn → Row → Outcome Row
row_stored columns row = each stored_in (zip columns row)

-- the rows of a query, at least one
abbrev pub rows_found : Shown → Seen → BoundSpecification → Outcome (List Row)
rows_found shown s q = rows (by_place shown) (select_of q) (outermost (inputs_of s.values) s.user) >>= if_some

-- the values that are given, row by row; the rows of a query are all computed before any is stored
abbrev pub rows_given : Shown → Seen → List ObjectColumn → InsertedRows → Outcome (List Row)
rows_given shown s columns (source.Values es) = values_given shown s columns es >>= λ row. Ok (row ∷ [])
rows_given shown s columns (source.Query q) = rows_found shown s q >>= each (row_stored columns)

-- the value that is given for the column at a position
abbrev pub value_at : List ObjectColumn → Row → ℕ → Option Value
value_at columns given place =
    option_and_then (slice_get given) (position (λ c. nat_eq c.position place) columns)

-- a column without a value gets its default (11.5); USER is the caller
abbrev pub default_stored : Name → Domain → ColumnDefault → Outcome Value
default_stored user d (default.Value v) = Ok v
default_stored user d default.User = assigned d (user_value user)

abbrev pub or_default : Name → BaseColumn → Option Value → Outcome Value
or_default user c None = default_stored user c.domain c.default
or_default user c (Some v) = Ok v

-- a new row: each column has the value that is given for it, or else its default
abbrev pub value_completed : Name → List ObjectColumn → Row → ℕ × BaseColumn → Outcome Value
value_completed user columns given p = or_default user p.1 (value_at columns given p.0)

abbrev pub row_completed : Name → BaseTable → List ObjectColumn → Row → Outcome Row
row_completed user t columns given = each (value_completed user columns given) (enumerate_from 0 t.columns)

abbrev pub rows_made : Shown → Seen → BaseTable → List ObjectColumn → InsertedRows → Outcome (List Row)
rows_made shown s t columns source =
    rows_given shown s columns source >>= each (row_completed s.user t columns)

-- new rows take the next numbers, up to the greatest (own rule)
abbrev pub numbers_suffice : ℕ → Table → List Row → Bool
numbers_suffice row_numbers t rows = nat_le (t.next + length rows) (row_numbers + 1)

abbrev pub rows_inserted : Shown → Seen → ℕ → BoundInsert → Outcome (List Row)
rows_inserted shown s row_numbers i = do
  rows ← rows_made shown s i.leaf.table i.columns i.source
  _ ← demanded (numbers_suffice row_numbers (table_at s.tables i.leaf.table.place) rows)
      status.NoRowNumberLeft
  Ok rows
