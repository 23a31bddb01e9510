-- Query expressions outside every query, and the columns that ORDER BY sorts by (ISO/IEC 9075:1992, 7.10 and 13.1).
use Rattle.std.specs.Prelude.{◌≡◌, Bool, true, false, List, [], Result, Vec, map, Ok}
use Rattle.std.specs.List.{AllByRecursion}
use Rattle.std.specs.declared.alloc.Global.{Global}
use Rattle.std.specs.declared.cmp.Ordering.{Ordering}
use Rattle.sq_lex.specs.declared.name.Name.{Name}
use Rattle.sq_value.specs.Comparison.{ordered}
use Rattle.sq_value.specs.declared.domain.Kind.{Kind}
use Rattle.sq_value.specs.declared.value.Value.{Value}
use Rattle.sq_store.specs.Content.{Content}
use Rattle.sq_meaning.specs.Environment.{Row, outermost}
use Rattle.sq_meaning.specs.Placed.{by_place}
use Rattle.sq_meaning.specs.QueryExpression.{query_rows}
use Rattle.sq_meaning.specs.Rows as meaning
use Rattle.sq_meaning.specs.Status.{Outcome}
use Rattle.sq_meaning.specs.WellFormed.{kinds_by_place}
use Rattle.sq_bound.specs.Joined.{term_kinds, term_specifications}
use Rattle.sq_bound.specs.Query.{query_of, term_of}
use Rattle.sq_bound.specs.WellFormed.{IsQuery, IsSelect, TableKinds}
use Rattle.sq_bound.specs.declared.condition.BoundSpecification.{BoundSpecification}
use Rattle.sq_bound.specs.declared.condition.TablePlace.{TablePlace}
use Rattle.sq_bound.specs.declared.names.BaseTable.{BaseTable}
use Rattle.sq_bound.specs.declared.query.BoundQuery.{BoundQuery}
use Rattle.sq_bound.specs.declared.query.BoundTerm.{BoundTerm}
use Rattle.sq_bound.specs.declared.query.SortColumn.{SortColumn}
use Rattle.sq_expression.specs.Fault.{HasRows}
use Rattle.sq_expression.specs.Frame.{inputs_of}
use Rattle.sq_query.specs.MayRead.{MayRead}
use Rattle.sq_expression.specs.declared.fault.Fault.{Fault}

-- ---- query expressions

-- Whatever the tables are that it may read, a query expression has the rows that it has over these.
abbrev pub HasQueryRows : Result (Vec Row Global) Fault → List BaseTable → List BoundSpecification
    → TableKinds → Content → Name → List Value → BoundQuery → Type 0
HasQueryRows result bases queries columns content user values q =
    (parameters : List Kind) (tables : TablePlace → Outcome (List Row))
    → MayRead bases queries columns content user values parameters tables → IsQuery columns parameters q
    → HasRows result (query_rows (by_place tables) (kinds_by_place columns parameters) (query_of q)
    (outermost (inputs_of values) user))

-- the same for a term of it, whose columns have kinds
abbrev pub HasTermRows : Result (Vec Row Global) Fault → List BaseTable → List BoundSpecification
    → TableKinds → Content → Name → List Value → BoundTerm → Type 0
HasTermRows result bases queries columns content user values term =
    (parameters : List Kind) (tables : TablePlace → Outcome (List Row))
    → MayRead bases queries columns content user values parameters tables
    → AllByRecursion (IsSelect columns parameters []) (term_specifications term)
    → (kinds : List Kind) → term_kinds term ≡ Ok kinds
    → HasRows result (query_rows (by_place tables) (kinds_by_place columns parameters) (term_of term)
    (outermost (inputs_of values) user))

-- ---- ORDER BY

abbrev pub sort_column : SortColumn → meaning.SortColumn
sort_column s = record { column = s.column; descending = s.descending }

abbrev pub sort_columns : List SortColumn → List meaning.SortColumn
sort_columns order = map sort_column order

-- down is the other way round
abbrev pub in_direction : (descending : Bool) → Value → Value → Ordering
in_direction true v w = ordered w v
in_direction false v w = ordered v w

-- in the order of the columns, as rows are that were sorted by them
abbrev pub AreSorted : List meaning.SortColumn → List (List Value) → Type 0
AreSorted columns rows =
    (found : List (List Value)) × (rows ≡ meaning.sorted (meaning.by_columns columns) found)
