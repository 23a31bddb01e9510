-- The bound forms of query expressions: query specifications, joined by UNION (ISO/IEC 9075:1992, 7.10). Brackets change nothing.
use Rattle.std.specs.Prelude.{Bool, ◌==◌, List, length}
use Rattle.std.specs.List.{zip}
use Rattle.std.specs.Result.{result_ok}
use Rattle.sq_meaning.specs.Kind.{common_kind}
use Rattle.sq_meaning.specs.SortKeys.{common_name}
use Rattle.sq_meaning.specs.Spelled.{Named}
use Rattle.sq_meaning.specs.Syntax.{Query, specification, union}
use Rattle.sq_meaning.specs.declared.fault.BindingFault.TheVariants as fault
use Rattle.sq_bound.specs.Query.{PlacedQuery}
use Rattle.sq_binding.specs.Condition.{select_bound}
use Rattle.sq_binding.specs.Found.{Binding, ◌>>=◌, ◌>>◌, each, must, outcome, pure}
use Rattle.sq_binding.specs.NumberedCondition.{NumberedSelect, ResultColumn, columns_of, select_of}
use Rattle.sq_binding.specs.Outcome.{or_fault}
use Rattle.sq_binding.specs.Select.{Surroundings}

-- a query specification, or two sides with the columns to which both are brought
pub data NumberedQuery : Type 0 where
  select : NumberedSelect → NumberedQuery
  joined : (all : Bool) → (left right : NumberedQuery) → (columns : List ResultColumn) → NumberedQuery

abbrev pub columns_of_query : NumberedQuery → List ResultColumn
columns_of_query (NumberedQuery.select s) = columns_of s
columns_of_query (NumberedQuery.joined all left right columns) = columns

-- the tree without the notes
abbrev pub query_of : NumberedQuery → PlacedQuery
query_of (NumberedQuery.select s) = specification (select_of s)
query_of (NumberedQuery.joined all left right columns) = union all (query_of left) (query_of right)

-- both are numbers, or both are texts; a column keeps its name if both sides have the same one
abbrev pub common_column : ResultColumn × ResultColumn → Binding ResultColumn
common_column c = do
  kind ← outcome (or_fault fault.KindMismatch (result_ok (common_kind c.0.kind c.1.kind)))
  pure (record { name = common_name c.0.name c.1.name; kind = kind })

-- both sides have as many columns
abbrev pub common_columns : (left right : List ResultColumn) → Binding (List ResultColumn)
common_columns left right = do
  must (length left == length right) fault.CountMismatch
  each common_column (zip left right)

abbrev pub query_bound : Surroundings → Query Named → Binding NumberedQuery
query_bound a (specification q) = select_bound a q >>= λ x. pure (NumberedQuery.select x)
query_bound a (union all left right) = do
  x ← query_bound a left
  y ← query_bound a right
  columns ← common_columns (columns_of_query x) (columns_of_query y)
  pure (NumberedQuery.joined all x y columns)
