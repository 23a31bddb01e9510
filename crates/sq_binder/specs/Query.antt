-- The parts of query expressions (ISO/IEC 9075:1992, 7.10). UNION groups to the left.
use Rattle.std.specs.Prelude.{◌≡◌, Bool, List, map, Result, Ok, Err}
use Rattle.std.specs.Result.{result_ok}
use Rattle.sq_meaning.specs.Kind.{common_kind}
use Rattle.sq_meaning.specs.SortKeys.{common_name}
use Rattle.sq_meaning.specs.declared.fault.BindingFault.TheVariants as fault
use Rattle.sq_bound.specs.declared.condition.ResultColumn.{ResultColumn as BoundColumn}
use Rattle.sq_bound.specs.declared.query.BoundQuery.{BoundQuery}
use Rattle.sq_bound.specs.declared.query.BoundTerm.{BoundTerm}
use Rattle.sq_binding.specs.Found.{Binding, ◌>>=◌, pure}
use Rattle.sq_binding.specs.NumberedCondition.{NumberedSelect, ResultColumn}
use Rattle.sq_binding.specs.Outcome as outcome
use Rattle.sq_binding.specs.Outcome.{Outcome, or_fault}
use Rattle.sq_binding.specs.QueryExpression.{NumberedQuery, columns_of_query, common_columns}
use Rattle.sq_binding.specs.Seen.{column_of}
use Rattle.sq_binder.specs.declared.found.Found.{Found}
use Rattle.sq_binder.specs.declared.stop.Stop.{Stop}
use Rattle.sq_binder.specs.declared.stop.Stop.TheVariants.{NoMemory}
use Rattle.sq_binding.specs.SeenQuery.{HaveTheirColumns, query_seen, term_seen}

-- ---- the columns of UNION

abbrev pub sides_seen : BoundColumn × BoundColumn → ResultColumn × ResultColumn
sides_seen c = (column_of c.0, column_of c.1)

abbrev pub column_in_common : ResultColumn × ResultColumn → Outcome ResultColumn
column_in_common c =
    outcome.and_then (or_fault fault.KindMismatch (result_ok (common_kind c.0.kind c.1.kind)))
    (λ kind. Ok (record { name = common_name c.0.name c.1.name; kind = kind }))

-- ---- the whole

abbrev pub as_query : Binding NumberedSelect → Binding NumberedQuery
as_query b = b >>= λ x. pure (NumberedQuery.select x)

-- UNION of two sides
abbrev pub union_of : (all : Bool) → (left right : Binding NumberedQuery) → Binding NumberedQuery
union_of all left right =
    left >>= λ x. right >>= λ y. common_columns (columns_of_query x) (columns_of_query y)
    >>= λ columns. pure (NumberedQuery.joined all x y columns)

-- both sides of UNION become one query, whose columns are the ones to which they are brought
abbrev pub Joins : (all : Bool) → Found (BoundQuery × (BoundTerm × List BoundColumn))
    → Result (Found BoundQuery) Stop → Type 0
Joins all sides (Ok query) =
    (query_seen query.part ≡ NumberedQuery.joined all (query_seen sides.part.0) (term_seen sides.part.1.0)
    (map column_of sides.part.1.1))
    × (query.brought ≡ sides.brought)
    × HaveTheirColumns query.part
Joins all sides (Err stop) = stop ≡ NoMemory
