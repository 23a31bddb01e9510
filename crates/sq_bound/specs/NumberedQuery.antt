-- Numbers of subqueries in query expressions (ISO/IEC 9075:1992, 7.10): no two of its query specifications have a number of a
-- subquery in common.
use Rattle.std.specs.Prelude.{⊤}
use Rattle.sq_bound.specs.Joined.{specifications_of}
use Rattle.sq_bound.specs.Numbered.{EachWith, HaveNumbers, SelectWith}
use Rattle.sq_bound.specs.declared.condition.BoundSpecification.{BoundSpecification}
use Rattle.sq_bound.specs.declared.query.BoundQuery.{BoundQuery}
use Rattle.sq_bound.specs.declared.query.CursorBody.{CursorBody}
use Rattle.sq_bound.specs.declared.query.CursorBody.TheVariants as cursor

-- P holds of each query specification in a query expression, at any depth
abbrev pub QueryWith : (BoundSpecification → Type 0) → BoundQuery → Type 0
QueryWith P q = EachWith SelectWith P (specifications_of q)

-- each number in the query expression of a cursor names one closed query specification
abbrev pub CursorHasNumbers : CursorBody → Type 0
CursorHasNumbers (cursor.Rows q order) = HaveNumbers QueryWith q
CursorHasNumbers (cursor.Updatable u) = ⊤
