-- The meaning of a bound query expression: a tree by place (ISO/IEC 9075:1992, 7.10). UNION groups to the left.
use Rattle.std.specs.Prelude.{fold}
use Rattle.sq_meaning.specs.Syntax.{Query, specification, union}
use Rattle.sq_meaning.specs.Placed.{Placed}
use Rattle.sq_bound.specs.Condition.{select_of}
use Rattle.sq_bound.specs.declared.condition.TablePlace.{TablePlace}
use Rattle.sq_bound.specs.declared.query.BoundTerm.{BoundTerm, fold-BoundTerm, BoundTerm-F}
use Rattle.sq_bound.specs.declared.query.BoundTerm.TheOpen as layer
use Rattle.sq_bound.specs.declared.query.BoundQuery.{BoundQuery, fold-BoundQuery, BoundQuery-F}
use Rattle.sq_bound.specs.declared.query.BoundUnion.{BoundUnion, fold-BoundUnion, BoundUnion-F}

abbrev pub PlacedQuery : Type 0
PlacedQuery = Query (Placed TablePlace)

-- One level of a tree, with the meanings of its parts in their places. UNION and its right term wait for the left side.

abbrev pub term_layer : BoundTerm-F PlacedQuery PlacedQuery (PlacedQuery → PlacedQuery) → PlacedQuery
term_layer (layer.Specification s) = specification (select_of s)
term_layer (layer.Bracketed q) = q

abbrev pub query_layer : BoundQuery-F PlacedQuery PlacedQuery (PlacedQuery → PlacedQuery) → PlacedQuery
query_layer q = fold (λ left u. u left) q.first q.rest

abbrev pub union_layer : BoundUnion-F PlacedQuery PlacedQuery (PlacedQuery → PlacedQuery) → PlacedQuery
    → PlacedQuery
union_layer u left = union u.all left u.term

unfoldable pub term_of : BoundTerm → PlacedQuery
term_of =
    fold-BoundTerm PlacedQuery PlacedQuery (PlacedQuery → PlacedQuery) term_layer query_layer union_layer

unfoldable pub query_of : BoundQuery → PlacedQuery
query_of =
    fold-BoundQuery PlacedQuery PlacedQuery (PlacedQuery → PlacedQuery) term_layer query_layer union_layer

unfoldable pub union_of : BoundUnion → PlacedQuery → PlacedQuery
union_of =
    fold-BoundUnion PlacedQuery PlacedQuery (PlacedQuery → PlacedQuery) term_layer query_layer union_layer
