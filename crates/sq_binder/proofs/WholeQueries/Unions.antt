-- UNION of two sides that are bound.
use Rattle.std.proofs.Common.{Bool, List, Ok, Err, map, sym, subst}
use Rattle.std.specs.Prelude.{Result}
use Rattle.sq_bound.specs.declared.condition.ResultColumn.{ResultColumn}
use Rattle.sq_bound.specs.declared.query.BoundQuery.{BoundQuery}
use Rattle.sq_bound.specs.declared.query.BoundTerm.{BoundTerm}
use Rattle.sq_binding.specs.Found.{Binding}
use Rattle.sq_binding.specs.NumberedCondition as binding
use Rattle.sq_binding.specs.QueryExpression.{NumberedQuery, columns_of_query, common_columns}
use Rattle.sq_binding.specs.Seen.{column_of}
use Rattle.sq_binder.specs.Binds.{Stops}
use Rattle.sq_binder.specs.Found.{Finds, Pairs, both_of, counts_of, pairs}
use Rattle.sq_binder.specs.declared.found.Counts.{Counts}
use Rattle.sq_binder.specs.declared.found.Found.{Found}
use Rattle.sq_binder.specs.declared.stop.Stop.{Stop}
use Rattle.sq_binder.proofs.OneByOne.Behind.{Makes, three_made}
use Rattle.sq_binder.proofs.OneByOne.Finds.{makes_found, makes_stop, pairs_found}
use Rattle.sq_binder.specs.Query.{Joins, union_of}
use Rattle.sq_binding.specs.SeenQuery.{query_seen, term_seen}

abbrev Columns : Type 0
Columns = List binding.ResultColumn

module _ (left right : Binding NumberedQuery) (all : Bool) (before : Counts) (joined : Found BoundQuery) (term : Result (Found (BoundTerm × List ResultColumn)) Stop) where
  abbrev beside : NumberedQuery → Binding (NumberedQuery × Columns)
  beside x = pairs right (λ y. common_columns (columns_of_query x) (columns_of_query y))

  abbrev make : NumberedQuery × (NumberedQuery × Columns) → NumberedQuery
  make z = NumberedQuery.joined all z.0 z.1.0 z.1.1

  abbrev seen : BoundQuery × (BoundTerm × List ResultColumn) → NumberedQuery × (NumberedQuery × Columns)
  seen = both_of query_seen (both_of term_seen (map column_of))

  makes : Makes (union_of all left right) (pairs left beside) make
  makes = three_made left (λ x. right) (λ x y. common_columns (columns_of_query x) (columns_of_query y)) (λ x y columns. NumberedQuery.joined all x y columns)

  joined_to : (sides : Found (BoundQuery × (BoundTerm × List ResultColumn))) (r : Result (Found BoundQuery) Stop) → Finds seen (pairs left beside) before (Ok sides) → Joins all sides r → Finds query_seen (union_of all left right) before r
  joined_to sides (Ok q) found is = makes_found seen query_seen (union_of all left right) (pairs left beside) make makes before sides q found is.1 is.0
  joined_to sides (Err stop) found is = subst (λ (s : Stop). Stops (union_of all left right (counts_of before)) s) (sym is) tt

  pub joins_found : (sides : Found (BoundQuery × (BoundTerm × List ResultColumn))) (r : Result (Found BoundQuery) Stop) → Finds query_seen left before (Ok joined)
      → Finds (both_of term_seen (map column_of)) (beside (query_seen joined.part)) joined.brought.next term → Pairs joined term (Ok sides) → Joins all sides r → Finds query_seen (union_of all left right) before r
  joins_found sides r l m paired is = joined_to sides r (pairs_found query_seen (both_of term_seen (map column_of)) left beside before joined term (Ok sides) l m paired) is

  pub joins_stop : (stop : Stop) → Finds query_seen left before (Ok joined) → Finds (both_of term_seen (map column_of)) (beside (query_seen joined.part)) joined.brought.next term → Pairs joined term (Err stop)
      → Stops (union_of all left right (counts_of before)) stop
  joins_stop stop l m paired =
      makes_stop seen query_seen (union_of all left right) (pairs left beside) make makes before stop
      (pairs_found query_seen (both_of term_seen (map column_of)) left beside before joined term (Err stop) l m paired)
