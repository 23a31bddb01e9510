-- Left open for sort_query: the clause finds; answered by Finds and CursorTrees.
use Rattle.std.proofs.Common.{List, Option, map, ap, subst, ◌∙◌}
use Rattle.std.proofs.lemmas.Result.{IfOk-at_ok}
use Rattle.sq_lex.specs.declared.name.Name.{Name}
use Rattle.sq_meaning.specs.Spelled.{listed_if_any}
use Rattle.sq_bound.specs.declared.query.BoundQuery.{BoundQuery}
use Rattle.sq_binding.specs.Found.{outcome}
use Rattle.sq_binding.specs.Order.{names_of, order_bound}
use Rattle.sq_binding.specs.QueryExpression.{NumberedQuery, columns_of_query}
use Rattle.sq_binding.specs.Seen.{column_of}
use Rattle.sq_binder.specs.Found.{Finds, both_of, counts_of, pairs}
use Rattle.sq_binder.specs.declared.found.Found.{Found}
use Rattle.sq_binder.proofs.OneByOne.Finds.{finds_as, pairs_found}
use Rattle.sq_binder.specs.Cursor.{in_order}
use Rattle.sq_binding.specs.SeenQuery.{HaveTheirColumns, query_seen, sort_seen}
use Rattle.sq_binder.proofs.WholeQueries.CursorTrees.{in_order_as}
use Rattle.sq_binding.proofs.Standing.SeenQueries.{query_itself}
use Rattle.sq_binder.proofs.cursor.sort_query.Goals as goal

pub returns-clause-finds : goal.returns-clause-finds
returns-clause-finds c = λ b before found.
    let order = listed_if_any c.args.order.now in
    let by = λ (x : NumberedQuery). outcome (order_bound (names_of (columns_of_query x)) order) in
    let q = c.in_ok-query.query in
    finds_as (both_of query_seen (map sort_seen)) (in_order b order) (pairs b by) before c.pair_parts.result (in_order_as b order (counts_of before))
    (pairs_found query_seen (map sort_seen) b by before q c.found_order-sorts.result c.pair_parts.result (subst (λ r. Finds query_seen b before r) c.in_ok-query.was found)
    (subst (λ (names : List (Option Name)). Finds (map sort_seen) (outcome (order_bound names order)) q.brought.next c.found_order-sorts.result)
    (ap names_of (ap (map column_of) c.as_slice-columns.ensures ∙ query_itself q.part (IfOk-at_ok (λ (f : Found BoundQuery). HaveTheirColumns f.part) c.in_ok-query.was c.requires))) c.found_order-sorts.ensures)
    c.pair_parts.ensures)
