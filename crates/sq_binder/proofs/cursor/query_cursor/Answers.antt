-- Left open for query_cursor: the clause binds; answered by Steps.
use Rattle.std.proofs.Common.{None, Ok, subst}
use Rattle.sq_meaning.specs.Spelled.{listed_if_any, query_of}
use Rattle.sq_binding.specs.Cursor.{cursor_of, sorted_cursor}
use Rattle.sq_binding.specs.QueryExpression.{query_bound}
use Rattle.sq_binding.specs.Whole.{at_first, permitted, whole}
use Rattle.sq_binder.specs.Binds.{Stops}
use Rattle.sq_binder.specs.Found.{counts_of}
use Rattle.sq_binder.specs.Surroundings.{surroundings}
use Rattle.sq_binder.specs.declared.found.Counts.{Counts}
use Rattle.sq_binder.proofs.OneByOne.Steps.{handed_on, stops_here}
use Rattle.sq_binder.specs.Cursor.{in_order}
use Rattle.sq_binder.specs.Names.{names_at}
use Rattle.sq_binding.specs.SeenQuery.{cursor_seen}
use Rattle.sq_binder.proofs.cursor.query_cursor.Goals as goal

pub returns-in_err-sorted-clause-binds : goal.returns-in_err-sorted-clause-binds
returns-in_err-sorted-clause-binds g c =
    let a = surroundings g.T.Tables.named c.args.at.now in
    let names = names_at g.T.Tables.named g.T.ChangeableTables.changes c.args.at.now in
    let cursor = c.args.cursor.now in
    let query = query_of c.args.at.now.environment.now.user cursor.query in
    let b = in_order (query_bound a query) (listed_if_any cursor.order_by) in
    let stop = c.in_err-sorted.field-0.0 in
    handed_on cursor_seen (cursor_of names a cursor query None) c.from_residual.result stop c.from_residual.ensures.1
    (stops_here (whole b) (λ x. Ok (sorted_cursor cursor x.0 x.1)) stop
    (stops_here (b at_first) permitted stop
    (subst (λ (n : Counts). Stops (b (counts_of n)) stop) c.at_first.ensures (c.in_err-sorted.ensures.finds (query_bound a query) c.at_first.result c.bind_query-query.ensures.finds))))
