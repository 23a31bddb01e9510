use Rattle.sq_query.specs.Items.{Grows, IsReadOf}
use Rattle.sq_query.proofs.items.rows_by_lookups.Given as goal

abbrev pub invariant-loop-count : goal.invariant-loop-count
invariant-loop-count g l = Grows (IsReadOf l.query l.inner (g.S.Store.content_now l.store) (g.S.Store.key_columns l.store) l.around l.call.parameters.now l.call.user) l.fn.before.items l.found.items
