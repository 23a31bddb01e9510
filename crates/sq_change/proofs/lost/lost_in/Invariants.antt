use Rattle.std.proofs.Common.{[]}
use Rattle.sq_store.specs.Content.{table_at}
use Rattle.sq_change.specs.Lost.{lost_if, row_changed}
use Rattle.sq_change.proofs.OneByOne.Gathered.{GatheredTo}
use Rattle.sq_change.proofs.lost.lost_in.Given as goal

abbrev pub invariant-loop-change : goal.invariant-loop-change
invariant-loop-change g l =
    GatheredTo (λ change. lost_if l.table.keys l.keys (row_changed (table_at (g.S.Store.content_now l.setting.store.now) l.table.place) change)) l.changes [] l.change-index l.lost.items
