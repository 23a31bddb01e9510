use Rattle.std.proofs.Common.{◌≡◌, length, slice_get}
use Rattle.sq_store.specs.Content.{table_at}
use Rattle.sq_store.proofs.Walk.{rows_from}
use Rattle.sq_ending.proofs.number.row_number.Given as goal

abbrev pub decreases-loop-found : goal.decreases-loop-found
decreases-loop-found g l =
    let t = table_at (g.S.Store.content_now l.store) l.table in
    length (rows_from l.number t.rows)

-- the row at the place is one of those that are left
abbrev pub invariant-loop-found : goal.invariant-loop-found
invariant-loop-found g l =
    let t = table_at (g.S.Store.content_now l.store) l.table in
    slice_get t.rows l.place ≡ slice_get (rows_from l.number t.rows) l.left
