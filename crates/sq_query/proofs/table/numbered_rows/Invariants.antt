use Rattle.std.proofs.Common.{◌≡◌, ◌++◌, length, map}
use Rattle.sq_store.specs.Content.{table_at}
use Rattle.sq_query.specs.Table.{numbered_row}
use Rattle.sq_store.proofs.Walk.{rows_from}
use Rattle.sq_query.proofs.table.numbered_rows.Given as goal

abbrev pub decreases-loop-found : goal.decreases-loop-found
decreases-loop-found g l =
    let t = table_at (g.S.Store.content_now l.store) l.table in
    length (rows_from l.number t.rows)

-- the rows so far, and then those that are left
abbrev pub invariant-loop-found : goal.invariant-loop-found
invariant-loop-found g l =
    let t = table_at (g.S.Store.content_now l.store) l.table in
    map numbered_row l.rows.items ++ rows_from l.number t.rows ≡ t.rows
