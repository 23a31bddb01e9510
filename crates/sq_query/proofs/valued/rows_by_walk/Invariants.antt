use Rattle.std.proofs.Common.{◌≡◌, ◌++◌, length}
use Rattle.sq_store.specs.Content.{table_at}
use Rattle.sq_store.proofs.Walk.{rows_from}
use Rattle.sq_expression.specs.Frame.{lent}
use Rattle.sq_query.specs.Valued.{may_have_one, rows_with_one}
use Rattle.sq_query.proofs.Targets.WalkedRows.{passing}
use Rattle.sq_query.proofs.valued.rows_by_walk.Given as goal

abbrev pub decreases-loop-found : goal.decreases-loop-found
decreases-loop-found g l =
    let t = table_at (g.S.Store.content_now l.store) l.base in
    length (rows_from l.number t.rows)

-- the rows so far, and then those that are left and stay
abbrev pub invariant-loop-found : goal.invariant-loop-found
invariant-loop-found g l =
    let content = g.S.Store.content_now l.store in
    lent l.rows.items ++ passing (may_have_one l.column l.values) (rows_from l.number (table_at content l.base).rows)
    ≡ rows_with_one content l.base l.column l.values
