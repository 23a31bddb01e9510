use Rattle.sq_change.specs.Made.{seen_by}
use Rattle.sq_session.specs.Schemas.{schemas_of}
use Rattle.sq_cause.specs.Breach.{EachPutBefore}
use Rattle.sq_cause.specs.RowEnd.{MeetsChecks}
use Rattle.sq_cause.proofs.row_end.checks_end.Given as goal

abbrev pub invariant-loop-place : goal.invariant-loop-place
invariant-loop-place g l =
    let seen = seen_by l.setting.names.now.views (g.S.Store.content_now l.setting.store.now) l.setting.user l.setting.parameters.now in
    EachPutBefore l.changes l.place (MeetsChecks (schemas_of l.setting.names.now) seen l.leaf.table)
