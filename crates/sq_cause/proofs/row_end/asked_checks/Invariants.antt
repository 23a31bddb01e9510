use Rattle.sq_change.specs.Made.{seen_by}
use Rattle.sq_session.specs.Schemas.{schemas_of}
use Rattle.sq_cause.specs.RowEnd.{AreMet, IsNotFalseOn}
use Rattle.sq_cause.proofs.row_end.asked_checks.Given as goal

abbrev pub invariant-loop-place : goal.invariant-loop-place
invariant-loop-place g l =
    let seen = seen_by l.setting.names.now.views (g.S.Store.content_now l.setting.store.now) l.setting.user l.setting.parameters.now in
    AreMet (IsNotFalseOn (schemas_of l.setting.names.now) seen l.row) l.checks l.place
