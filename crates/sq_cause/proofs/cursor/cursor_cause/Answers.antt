-- Left open for cursor_cause: the clause found; answered by CursorFound.
use Rattle.sq_session.specs.Kind.{caller_of, updating}
use Rattle.sq_cause.proofs.CursorFound.{of_delete, of_update}
use Rattle.sq_cause.proofs.cursor.cursor_cause.Goals as goal

pub returns-in-Update-clause-found : goal.returns-in-Update-clause-found
returns-in-Update-clause-found g c =
    let called = c.args.called.now in
    let u = c.in-Update.update in
    λ cause h. c.target_cause.ensures.found cause
    (of_update (updating called.cursors.now (caller_of called.procedure.now.user called.procedure.now.parameters) u) u.target c.args.cursors.now (g.S.Store.content_now c.args.store.now) cause (rw c.in-Update.is at h))

pub returns-in-Delete-clause-found : goal.returns-in-Delete-clause-found
returns-in-Delete-clause-found g c =
    let called = c.args.called.now in
    λ cause h. c.target_cause-in-Delete.ensures.found cause
    (of_delete (caller_of called.procedure.now.user called.procedure.now.parameters) c.in-Delete.target c.args.cursors.now (g.S.Store.content_now c.args.store.now) cause (rw c.in-Delete.is at h))
