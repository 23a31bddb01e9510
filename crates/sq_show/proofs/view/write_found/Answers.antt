-- Left open for write_found: its result; answered by ViewShown.
use Rattle.std.proofs.Common.{Ok, Err}
use Rattle.sq_expression.specs.Fault.{status_of}
use Rattle.sq_session.specs.Schemas.{schemas_of}
use Rattle.sq_show.proofs.ViewShown.{shows_read}
use Rattle.sq_show.proofs.view.write_found.Goals as goal

pub returns-in-Ok : goal.returns-in-Ok
returns-in-Ok g c =
    let catalog = c.args.inside.now.catalog.now in
    shows_read (schemas_of catalog) (g.S.Store.content_now c.args.inside.now.store.now) c.args.table.now.user c.args.view.now.place
    c.args.lines.now.items c.write_all-done.new.lines.items (Ok c.in-Ok.rows.items) c.write_all-done.result
    (rw c.in-Ok.is at c.view_rows.ensures)
    (rw c.as_slice.ensures.value at c.write_all-done.ensures)

pub returns-in-Err-Status : goal.returns-in-Err-Status
returns-in-Err-Status g c =
    let catalog = c.args.inside.now.catalog.now in
    shows_read (schemas_of catalog) (g.S.Store.content_now c.args.inside.now.store.now) c.args.table.now.user c.args.view.now.place
    c.args.lines.now.items c.write_ended.new.lines.items (Err (status_of c.in-Err-Status.failure)) c.write_ended.result
    (rw c.in-Err-Status.field-0-is at (rw c.in-Err-Status.is at c.view_rows.ensures))
    c.write_ended.ensures
