-- Left open for update_of_table: the clause finds; answered by Finds and Deletes.
use Rattle.sq_binder.specs.Surroundings.{surroundings}
use Rattle.sq_binder.proofs.OneByOne.Finds.{stop_found}
use Rattle.sq_binder.specs.Changeable.{changed_of}
use Rattle.sq_binder.specs.Names.{names_at}
use Rattle.sq_binder.specs.Update.{update_over}
use Rattle.sq_binder.proofs.Changes.Deletes.{update_found, update_stops}
use Rattle.sq_binding.specs.SeenQuery.{update_seen}
use Rattle.sq_binder.proofs.update.update_of_table.Goals as goal

pub returns-in_err-part-clause-finds : goal.returns-in_err-part-clause-finds
returns-in_err-part-clause-finds g c =
    let names = names_at g.T.Tables.named g.T.ChangeableTables.changes c.args.at.now in
    let a = surroundings g.T.Tables.named c.args.at.now in
    let cursors = g.C.Cursors.named c.args.cursors.now in
    let t = changed_of c.args.table.now in
    let stop = c.in_err-part.field-0.0 in
    stop_found update_seen (update_over names a cursors c.args.update.now t) c.args.before c.from_residual.result stop c.from_residual.ensures.1
    (update_stops names a cursors t c.args.before c.args.update.now stop c.in_err-part.ensures.finds)

pub returns-clause-finds : goal.returns-clause-finds
returns-clause-finds g c =
    let names = names_at g.T.Tables.named g.T.ChangeableTables.changes c.args.at.now in
    let a = surroundings g.T.Tables.named c.args.at.now in
    let cursors = g.C.Cursors.named c.args.cursors.now in
    let t = changed_of c.args.table.now in
    update_found names a cursors t c.args.before c.args.update.now c.in_ok-part.field-0 c.require_select_if_read.result c.holds-may_select.result c.holds-may_select.ensures c.in_ok-part.ensures.finds c.require_select_if_read.ensures.0 c.require_select_if_read.ensures.1
