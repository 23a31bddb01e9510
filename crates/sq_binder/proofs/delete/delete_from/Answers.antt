-- Left open for delete_from: the clause finds; answered by Finds and Deletes.
use Rattle.std.proofs.Common.{◌∙◌, ap}
use Rattle.sq_binder.specs.Surroundings.{surroundings}
use Rattle.sq_binder.proofs.OneByOne.Finds.{stop_found}
use Rattle.sq_binder.specs.Changeable.{changed_of}
use Rattle.sq_binder.specs.Names.{names_at}
use Rattle.sq_binder.specs.Delete.{delete_over}
use Rattle.sq_binder.specs.Needed.{requiring}
use Rattle.sq_binding.specs.SeenQuery.{change_seen}
use Rattle.sq_binder.proofs.Changes.Deletes.{delete_found, delete_stops}
use Rattle.sq_binder.proofs.delete.delete_from.Goals as goal

pub returns-in_err-part-clause-finds : goal.returns-in_err-part-clause-finds
returns-in_err-part-clause-finds g c =
    let names = names_at g.T.Tables.named g.T.ChangeableTables.changes c.args.at.now in
    let a = surroundings g.T.Tables.named c.args.at.now in
    let cursors = g.C.Cursors.named c.args.cursors.now in
    let t = changed_of c.args.table.now in
    let stop = c.in_err-part.field-0.0 in
    stop_found change_seen (delete_over names a cursors c.args.delete.now t) c.args.before c.from_residual.result stop c.from_residual.ensures.1
    (delete_stops names a cursors t c.args.before c.args.delete.now stop c.in_err-part.ensures.finds)

pub returns-clause-finds : goal.returns-clause-finds
returns-clause-finds g c =
    let names = names_at g.T.Tables.named g.T.ChangeableTables.changes c.args.at.now in
    let a = surroundings g.T.Tables.named c.args.at.now in
    let cursors = g.C.Cursors.named c.args.cursors.now in
    let t = changed_of c.args.table.now in
    delete_found names a cursors t c.args.before c.args.delete.now c.in_ok-part.field-0 c.require_privilege.result c.holds-may_select.result c.holds-may_delete.result c.holds-may_select.ensures c.holds-may_delete.ensures
    c.in_ok-part.ensures.finds (c.require_privilege.ensures.0 ∙ ap (requiring c.holds-may_delete.result) c.require_select_if_read.ensures.0) (c.require_privilege.ensures.1 ∙ c.require_select_if_read.ensures.1)
