-- Left open for bind_parts: the clauses finds and over; answered by Finds, Deletes, Parts and There.
use Rattle.std.proofs.Common.{◌≡◌, sym, subst}
use Rattle.std.specs.Prelude.{Result, IfOk}
use Rattle.sq_bound.specs.Fits.{under}
use Rattle.sq_bound.specs.declared.statement.BoundUpdate.{BoundUpdate}
use Rattle.sq_bound.specs.declared.statement.ChangeTarget.{ChangeTarget}
use Rattle.sq_binding.specs.Change.{update_parts}
use Rattle.sq_binder.specs.Surroundings.{surroundings}
use Rattle.sq_binder.specs.declared.found.Found.{Found}
use Rattle.sq_binder.specs.declared.stop.Stop.{Stop}
use Rattle.sq_binder.proofs.OneByOne.Finds.{stop_found}
use Rattle.sq_binder.specs.Changeable.{changed_of}
use Rattle.sq_binder.specs.Names.{names_at}
use Rattle.sq_binding.specs.SeenQuery.{update_seen}
use Rattle.sq_binder.proofs.Changes.Deletes.{parts_found, parts_stop}
use Rattle.sq_binder.proofs.OneByOne.Parts.{first_holds, second_holds}
use Rattle.sq_binder.specs.Update.{AreAssignmentsOf, IsUpdateOver}
use Rattle.sq_binder.proofs.Statements.There.{update_is_over}
use Rattle.sq_binder.proofs.update.bind_parts.Goals as goal

pub returns-in_err-assignments-clause-finds : goal.returns-in_err-assignments-clause-finds
returns-in_err-assignments-clause-finds g c =
    let names = names_at g.T.Tables.named g.T.ChangeableTables.changes c.args.at.now in
    let a = surroundings g.T.Tables.named c.args.at.now in
    let cursors = g.C.Cursors.named c.args.cursors.now in
    let t = changed_of c.args.table.now in
    let u = c.args.update.now in
    let stop = c.in_err-assignments.field-0.0 in
    stop_found update_seen (update_parts names a cursors t u) c.args.before c.from_residual.result stop c.from_residual.ensures.1 (parts_stop names a cursors t c.args.before u stop c.in_err-assignments.ensures.finds)

pub returns-clause-finds : goal.returns-clause-finds
returns-clause-finds g c =
    let names = names_at g.T.Tables.named g.T.ChangeableTables.changes c.args.at.now in
    let a = surroundings g.T.Tables.named c.args.at.now in
    let cursors = g.C.Cursors.named c.args.cursors.now in
    let t = changed_of c.args.table.now in
    parts_found names a cursors t c.args.before c.args.update.now c.in_ok-assignments.assignments c.bind_rows-rows.result c.pair_parts.result c.make_update.result
    c.in_ok-assignments.ensures.finds c.bind_rows-rows.ensures.finds c.pair_parts.ensures c.make_update.ensures

pub returns-clause-over : goal.returns-clause-over
returns-clause-over g c =
    let leaf = c.args.table.now.under.leaf.now in
    subst (λ (r : Result (Found BoundUpdate) Stop). IfOk r (λ found. IsUpdateOver leaf found.part)) (sym c.make_update.ensures)
    (update_is_over leaf c.pair_parts.result
    (first_holds (AreAssignmentsOf leaf.table) c.in_ok-assignments.assignments c.bind_rows-rows.result c.pair_parts.result c.pair_parts.ensures c.in_ok-assignments.ensures.columns)
    (second_holds (λ (t : ChangeTarget). under t ≡ leaf) c.in_ok-assignments.assignments c.bind_rows-rows.result c.pair_parts.result c.pair_parts.ensures c.bind_rows-rows.ensures.leaf))
