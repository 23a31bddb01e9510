-- Left open for set_fault: its result; answered by OfTargets.
use Rattle.std.proofs.Common.{map}
use Rattle.sq_change.specs.Made.{seen_by}
use Rattle.sq_cause.proofs.OfTargets.{set_found}
use Rattle.sq_cause.proofs.set_value.set_fault.Goals as goal

pub returns-in-Ok : goal.returns-in-Ok
returns-in-Ok g c =
    let setting = c.args.setting.now in
    let seen = seen_by setting.names.now.views (g.S.Store.content_now setting.store.now) setting.user setting.parameters.now in
    set_found seen c.args.update.now c.args.on (map (λ found. found.0) c.in-Ok.rows.items) c.fault_of_rows-found.result (rw c.in-Ok.is at c.rows_changed.ensures.meant) (rw c.as_slice.ensures.value at c.fault_of_rows-found.ensures)
