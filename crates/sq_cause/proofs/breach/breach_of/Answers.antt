-- Left open for breach_of: what the call of cause_in asks for, and its result; answered by OfChange.
use Rattle.sq_catalog.specs.Catalog.{bases_there, column_kinds}
use Rattle.sq_query.proofs.Needs.Finds.{leaf_finds}
use Rattle.sq_session.specs.Called.{kind_for}
use Rattle.sq_session.specs.Schemas.{schemas_of}
use Rattle.sq_session.specs.State.{state_of}
use Rattle.sq_cause.proofs.OfChange.{change_cause, leaf_is, leaf_well, user_is}
use Rattle.sq_cause.proofs.breach.breach_of.Goals as goal

pub cause_in-found-requires-clause-conditions : goal.cause_in-found-requires-clause-conditions
cause_in-found-requires-clause-conditions g c =
    let catalog = c.args.called.now.catalog.now in
    let well = leaf_well (column_kinds catalog) _ _ c.args.statement.now c.in-Some.leaf.now c.requires.may.asked.well_formed c.in-Some.ensures in
    rw c.new-setting.ensures.names (leaf_finds catalog.bases (column_kinds catalog) (bases_there catalog) c.in-Some.leaf.now well).0

pub cause_in-found-requires-clause-checks : goal.cause_in-found-requires-clause-checks
cause_in-found-requires-clause-checks g c =
    let catalog = c.args.called.now.catalog.now in
    let well = leaf_well (column_kinds catalog) _ _ c.args.statement.now c.in-Some.leaf.now c.requires.may.asked.well_formed c.in-Some.ensures in
    rw c.new-setting.ensures.names (leaf_finds catalog.bases (column_kinds catalog) (bases_there catalog) c.in-Some.leaf.now well).1

pub returns-in-Some-2 : goal.returns-in-Some-2
returns-in-Some-2 g c =
    let called = c.args.called.now in
    let procedure = called.procedure.now in
    let s = c.args.statement.now in
    let store = c.args.inside.now.store.now in
    let leaf = c.in-Some.leaf.now in
    let set = c.new-setting.ensures in
    let state = state_of (g.S.Store.content_now store) (g.S.Store.committed store) (g.S.Store.key_columns store) (g.S.Store.row_numbers store) c.args.inside.now.cursors.now in
    let made = rw c.in-Some-2.is at c.in_ok-changes_of.ensures in
    let found = rw (set.names, set.store, set.user, set.parameters, c.as_slice.ensures.value) at c.cause_in-found.ensures in
    change_cause (schemas_of called.catalog.now) (kind_for called s) called.values.now state leaf c.in-Some-2.changes.items c.cause_in-found.result
    (leaf_is called.cursors.now procedure.user procedure.parameters s leaf c.in-Some.ensures) made
    (rw (user_is called.cursors.now procedure.user procedure.parameters s leaf c.in-Some.ensures) found)
