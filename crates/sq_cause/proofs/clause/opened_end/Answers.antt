-- Left open for opened_end: what the call of target_end asks for, and its result; answered by Finding.
use Rattle.std.proofs.Common.{◌∙◌, Some, ap, length, sym}
use Rattle.std.proofs.lemmas.Bool.{ltb-true}
use Rattle.std.proofs.lemmas.Option.{slice_get-get_or}
use Rattle.sq_bound.specs.WellFormed.{kinds_of_parameters}
use Rattle.sq_catalog.specs.Catalog.{bases_there, column_kinds}
use Rattle.sq_change.specs.Made.{seen_by}
use Rattle.sq_session.specs.Schemas.{schemas_of}
use Rattle.sq_cause.proofs.Finding.{body_end, declared_target, target_parts}
use Rattle.sq_cause.proofs.clause.opened_end.Goals as goal

pub target_end-requires-clause-views : goal.target_end-requires-clause-views
target_end-requires-clause-views g c =
    let called = c.args.called.now in
    let catalog = called.catalog.now in
    let cursors = called.cursors.now in
    let kinds = kinds_of_parameters called.procedure.now.parameters in
    let declared = c.in-Some.declared.now in
    let at = slice_get-get_or cursors c.args.cursor declared (ltb-true c.args.cursor (length cursors) (sym c.in-Some.ensures.lookup.0)) ∙ ap Some (sym c.in-Some.ensures.lookup.1) in
    let well = declared_target (column_kinds catalog) kinds cursors c.args.cursor declared c.in-Updatable.query c.requires.may.asked.opens at c.in-Updatable.is in
    rw c.requires.names (target_parts catalog.bases (column_kinds catalog) (bases_there catalog) kinds c.in-Updatable.query.target well).0

pub target_end-requires-clause-own : goal.target_end-requires-clause-own
target_end-requires-clause-own g c =
    let called = c.args.called.now in
    let catalog = called.catalog.now in
    let cursors = called.cursors.now in
    let kinds = kinds_of_parameters called.procedure.now.parameters in
    let declared = c.in-Some.declared.now in
    let at = slice_get-get_or cursors c.args.cursor declared (ltb-true c.args.cursor (length cursors) (sym c.in-Some.ensures.lookup.0)) ∙ ap Some (sym c.in-Some.ensures.lookup.1) in
    let well = declared_target (column_kinds catalog) kinds cursors c.args.cursor declared c.in-Updatable.query c.requires.may.asked.opens at c.in-Updatable.is in
    rw c.requires.names (target_parts catalog.bases (column_kinds catalog) (bases_there catalog) kinds c.in-Updatable.query.target well).1

pub returns-in-Updatable : goal.returns-in-Updatable
returns-in-Updatable g c =
    let setting = c.args.setting.now in
    let cursors = c.args.called.now.cursors.now in
    let declared = c.in-Some.declared.now in
    let at = slice_get-get_or cursors c.args.cursor declared (ltb-true c.args.cursor (length cursors) (sym c.in-Some.ensures.lookup.0)) ∙ ap Some (sym c.in-Some.ensures.lookup.1) in
    body_end (schemas_of setting.names.now) (seen_by setting.names.now.views (g.S.Store.content_now setting.store.now) setting.user setting.parameters.now) cursors c.args.cursor declared c.in-Updatable.query c.target_end.result at c.in-Updatable.is c.target_end.ensures
