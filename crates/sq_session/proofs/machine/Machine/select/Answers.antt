-- Left open: the calls of specification_rows and only_row_retrieved, and the clauses step, right and read; answered by Ending and others.
use Rattle.std.proofs.Common.{◌≡◌, ◌≤◌, ◌+◌, List, Ok, Err, subst, sym, true}
use Rattle.sq_value.specs.declared.value.Value.{Value}
use Rattle.sq_meaning.specs.WellFormed.{AreRowsOf}
use Rattle.sq_bound.specs.Fits.{AreInDomains, keys_of_bases, not_nulls_hold}
use Rattle.sq_bound.specs.WellFormed.{kinds_of_parameters, kinds_of_select}
use Rattle.sq_catalog.specs.Catalog.{bases_there, column_kinds}
use Rattle.sq_change.proofs.Constraints.Obeyed.{not_nulls_of}
use Rattle.sq_query.specs.Keyed.{IsKeyedSelect}
use Rattle.sq_query.proofs.Needs.Finds.{select_finds}
use Rattle.sq_session.specs.Kind.{selecting}
use Rattle.sq_session.specs.Parameter.{AreGiven}
use Rattle.sq_session.specs.Schemas.{schemas_of}
use Rattle.sq_session.specs.State.{State}
use Rattle.sq_session.specs.Step.{SelectIsMeant}
use Rattle.sq_session.proofs.Calls.Ending.{fault_right}
use Rattle.sq_session.proofs.Calls.Metering.{select_read}
use Rattle.sq_session.proofs.Calls.Reading.{may_read, some_tables}
use Rattle.sq_session.proofs.Calls.Selected.{IsAnswered, found_meant, selects_from, selects_none}
use Rattle.sq_session.proofs.Parameters.Taken.{rows_taken}
use Rattle.sq_session.proofs.machine.Machine.select.Goals as goal

pub specification_rows-found-requires-clause-finds : goal.specification_rows-found-requires-clause-finds
specification_rows-found-requires-clause-finds g c =
    let called = c.args.called.now in
    select_finds called.catalog.now.bases (column_kinds called.catalog.now) (bases_there called.catalog.now) (kinds_of_parameters called.procedure.now.parameters) c.args.select.now.query c.requires.may.asked.well_formed.0

pub specification_rows-found-requires-clause-keys : goal.specification_rows-found-requires-clause-keys
specification_rows-found-requires-clause-keys g c = subst (λ (m : State). m.keys ≡ keys_of_bases c.args.called.now.catalog.now.bases) (sym c.self.view_is) c.requires.whole.2

pub specification_rows-found-requires-clause-not_null : goal.specification_rows-found-requires-clause-not_null
specification_rows-found-requires-clause-not_null g c =
    let bases = c.args.called.now.catalog.now.bases in
    subst (λ (m : State). not_nulls_hold bases m.tables ≡ true) (sym c.self.view_is) (not_nulls_of bases c.args.self.now.tables c.requires.whole.7)

pub returns-in-Ok-clause-step : goal.returns-in-Ok-clause-step
returns-in-Ok-clause-step g c =
    let called = c.args.called.now in
    let schemas = schemas_of called.catalog.now in
    let s = selecting called.procedure.now.user called.procedure.now.parameters c.args.select.now in
    let kinds = kinds_of_parameters called.procedure.now.parameters in
    let inputs = c.inputs.result in
    let given = subst (λ (vs : List Value). AreGiven kinds vs) (sym c.inputs.ensures.parameters) c.requires.may.given in
    let in_domains = subst (λ (m : State). AreInDomains called.catalog.now.bases m.tables) (sym c.self.view_is) c.requires.whole.4 in
    let found = rw c.in-Ok.is at c.specification_rows-found.ensures.rows in
    let answered : IsAnswered schemas s inputs.user inputs.parameters.now _ (Ok c.in-Ok.rows) =
    λ shown are. found kinds shown (may_read called.catalog.now _ inputs.user kinds inputs.parameters.now given in_domains shown are) c.requires.may.asked.well_formed.0 in
    let meant = found_meant schemas s inputs.user inputs.parameters.now called.values.now c.args.self.now.tables c.in-Ok.rows c.inputs.ensures.user c.inputs.ensures.parameters
    (subst (λ (m : State). IsAnswered schemas s inputs.user inputs.parameters.now m.tables (Ok c.in-Ok.rows)) c.self.view_is answered) in
    let same = subst (λ (rows : List (List Value)). SelectIsMeant schemas s called.values.now c.args.self.now.tables (Ok rows)) (sym c.as_slice.ensures.value) meant in
    selects_from schemas s called.values.now c.args.self.now.tables c.as_slice.result.now c.only_row_retrieved-done.result same c.only_row_retrieved-done.ensures.reply

pub returns-in-Err-clause-step : goal.returns-in-Err-clause-step
returns-in-Err-clause-step g c =
    let called = c.args.called.now in
    let schemas = schemas_of called.catalog.now in
    let s = selecting called.procedure.now.user called.procedure.now.parameters c.args.select.now in
    let kinds = kinds_of_parameters called.procedure.now.parameters in
    let inputs = c.inputs.result in
    let given = subst (λ (vs : List Value). AreGiven kinds vs) (sym c.inputs.ensures.parameters) c.requires.may.given in
    let in_domains = subst (λ (m : State). AreInDomains called.catalog.now.bases m.tables) (sym c.self.view_is) c.requires.whole.4 in
    let found = rw c.in-Err.is at c.specification_rows-found.ensures.rows in
    let answered : IsAnswered schemas s inputs.user inputs.parameters.now _ (Err c.in-Err.fault) =
    λ shown are. found kinds shown (may_read called.catalog.now _ inputs.user kinds inputs.parameters.now given in_domains shown are) c.requires.may.asked.well_formed.0 in
    selects_none schemas s inputs.user inputs.parameters.now called.values.now c.args.self.now.tables c.in-Err.fault c.inputs.ensures.user c.inputs.ensures.parameters
    (subst (λ (m : State). IsAnswered schemas s inputs.user inputs.parameters.now m.tables (Err c.in-Err.fault)) c.self.view_is answered)

pub returns-in-Err-clause-right : goal.returns-in-Err-clause-right
returns-in-Err-clause-right g c =
    let called = c.args.called.now in
    let kinds = kinds_of_parameters called.procedure.now.parameters in
    let inputs = c.inputs.result in
    let given = subst (λ (vs : List Value). AreGiven kinds vs) (sym c.inputs.ensures.parameters) c.requires.may.given in
    let in_domains = subst (λ (m : State). AreInDomains called.catalog.now.bases m.tables) (sym c.self.view_is) c.requires.whole.4 in
    let some = some_tables called.catalog.now _ inputs.user kinds inputs.parameters.now given in_domains in
    let right = rw c.in-Err.is at c.specification_rows-found.ensures.right kinds some.0 some.1 c.requires.may.asked.well_formed.0 in
    fault_right c.in-Err.fault right

pub only_row_retrieved-done-requires-clause-rows : goal.only_row_retrieved-done-requires-clause-rows
only_row_retrieved-done-requires-clause-rows g c =
    let called = c.args.called.now in
    let select = c.args.select.now in
    let kinds = kinds_of_parameters called.procedure.now.parameters in
    let inputs = c.inputs.result in
    let given = subst (λ (vs : List Value). AreGiven kinds vs) (sym c.inputs.ensures.parameters) c.requires.may.given in
    let in_domains = subst (λ (m : State). AreInDomains called.catalog.now.bases m.tables) (sym c.self.view_is) c.requires.whole.4 in
    let some = some_tables called.catalog.now _ inputs.user kinds inputs.parameters.now given in_domains in
    let listed = rw c.in-Ok.is at c.specification_rows-found.ensures.kinds kinds some.0 some.1 c.requires.may.asked.well_formed.0 in
    let same = subst (λ (rows : List (List Value)). AreRowsOf (kinds_of_select select.query) rows) (sym c.as_slice.ensures.value) listed in
    rows_taken called.procedure.now.parameters select.outputs (kinds_of_select select.query) c.as_slice.result.now c.requires.may.asked.well_formed.1 same

pub returns-in-Ok-clause-read : goal.returns-in-Ok-clause-read
returns-in-Ok-clause-read g c =
    let called = c.args.called.now in
    let s = selecting called.procedure.now.user called.procedure.now.parameters c.args.select.now in
    let read = rw (c.inputs.ensures.user, c.inputs.ensures.parameters) at c.specification_rows-found.ensures.read in
    select_read s called.values.now c.args.self.now c.only_row_retrieved-done.result c.args.meter.now c.specification_rows-found.new.meter c.requires.meter
    (subst (λ (m : State). IsKeyedSelect s.query m.keys called.values.now s.user → c.specification_rows-found.new.meter ≤ c.args.meter.now + 1) c.self.view_is read)

pub returns-in-Err-clause-read : goal.returns-in-Err-clause-read
returns-in-Err-clause-read g c =
    let called = c.args.called.now in
    let s = selecting called.procedure.now.user called.procedure.now.parameters c.args.select.now in
    let read = rw (c.inputs.ensures.user, c.inputs.ensures.parameters) at c.specification_rows-found.ensures.read in
    select_read s called.values.now c.args.self.now (Err c.in-Err.fault) c.args.meter.now c.specification_rows-found.new.meter c.requires.meter
    (subst (λ (m : State). IsKeyedSelect s.query m.keys called.values.now s.user → c.specification_rows-found.new.meter ≤ c.args.meter.now + 1) c.self.view_is read)
