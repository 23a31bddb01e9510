-- Left open for end_of: what the call of inner_end asks for, and its result; answered by OfQueries.
use Rattle.std.proofs.Common.{List, Option, subst, sym}
use Rattle.sq_value.specs.declared.value.Value.{Value}
use Rattle.sq_bound.specs.WellFormed.{kinds_of_parameters}
use Rattle.sq_catalog.specs.Catalog.{bases_there, column_kinds}
use Rattle.sq_ending.specs.Inside.{EndsInside}
use Rattle.sq_ending.specs.Read.{known_by}
use Rattle.sq_ending.specs.declared.inside.InnerEnd.{InnerEnd}
use Rattle.sq_lex.specs.declared.name.Name.{Name}
use Rattle.sq_query.proofs.Needs.Finds.{select_finds}
use Rattle.sq_session.specs.Parameter.{AreGiven}
use Rattle.sq_session.specs.Schemas.{schemas_of}
use Rattle.sq_session.proofs.Calls.Reading.{may_read}
use Rattle.sq_cause.specs.QueryCause.{EndsAt}
use Rattle.sq_cause.proofs.OfQueries.{end_found}
use Rattle.sq_cause.proofs.query_cause.end_of.Goals as goal

pub inner_end-requires-clause-finds : goal.inner_end-requires-clause-finds
inner_end-requires-clause-finds g c =
    let called = c.args.called.now in
    select_finds called.catalog.now.bases (column_kinds called.catalog.now) (bases_there called.catalog.now) (kinds_of_parameters called.procedure.now.parameters) c.args.query.now c.requires.well

pub returns-in-Ok-Some : goal.returns-in-Ok-Some
returns-in-Ok-Some g c =
    let called = c.args.called.now in
    let catalog = called.catalog.now in
    let schemas = schemas_of catalog in
    let query = c.args.query.now in
    let kinds = kinds_of_parameters called.procedure.now.parameters in
    let inputs = c.inputs.result in
    let tables = g.S.Store.content_now c.args.inside.now.store.now in
    let end = c.in-Ok-Some.end in
    let given = subst (λ (vs : List Value). AreGiven kinds vs) (sym c.inputs.ensures.parameters) c.requires.given in
    let known = known_by catalog.bases catalog.views (column_kinds catalog) in
    let ends = subst (λ (found : Option InnerEnd). EndsInside known tables inputs.user inputs.parameters.now query found) c.in-Ok-Some.field-0-is c.in-Ok-Some.ensures in
    let there : EndsAt schemas inputs.user inputs.parameters.now tables query end =
    λ shown are. ends kinds shown (may_read catalog tables inputs.user kinds inputs.parameters.now given c.requires.whole.4 shown are) c.requires.well in
    let of_values : EndsAt schemas inputs.user called.values.now tables query end = subst (λ (vs : List Value). EndsAt schemas inputs.user vs tables query end) c.inputs.ensures.parameters there in
    let of_user : EndsAt schemas called.procedure.now.user called.values.now tables query end = subst (λ (user : Name). EndsAt schemas user called.values.now tables query end) c.inputs.ensures.user of_values in
    end_found schemas called.procedure.now.user called.values.now tables c.args.term query end c.with_items.result of_user c.with_items.ensures.term c.with_items.ensures.end c.with_items.ensures.items
