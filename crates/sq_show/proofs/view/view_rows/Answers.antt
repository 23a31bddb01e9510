-- Left open: what the call of specification_rows asks for, and the result; answered by ViewRows.
use Rattle.std.proofs.Common.{List, [], subst, sym}
use Rattle.sq_meaning.specs.Environment.{Row}
use Rattle.sq_meaning.specs.Status.{Outcome}
use Rattle.sq_bound.specs.declared.condition.TablePlace.{TablePlace}
use Rattle.sq_catalog.specs.Catalog.{bases_there, column_kinds}
use Rattle.sq_expression.specs.Fault.{HasRows}
use Rattle.sq_query.proofs.Needs.Finds.{select_finds}
use Rattle.sq_session.proofs.Calls.Reading.{may_read}
use Rattle.sq_show.proofs.ViewRows.{select_wide, view_meant}
use Rattle.sq_show.proofs.view.view_rows.Goals as goal

pub specification_rows-requires-clause-finds : goal.specification_rows-requires-clause-finds
specification_rows-requires-clause-finds g c =
    let catalog = c.args.inside.now.catalog.now in let view = c.args.view.now in
    select_finds catalog.bases (column_kinds catalog) (bases_there catalog) [] view.query (select_wide (column_kinds catalog) view.place view.query c.requires.well_formed)

pub returns : goal.returns
returns g c = λ (tables : TablePlace → Outcome (List Row)) meant.
    let catalog = c.args.inside.now.catalog.now in let view = c.args.view.now in
    let stored = g.S.Store.content_now c.args.inside.now.store.now in
    subst (λ (found : Outcome (List Row)). HasRows c.specification_rows.result found)
    (sym (view_meant catalog.views stored c.args.user tables view.place view.query meant c.requires.among))
    (c.specification_rows.ensures.rows [] tables (may_read catalog stored c.args.user [] [] tt c.requires.whole.4 tables meant)
    (select_wide (column_kinds catalog) view.place view.query c.requires.well_formed))
