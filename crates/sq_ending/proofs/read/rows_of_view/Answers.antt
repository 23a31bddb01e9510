-- Left open: what the call of specification_rows asks for, and the result; answered by ViewRows.
use Rattle.std.proofs.Common.{List, [], subst, sym}
use Rattle.sq_meaning.specs.Environment.{Row}
use Rattle.sq_meaning.specs.Status.{Outcome}
use Rattle.sq_expression.specs.Fault.{HasRows}
use Rattle.sq_query.proofs.Needs.Finds.{select_finds}
use Rattle.sq_ending.proofs.ViewRows.{select_wide, view_meant}
use Rattle.sq_ending.proofs.read.rows_of_view.Goals as goal

pub specification_rows-requires-clause-finds : goal.specification_rows-requires-clause-finds
specification_rows-requires-clause-finds g c =
    let names = c.args.names.now in
    let view = c.args.view.now in
    let columns = g.N.Names.column_kinds names in
    select_finds (g.N.Names.base_tables names) columns c.requires.there [] view.query (select_wide columns view.place view.query c.requires.well_formed)

pub returns : goal.returns
returns g c = λ domains tables meant.
    let names = c.args.names.now in
    let view = c.args.view.now in
    let columns = g.N.Names.column_kinds names in
    let stored = g.S.Store.content_now c.args.store.now in
    subst (λ (found : Outcome (List Row)). HasRows c.specification_rows.result found)
    (sym (view_meant (g.N.Names.view_queries names) stored c.args.user tables view.place view.query meant c.requires.among))
    (c.specification_rows.ensures.rows [] tables (record { inputs = tt; there = c.requires.there; in_domains = domains; meant = meant }) (select_wide columns view.place view.query c.requires.well_formed))
