-- Left open for view_rows: the clause rows; answered by ViewRows.
use Rattle.sq_bound.specs.declared.condition.TablePlace.TheVariants.{View}
use Rattle.sq_ending.specs.Read.{known_by}
use Rattle.sq_ending.proofs.ViewRows.{shown_at}
use Rattle.sq_ending.proofs.read.view_rows.Goals as goal

pub returns-in-Some-clause-rows : goal.returns-in-Some-clause-rows
returns-in-Some-clause-rows g c =
    let names = c.args.names.now in
    let view = c.in-Some.view.now in
    shown_at (known_by (g.N.Names.base_tables names) (g.N.Names.view_queries names) (g.N.Names.column_kinds names)) (g.S.Store.content_now c.args.store.now) c.args.user c.args.place view.place c.in-Some.ensures.place
    c.view_outcome.result c.view_outcome.ensures.place
    (λ domains tables meant. c.view_outcome.ensures.meant (tables (View view.place)) (c.rows_of_view.ensures domains tables meant))
