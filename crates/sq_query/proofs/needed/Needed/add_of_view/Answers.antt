-- Left open: the clauses more, known, earlier and closed; answered by Added and NeededViews.
use Rattle.std.proofs.lemmas.Result.{on_ok_weaker}
use Rattle.sq_query.specs.Needed.{specification_tables}
use Rattle.sq_query.proofs.Needs.Added.{needs_more}
use Rattle.sq_query.proofs.Needs.NeededViews.{view_closed, view_earlier, view_known}
use Rattle.sq_query.proofs.needed.Needed.add_of_view.Goals as goal

pub returns-clause-more : goal.returns-clause-more
returns-clause-more g c =
    on_ok_weaker c.add_of_specification.result (needs_more c.args.self.now c.add_of_specification.new.self (specification_tables c.view_at.result.now.query)) c.add_of_specification.ensures

pub returns-clause-known : goal.returns-clause-known
returns-clause-known g c = λ known.
    on_ok_weaker c.add_of_specification.result
    (λ adds. view_known (g.N.Names.column_kinds c.args.names.now) c.args.place c.view_at.result.now.query c.view_at.ensures.is.0 c.args.self.now c.add_of_specification.new.self adds known) c.add_of_specification.ensures

pub returns-clause-earlier : goal.returns-clause-earlier
returns-clause-earlier g c =
    on_ok_weaker c.add_of_specification.result
    (view_earlier (g.N.Names.column_kinds c.args.names.now) c.args.place c.view_at.result.now.query c.view_at.ensures.is.0 c.args.self.now c.add_of_specification.new.self) c.add_of_specification.ensures

pub returns-clause-closed : goal.returns-clause-closed
returns-clause-closed g c =
    on_ok_weaker c.add_of_specification.result
    (λ adds. view_closed (g.N.Names.column_kinds c.args.names.now) c.args.place c.view_at.result.now.query c.view_at.ensures.is.0 c.args.self.now c.add_of_specification.new.self adds (g.N.Names.view_queries c.args.names.now) c.view_at.ensures.among)
    c.add_of_specification.ensures
