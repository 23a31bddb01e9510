use Rattle.sq_query.proofs.Needs.NeededViews.{GoesOn}
use Rattle.sq_query.proofs.needed.Needed.add_of_views.Given as goal

abbrev pub invariant-loop-behind : goal.invariant-loop-behind
invariant-loop-behind g l = GoesOn (g.N.Names.column_kinds l.names) (g.N.Names.view_queries l.names) l.fn.self l.self l.last l.behind
