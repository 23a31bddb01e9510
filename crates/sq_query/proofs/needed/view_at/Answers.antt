-- Left open for view_at: the clause is, and that a place is unreachable; answered by ViewsThere.
use Rattle.std.proofs.Common.{◌∙◌, ap, sym}
use Rattle.sq_bound.specs.WellFormed.{place_of}
use Rattle.sq_query.proofs.PlainViews.ViewsThere.{view_there}
use Rattle.sq_query.proofs.needed.view_at.Goals as goal

pub returns-clause-is : goal.returns-clause-is
returns-clause-is g c =
    view_there (g.N.Names.column_kinds c.args.names.now) c.in-Some.table.now c.args.place c.in-View.view c.in-Some.ensures.well_formed c.in-Some.ensures.place c.in-View.is

pub unreachable-requires-in-Base : goal.unreachable-requires-in-Base
unreachable-requires-in-Base g c = let no = sym (ap place_of c.in-Base.is) ∙ c.in-Some.ensures.place in absurd cc
