use Rattle.std.proofs.Common.{◌≡◌, ℕ, List, []}
use Rattle.sq_meaning.specs.Environment.{Row}
use Rattle.sq_meaning.specs.Status.{Outcome}
use Rattle.sq_bound.specs.declared.condition.TablePlace.{TablePlace}
use Rattle.sq_bound.specs.declared.condition.TablePlace.TheVariants.{Base}
use Rattle.sq_query.specs.Needed.{IsNeeded}
use Rattle.sq_query.specs.Table.{CanBeRead, rows_among}
use Rattle.sq_query.proofs.Needs.ReadTables.{AreBelow, ReadBelow}
use Rattle.sq_query.proofs.view.view_tables.Given as goal

abbrev pub invariant-loop-place : goal.invariant-loop-place
invariant-loop-place g l =
    AreBelow l.place l.views.items
    × ((tables : TablePlace → Outcome (List Row))
    → CanBeRead (g.N.Names.column_kinds l.names) (g.N.Names.view_queries l.names) l.user l.needed tables → ((place : ℕ) → IsNeeded l.needed (Base place) → rows_among l.bases [] (Base place) ≡ tables (Base place))
    → ReadBelow l.needed l.bases tables l.place l.views.items)
