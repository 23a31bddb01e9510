use Rattle.std.proofs.Common.{◌≡◌, ◌∷◌, [], List, drop, map, false}
use Rattle.std.specs.Borrow.{Bor}
use Rattle.std.specs.List.{AllByRecursion, list_any}
use Rattle.sq_value.specs.declared.domain.Kind.{Kind}
use Rattle.sq_meaning.specs.Status.{Outcome}
use Rattle.sq_meaning.specs.Environment.{Row}
use Rattle.sq_meaning.specs.Placed.{by_place}
use Rattle.sq_meaning.specs.Query.{truth}
use Rattle.sq_meaning.specs.Target.{has_subquery}
use Rattle.sq_bound.specs.Condition.{cond_of}
use Rattle.sq_bound.specs.declared.condition.BoundCond.{BoundCond}
use Rattle.sq_bound.specs.declared.condition.TablePlace.{TablePlace}
use Rattle.sq_query.specs.MayRead.{MayRead}
use Rattle.sq_query.specs.Row.{IsOnRow, outside, truth_on_row}
use Rattle.sq_query.specs.Target.{are_true}
use Rattle.sq_query.proofs.target.meets_levels.Given as goal

abbrev pub invariant-loop-condition : goal.invariant-loop-condition
invariant-loop-condition g l = record {
  plain : list_any (λ c. has_subquery (cond_of [] c)) (map (λ (b : Bor BoundCond). b.now) l.condition-items) ≡ false
      → (tables : TablePlace → Outcome (List Row))
      → (let test = λ (b : Bor BoundCond). truth (by_place tables) (cond_of [] b.now) (outside (l.row ∷ []) l.call.parameters.now l.call.user) in
      are_true test l.condition-items ≡ are_true test (drop l.condition-index l.condition-items));
  meant : (parameters : List Kind) (tables : TablePlace → Outcome (List Row))
      → MayRead (g.N.Names.base_tables l.names) (g.N.Names.view_queries l.names) (g.N.Names.column_kinds l.names) (g.S.Store.content_now l.store) l.call.user l.call.parameters.now parameters tables
      → AllByRecursion (IsOnRow (g.N.Names.column_kinds l.names) parameters l.row) (map (λ (b : Bor BoundCond). b.now) l.condition-items)
      → (let test = λ (b : Bor BoundCond). truth_on_row tables l.call.parameters.now l.call.user l.row b.now in
      are_true test l.condition-items ≡ are_true test (drop l.condition-index l.condition-items));
  none : list_any (λ c. has_subquery (cond_of [] c)) (map (λ (b : Bor BoundCond). b.now) l.condition-items) ≡ false → l.meter ≡ l.fn.meter;
}
