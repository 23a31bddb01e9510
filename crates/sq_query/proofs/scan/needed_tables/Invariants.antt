use Rattle.std.proofs.Common.{◌≡◌, false, [], map, take}
use Rattle.std.specs.Borrow.{Bor}
use Rattle.std.specs.List.{AllByRecursion, list_any}
use Rattle.sq_meaning.specs.Target.{has_subquery}
use Rattle.sq_meaning.specs.WellFormed.{HasValue}
use Rattle.sq_bound.specs.Condition.{cond_of}
use Rattle.sq_bound.specs.WellFormed.{TableKinds}
use Rattle.sq_bound.specs.declared.condition.BoundCond.{BoundCond}
use Rattle.sq_query.specs.Needed.{AreKnown, NeedsNone, ReadsCond}
use Rattle.sq_query.proofs.Targets.KnownConditions.{ReadsIn}
use Rattle.sq_query.proofs.scan.needed_tables.Given as goal

abbrev pub invariant-loop-condition : goal.invariant-loop-condition
invariant-loop-condition l = record {
  plain : list_any (λ c. has_subquery (cond_of [] c)) (map (λ (b : Bor BoundCond). b.now) l.conditions) ≡ false → NeedsNone l.needed;
  reads : AllByRecursion (ReadsIn l.needed) (map (λ (b : Bor BoundCond). b.now) (take l.condition-index l.conditions));
  known : (columns : TableKinds) → AllByRecursion (λ c. ReadsCond (λ t. HasValue (columns t)) (cond_of [] c)) (map (λ (b : Bor BoundCond). b.now) l.conditions) → AreKnown columns l.needed;
}
