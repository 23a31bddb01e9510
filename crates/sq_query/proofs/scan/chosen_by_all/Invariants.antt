use Rattle.std.proofs.Common.{◌≡◌, [], List, false, drop, map}
use Rattle.std.specs.Borrow.{Bor}
use Rattle.std.specs.List.{list_any}
use Rattle.sq_meaning.specs.Environment.{Row}
use Rattle.sq_meaning.specs.Status.{Outcome}
use Rattle.sq_meaning.specs.Target.{has_subquery}
use Rattle.sq_bound.specs.Condition.{cond_of}
use Rattle.sq_bound.specs.declared.condition.BoundCond.{BoundCond}
use Rattle.sq_bound.specs.declared.condition.TablePlace.{TablePlace}
use Rattle.sq_expression.specs.Fault.{IsRight}
use Rattle.sq_expression.specs.Frame.{table_rows}
use Rattle.sq_query.specs.Table.{numbered_in}
use Rattle.sq_query.specs.Target.{AreKnownIn, is_true_of, chosen}
use Rattle.sq_query.proofs.scan.chosen_by_all.Given as goal

abbrev pub invariant-loop-condition : goal.invariant-loop-condition
invariant-loop-condition l = record {
  plain : list_any (λ c. has_subquery (cond_of [] c)) (map (λ (b : Bor BoundCond). b.now) l.levels) ≡ false → (tables : TablePlace → Outcome (List Row))
      → (let test = λ (b : Bor BoundCond). is_true_of tables l.context.parameters.now l.context.user b.now in
      chosen test l.levels (numbered_in l.fn.all) ≡ chosen test (drop l.condition-index l.levels) (numbered_in l.rows));
  known : AreKnownIn l.context (map (λ (b : Bor BoundCond). b.now) l.levels)
      → (let test = λ (b : Bor BoundCond). is_true_of (table_rows l.context) l.context.parameters.now l.context.user b.now in
      IsRight (chosen test l.levels (numbered_in l.fn.all)) → chosen test l.levels (numbered_in l.fn.all) ≡ chosen test (drop l.condition-index l.levels) (numbered_in l.rows));
}
