-- Left open: the clause reads, and that the loop keeps its invariant; answered by Added and others.
use Rattle.std.proofs.Common.{[], subst, sym}
use Rattle.sq_meaning.specs.Target.{has_subquery}
use Rattle.sq_meaning.specs.WellFormed.{HasValue}
use Rattle.sq_bound.specs.Condition.{cond_of}
use Rattle.sq_bound.specs.declared.condition.BoundCond.{BoundCond}
use Rattle.sq_query.specs.Needed.{NeedsNone, ReadsCond}
use Rattle.sq_query.proofs.Needs.Added.{cond_known, none_known}
use Rattle.sq_query.proofs.Targets.KnownConditions.{all_read, reads_more}
use Rattle.sq_query.proofs.Targets.Levels.{lent_at, none_at}
use Rattle.sq_query.proofs.scan.needed_tables.Goals as goal

pub loop-condition-init : goal.loop-condition-init
loop-condition-init c = record {
  plain = λ none. c.new-needed.ensures;
  reads = tt;
  known = λ columns all. none_known columns c.new-needed.result c.new-needed.ensures;
}

pub loop-condition-preserved : goal.loop-condition-preserved
loop-condition-preserved c =
    let before = c.loop-condition.needed in
    let after = c.add_of_condition.new.self in
    let xs = c.args.conditions.now in
    let i = c.loop-condition.condition-index in
    let x = c.condition-item.result in
    let added = c.in_ok-add_of_condition.ensures in
    record {
      plain = λ none.
          subst NeedsNone
          (sym (added.plain (none_at (λ (d : BoundCond). has_subquery (cond_of [] d)) xs i x c.loop-condition-test.true c.condition-item.is none)))
          (c.loop-condition.invariant.plain none);
      reads = reads_more before after xs i x added.adds c.loop-condition-test.true c.condition-item.is c.loop-condition.invariant.reads;
      known = λ columns all.
          cond_known before after columns (c.loop-condition.invariant.known columns all) (cond_of [] x.now) (added.adds [])
          (lent_at (λ (d : BoundCond). ReadsCond (λ t. HasValue (columns t)) (cond_of [] d)) xs i x c.loop-condition-test.true c.condition-item.is all);
    }

pub returns-clause-reads : goal.returns-clause-reads
returns-clause-reads c = all_read c.loop-condition.needed c.args.conditions.now c.loop-condition.condition-index c.loop-condition-test.false c.loop-condition.invariant.reads
