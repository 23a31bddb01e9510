-- Left open: the call of enter_change, and the loop's invariant; answered by Entering and Holds.
use Rattle.std.proofs.Common.{◌∙◌, ◌+◌, ◌≤◌, ℕ, ap, arith, drop, sym}
use Rattle.sq_heap.specs.Entered.{changes_hold, next_slot}
use Rattle.sq_heap.specs.Index.{in_all}
use Rattle.sq_heap.proofs.Entering.{change_gives, holds_from, next_at_most}
use Rattle.sq_heap.proofs.Holds.{slots_give}
use Rattle.sq_heap.proofs.indexes.enter_changes.Goals as goal

pub enter_change-requires-clause-entered : goal.enter_change-requires-clause-entered
enter_change-requires-clause-entered c =
    slots_give (in_all c.args.indexes.now.items) (in_all c.loop-change.indexes.items) c.loop-change.invariant.keeps 0 c.args.slots.now.list.items c.requires.entered

pub loop-change-preserved : goal.loop-change-preserved
loop-change-preserved c =
    let l = c.loop-change in
    let change = c.change-item.result in
    let cs = c.args.changes.now in
    let most : next_slot c.loop-change.next c.change-item.result ≤ c.loop-change.next + 1 = next_at_most l.next change in
    record {
      keys = c.enter_change.ensures.keys ∙ l.invariant.keys;
      keeps = λ r at h. c.enter_change.ensures.keeps r at (l.invariant.keeps r at h);
      entered = λ test gives h. l.invariant.entered test (λ r at t. gives r at (c.enter_change.ensures.keeps r at t))
          (holds_from test l.next cs l.change-index change c.loop-change-test.true c.change-item.is
          (change_gives (in_all c.enter_change.new.indexes.items) test gives l.next change c.in_ok-next.ensures.entered)
          (ap (λ (n : ℕ). changes_hold test n (drop (l.change-index + 1) cs)) (sym c.in_ok-next.ensures.next) ∙ h));
      bound = omega (arith, c.in_ok-next.ensures.next, most, l.invariant.bound);
    }
