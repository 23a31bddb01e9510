-- Left open for Slots::first_from: that the loop keeps its invariant; answered by Blocks.
use Rattle.std.proofs.Common.{◌∙◌, ◌+◌, arith, refl}
use Rattle.sq_heap.specs.declared.slots.TheConstants.{BLOCK}
use Rattle.sq_heap.proofs.Blocks.{first_past_none}
use Rattle.sq_heap.proofs.slots.Slots.first_from.Goals as goal

pub loop-at-preserved-then-is_gap : goal.loop-at-preserved-then-is_gap
loop-at-preserved-then-is_gap c =
    record {
      low = omega (arith, c.loop-at.invariant.low);
      rest = c.loop-at.invariant.rest ∙ first_past_none c.args.self.now.list.items c.loop-at.at (c.loop-at.at + BLOCK) c.args.number (omega arith) (λ j low high. c.if-is_gap.ensures refl j low high);
    }
