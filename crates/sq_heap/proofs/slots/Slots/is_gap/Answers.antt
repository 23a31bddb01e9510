-- Left open for Slots::is_gap: its result; answered by Blocks.
use Rattle.std.proofs.Common.{◌≡◌, ◌/◌, ◌%◌, arith, slice_index_or}
use Rattle.std.proofs.lemmas.Grind.{common_steps}
use Rattle.sq_heap.specs.declared.slots.TheConstants.{BLOCK}
use Rattle.sq_heap.proofs.Blocks.{gap}
use Rattle.sq_heap.proofs.slots.Slots.is_gap.Goals as goal

pub returns-then-at-eq0 : goal.returns-then-at-eq0
returns-then-at-eq0 c empty place le lt =
    let s = c.args.self.now in
    let begins : c.args.at % BLOCK ≡ 0 = grind (arith, common_steps) in
    let none : slice_index_or c.args.self.now.counts.items (c.args.at / BLOCK) 0 ≡ 0 = grind (arith, common_steps) in
    gap s.counts.items s.list.items c.args.at place s.counted begins none le lt
