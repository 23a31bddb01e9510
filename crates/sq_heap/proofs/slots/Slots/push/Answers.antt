-- Left open for Slots::push: that no number overflows, and the invariant of self; answered by Blocks.
use Rattle.std.proofs.Common.{◌≡◌, ◌∙◌, ◌≤◌, ◌<◌, ◌+◌, ◌/◌, ◌++◌, ◌∷◌, [], None, Some, ap, arith, length, refl, slice_index_or, sym}
use Rattle.std.proofs.lemmas.Grind.{common_steps}
use Rattle.sq_heap.specs.Blocks.{rows_in}
use Rattle.sq_heap.specs.declared.slots.TheConstants.{BLOCK}
use Rattle.sq_heap.proofs.Blocks.{at_most_all, counted_turned, turns_push}
use Rattle.sq_heap.proofs.slots.Slots.push.Goals as goal

pub overflow_add-index_mut : goal.overflow_add-index_mut
overflow_add-index_mut c =
    let s = c.args.self.now in
    let is : c.index_mut.result.now ≡ slice_index_or c.args.self.now.counts.items (c.len.result / BLOCK) 0 = grind (arith, common_steps) in
    let most : rows_in (c.len.result / BLOCK) 0 c.args.self.now.list.items ≤ length c.args.self.now.list.items = at_most_all (c.len.result / BLOCK) 0 s.list.items in
    omega (arith, is, most, s.counted (c.len.result / BLOCK), c.requires.list)

pub invariant_of-self : goal.invariant_of-self
invariant_of-self c =
    let s = c.args.self.now in
    let ss = c.args.self.now.list.items in
    let place : c.len.result ≡ length c.args.self.now.list.items = grind (arith, common_steps) in
    let there : c.len.result / BLOCK < length c.args.self.now.counts.items = grind (arith, common_steps) in
    let is : c.index_mut.result.now ≡ slice_index_or c.args.self.now.counts.items (c.len.result / BLOCK) 0 = grind (arith, common_steps) in
    record {
      covered = grind (arith, common_steps);
      counted = λ b. counted_turned s.counts.items ss (ss ++ Some c.args.row ∷ []) c.len.result (c.len.result / BLOCK) (c.index_mut.result.now + 1) (Some c.args.row) None s.counted (turns_push ss (Some c.args.row) c.len.result place) refl there (omega (arith, is)) b
          ∙ ap (rows_in b 0) (sym c.push_reserved.ensures.items);
    }
