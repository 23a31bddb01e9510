-- Left open for Slots::pop: that no number overflows, and the invariant of self; answered by Blocks.
use Rattle.std.proofs.Common.{◌≡◌, ◌∙◌, ◌≤◌, ◌<◌, ◌-◌, ◌/◌, ◌++◌, ◌∷◌, [], None, ap, arith, length, option_to_list, refl, slice_index_or}
use Rattle.std.proofs.lemmas.Grind.{common_steps}
use Rattle.sq_heap.specs.Blocks.{rows_in, rows_of}
use Rattle.sq_heap.specs.declared.slots.TheConstants.{BLOCK}
use Rattle.sq_heap.proofs.Blocks.{Counted, counted_least, counted_turned, turns_pop}
use Rattle.sq_heap.proofs.slots.Slots.pop.Goals as goal

pub overflow_sub-index_mut : goal.overflow_sub-index_mut
overflow_sub-index_mut c =
    let s = c.args.self.now in
    let rest = c.pop.new.self.items in
    let last = c.unwrap-last.result in
    let split : c.args.self.now.list.items ≡ c.pop.new.self.items ++ c.unwrap-last.result ∷ [] = c.pop.ensures.items ∙ ap (λ o. rest ++ option_to_list o) c.unwrap-last.ensures in
    let counted : Counted c.args.self.now.counts.items (c.pop.new.self.items ++ c.unwrap-last.result ∷ []) = λ b. s.counted b ∙ ap (rows_in b 0) split in
    let place : c.len.result ≡ length c.pop.new.self.items = grind (arith, common_steps) in
    let is : c.index_mut.result.now ≡ slice_index_or c.args.self.now.counts.items (c.len.result / BLOCK) 0 = grind (arith, common_steps) in
    let rows : c.rows_of.result ≡ rows_of c.unwrap-last.result = grind (arith, common_steps) in
    let least : rows_of c.unwrap-last.result ≤ slice_index_or c.args.self.now.counts.items (c.len.result / BLOCK) 0
    = counted_least s.counts.items (rest ++ last ∷ []) rest c.len.result (c.len.result / BLOCK) last counted (turns_pop rest last c.len.result place) refl in
    omega (arith, is, rows, least)

pub invariant_of-self : goal.invariant_of-self
invariant_of-self c =
    let s = c.args.self.now in
    let rest = c.pop.new.self.items in
    let last = c.unwrap-last.result in
    let split : c.args.self.now.list.items ≡ c.pop.new.self.items ++ c.unwrap-last.result ∷ [] = c.pop.ensures.items ∙ ap (λ o. rest ++ option_to_list o) c.unwrap-last.ensures in
    let counted : Counted c.args.self.now.counts.items (c.pop.new.self.items ++ c.unwrap-last.result ∷ []) = λ b. s.counted b ∙ ap (rows_in b 0) split in
    let place : c.len.result ≡ length c.pop.new.self.items = grind (arith, common_steps) in
    let is : c.index_mut.result.now ≡ slice_index_or c.args.self.now.counts.items (c.len.result / BLOCK) 0 = grind (arith, common_steps) in
    let rows : c.rows_of.result ≡ rows_of c.unwrap-last.result = grind (arith, common_steps) in
    let least : rows_of c.unwrap-last.result ≤ slice_index_or c.args.self.now.counts.items (c.len.result / BLOCK) 0
    = counted_least s.counts.items (rest ++ last ∷ []) rest c.len.result (c.len.result / BLOCK) last counted (turns_pop rest last c.len.result place) refl in
    let there : c.len.result / BLOCK < length c.args.self.now.counts.items = grind (arith, common_steps) in
    record {
      covered = grind (arith, common_steps);
      counted = counted_turned s.counts.items (rest ++ last ∷ []) rest c.len.result (c.len.result / BLOCK) (c.index_mut.result.now - c.rows_of.result) None last counted (turns_pop rest last c.len.result place) refl there (omega (arith, is, rows, least));
    }
