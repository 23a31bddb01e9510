-- Left open for Slots::put: that no number overflows, and the invariant of self; answered by Back and Blocks.
use Rattle.std.proofs.Common.{◌≡◌, ◌∙◌, ◌≤◌, ◌<◌, ◌+◌, ◌-◌, ◌/◌, ◌^◌, None, ap, arith, get_or, length, refl, slice_index_or, slice_set, sym}
use Rattle.std.proofs.lemmas.Grind.{common_steps}
use Rattle.sq_heap.specs.Blocks.{rows_in, rows_of}
use Rattle.sq_heap.specs.Slots.{Slot}
use Rattle.sq_heap.specs.declared.slots.TheConstants.{BLOCK}
use Rattle.sq_heap.proofs.Back.{length_same}
use Rattle.sq_heap.proofs.Blocks.{counted_least, counted_most, counted_turned, turns_set}
use Rattle.sq_heap.proofs.slots.Slots.put.Goals as goal

pub overflow_sub-index : goal.overflow_sub-index
overflow_sub-index c =
    let s = c.args.self.now in
    let ss = c.args.self.now.list.items in
    let old = c.replace-old.result in
    let was : c.replace-old.result ≡ get_or c.args.self.now.list.items c.args.at c.replace-old.result = c.replace-old.ensures.value ∙ c.index_mut.ensures.value ∙ ap (λ (d : Slot). get_or ss c.args.at d) (sym c.replace-old.ensures.value) in
    let is : c.index.result.now ≡ slice_index_or c.args.self.now.counts.items (c.args.at / BLOCK) 0 = grind (arith, common_steps) in
    let rows : c.rows_of.result ≡ rows_of c.replace-old.result = grind (arith, common_steps) in
    let least : rows_of c.replace-old.result ≤ slice_index_or c.args.self.now.counts.items (c.args.at / BLOCK) 0
    = counted_least s.counts.items ss (slice_set ss c.args.at None) c.args.at (c.args.at / BLOCK) old s.counted (turns_set ss c.args.at None old c.requires was) refl in
    omega (arith, is, rows, least)

pub overflow_add-index : goal.overflow_add-index
overflow_add-index c =
    let s = c.args.self.now in
    let ss = c.args.self.now.list.items in
    let old = c.replace-old.result in
    let v = c.index.result.now - c.rows_of.result + c.rows_of-come.result in
    let was : c.replace-old.result ≡ get_or c.args.self.now.list.items c.args.at c.replace-old.result = c.replace-old.ensures.value ∙ c.index_mut.ensures.value ∙ ap (λ (d : Slot). get_or ss c.args.at d) (sym c.replace-old.ensures.value) in
    let is : c.index.result.now ≡ slice_index_or c.args.self.now.counts.items (c.args.at / BLOCK) 0 = grind (arith, common_steps) in
    let rows : c.rows_of.result ≡ rows_of c.replace-old.result = grind (arith, common_steps) in
    let come : c.rows_of-come.result ≡ rows_of c.args.slot = grind (arith, common_steps) in
    let least : rows_of c.replace-old.result ≤ slice_index_or c.args.self.now.counts.items (c.args.at / BLOCK) 0
    = counted_least s.counts.items ss (slice_set ss c.args.at None) c.args.at (c.args.at / BLOCK) old s.counted (turns_set ss c.args.at None old c.requires was) refl in
    let most : c.index.result.now - c.rows_of.result + c.rows_of-come.result ≤ length (slice_set c.args.self.now.list.items c.args.at c.args.slot)
    = counted_most s.counts.items ss (slice_set ss c.args.at c.args.slot) c.args.at (c.args.at / BLOCK) v c.args.slot old s.counted (turns_set ss c.args.at c.args.slot old c.requires was) refl (omega (arith, is, rows, come, least)) in
    let same : length (slice_set c.args.self.now.list.items c.args.at c.args.slot) ≡ length c.args.self.now.list.items = length_same ss c.args.at c.args.slot in
    let fits : length c.args.self.now.list.items < 2 ^ 64 = grind (arith, common_steps) in
    omega (arith, most, same, fits)

pub invariant_of-self : goal.invariant_of-self
invariant_of-self c =
    let s = c.args.self.now in
    let ss = c.args.self.now.list.items in
    let old = c.replace-old.result in
    let v = c.index.result.now - c.rows_of.result + c.rows_of-come.result in
    let was : c.replace-old.result ≡ get_or c.args.self.now.list.items c.args.at c.replace-old.result = c.replace-old.ensures.value ∙ c.index_mut.ensures.value ∙ ap (λ (d : Slot). get_or ss c.args.at d) (sym c.replace-old.ensures.value) in
    let is : c.index.result.now ≡ slice_index_or c.args.self.now.counts.items (c.args.at / BLOCK) 0 = grind (arith, common_steps) in
    let rows : c.rows_of.result ≡ rows_of c.replace-old.result = grind (arith, common_steps) in
    let come : c.rows_of-come.result ≡ rows_of c.args.slot = grind (arith, common_steps) in
    let least : rows_of c.replace-old.result ≤ slice_index_or c.args.self.now.counts.items (c.args.at / BLOCK) 0
    = counted_least s.counts.items ss (slice_set ss c.args.at None) c.args.at (c.args.at / BLOCK) old s.counted (turns_set ss c.args.at None old c.requires was) refl in
    let there : c.args.at / BLOCK < length c.args.self.now.counts.items = grind (arith, common_steps) in
    let put : c.replace-old.new.dest ≡ c.args.slot = c.replace-old.ensures.after in
    record {
      covered = grind (arith, common_steps);
      counted = λ b. counted_turned s.counts.items ss (slice_set ss c.args.at c.args.slot) c.args.at (c.args.at / BLOCK) v c.args.slot old s.counted (turns_set ss c.args.at c.args.slot old c.requires was) refl there (omega (arith, is, rows, come, least)) b
          ∙ ap (λ (x : Slot). rows_in b 0 (slice_set ss c.args.at x)) (sym put);
    }
