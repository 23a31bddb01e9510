-- Left open: what the call of first_with asks for; answered by Entries, Holds and Keyed.
use Rattle.std.proofs.Common.{◌≡◌, ◌∙◌, ◌<◌, List, ℕ, ap, arith, length, sym}
use Rattle.sq_store.specs.Keys.{are_distinct}
use Rattle.sq_heap.specs.Alone.{slots_have}
use Rattle.sq_heap.specs.Index.{in_all, is_in, keys_of, slots_hold}
use Rattle.sq_heap.specs.Slots.{Slot, rows_from}
use Rattle.sq_heap.proofs.Entries.{all_at, length_keys}
use Rattle.sq_heap.proofs.Holds.{slots_give}
use Rattle.sq_heap.proofs.Keyed.{columns_at_index}
use Rattle.sq_heap.proofs.table.HeapTable.first_with.Goals as goal

pub first_with-requires-clause-columns : goal.first_with-requires-clause-columns
first_with-requires-clause-columns c =
    let xs = c.args.self.now.indexes.items in
    let ss = c.args.self.now.slots.list.items in
    let x = c.index.result.now in
    let long : length (keys_of c.args.self.now.indexes.items) ≡ length c.args.self.now.indexes.items = length_keys xs in
    let lt : c.args.key < length c.args.self.now.indexes.items = omega (arith, c.requires.key) in
    ap (λ (slots : List Slot). slots_have x.columns slots) c.as_slice.ensures
    ∙ ap (λ (columns : List ℕ). slots_have columns ss) (sym (columns_at_index xs c.args.key x lt c.index.ensures)) ∙ c.requires.columns

pub first_with-requires-clause-entered : goal.first_with-requires-clause-entered
first_with-requires-clause-entered c =
    let xs = c.args.self.now.indexes.items in
    let ss = c.args.self.now.slots.list.items in
    let x = c.index.result.now in
    let long : length (keys_of c.args.self.now.indexes.items) ≡ length c.args.self.now.indexes.items = length_keys xs in
    let lt : c.args.key < length c.args.self.now.indexes.items = omega (arith, c.requires.key) in
    ap (slots_hold (is_in x) 0) c.as_slice.ensures
    ∙ slots_give (in_all xs) (is_in x) (λ r k t. all_at (λ index. is_in index r k) xs c.args.key x lt c.index.ensures t) 0 ss c.args.self.now.entered

pub first_with-requires-clause-distinct : goal.first_with-requires-clause-distinct
first_with-requires-clause-distinct c =
    let xs = c.args.self.now.indexes.items in
    let ss = c.args.self.now.slots.list.items in
    let x = c.index.result.now in
    let long : length (keys_of c.args.self.now.indexes.items) ≡ length c.args.self.now.indexes.items = length_keys xs in
    let lt : c.args.key < length c.args.self.now.indexes.items = omega (arith, c.requires.key) in
    ap (λ (slots : List Slot). are_distinct x.columns (rows_from 1 slots)) c.as_slice.ensures
    ∙ ap (λ (columns : List ℕ). are_distinct columns (rows_from 1 ss)) (sym (columns_at_index xs c.args.key x lt c.index.ensures)) ∙ c.requires.distinct
