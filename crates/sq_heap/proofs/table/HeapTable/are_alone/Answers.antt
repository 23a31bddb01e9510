-- Left open: what the call of are_alone asks for, and the result; answered by Columns, Entries and Keyed.
use Rattle.std.proofs.Common.{◌∙◌, ◌-◌, ap, drop, length, take}
use Rattle.std.specs.List.{list_all}
use Rattle.std.proofs.lemmas.List.{take_rest}
use Rattle.sq_heap.specs.Alone.{all_alone, slots_have}
use Rattle.sq_heap.specs.Index.{enters, keys_of}
use Rattle.sq_heap.proofs.Columns.{slots_of_keys}
use Rattle.sq_heap.proofs.Entries.{all_first, keys_first}
use Rattle.sq_heap.proofs.Keyed.{each_holds}
use Rattle.sq_heap.proofs.table.HeapTable.are_alone.Goals as goal

pub are_alone-requires-clause-columns : goal.are_alone-requires-clause-columns
are_alone-requires-clause-columns c =
    let n = c.args.keys in
    let xs = c.args.self.now.indexes.items in
    let slots = c.args.self.now.slots.list.items in
    (λ i. list_all (λ columns. slots_have columns (c.as_slice.ensures i)) (keys_of (take n (c.deref.ensures.value i))))
    ∙ ap (list_all (λ columns. slots_have columns slots)) (keys_first n xs) ∙ slots_of_keys (take n (keys_of xs)) 1 slots c.requires.columns

pub are_alone-requires-clause-entered : goal.are_alone-requires-clause-entered
are_alone-requires-clause-entered c =
    let n = c.args.keys in
    let xs = c.args.self.now.indexes.items in
    let slots = c.args.self.now.slots.list.items in
    (λ i. list_all (enters (c.as_slice.ensures i)) (take n (c.deref.ensures.value i))) ∙ all_first (enters slots) n xs (each_holds xs slots c.args.self.now.entered)

pub returns : goal.returns
returns c =
    let n = c.args.keys in
    let from = c.args.from in
    let xs = c.args.self.now.indexes.items in
    let slots = c.args.self.now.slots.list.items in
    let undo = c.args.self.now.undo.items in
    c.are_alone.ensures
    ∙ (λ i. list_all (λ columns. all_alone columns (c.as_slice.ensures i) (take (length (c.deref-2.ensures.value i) - from) (drop from (c.deref-2.ensures.value i)))) (keys_of (take n (c.deref.ensures.value i))))
    ∙ (λ i. list_all (λ columns. all_alone columns slots (take_rest undo from i)) (keys_first n xs i))
