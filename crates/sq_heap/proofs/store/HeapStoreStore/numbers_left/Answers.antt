-- Left open for HeapStoreStore::numbers_left: that no number overflows; answered by Heap.
use Rattle.std.proofs.Common.{◌≡◌, ◌≤◌, ap, arith, length}
use Rattle.sq_heap.proofs.Heap.{slots_within}
use Rattle.sq_heap.specs.declared.slots.Slots.{Slots}
use Rattle.sq_heap.proofs.store.HeapStoreStore.numbers_left.Goals as goal

pub overflow_sub-result : goal.overflow_sub-result
overflow_sub-result c =
    let s = c.args.self.now in
    let within : length c.index.result.now.slots.list.items ≤ s.row_numbers = slots_within s.row_numbers s.keys s.tables.items c.args.table c.index.result.now s.sound c.requires c.index.ensures in
    let same : length c.slots.result.now.list.items ≡ length c.index.result.now.slots.list.items = ap (λ (x : Slots). length x.list.items) c.slots.ensures in
    omega (arith, within, same)
