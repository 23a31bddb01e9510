-- Left open for HeapTable::find_rows: what the call of all_with asks for; answered by Entries and Holds.
use Rattle.std.proofs.Common.{◌∙◌, ◌<◌, ap, arith, length}
use Rattle.sq_heap.specs.Index.{in_all, is_in, slots_hold}
use Rattle.sq_heap.proofs.Entries.{all_at}
use Rattle.sq_heap.proofs.Holds.{slots_give}
use Rattle.sq_heap.proofs.table.HeapTable.find_rows.Goals as goal

pub all_with-requires : goal.all_with-requires
all_with-requires c =
    let xs = c.args.self.now.indexes.items in
    let slots = c.args.self.now.slots.list.items in
    let x = c.index.result.now in
    let lt : c.in-Some.place < length c.args.self.now.indexes.items = omega (arith, c.in-Some.ensures.0, ap length c.as_slice.ensures.value) in
    ap (slots_hold (is_in x) 0) c.as_slice-slots.ensures
    ∙ slots_give (in_all xs) (is_in x) (λ r k t. all_at (λ index. is_in index r k) xs c.in-Some.place x lt c.index.ensures t) 0 slots c.args.self.now.entered
