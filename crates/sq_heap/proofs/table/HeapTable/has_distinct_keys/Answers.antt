-- Left open for HeapTable::has_distinct_keys: its result; answered by Back and Distinct.
use Rattle.std.proofs.Common.{◌∙◌, drop, length, sym, take}
use Rattle.sq_heap.specs.Index.{keys_of}
use Rattle.sq_heap.proofs.Back.{fits_drop}
use Rattle.sq_heap.proofs.Distinct.{distinct_keys_alone}
use Rattle.sq_heap.proofs.table.HeapTable.has_distinct_keys.Goals as goal

pub returns : goal.returns
returns c =
    let slots = c.args.self.now.slots.list.items in
    let undo = c.args.self.now.undo.items in
    c.are_alone.ensures
    ∙ sym (distinct_keys_alone (take c.args.keys (keys_of c.args.self.now.indexes.items)) slots (drop c.args.from undo) (fits_drop (length slots) undo c.args.from c.args.self.now.undoable) c.requires.before)
