-- Left open for HeapTable::renew: the clause keys, and the invariant of self; answered by Entries and Holds.
use Rattle.std.proofs.Common.{◌≡◌, ◌∙◌, ap, sym, true}
use Rattle.sq_heap.specs.Index.{in_all, is_in, slots_hold, undo_holds}
use Rattle.std.specs.Prelude.{slice_set}
use Rattle.sq_heap.proofs.Entries.{all_put, keys_set}
use Rattle.sq_heap.proofs.Holds.{slots_together, undo_together}
use Rattle.sq_heap.proofs.table.HeapTable.renew.Goals as goal

pub invariant_of-self-2 : goal.invariant_of-self-2
invariant_of-self-2 c =
    let s = c.args.self.now in
    let xs = c.args.self.now.indexes.items in
    let y = c.in_ok-index.index in
    let slots : slots_hold (is_in c.in_ok-index.index) 0 c.args.self.now.slots.list.items ≡ true = ap (slots_hold (is_in y) 0) (sym c.as_slice-slots.ensures) ∙ c.in_ok-index.ensures.slots in
    let undo : undo_holds (is_in c.in_ok-index.index) c.args.self.now.undo.items ≡ true = ap (undo_holds (is_in y)) (sym c.as_slice.ensures.value) ∙ c.in_ok-index.ensures.undo in
    record {
      undoable = s.undoable;
      entered = slots_together (in_all xs) (is_in y) (in_all (slice_set xs c.args.key y)) (λ r at p q. all_put (λ index. is_in index r at) xs c.args.key y p q) 0 s.slots.list.items s.entered slots;
      undo_entered = undo_together (in_all xs) (is_in y) (in_all (slice_set xs c.args.key y)) (λ r at p q. all_put (λ index. is_in index r at) xs c.args.key y p q) s.undo.items s.undo_entered undo;
    }

pub returns-clause-keys : goal.returns-clause-keys
returns-clause-keys c =
    keys_set c.args.self.now.indexes.items c.args.key c.index.result.now c.in_ok-index.index c.requires.key c.index.ensures (c.in_ok-index.ensures.columns ∙ c.in_ok-columns.ensures ∙ c.columns.ensures)
