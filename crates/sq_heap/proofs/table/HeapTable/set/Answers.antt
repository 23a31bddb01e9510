-- Left open for HeapTable::set: the invariant of self; answered by Back and Holds.
use Rattle.std.proofs.Common.{◌∙◌, ap, arith, length}
use Rattle.sq_heap.specs.Index.{in_all, slots_hold, undo_holds}
use Rattle.sq_heap.specs.Undo.{fits}
use Rattle.sq_heap.proofs.Back.{fits_set, there}
use Rattle.sq_heap.proofs.Holds.{holds_of, holds_set, undo_push}
use Rattle.sq_heap.proofs.table.HeapTable.set.Goals as goal

pub invariant_of-self : goal.invariant_of-self
invariant_of-self c =
    let s = c.args.self.now in
    let P = in_all c.args.self.now.indexes.items in
    let ss = c.args.self.now.slots.list.items in
    let us = c.args.self.now.undo.items in
    let at = c.args.at in
    let old = c.put-old.result in
    let slots = c.put-old.ensures.list in
    let undo = c.push_reserved.ensures.items in
    let was = c.put-old.ensures.was in
    record {
      undoable = (λ i. fits (length (slots i)) (undo i)) ∙ fits_set ss us at c.args.slot old c.requires.there was s.undoable;
      entered = ap (slots_hold P 0) slots ∙ holds_set P 0 ss at c.args.slot at (omega arith) s.entered c.requires.entered;
      undo_entered = ap (undo_holds P) undo ∙ undo_push P us (record { at = at; old = old }) s.undo_entered (holds_of P 0 ss at old at (omega arith) (there ss at old c.requires.there was).0 was s.entered);
    }
