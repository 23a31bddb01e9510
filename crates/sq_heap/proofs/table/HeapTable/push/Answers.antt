-- Left open for HeapTable::push: the invariant of self; answered by Back and Holds.
use Rattle.std.proofs.Common.{◌≡◌, ◌∙◌, None, Some, ap, arith, length, refl, true}
use Rattle.sq_heap.specs.Index.{in_all, slots_hold, undo_holds}
use Rattle.sq_heap.specs.Undo.{fits}
use Rattle.sq_heap.proofs.Back.{fits_new}
use Rattle.sq_heap.proofs.Holds.{holds_push, undo_push}
use Rattle.sq_heap.proofs.table.HeapTable.push.Goals as goal

pub invariant_of-self : goal.invariant_of-self
invariant_of-self c =
    let t = c.args.self.now in
    let P = in_all c.args.self.now.indexes.items in
    let ss = c.args.self.now.slots.list.items in
    let us = c.args.self.now.undo.items in
    let at = c.len-at.result in
    let slots = c.push.ensures.list in
    let undo = c.push_reserved.ensures.items in
    let place : c.len-at.result ≡ length c.args.self.now.slots.list.items = c.len-at.ensures in
    let entered : in_all c.args.self.now.indexes.items c.args.row c.len-at.result ≡ true = ap (in_all t.indexes.items c.args.row) place ∙ c.requires.entered in
    record {
      undoable = (λ i. fits (length (slots i)) (undo i)) ∙ fits_new ss us (Some c.args.row) at place t.undoable;
      entered = ap (slots_hold P 0) slots ∙ holds_push P 0 ss (Some c.args.row) at (omega (arith, place)) t.entered entered;
      undo_entered = ap (undo_holds P) undo ∙ undo_push P us (record { at = at; old = None }) t.undo_entered refl;
    }
