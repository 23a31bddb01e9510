-- Left open for HeapTable::undo_last: the invariant of self; answered by Back, Distinct and Holds.
use Rattle.std.proofs.Common.{◌≡◌, ◌∙◌, ◌-◌, ◌++◌, ◌∷◌, [], List, None, Some, ap, arith, length, option_to_list, slice_set, sym, take, true}
use Rattle.std.proofs.lemmas.Grind.{common_steps}
use Rattle.sq_heap.specs.Slots.{Slot}
use Rattle.sq_heap.specs.Undo.{before_change, fits, is_last_or_in}
use Rattle.sq_heap.specs.Index.{in_all, slot_holds, slots_hold, undo_holds}
use Rattle.sq_heap.proofs.Back.{fits_last}
use Rattle.sq_heap.proofs.Distinct.{undone_fits}
use Rattle.sq_heap.proofs.Holds.{holds_set, holds_take, undo_last, undo_rest}
use Rattle.sq_heap.proofs.table.HeapTable.undo_last.Goals as goal

pub invariant_of-self : goal.invariant_of-self
invariant_of-self c =
    let slots = c.args.self.now.slots.list.items in
    let rest = c.pop.new.self.items in
    let xs = c.args.self.now.indexes.items in
    let u = c.unwrap-at.result in
    let split : c.args.self.now.undo.items ≡ c.pop.new.self.items ++ c.unwrap-at.result ∷ [] = c.pop.ensures.items ∙ ap (λ o. rest ++ option_to_list o) c.unwrap-at.ensures in
    let whole : fits (length slots) (rest ++ u ∷ []) ≡ true = ap (fits (length slots)) (sym split) ∙ c.args.self.now.undoable in
    let some : c.unwrap-at.result.old ≡ Some c.in-Some.row = cc in
    let items : c.put.new.self.list.items ≡ slice_set c.args.self.now.slots.list.items c.unwrap-at.result.at (Some c.in-Some.row) = cc in
    let undone : undo_holds (in_all xs) (rest ++ u ∷ []) ≡ true = ap (undo_holds (in_all xs)) (sym split) ∙ c.args.self.now.undo_entered in
    record {
      undoable = ap (λ (ss : List Slot). fits (length ss) rest) items ∙ ap (λ (o : Slot). fits (length (before_change slots u.at o)) rest) (sym some) ∙ undone_fits slots rest u whole;
      entered = ap (slots_hold (in_all xs) 0) items
          ∙ holds_set (in_all xs) 0 slots u.at (Some c.in-Some.row) u.at (omega arith) c.args.self.now.entered (ap (slot_holds (in_all xs) u.at) (sym some) ∙ undo_last (in_all xs) rest u undone);
      undo_entered = undo_rest (in_all xs) rest u undone;
    }

pub invariant_of-self-in-None : goal.invariant_of-self-in-None
invariant_of-self-in-None c =
    let slots = c.args.self.now.slots.list.items in
    let rest = c.pop.new.self.items in
    let xs = c.args.self.now.indexes.items in
    let u = c.unwrap-at.result in
    let split : c.args.self.now.undo.items ≡ c.pop.new.self.items ++ c.unwrap-at.result ∷ [] = c.pop.ensures.items ∙ ap (λ o. rest ++ option_to_list o) c.unwrap-at.ensures in
    let whole : fits (length slots) (rest ++ u ∷ []) ≡ true = ap (fits (length slots)) (sym split) ∙ c.args.self.now.undoable in
    let none : c.unwrap-at.result.old ≡ None = cc in
    let last : is_last_or_in (length slots) u.at None ≡ true = ap (is_last_or_in (length slots) u.at) (sym none) ∙ fits_last (length slots) rest u whole in
    let at : length c.args.self.now.slots.list.items - 1 ≡ c.unwrap-at.result.at = grind (arith, common_steps) in
    let items : c.pop-in-None.new.self.list.items ≡ take c.unwrap-at.result.at c.args.self.now.slots.list.items = c.pop-in-None.ensures ∙ ap (λ n. take n slots) at in
    let undone : undo_holds (in_all xs) (rest ++ u ∷ []) ≡ true = ap (undo_holds (in_all xs)) (sym split) ∙ c.args.self.now.undo_entered in
    record {
      undoable = ap (λ (ss : List Slot). fits (length ss) rest) items ∙ ap (λ (o : Slot). fits (length (before_change slots u.at o)) rest) (sym none) ∙ undone_fits slots rest u whole;
      entered = ap (slots_hold (in_all xs) 0) items ∙ holds_take (in_all xs) 0 slots u.at c.args.self.now.entered;
      undo_entered = undo_rest (in_all xs) rest u undone;
    }
