-- Left open: the call of make, and the loop's invariant; answered by Back and Entering.
use Rattle.std.proofs.Common.{◌≡◌, ◌∙◌, ◌+◌, ◌++◌, ◌∷◌, [], ℕ, ap, arith, drop, length, sym, true}
use Rattle.std.proofs.lemmas.Iterator.Adapters.{YieldsList-from_vec}
use Rattle.std.proofs.lemmas.Iterator.Consumers.{YieldsList-turn}
use Rattle.sq_store.specs.declared.table.Table.{Table}
use Rattle.sq_store.specs.Content.{changed}
use Rattle.sq_heap.specs.Entered.{changes_hold, next_slot}
use Rattle.sq_heap.specs.Index.{in_all}
use Rattle.sq_heap.specs.Slots.{table_of}
use Rattle.sq_heap.proofs.Back.{changed_by_push, goes_back_then, length_changes}
use Rattle.sq_heap.proofs.Entering.{holds_behind, holds_here, slots_after}
use Rattle.sq_heap.proofs.table.HeapTable.make_all.Goals as goal

pub make-requires-clause-entered : goal.make-requires-clause-entered
make-requires-clause-entered c =
    let P = in_all c.loop-change.self.indexes.items in
    let turn = YieldsList-turn (YieldsList-from_vec {s = c.into_iter-change-iterator.result} c.args.changes.items c.into_iter-change-iterator.ensures.into_iter_gives.0 (c.into_iter-change-iterator.ensures.into_iter_gives.1 ∙ c.args.changes.ok.0)) c.loop-change.yielded _ c.loop-change.yielded_by c.next.result c.next.new.self c.in-Some.change c.in-Some.is c.next.ensures.steps in
    holds_here P (length c.loop-change.self.slots.list.items) c.args.changes.items (length c.loop-change.yielded) c.in-Some.change turn.0 turn.1 c.loop-change.invariant.rest

pub loop-change-preserved : goal.loop-change-preserved
loop-change-preserved c =
    let before = c.args.self.now in
    let mid = c.loop-change.self in
    let later = c.make.new.self in
    let change = c.in-Some.change in
    let P = in_all c.loop-change.self.indexes.items in
    let long : length (c.loop-change.yielded ++ c.in-Some.change ∷ []) ≡ length c.loop-change.yielded + 1 = length_changes c.loop-change.yielded c.in-Some.change in
    let turn = YieldsList-turn (YieldsList-from_vec {s = c.into_iter-change-iterator.result} c.args.changes.items c.into_iter-change-iterator.ensures.into_iter_gives.0 (c.into_iter-change-iterator.ensures.into_iter_gives.1 ∙ c.args.changes.ok.0)) c.loop-change.yielded _ c.loop-change.yielded_by c.next.result c.next.new.self c.in-Some.change c.in-Some.is c.next.ensures.steps in
    let behind : changes_hold (in_all c.loop-change.self.indexes.items) (next_slot (length c.loop-change.self.slots.list.items) c.in-Some.change) (drop (length c.loop-change.yielded + 1) c.args.changes.items) ≡ true
    = holds_behind P (length mid.slots.list.items) c.args.changes.items (length c.loop-change.yielded) change turn.0 turn.1 c.loop-change.invariant.rest in
    let slots : length c.make.new.self.slots.list.items ≡ next_slot (length c.loop-change.self.slots.list.items) c.in-Some.change = slots_after mid.slots.list.items later.slots.list.items change c.make.ensures.table in
    record {
      can = tt {0};
      ends = tt {0};
      so_far = c.make.ensures.table ∙ ap (λ (t : Table). changed t change) c.loop-change.invariant.so_far ∙ sym (changed_by_push (table_of before.slots.list.items) c.loop-change.yielded change);
      rest = ap (λ xs. changes_hold (in_all xs.items) (length later.slots.list.items) (drop (length (c.loop-change.yielded ++ change ∷ [])) c.args.changes.items)) c.make.ensures.indexes
          ∙ ap (λ (n : ℕ). changes_hold P n (drop (length (c.loop-change.yielded ++ change ∷ [])) c.args.changes.items)) slots
          ∙ ap (λ (n : ℕ). changes_hold P (next_slot (length mid.slots.list.items) change) (drop n c.args.changes.items)) long
          ∙ behind;
      indexes = c.make.ensures.indexes ∙ c.loop-change.invariant.indexes;
      back = goes_back_then before.slots.list.items before.undo.items mid.slots.list.items mid.undo.items later.slots.list.items later.undo.items c.loop-change.invariant.back c.make.ensures.back;
      slots = omega (arith, c.make.ensures.slot_room.list.len);
      undo = omega (arith, c.make.ensures.undo_room.len);
      slot_room = omega (arith, c.make.ensures.slot_room.list.room);
      blocks = omega (arith, c.make.ensures.slot_room.blocks);
      undo_room = omega (arith, c.make.ensures.undo_room.room);
    }
