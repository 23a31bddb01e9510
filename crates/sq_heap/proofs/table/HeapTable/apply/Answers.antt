-- Left open for HeapTable::apply: what the call of has_distinct_keys asks for; answered by laws of sq_store.
use Rattle.std.proofs.Common.{◌≡◌, ◌∙◌, List, ap, take}
use Rattle.sq_store.specs.Content.{changed_by}
use Rattle.sq_store.specs.Keys.{have_keys}
use Rattle.sq_store.proofs.Sound.{have_keys_changed_by}
use Rattle.sq_heap.specs.Index.{keys_of}
use Rattle.sq_heap.specs.Slots.{Slot, table_of}
use Rattle.sq_heap.proofs.table.HeapTable.apply.Goals as goal

pub has_distinct_keys-requires-clause-columns : goal.has_distinct_keys-requires-clause-columns
has_distinct_keys-requires-clause-columns c =
    let s = c.args.self.now in
    let changes = c.args.changes.items in
    let keys : keys_of c.make_all.new.self.indexes.items ≡ keys_of c.args.self.now.indexes.items = ap (λ xs. keys_of xs.items) c.make_all.ensures.indexes ∙ c.prepare.ensures.keys in
    let table : table_of c.make_all.new.self.slots.list.items ≡ changed_by (table_of c.args.self.now.slots.list.items) c.args.changes.items
    = c.make_all.ensures.table ∙ ap (λ (ss : List Slot). changed_by (table_of ss) changes) c.prepare.ensures.slots in
    (λ i. have_keys (take c.args.keys (keys i)) (table i).rows) ∙ have_keys_changed_by (take c.args.keys (keys_of s.indexes.items)) (table_of s.slots.list.items) changes c.requires.changes.columns c.requires.changes.new_columns
