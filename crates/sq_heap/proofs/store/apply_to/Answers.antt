-- Left open: what the call of apply asks for, and the clauses ok, err and kept; answered by Heap and others.
use Rattle.std.proofs.Common.{◌≡◌, ◌∙◌, ap, slice_set, sym, take}
use Rattle.std.specs.List.{list_all}
use Rattle.sq_store.specs.Change.{rows_put}
use Rattle.sq_store.specs.Content.{changed_by, table_at}
use Rattle.sq_store.specs.Keys.{Keys, has_distinct_keys, has_keys, have_keys, keys_at}
use Rattle.sq_heap.specs.Heap.{all_keys, all_now, committed_of, now_of}
use Rattle.sq_heap.specs.Index.{keys_of}
use Rattle.sq_heap.specs.Slots.{table_of}
use Rattle.sq_heap.specs.Store.{AreApplied, AreLeft}
use Rattle.sq_heap.specs.Table.{IsApplied, IsLeft, IsStart}
use Rattle.sq_heap.proofs.Heap.{all_keys_set, applied_before, applied_listed, applied_now, keys_of_table, length_set, map_at, map_set_same, refused_before, refused_listed}
use Rattle.sq_heap.proofs.OnResult.{if_ok, on_err}
use Rattle.sq_heap.proofs.store.apply_to.Goals as goal

pub apply-requires-clause-changes : goal.apply-requires-clause-changes
apply-requires-clause-changes c =
    let ts = c.args.tables.now.items in
    let i = c.args.table in
    let t = c.index_mut.result.now in
    let n = c.args.keys in
    let changes = c.args.changes.items in
    let keys : keys_of c.index_mut.result.now.indexes.items ≡ keys_at (all_keys c.args.tables.now.items) c.args.table = sym (keys_of_table ts i t c.requires.known c.index_mut.ensures.value) in
    let table : table_of c.index_mut.result.now.slots.list.items ≡ table_at (all_now c.args.tables.now.items) c.args.table = sym (map_at now_of ts i t c.requires.known c.index_mut.ensures.value) in
    record {
      columns = (λ j. have_keys (take n (keys j)) (table j).rows) ∙ c.requires.changes.columns;
      new_columns = ap (λ (ks : Keys). list_all (has_keys (take n ks)) (rows_put changes)) keys ∙ c.requires.changes.new_columns;
      distinct = (λ j. has_distinct_keys (take n (keys j)) (table j)) ∙ c.requires.changes.distinct;
    }

pub returns-clause-ok : goal.returns-clause-ok
returns-clause-ok c =
    let ts = c.args.tables.now.items in
    let i = c.args.table in
    let t = c.index_mut.result.now in
    let u = c.apply.new.self in
    let n = c.args.keys in
    let changes = c.args.changes.items in
    let keys : keys_at (all_keys c.args.tables.now.items) c.args.table ≡ keys_of c.index_mut.result.now.indexes.items = keys_of_table ts i t c.requires.known c.index_mut.ensures.value in
    let table : table_at (all_now c.args.tables.now.items) c.args.table ≡ table_of c.index_mut.result.now.slots.list.items = map_at now_of ts i t c.requires.known c.index_mut.ensures.value in
    if_ok c.apply.result
    (IsApplied (take n (keys_of t.indexes.items)) (table_of t.slots.list.items) changes (table_of u.slots.list.items))
    (IsStart t.slots.list.items t.undo.items u.slots.list.items u.undo.items)
    (λ from. AreApplied (take n (keys_at (all_keys ts) i)) changes (record { table = i; from = from }) ts (slice_set ts i u))
    (λ applied from start. record {
      made = applied_now ts i t u changes c.requires.known c.index_mut.ensures.value applied.made;
      distinct = (λ j. has_distinct_keys (take n (keys j)) (changed_by (table j) changes)) ∙ applied.distinct;
      before = applied_before ts i t u from c.requires.known c.index_mut.ensures.value start.undone;
      listed = λ listed h. applied_listed listed ts i u h;
    })
    c.apply.ensures.ok c.apply.ensures.from

pub returns-clause-err : goal.returns-clause-err
returns-clause-err c =
    let ts = c.args.tables.now.items in
    let i = c.args.table in
    let t = c.index_mut.result.now in
    let u = c.apply.new.self in
    on_err c.apply.result (IsLeft t.slots.list.items t.undo.items u.slots.list.items u.undo.items) (AreLeft ts (slice_set ts i u))
    (λ left. record {
      now = map_set_same now_of ts i t u c.requires.known c.index_mut.ensures.value (ap table_of left.slots_left);
      before = λ mark. refused_before ts i t u mark c.requires.known c.index_mut.ensures.value left.slots_left left.undo_left;
      listed = λ listed h. refused_listed listed ts i t u c.requires.known c.index_mut.ensures.value left.undo_left h;
    })
    c.apply.ensures.err

pub returns-clause-kept : goal.returns-clause-kept
returns-clause-kept c =
    let ts = c.args.tables.now.items in
    let i = c.args.table in
    let t = c.index_mut.result.now in
    let u = c.apply.new.self in
    record {
      count = length_set ts i u;
      keys = all_keys_set ts i t u c.requires.known c.index_mut.ensures.value c.apply.ensures.keys;
      committed = map_set_same committed_of ts i t u c.requires.known c.index_mut.ensures.value (ap table_of c.apply.ensures.committed);
    }
