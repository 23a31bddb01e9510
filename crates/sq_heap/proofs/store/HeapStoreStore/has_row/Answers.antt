-- Left open for HeapStoreStore::has_row: what the call of has_row asks for; answered by Columns and Heap.
use Rattle.std.proofs.Common.{◌≡◌, ◌∙◌, ◌<◌, ap, arith, length, sym}
use Rattle.std.specs.List.{list_all}
use Rattle.sq_store.specs.Keys.{has_columns}
use Rattle.sq_store.specs.declared.table.Table.{Table}
use Rattle.sq_heap.specs.Heap.{all_now, now_of}
use Rattle.sq_heap.proofs.Columns.{slots_of_rows}
use Rattle.sq_heap.proofs.Heap.{length_map, map_at}
use Rattle.sq_heap.proofs.store.HeapStoreStore.has_row.Goals as goal

pub has_row-requires : goal.has_row-requires
has_row-requires c =
    let ts = c.args.self.now.tables.items in
    let t = c.index.result.now in
    let columns = c.args.columns.now in
    let long : length (all_now c.args.self.now.tables.items) ≡ length c.args.self.now.tables.items = length_map now_of ts in
    let lt : c.args.table < length c.args.self.now.tables.items = omega (arith, c.requires.table) in
    slots_of_rows columns 1 t.slots.list.items
    (ap (λ (u : Table). list_all (λ r. has_columns columns r.row) u.rows) (sym (map_at now_of ts c.args.table t lt c.index.ensures)) ∙ c.requires.columns)
