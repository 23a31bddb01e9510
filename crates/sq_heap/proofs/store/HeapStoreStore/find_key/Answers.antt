-- Left open: what the call of first_with asks for, and the clause row; answered by Heap and KeyAt.
use Rattle.std.proofs.Common.{◌≡◌, ◌∙◌, ◌<◌, None, arith, length, rules}
use Rattle.sq_store.specs.Content.{table_at}
use Rattle.sq_store.specs.Keys.{key_at, with_key}
use Rattle.sq_heap.specs.Heap.{all_now, now_of}
use Rattle.sq_heap.proofs.Heap.{length_map}
use Rattle.sq_heap.proofs.KeyAt.{key_columns, key_distinct, key_found, key_there}
use Rattle.sq_heap.proofs.store.HeapStoreStore.find_key.Goals as goal

pub first_with-requires-clause-key : goal.first_with-requires-clause-key
first_with-requires-clause-key c =
    let s = c.args.self.now in
    let ts = c.args.self.now.tables.items in
    let long : length (all_now c.args.self.now.tables.items) ≡ length c.args.self.now.tables.items = length_map now_of ts in
    let lt : c.args.table < length c.args.self.now.tables.items = omega (arith, c.requires.table) in
    key_there s.row_numbers s.keys ts c.args.table s.sound s.indexed lt c.index.result.now c.index.ensures c.args.key c.requires.key

pub first_with-requires-clause-columns : goal.first_with-requires-clause-columns
first_with-requires-clause-columns c =
    let s = c.args.self.now in
    let ts = c.args.self.now.tables.items in
    let long : length (all_now c.args.self.now.tables.items) ≡ length c.args.self.now.tables.items = length_map now_of ts in
    let lt : c.args.table < length c.args.self.now.tables.items = omega (arith, c.requires.table) in
    key_columns s.row_numbers s.keys ts c.args.table s.sound s.indexed lt c.index.result.now c.index.ensures c.args.key c.requires.key

pub first_with-requires-clause-distinct : goal.first_with-requires-clause-distinct
first_with-requires-clause-distinct c =
    let s = c.args.self.now in
    let ts = c.args.self.now.tables.items in
    let long : length (all_now c.args.self.now.tables.items) ≡ length c.args.self.now.tables.items = length_map now_of ts in
    let lt : c.args.table < length c.args.self.now.tables.items = omega (arith, c.requires.table) in
    key_distinct s.row_numbers s.keys ts c.args.table s.sound s.indexed lt c.index.result.now c.index.ensures c.args.key c.requires.key

pub returns-in_err-found-clause-row : goal.returns-in_err-found-clause-row
returns-in_err-found-clause-row c =
    let s = c.args.self.now in
    let ts = c.args.self.now.tables.items in
    let long : length (all_now c.args.self.now.tables.items) ≡ length c.args.self.now.tables.items = length_map now_of ts in
    let lt : c.args.table < length c.args.self.now.tables.items = omega (arith, c.requires.table) in
    let none : with_key (table_at (all_now c.args.self.now.tables.items) c.args.table) (key_at c.args.self.now.keys c.args.table c.args.key) c.args.values.now ≡ None
    = key_found s.row_numbers s.keys ts c.args.table s.sound s.indexed lt c.index.result.now c.index.ensures c.args.key c.requires.key c.args.values.now ∙ c.in_err-found.ensures in
    search rules

pub returns-clause-row : goal.returns-clause-row
returns-clause-row c =
    let s = c.args.self.now in
    let ts = c.args.self.now.tables.items in
    let long : length (all_now c.args.self.now.tables.items) ≡ length c.args.self.now.tables.items = length_map now_of ts in
    let lt : c.args.table < length c.args.self.now.tables.items = omega (arith, c.requires.table) in
    key_found s.row_numbers s.keys ts c.args.table s.sound s.indexed lt c.index.result.now c.index.ensures c.args.key c.requires.key c.args.values.now ∙ c.in_ok-found.ensures
