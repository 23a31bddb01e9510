-- Left open for ListStoreStore::find_key: what the call of first_with asks for; answered by Sound.
use Rattle.std.proofs.Common.{◌≡◌, ◌∙◌, List, ℕ, ap, get_or, true}
use Rattle.sq_store.specs.Content.{table_at}
use Rattle.sq_store.specs.Keys.{have_keys, keys_at}
use Rattle.sq_store.proofs.Sound.{columns_at, have_columns}
use Rattle.sq_store.proofs.list_store.ListStoreStore.find_key.Goals as goal

pub first_with-requires : goal.first_with-requires
first_with-requires c =
    let keys = keys_at c.args.self.now.keys c.args.table in
    let rows = (table_at c.args.self.now.tables.items c.args.table).rows in
    let held : have_keys keys rows ≡ true = columns_at c.args.self.now.row_numbers c.args.self.now.keys c.args.self.now.tables.items c.args.table c.args.self.now.sound c.requires.table in
    let columns : c.index-keys-key.result ≡ get_or keys c.args.key c.index-keys-key.result
    = c.index-keys-key.is ∙ ap (λ (ks : List (List ℕ)). get_or ks c.args.key c.index-keys-key.result) c.keys.ensures in
    rw (c.as_slice-columns.ensures, c.rows_of.ensures) (have_columns keys rows c.args.key c.index-keys-key.result columns c.requires.key held)
