use Rattle.std.proofs.Common.{◌≡◌, take}
use Rattle.std.specs.Prelude.{filter}
use Rattle.sq_store.specs.Content.{table_at}
use Rattle.sq_store.specs.Keys.{key_at}
use Rattle.sq_query.specs.Several.{has_one_of}
use Rattle.sq_query.specs.Table.{numbered_in}
use Rattle.sq_query.proofs.several.rows_with.Given as goal

abbrev pub invariant-loop-value : goal.invariant-loop-value
invariant-loop-value g l =
    numbered_in l.rows ≡ filter (has_one_of (key_at (g.S.Store.key_columns l.store) l.base l.known.key) (take l.value-index l.value-items)) (table_at (g.S.Store.content_now l.store) l.base).rows
