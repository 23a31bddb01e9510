-- Left open for keys_are_distinct: what the call of rows_are_distinct asks for; answered by Sound.
use Rattle.std.proofs.Common.{arith}
use Rattle.sq_store.proofs.Sound.{have_columns}
use Rattle.sq_store.proofs.key.keys_are_distinct.Goals as goal

pub rows_are_distinct-requires : goal.rows_are_distinct-requires
rows_are_distinct-requires c = rw c.as_slice.ensures (have_columns c.args.keys.now c.args.rows.now c.loop-columns.columns-index c.columns-item.result c.columns-item.is (omega arith) c.requires)
