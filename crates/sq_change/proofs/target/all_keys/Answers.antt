-- Left open for all_keys: its result; answered by LostKeys.
use Rattle.std.proofs.Common.{length, refl, arith}
use Rattle.std.proofs.lemmas.Iterator.{YieldsList-from_range, items_from_collect}
use Rattle.sq_change.proofs.Keys.LostKeys.{all_lost}
use Rattle.sq_change.proofs.target.all_keys.Goals as goal

pub returns : goal.returns
returns c = record {
  lost = all_lost c.args.table.now.keys c.collect.result
      (items_from_collect c.collect.result c.collect.ensures.ran (YieldsList-from_range 0 c.len.result (length c.args.table.now.keys) refl (omega (arith, c.len.ensures))));
}
