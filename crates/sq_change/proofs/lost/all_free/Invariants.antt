use Rattle.std.specs.List.{enumerate_from}
use Rattle.sq_change.proofs.OneByOne.AllMet.{MetTo}
use Rattle.sq_change.proofs.Keys.LostValues.{table_free}
use Rattle.sq_change.proofs.lost.all_free.Given as goal

abbrev pub invariant-loop-place : goal.invariant-loop-place
invariant-loop-place g l =
    MetTo (table_free (g.S.Store.key_columns l.store) (g.S.Store.content_now l.store) l.table l.lost) (enumerate_from 0 (g.N.Names.base_tables l.names)) l.place
