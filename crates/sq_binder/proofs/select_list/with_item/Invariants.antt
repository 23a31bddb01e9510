use Rattle.std.proofs.Common.{◌≡◌, take}
use Rattle.sq_binder.specs.SelectList.{behind, list_seen}
use Rattle.sq_binder.proofs.Clauses.AllColumns.{columns_so_far}
use Rattle.sq_binder.proofs.select_list.with_item.Given as goal

abbrev pub invariant-loop-column : goal.invariant-loop-column
invariant-loop-column l = list_seen l.list ≡ behind (list_seen l.fn.list) (columns_so_far l.number (take l.column-index l.columns))
