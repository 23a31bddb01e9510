use Rattle.std.proofs.Common.{◌≡◌, take}
use Rattle.sq_binder.specs.SelectList.{list_seen, split}
use Rattle.sq_binder.proofs.Clauses.AllColumns.{items_so_far}
use Rattle.sq_binder.proofs.select_list.all_columns.Given as goal

abbrev pub invariant-loop-number : goal.invariant-loop-number
invariant-loop-number l = list_seen l.list ≡ split (items_so_far (take l.number l.items))
