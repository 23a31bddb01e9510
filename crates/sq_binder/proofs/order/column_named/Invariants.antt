use Rattle.std.proofs.Common.{◌≡◌, take}
use Rattle.std.specs.Prelude.{option_to_list}
use Rattle.sq_meaning.specs.SortKeys.{columns_named}
use Rattle.sq_binder.specs.Order.{names_seen}
use Rattle.sq_binder.proofs.order.column_named.Given as goal

abbrev pub invariant-loop-position : goal.invariant-loop-position
invariant-loop-position l = columns_named l.wanted (names_seen (take l.position l.columns)) ≡ option_to_list l.found
