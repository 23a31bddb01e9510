use Rattle.std.proofs.Common.{◌≡◌, drop}
use Rattle.std.specs.List.{list_all}
use Rattle.sq_binder.specs.Source.{agrees, columns_beside}
use Rattle.sq_binder.proofs.source.are_storable.Given as goal

abbrev pub invariant-loop-number : goal.invariant-loop-number
invariant-loop-number l = list_all agrees (columns_beside l.columns l.receivers) ≡ list_all agrees (drop l.number (columns_beside l.columns l.receivers))
