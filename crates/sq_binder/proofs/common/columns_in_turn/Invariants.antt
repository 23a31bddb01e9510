use Rattle.std.proofs.Common.{drop, map}
use Rattle.std.specs.List.{zip}
use Rattle.sq_binding.specs.Seen.{column_of}
use Rattle.sq_binder.specs.InTurn.{in_turn}
use Rattle.sq_binder.specs.Query.{column_in_common, sides_seen}
use Rattle.sq_binder.proofs.OneByOne.Turns.{Grown}
use Rattle.sq_binder.proofs.common.columns_in_turn.Given as goal

abbrev pub invariant-loop-position : goal.invariant-loop-position
invariant-loop-position l =
    let sides = zip l.left l.right in
    Grown column_of column_in_common sides_seen (in_turn column_in_common (map sides_seen sides)) l.columns (drop l.position sides)
