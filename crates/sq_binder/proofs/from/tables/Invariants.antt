use Rattle.std.proofs.Common.{◌≡◌, map, take}
use Rattle.sq_binder.proofs.from.tables.Given as goal

abbrev pub invariant-loop-item : goal.invariant-loop-item
invariant-loop-item l = l.tables ≡ map (λ item. item.place) (take l.item-index l.items)
