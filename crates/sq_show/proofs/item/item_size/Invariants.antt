use Rattle.std.proofs.Common.{◌≡◌, ◌+◌, drop}
use Rattle.std.specs.Option.{option_map}
use Rattle.sq_show.specs.Item.{item_size, size_from}
use Rattle.sq_show.proofs.item.item_size.Given as goal

-- the item's size is what is passed and the size of what is to come
abbrev pub invariant-loop-at : goal.invariant-loop-at
invariant-loop-at l = item_size l.line ≡ option_map (λ n. l.at + n) (size_from l.inside (drop l.at l.line))
