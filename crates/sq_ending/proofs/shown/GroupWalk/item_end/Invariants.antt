use Rattle.std.proofs.Common.{◌≡◌, List, take, Ok}
use Rattle.sq_value.specs.declared.value.Value.{Value}
use Rattle.sq_meaning.specs.Status.{each}
use Rattle.sq_ending.specs.Shown.{value_by}
use Rattle.sq_ending.proofs.shown.GroupWalk.item_end.Given as goal

abbrev pub invariant-loop-number : goal.invariant-loop-number
invariant-loop-number l = (values : List Value) × (each (value_by l.self.context.now l.group) (take l.number l.self.list.now) ≡ Ok values)
