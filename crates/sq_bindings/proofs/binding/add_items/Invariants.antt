use Rattle.std.proofs.Common.{◌≡◌, ◌++◌, flat_map, take}
use Rattle.sq_bindings.specs.Binding.{item_text}
use Rattle.sq_bindings.specs.Template.{filling}
use Rattle.sq_bindings.proofs.binding.add_items.Given as goal

abbrev pub invariant-loop-item : goal.invariant-loop-item
invariant-loop-item l = l.text.items ≡ l.fn.text.items ++ flat_map (item_text l.naming (filling l.marks) l.parts l.tree.name) (take l.item-index l.tree.items)
