use Rattle.std.proofs.Common.{◌≡◌, ◌++◌, flat_map, take}
use Rattle.sq_bindings.specs.Binding.{part_text}
use Rattle.sq_bindings.specs.Template.{filling}
use Rattle.sq_bindings.proofs.binding.add_parts.Given as goal

abbrev pub invariant-loop-part : goal.invariant-loop-part
invariant-loop-part l = l.text.items ≡ l.fn.text.items ++ flat_map (part_text l.naming (filling l.marks) l.statement l.declarations) (take l.part-index l.parts)
