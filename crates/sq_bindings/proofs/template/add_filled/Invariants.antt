use Rattle.std.proofs.Common.{◌≡◌, ◌++◌, flat_map, take}
use Rattle.sq_bindings.specs.Template.{filling, put}
use Rattle.sq_bindings.proofs.template.add_filled.Given as goal

abbrev pub invariant-loop-byte : goal.invariant-loop-byte
invariant-loop-byte l = l.text.items ≡ l.fn.text.items ++ flat_map (put (filling l.marks)) (take l.byte-index l.template)
