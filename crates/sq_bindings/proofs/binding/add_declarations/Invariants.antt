use Rattle.std.proofs.Common.{◌≡◌, ◌++◌, flat_map, take}
use Rattle.sq_bindings.specs.Binding.{declaration_text}
use Rattle.sq_bindings.specs.Template.{filling}
use Rattle.sq_bindings.proofs.binding.add_declarations.Given as goal

abbrev pub invariant-loop-declaration : goal.invariant-loop-declaration
invariant-loop-declaration l =
    l.text.items ≡ l.fn.text.items ++ flat_map (declaration_text l.naming (filling l.marks) l.statement l.part) (take l.declaration-index l.declarations)
