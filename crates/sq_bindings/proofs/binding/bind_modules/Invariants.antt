use Rattle.std.proofs.Common.{◌≡◌, ◌++◌, flat_map, take}
use Rattle.sq_bindings.specs.Binding.{module_text}
use Rattle.sq_bindings.proofs.binding.bind_modules.Given as goal

abbrev pub invariant-loop-tree : goal.invariant-loop-tree
invariant-loop-tree l = l.text.items ≡ l.language.start.now ++ flat_map (module_text l.language) (take l.tree-index l.modules)
