use Rattle.std.proofs.Common.{◌≡◌, ◌++◌, flat_map, take}
use Rattle.sq_bindings.specs.Binding.{pass_text}
use Rattle.sq_bindings.specs.Template.{filling}
use Rattle.sq_bindings.proofs.binding.add_passes.Given as goal

abbrev pub invariant-loop-pass : goal.invariant-loop-pass
invariant-loop-pass l = l.text.items ≡ l.fn.text.items ++ flat_map (pass_text l.language.naming (filling l.marks) l.tree) (take l.pass-index l.language.passes.now)
