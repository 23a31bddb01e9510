use Rattle.std.proofs.Common.{take}
use Rattle.sq_perform.specs.Texts.{AllSpell, texts}
use Rattle.sq_tree.specs.Module.{module_tokens, module_depth}
use Rattle.sqmod.proofs.bind.trees_of.Given as goal

-- the texts before this one have their trees
abbrev pub invariant-loop-text : goal.invariant-loop-text
invariant-loop-text l = AllSpell module_tokens module_depth (take l.text-index (texts l.modules)) l.trees.items
