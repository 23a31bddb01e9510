use Rattle.std.proofs.Common.{take}
use Rattle.sq_perform.specs.Texts.{AllSpell, texts}
use Rattle.sq_perform.proofs.texts.read_all.Given as goal

-- the texts before this one have their trees
abbrev pub invariant-loop-number : goal.invariant-loop-number
invariant-loop-number g l = AllSpell g.T.TextTree.tokens g.T.TextTree.depth (take l.number (texts l.all)) l.trees.items
