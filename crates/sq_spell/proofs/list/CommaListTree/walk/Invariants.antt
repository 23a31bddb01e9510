use Rattle.std.proofs.Common.{◌≡◌, ◌++◌, take}
use Rattle.std.specs.Prelude.{fold}
use Rattle.std.specs.List.{flat_map}
use Rattle.sq_tree.specs.List as spec
use Rattle.sq_spell.proofs.list.CommaListTree.walk.Given as goal

abbrev pub invariant-loop-item : goal.invariant-loop-item
invariant-loop-item g l = l.sink ≡ fold g.S.Sink.after l.fn.sink (g.T.Tree.tokens l.self.first ++ flat_map (spec.comma_then g.T.Tree.tokens) (take l.item-index l.item-items))
