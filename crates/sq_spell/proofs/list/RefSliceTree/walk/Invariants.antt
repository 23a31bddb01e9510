use Rattle.std.proofs.Common.{◌≡◌, take}
use Rattle.std.specs.Prelude.{fold}
use Rattle.std.specs.List.{flat_map}
use Rattle.sq_spell.proofs.list.RefSliceTree.walk.Given as goal

abbrev pub invariant-loop-part : goal.invariant-loop-part
invariant-loop-part g l = l.sink ≡ fold g.S.Sink.after l.fn.sink (flat_map g.T.Tree.tokens (take l.part-index l.part-items))
