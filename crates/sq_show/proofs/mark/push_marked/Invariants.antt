use Rattle.std.proofs.Common.{◌≡◌, ◌++◌, true, drop}
use Rattle.sq_show.specs.Mark.{marked}
use Rattle.sq_show.proofs.mark.push_marked.Given as goal

-- what stands there and what is to come make the whole
abbrev pub invariant-loop-byte : goal.invariant-loop-byte
invariant-loop-byte l = l.lines.items ++ marked l.starts (drop l.byte-index l.notes) ≡ l.fn.lines.items ++ marked true l.notes
