use Rattle.std.proofs.Common.{◌≡◌, ◌++◌, map, take}
use Rattle.sq_advice.specs.Passed.{blank_for}
use Rattle.sq_advice.proofs.passed.add_blanks.Given as goal

abbrev pub invariant-loop-byte : goal.invariant-loop-byte
invariant-loop-byte l = l.left.items ≡ l.initial.left.items ++ map blank_for (take l.byte-index l.piece)
