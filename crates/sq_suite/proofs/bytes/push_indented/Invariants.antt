use Rattle.std.proofs.Common.{◌≡◌, ◌++◌, true, drop}
use Rattle.sq_suite.specs.Bytes.{indented}
use Rattle.sq_suite.proofs.bytes.push_indented.Given as goal

-- the bytes so far and the bytes to come make the whole
abbrev pub invariant-loop-byte : goal.invariant-loop-byte
invariant-loop-byte l = l.out.items ++ indented l.starts (drop l.byte-index l.text) ≡ l.fn.out.items ++ indented true l.text
