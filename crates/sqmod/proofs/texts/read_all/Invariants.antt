use Rattle.std.proofs.Common.{◌≡◌, length}
use Rattle.sqmod.proofs.texts.read_all.Given as goal

-- each file before this one has its text
abbrev pub invariant-loop-index : goal.invariant-loop-index
invariant-loop-index g l = length l.texts.items ≡ l.index
