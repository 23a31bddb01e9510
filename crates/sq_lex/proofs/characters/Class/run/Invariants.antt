use Rattle.std.proofs.Common.{◌≡◌, ◌+◌, ◌-◌, ◌≤◌, length, drop}
use Rattle.std.specs.List.{prefix_len}
use Rattle.sq_lex.specs.Characters.{has}
use Rattle.sq_lex.proofs.characters.Class.run.Given as goal

-- the size so far and the run that is left are the run
abbrev pub invariant-loop-size : goal.invariant-loop-size
invariant-loop-size l = record {
  run : l.size + prefix_len (has l.self) (drop l.size l.bytes) ≡ prefix_len (has l.self) l.bytes;
  within : l.size ≤ length l.bytes;
}

abbrev pub decreases-loop-size : goal.decreases-loop-size
decreases-loop-size l = length l.bytes - l.size
