use Rattle.std.proofs.Common.{◌≡◌, length, map, take}
use Rattle.std.specs.Char.{to_ascii_uppercase}
use Rattle.sq_lex.proofs.piece.folded.Given as goal

abbrev pub invariant-loop-at : goal.invariant-loop-at
invariant-loop-at l = record {
  long : length l.codes ≡ 18;
  folded : take l.at l.codes ≡ map to_ascii_uppercase (take l.at l.bytes);
}
