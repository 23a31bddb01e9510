use Rattle.std.proofs.Common.{◌≡◌, ◌+◌, ◌≤◌, drop}
use Rattle.sq_lex.specs.Position.{past}
use Rattle.sq_lex.proofs.position.Position.past.Given as goal

abbrev pub invariant-loop-byte : goal.invariant-loop-byte
invariant-loop-byte l = record {
  past_rest : past l.position (drop l.byte-index l.bytes) ≡ past l.fn.self l.bytes;
  byte : l.position.byte ≡ l.fn.self.byte + l.byte-index;
  line : l.position.line ≤ l.fn.self.line + l.byte-index;
  column : l.position.column ≤ l.fn.self.column + l.byte-index;
}
