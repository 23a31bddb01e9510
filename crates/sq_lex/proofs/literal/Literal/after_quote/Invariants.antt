use Rattle.std.proofs.Common.{◌≡◌, ◌-◌, ◌≤◌, length, drop}
use Rattle.sq_lex.specs.Literal.{kept, literal}
use Rattle.sq_lex.proofs.LiteralLemmas.{joined}
use Rattle.sq_lex.proofs.literal.Literal.after_quote.Given as goal

-- the characters so far and the literal that is left are the literal
abbrev pub invariant-loop-size : goal.invariant-loop-size
invariant-loop-size l = record {
  whole : kept (joined l.characters l.size (literal (drop l.size l.bytes))) ≡ kept (literal l.bytes);
  short : length l.characters ≤ 241;
  within : l.size ≤ length l.bytes;
}

abbrev pub decreases-loop-size : goal.decreases-loop-size
decreases-loop-size l = length l.bytes - l.size
