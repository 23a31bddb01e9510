use Rattle.std.proofs.Common.{◌≡◌, ◌≤◌, length}
use Rattle.sq_grammar.specs.List.{Follows}
use Rattle.sq_grammar.specs.Reading.{Parser, with_front, all, behind, comma}
use Rattle.sq_grammar.specs.contracts.list.more.P-Fn as called
use Rattle.sq_grammar.proofs.list.more.Given as goal

abbrev pub invariant-loop-tokens : goal.invariant-loop-tokens
invariant-loop-tokens g l = record {
  read : (parser : Parser g.row.T.Denot) → Follows {A = g.row.T.Denot} parser ((called.words g.row.T g.row.P g.P.Fn).post l.item) → with_front l.items (all (behind comma parser) l.tokens) ≡ all (behind comma parser) l.fn.tokens;
  shorter : length l.tokens ≤ length l.fn.tokens;
}

abbrev pub decreases-loop-tokens : goal.decreases-loop-tokens
decreases-loop-tokens g l = length l.tokens
