use Rattle.std.proofs.Common.{◌≡◌, ◌≤◌, Option, length}
use Rattle.sq_grammar.specs.List.{Follows}
use Rattle.sq_grammar.specs.Reading.{Parser, with_front, all}
use Rattle.sq_grammar.specs.contracts.list.items.P-Fn as called
use Rattle.sq_grammar.proofs.list.items.Given as goal

abbrev pub invariant-loop-next : goal.invariant-loop-next
invariant-loop-next g l = record {
  read : (parser : Parser (Option g.row.T.Denot)) → Follows {A = Option g.row.T.Denot} parser ((called.words g.row.T g.row.P g.P.Fn).post l.fn.item) → with_front l.items (all parser l.tokens) ≡ all parser l.fn.tokens;
  shorter : length l.tokens ≤ length l.fn.tokens;
}

abbrev pub decreases-loop-next : goal.decreases-loop-next
decreases-loop-next g l = length l.tokens
