use Rattle.std.proofs.Common.{◌≡◌, ◌≤◌, length}
use Rattle.sq_grammar.specs.Reading.{with_front, all}
use Rattle.sq_grammar.specs.Expr.{inside, added_term}
use Rattle.sq_phrase.proofs.expression.Grammar.all_added.Given as goal

abbrev pub invariant-loop-items : goal.invariant-loop-items
invariant-loop-items g l = record {
  read : with_front l.items (all (added_term l.self.left (inside l.self.left)) l.tokens) ≡ all (added_term l.self.left (inside l.self.left)) l.fn.tokens;
  shorter : length l.tokens ≤ length l.fn.tokens;
}

abbrev pub decreases-loop-items : goal.decreases-loop-items
decreases-loop-items g l = length l.tokens
