-- Left open for more: the clause value, and that the loop starts with its invariant; answered by Many.
use Rattle.std.proofs.Common.{arith}
use Rattle.sq_grammar.specs.Reading.{comma}
use Rattle.sq_grammar.proofs.Reading.Many.{front-nil, all_ends}
use Rattle.sq_grammar.proofs.list.more.Goals as goal

pub loop-tokens-init : goal.loop-tokens-init
loop-tokens-init g c = record { read = λ parser f. rw c.new-items.ensures (front-nil _); shorter = omega arith }

pub returns-clause-value : goal.returns-clause-value
returns-clause-value g c = λ parser f. all_ends comma parser _ _ _ _ _ (c.loop-tokens.invariant.read parser f) c.eat.ensures.value c.loop-tokens-test.false
