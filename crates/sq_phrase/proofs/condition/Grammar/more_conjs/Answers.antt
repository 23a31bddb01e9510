-- Left open for Grammar::more_conjs: the clause value; answered by laws of sq_grammar.
use Rattle.sq_grammar.proofs.Reading.Many.{all_ends}
use Rattle.sq_phrase.proofs.condition.Grammar.more_conjs.Goals as goal

pub returns-clause-value : goal.returns-clause-value
returns-clause-value g c = all_ends _ _ _ _ _ _ _ c.loop-tokens.invariant.read c.eat_word.ensures.value c.loop-tokens-test.false
