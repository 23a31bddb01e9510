-- Left open for Grammar::all_scaled: the clause value; answered by laws of sq_grammar.
use Rattle.sq_grammar.proofs.Reading.Many.{all_done}
use Rattle.sq_phrase.proofs.expression.Grammar.all_scaled.Goals as goal

pub returns-clause-value : goal.returns-clause-value
returns-clause-value g c = all_done _ _ _ _ _ _ c.loop-items.invariant.read c.in_ok-item.ensures.value c.in_default.is
