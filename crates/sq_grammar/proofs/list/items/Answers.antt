-- Left open for items: the clause value; answered by Many.
use Rattle.sq_grammar.proofs.Reading.Many.{all_done}
use Rattle.sq_grammar.proofs.list.items.Goals as goal

pub returns-in-Ok-None-clause-value : goal.returns-in-Ok-None-clause-value
returns-in-Ok-None-clause-value g c = λ parser f. all_done parser _ _ _ _ _ (c.loop-next.invariant.read parser f) (rw c.in-Ok-None.is at (f.value _ _ _ c.item.ensures)) c.in-Ok-None.field-0-is
