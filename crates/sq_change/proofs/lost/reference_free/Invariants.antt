use Rattle.sq_change.specs.Lost.{is_free}
use Rattle.sq_change.proofs.OneByOne.AllMet.{MetTo}
use Rattle.sq_change.proofs.lost.reference_free.Given as goal

abbrev pub invariant-loop-lost_key : goal.invariant-loop-lost_key
invariant-loop-lost_key g l = MetTo (is_free (g.S.Store.key_columns l.store) (g.S.Store.content_now l.store) l.place l.reference) l.lost l.lost_key-index
