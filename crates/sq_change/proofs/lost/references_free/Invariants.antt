use Rattle.sq_change.specs.Lost.{free_by}
use Rattle.sq_change.proofs.OneByOne.AllMet.{MetTo}
use Rattle.sq_change.proofs.lost.references_free.Given as goal

abbrev pub invariant-loop-reference : goal.invariant-loop-reference
invariant-loop-reference g l =
    MetTo (free_by (g.S.Store.key_columns l.store) (g.S.Store.content_now l.store) l.table l.lost l.place) l.base.references l.reference-index
