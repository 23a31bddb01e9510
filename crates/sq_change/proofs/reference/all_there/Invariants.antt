use Rattle.sq_change.specs.Reference.{is_row_there}
use Rattle.sq_change.proofs.OneByOne.AllMet.{MetTo}
use Rattle.sq_change.proofs.reference.all_there.Given as goal

abbrev pub invariant-loop-row : goal.invariant-loop-row
invariant-loop-row g l = MetTo (is_row_there (g.S.Store.key_columns l.store) (g.S.Store.content_now l.store)) l.referenced l.row-index
