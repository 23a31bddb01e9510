-- Left open: the call of reference_free, the clause meant, and the loop's invariant; answered by AllMet, Held and LostValues.
use Rattle.std.proofs.Common.{◌≡◌, true, ◌∙◌}
use Rattle.std.specs.List.{list_all}
use Rattle.sq_store.specs.Content.{table_at}
use Rattle.sq_meaning.specs.declared.status.Status.TheVariants.{IntegrityConstraintViolation}
use Rattle.sq_change.specs.Lost.{free_by, is_free}
use Rattle.sq_change.proofs.OneByOne.AllMet.{fails_so, is_met, met_all, met_more, met_not, was_met}
use Rattle.sq_change.proofs.Changes.Held.{rows_refer_by}
use Rattle.sq_change.proofs.Keys.LostValues.{free_elsewhere, free_where}
use Rattle.sq_change.proofs.lost.references_free.Goals as goal
use Rattle.sq_change.proofs.lost.references_free.Goals.{then-is_to+in_ok-reference_free, else-is_to}

pub reference_free-requires-clause-columns : goal.reference_free-requires-clause-columns
reference_free-requires-clause-columns g c =
    let rows = (table_at (g.S.Store.content_now c.args.store.now) c.args.place).rows in
    let lt = rw c.as_slice-reference-items.ensures at c.loop-reference-test.true in
    let is = rw c.as_slice-reference-items.ensures at c.reference-item.is in
    rows_refer_by c.args.base.now c.loop-reference.reference-index c.reference-item.result rows c.requires.wide lt is

pub loop-reference-preserved : goal.loop-reference-preserved
loop-reference-preserved g c =
    let keys = g.S.Store.key_columns c.args.store.now in
    let content = g.S.Store.content_now c.args.store.now in
    let lost = c.args.lost.now in
    let test = free_by keys content c.args.table lost c.args.place in
    let reference = c.reference-item.result in
    let met : test reference ≡ true = elim c.if-is_to.branch [
      | then-is_to+in_ok-reference_free w ↦
          free_where keys content c.args.table lost c.args.place reference c.is_to.result c.is_to.ensures w.if-is_to.true
          ∙ was_met (list_all (is_free keys content c.args.place reference) lost) IntegrityConstraintViolation tt w.in_ok-reference_free.ensures.meant
      | else-is_to w ↦ free_elsewhere keys content c.args.table lost c.args.place reference c.is_to.result c.is_to.ensures w.if-is_to.false
    ] in
    met_more test c.args.base.now.references c.loop-reference.reference-index reference (rw c.as_slice-reference-items.ensures at c.loop-reference-test.true)
    (rw c.as_slice-reference-items.ensures at c.reference-item.is) c.loop-reference.invariant met

pub returns-in_err-reference_free-clause-meant : goal.returns-in_err-reference_free-clause-meant
returns-in_err-reference_free-clause-meant g c =
    let keys = g.S.Store.key_columns c.args.store.now in
    let content = g.S.Store.content_now c.args.store.now in
    let lost = c.args.lost.now in
    let test = free_by keys content c.args.table lost c.args.place in
    let reference = c.reference-item.result in
    let met = list_all (is_free keys content c.args.place reference) lost in
    let same : test reference ≡ met = free_where keys content c.args.table lost c.args.place reference c.is_to.result c.is_to.ensures c.if-is_to.true in
    fails_so c.from_residual.result c.in_err-reference_free.field-0.0 met (list_all test c.args.base.now.references) IntegrityConstraintViolation c.from_residual.ensures.1
    (λ no. met_not test c.args.base.now.references c.loop-reference.reference-index reference (rw c.as_slice-reference-items.ensures at c.loop-reference-test.true)
    (rw c.as_slice-reference-items.ensures at c.reference-item.is) (same ∙ no))
    c.in_err-reference_free.ensures.meant

pub returns-clause-meant : goal.returns-clause-meant
returns-clause-meant g c =
    let test = free_by (g.S.Store.key_columns c.args.store.now) (g.S.Store.content_now c.args.store.now) c.args.table c.args.lost.now c.args.place in
    is_met (list_all test c.args.base.now.references) IntegrityConstraintViolation
    (met_all test c.args.base.now.references c.loop-reference.reference-index (rw c.as_slice-reference-items.ensures at c.loop-reference-test.false) c.loop-reference.invariant)
