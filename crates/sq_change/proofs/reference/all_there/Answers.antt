-- Left open for all_there: the clause meant, and that the loop keeps its invariant; answered by AllMet.
use Rattle.std.specs.List.{list_all}
use Rattle.sq_meaning.specs.declared.status.Status.TheVariants.{IntegrityConstraintViolation}
use Rattle.sq_change.specs.Reference.{is_row_there}
use Rattle.sq_change.proofs.OneByOne.AllMet.{fails_so, is_met, met_all, met_more, met_not, was_met}
use Rattle.sq_change.proofs.reference.all_there.Goals as goal

pub loop-row-preserved : goal.loop-row-preserved
loop-row-preserved g c =
    let test = is_row_there (g.S.Store.key_columns c.args.store.now) (g.S.Store.content_now c.args.store.now) in
    met_more test c.args.referenced.now c.loop-row.row-index c.row-item.result c.loop-row-test.true c.row-item.is c.loop-row.invariant
    (was_met (test c.row-item.result) IntegrityConstraintViolation tt c.in_ok-is_there.ensures.meant)

pub returns-in_err-is_there-clause-meant : goal.returns-in_err-is_there-clause-meant
returns-in_err-is_there-clause-meant g c =
    let test = is_row_there (g.S.Store.key_columns c.args.store.now) (g.S.Store.content_now c.args.store.now) in
    fails_so c.from_residual.result c.in_err-is_there.field-0.0 (test c.row-item.result) (list_all test c.args.referenced.now) IntegrityConstraintViolation c.from_residual.ensures.1
    (met_not test c.args.referenced.now c.loop-row.row-index c.row-item.result c.loop-row-test.true c.row-item.is) c.in_err-is_there.ensures.meant

pub returns-clause-meant : goal.returns-clause-meant
returns-clause-meant g c =
    let test = is_row_there (g.S.Store.key_columns c.args.store.now) (g.S.Store.content_now c.args.store.now) in
    is_met (list_all test c.args.referenced.now) IntegrityConstraintViolation (met_all test c.args.referenced.now c.loop-row.row-index c.loop-row-test.false c.loop-row.invariant)
