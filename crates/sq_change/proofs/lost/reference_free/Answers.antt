-- Left open for reference_free: the clause meant, and that the loop keeps its invariant; answered by AllMet.
use Rattle.std.specs.List.{list_all}
use Rattle.sq_meaning.specs.declared.status.Status.TheVariants.{IntegrityConstraintViolation}
use Rattle.sq_change.specs.Lost.{is_free}
use Rattle.sq_change.proofs.OneByOne.AllMet.{fails_so, is_met, met_all, met_more, met_not, was_met}
use Rattle.sq_change.proofs.lost.reference_free.Goals as goal

pub loop-lost_key-preserved : goal.loop-lost_key-preserved
loop-lost_key-preserved g c =
    let test = is_free (g.S.Store.key_columns c.args.store.now) (g.S.Store.content_now c.args.store.now) c.args.place c.args.reference.now in
    met_more test c.args.lost.now c.loop-lost_key.lost_key-index c.lost_key-item.result c.loop-lost_key-test.true c.lost_key-item.is c.loop-lost_key.invariant
    (was_met (test c.lost_key-item.result) IntegrityConstraintViolation tt c.in_ok-is_free.ensures.meant)

pub returns-in_err-is_free-clause-meant : goal.returns-in_err-is_free-clause-meant
returns-in_err-is_free-clause-meant g c =
    let test = is_free (g.S.Store.key_columns c.args.store.now) (g.S.Store.content_now c.args.store.now) c.args.place c.args.reference.now in
    fails_so c.from_residual.result c.in_err-is_free.field-0.0 (test c.lost_key-item.result) (list_all test c.args.lost.now) IntegrityConstraintViolation c.from_residual.ensures.1
    (met_not test c.args.lost.now c.loop-lost_key.lost_key-index c.lost_key-item.result c.loop-lost_key-test.true c.lost_key-item.is) c.in_err-is_free.ensures.meant

pub returns-clause-meant : goal.returns-clause-meant
returns-clause-meant g c =
    let test = is_free (g.S.Store.key_columns c.args.store.now) (g.S.Store.content_now c.args.store.now) c.args.place c.args.reference.now in
    is_met (list_all test c.args.lost.now) IntegrityConstraintViolation (met_all test c.args.lost.now c.loop-lost_key.lost_key-index c.loop-lost_key-test.false c.loop-lost_key.invariant)
