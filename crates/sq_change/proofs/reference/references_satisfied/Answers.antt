-- Left open for references_satisfied: the clause meant; answered by AllMet.
use Rattle.std.proofs.Common.{◌≡◌, ◌&&◌, Bool, true, ap}
use Rattle.sq_meaning.specs.declared.status.Status.TheVariants.{IntegrityConstraintViolation}
use Rattle.sq_change.specs.Lost.{are_free}
use Rattle.sq_change.specs.Reference.{are_rows_there}
use Rattle.sq_change.proofs.OneByOne.AllMet.{fails_so, met_so, was_met}
use Rattle.sq_change.proofs.reference.references_satisfied.Goals as goal

pub returns-in_err-all_there-clause-meant : goal.returns-in_err-all_there-clause-meant
returns-in_err-all_there-clause-meant g c =
    let content = g.S.Store.content_now c.args.store.now in
    let there = are_rows_there (g.S.Store.key_columns c.args.store.now) content c.args.asked.now.referenced.items in
    let free = are_free (g.N.Names.base_tables c.args.names.now) content c.args.table c.args.asked.now.lost.items in
    fails_so c.from_residual.result c.in_err-all_there.field-0.0 there (there && free) IntegrityConstraintViolation c.from_residual.ensures.1
    (λ no. ap (λ (b : Bool). b && free) no) (rw c.as_slice.ensures.value at c.in_err-all_there.ensures.meant)

pub returns-clause-meant : goal.returns-clause-meant
returns-clause-meant g c =
    let content = g.S.Store.content_now c.args.store.now in
    let there = are_rows_there (g.S.Store.key_columns c.args.store.now) content c.args.asked.now.referenced.items in
    let free = are_free (g.N.Names.base_tables c.args.names.now) content c.args.table c.args.asked.now.lost.items in
    let met : there ≡ true = was_met there IntegrityConstraintViolation tt (rw c.as_slice.ensures.value at c.in_ok-all_there.ensures.meant) in
    met_so c.all_free.result (there && free) free IntegrityConstraintViolation (ap (λ (b : Bool). b && free) met) (rw c.as_slice-2.ensures.value at c.all_free.ensures.meant)
