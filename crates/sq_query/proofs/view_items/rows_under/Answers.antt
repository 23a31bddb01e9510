-- Left open for rows_under: the clause found; answered by AskedColumns.
use Rattle.std.proofs.Common.{subst, sym}
use Rattle.sq_query.specs.Asked.{AreUnder}
use Rattle.sq_query.specs.Named.{IsFalseOf}
use Rattle.sq_query.specs.declared.named.Sure.TheVariants.{Noted}
use Rattle.sq_query.proofs.FoundByKey.AskedColumns.{under_named}
use Rattle.sq_query.proofs.view_items.rows_under.Goals as goal

pub returns-clause-found : goal.returns-clause-found
returns-clause-found g c = λ queries views are.
    let store = c.args.store.now in
    let IsFalse = IsFalseOf c.args.sought.now Noted c.args.call.now.parameters.now c.args.call.now.user c.args.condition.now in
    under_named queries views c.as_slice.result IsFalse (g.S.Store.content_now store) (g.S.Store.key_columns store) c.args.under.now.base c.rows_named.result
    (subst (AreUnder queries views) (sym c.as_slice.ensures.value) are) c.rows_named.ensures.found
