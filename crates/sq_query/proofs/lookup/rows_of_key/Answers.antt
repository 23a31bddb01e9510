-- Left open for rows_of_key: the clause found; answered by ItemSearch and KeyTests.
use Rattle.sq_query.specs.Asked.{IsFalseThrough}
use Rattle.sq_query.specs.Named.{IsKeyBy, IsFalseOf}
use Rattle.sq_query.specs.declared.named.Sure.TheVariants.{Noted}
use Rattle.sq_query.proofs.FoundByKey.ItemSearch.{rows_of_key}
use Rattle.sq_query.proofs.Keys.KeyTests.{if_some}
use Rattle.sq_query.proofs.lookup.rows_of_key.Goals as goal

pub returns-in_ok-base_by_key-in-Some-clause-found : goal.returns-in_ok-base_by_key-in-Some-clause-found
returns-in_ok-base_by_key-in-Some-clause-found g c =
    let keys = g.S.Store.key_columns c.args.store.now in
    let IsFalse = IsFalseThrough c.args.asked.now.through (IsFalseOf c.args.sought.now Noted c.args.call.now.parameters.now c.args.call.now.user c.args.condition.now) in
    rows_of_key IsFalse (g.S.Store.content_now c.args.store.now) keys c.args.asked.now.base c.in_ok-base_by_key-in-Some.field-0 c.in-Some.known c.in_ok-base_by_key-in-Some.ensures.place
    (if_some (IsKeyBy IsFalse keys c.args.asked.now.base) c.in_ok-known.field-0 c.in-Some.known c.in_ok-known.ensures.known c.in-Some.is) c.in_ok-base_by_key-in-Some.ensures.rows
