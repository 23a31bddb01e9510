-- Left open for key_under: the clauses known and found; answered by KnownKeys and TargetKeys.
use Rattle.sq_query.specs.Keyed.{IsKeyed, IsKeyedUnder}
use Rattle.sq_query.proofs.Keys.KnownKeys.{known_if}
use Rattle.sq_query.proofs.Targets.TargetKeys.{noted_known, noted_under}
use Rattle.sq_query.proofs.meant.key_under.Goals as goal

pub returns-in-Some-clause-known : goal.returns-in-Some-clause-known
returns-in-Some-clause-known g c =
    let store = c.args.store.now in
    let call = c.args.call.now in
    noted_under c.args.target.now (g.S.Store.content_now store) (g.S.Store.key_columns store) call.parameters.now call.user c.known_key.result c.known_key.ensures.known

pub returns-in-Some-clause-found : goal.returns-in-Some-clause-found
returns-in-Some-clause-found g c = λ quiet.
    let t = c.args.target.now in
    let call = c.args.call.now in
    known_if c.known_key.result (IsKeyed t call.parameters.now call.user) (IsKeyedUnder t call.parameters.now call.user)
    (noted_known t call.parameters.now call.user c.in-Some.field-0 c.in-Some.is) c.known_key.ensures.found
