-- Left open for single_row: the clauses memory and found; answered by KnownKeys and Searched.
use Rattle.sq_bound.specs.declared.condition.TablePlace.TheVariants.{Base}
use Rattle.sq_query.proofs.Keys.KnownKeys.{not_none}
use Rattle.sq_query.proofs.Keys.Searched.{keyed_where, where_stands}
use Rattle.sq_query.proofs.single_row.single_row.Goals as goal

pub returns-in-Err-clause-memory : goal.returns-in-Err-clause-memory
returns-in-Err-clause-memory g c = λ columns parameters well given.
    c.in-Err.ensures.memory columns parameters (where_stands columns parameters c.args.query.now (Base c.in-Some.base) c.in-Some.condition.now c.in-Some.ensures.over.0 c.in-Some.ensures.over.1 well) given

pub returns-in-Ok-None-clause-found : goal.returns-in-Ok-None-clause-found
returns-in-Ok-None-clause-found g c = λ keyed.
    let call = c.args.call.now in
    let by_key = keyed_where c.args.query.now (g.S.Store.key_columns c.args.store.now) call.parameters.now call.user c.in-Some.base c.in-Some.condition.now keyed c.in-Some.ensures.over.0 c.in-Some.ensures.over.1 in
    absurd (not_none c.in-Ok-None.field-0 c.in-Ok-None.field-0-is (c.in-Ok-None.ensures.found by_key))
