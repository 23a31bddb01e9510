-- Left open for with_around: its result; answered by InnerSearch.
use Rattle.sq_bound.specs.Condition.{select_of}
use Rattle.sq_query.specs.Inner.{around_tables}
use Rattle.sq_query.proofs.FoundByKey.InnerSearch.{added_to_copy}
use Rattle.sq_query.proofs.elsewhere.with_around.Goals as goal

pub returns : goal.returns
returns c = added_to_copy c.args.tables.now c.in_ok-all.all c.add_around.new.self (around_tables (select_of c.args.query.now)) c.in_ok-all.ensures c.in_ok-add_around.ensures
