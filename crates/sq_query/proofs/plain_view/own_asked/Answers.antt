-- Left open for own_asked: its result; answered by AskedColumns.
use Rattle.sq_query.proofs.FoundByKey.AskedColumns.{through_so}
use Rattle.sq_query.proofs.plain_view.own_asked.Goals as goal

pub returns : goal.returns
returns c = through_so c.args.query.now c.args.asked.now.through c.in_ok-between.between c.args.column c.own.result c.in_ok-between.ensures c.own.ensures
