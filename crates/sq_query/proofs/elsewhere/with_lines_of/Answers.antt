-- Left open for with_lines_of: its result; answered by InnerSearch.
use Rattle.sq_bound.specs.Condition.{select_of}
use Rattle.sq_query.specs.Inner.{lines_tables}
use Rattle.sq_query.proofs.FoundByKey.InnerSearch.{added_to_copy}
use Rattle.sq_query.proofs.elsewhere.with_lines_of.Goals as goal

pub returns : goal.returns
returns c = added_to_copy c.args.tables.now c.in_ok-all.all c.add_of_lines.new.self (lines_tables (select_of c.args.query.now)) c.in_ok-all.ensures c.in_ok-add_of_lines.ensures
