-- Left open for Needed::of_specification: the clauses reads and known; answered by Added.
use Rattle.sq_bound.specs.Condition.{select_of}
use Rattle.sq_query.proofs.Needs.Added.{select_needed, select_known, none_known}
use Rattle.sq_query.proofs.needed.Needed.of_specification.Goals as goal

pub returns-clause-reads : goal.returns-clause-reads
returns-clause-reads c = select_needed c.new-needed.result c.add_of_specification.new.self (select_of c.args.query.now) c.in_ok-add_of_specification.ensures

pub returns-clause-known : goal.returns-clause-known
returns-clause-known c = λ columns h. select_known c.new-needed.result c.add_of_specification.new.self columns (none_known columns c.new-needed.result c.new-needed.ensures) (select_of c.args.query.now) c.in_ok-add_of_specification.ensures h
