-- Left open for Needed::of_condition: the clauses reads and known; answered by Added.
use Rattle.sq_bound.specs.Condition.{cond_of}
use Rattle.sq_query.proofs.Needs.Added.{cond_needed, cond_known, none_known}
use Rattle.sq_query.proofs.needed.Needed.of_condition.Goals as goal

pub returns-clause-reads : goal.returns-clause-reads
returns-clause-reads c = λ functions. cond_needed c.new-needed.result c.add_of_condition.new.self (cond_of functions c.args.condition.now) (c.in_ok-add_of_condition.ensures.adds functions)

pub returns-clause-known : goal.returns-clause-known
returns-clause-known c = λ columns functions h. cond_known c.new-needed.result c.add_of_condition.new.self columns (none_known columns c.new-needed.result c.new-needed.ensures) (cond_of functions c.args.condition.now) (c.in_ok-add_of_condition.ensures.adds functions) h
