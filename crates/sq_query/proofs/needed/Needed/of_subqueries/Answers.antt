-- Left open for Needed::of_subqueries: the clauses reads, known and none; answered by Added.
use Rattle.sq_bound.specs.Condition.{select_of}
use Rattle.sq_query.specs.Needed.{inside_tables}
use Rattle.sq_query.proofs.Needs.Added.{inside_known, inside_needed, none_added, none_known}
use Rattle.sq_query.proofs.needed.Needed.of_subqueries.Goals as goal

pub returns-clause-reads : goal.returns-clause-reads
returns-clause-reads c = inside_needed c.new-needed.result c.add_of_subqueries.new.self (select_of c.args.query.now) c.in_ok-add_of_subqueries.ensures

pub returns-clause-known : goal.returns-clause-known
returns-clause-known c = λ columns h. inside_known c.new-needed.result c.add_of_subqueries.new.self columns (none_known columns c.new-needed.result c.new-needed.ensures) (select_of c.args.query.now) c.in_ok-add_of_subqueries.ensures h

pub returns-clause-none : goal.returns-clause-none
returns-clause-none c = λ none.
    none_added c.new-needed.result c.add_of_subqueries.new.self (inside_tables (select_of c.args.query.now)) c.new-needed.ensures none c.in_ok-add_of_subqueries.ensures
