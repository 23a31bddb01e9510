-- Left open for Needed::add_around: its result; answered by Added and InsideTables.
use Rattle.std.proofs.Common.{◌∙◌, [], ap, fold, map}
use Rattle.sq_bound.specs.Condition.{clause_of, select_of}
use Rattle.sq_bound.specs.SetFunction.{call_of}
use Rattle.sq_bound.specs.declared.condition.BoundSpecification.{out-BoundSpecification}
use Rattle.sq_bound.specs.declared.condition.Grouping.{out-Grouping}
use Rattle.sq_query.specs.Inner.{around_tables}
use Rattle.sq_query.specs.Needed.{clause_tables, places_in, with_table}
use Rattle.sq_query.proofs.Needs.Added.{added_both, adds_last}
use Rattle.sq_query.proofs.Needs.InsideTables.{around_grouped, around_ungrouped}
use Rattle.sq_query.proofs.needed.Needed.add_around.Goals as goal

pub returns-in-Some : goal.returns-in-Some
returns-in-Some c =
    let q = c.args.query.now in
    let functions = map call_of (out-Grouping c.in-Some.grouping).set_functions in
    let having = clause_tables (clause_of functions (out-Grouping c.in-Some.grouping).having) in
    adds_last c.add_of_optional.result c.add_each.new.self c.add_of_optional.new.self (fold with_table (places_in c.args.self.now) (around_tables (select_of q))) having
    (added_both (places_in c.args.self.now) (places_in c.add_each.new.self) (around_tables (select_of q)) (out-BoundSpecification q).from.tables having (around_grouped q c.in-Some.grouping c.in-Some.is) (c.in_ok-add_each.ensures ∙ ap (fold with_table (places_in c.args.self.now)) c.as_slice.ensures))
    (c.add_of_optional.ensures.adds functions)

pub returns-in-None : goal.returns-in-None
returns-in-None c =
    let q = c.args.query.now in
    added_both (places_in c.args.self.now) (places_in c.add_each.new.self) (around_tables (select_of q)) (out-BoundSpecification q).from.tables [] (around_ungrouped q c.in-None.is) (c.in_ok-add_each.ensures ∙ ap (fold with_table (places_in c.args.self.now)) c.as_slice.ensures)
