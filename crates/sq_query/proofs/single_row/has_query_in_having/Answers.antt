-- Left open for has_query_in_having: the clauses plain and none; answered by InsideTables and NoSubquery.
use Rattle.std.proofs.Common.{◌∙◌, [], map, sym}
use Rattle.sq_bound.specs.Condition.{clause_of}
use Rattle.sq_bound.specs.SetFunction.{call_of}
use Rattle.sq_bound.specs.declared.condition.BoundSpecification.{out-BoundSpecification}
use Rattle.sq_bound.specs.declared.condition.Grouping.{out-Grouping}
use Rattle.sq_query.specs.Needed.{clause_tables}
use Rattle.sq_query.proofs.Needs.InsideTables.{inside_grouped}
use Rattle.sq_query.proofs.Needs.NoSubquery.{none_of_both}
use Rattle.sq_query.proofs.single_row.has_query_in_having.Goals as goal

pub returns-in-Some-clause-none : goal.returns-in-Some-clause-none
returns-in-Some-clause-none c = λ none.
    let query = c.args.query.now in
    let grouping = c.in-Some.grouping in
    let functions = map call_of (out-Grouping grouping).set_functions in
    c.is_clause_with_subqueries.ensures.none functions
    (none_of_both (clause_tables (clause_of [] (out-BoundSpecification query).condition)) (clause_tables (clause_of functions (out-Grouping grouping).having)) (sym (inside_grouped query grouping c.in-Some.is) ∙ none)).1
