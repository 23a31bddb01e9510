-- Left open for Needed::add_of_lines: its result; answered by Added and InsideTables.
use Rattle.std.proofs.Common.{◌∙◌, [], ap, fold}
use Rattle.sq_bound.specs.Condition.{clause_of, select_of}
use Rattle.sq_bound.specs.declared.condition.BoundSpecification.{out-BoundSpecification}
use Rattle.sq_query.specs.Inner.{lines_tables}
use Rattle.sq_query.specs.Needed.{clause_tables, places_in, with_table}
use Rattle.sq_query.proofs.Needs.Added.{added_both, adds_last}
use Rattle.sq_query.proofs.Needs.InsideTables.{items_and_lines}
use Rattle.sq_query.proofs.needed.Needed.add_of_lines.Goals as goal

pub returns : goal.returns
returns c =
    let q = c.args.query.now in
    let filter = clause_tables (clause_of [] (out-BoundSpecification q).condition) in
    adds_last c.add_of_optional.result c.add_each.new.self c.add_of_optional.new.self (fold with_table (places_in c.args.self.now) (lines_tables (select_of q))) filter
    (added_both (places_in c.args.self.now) (places_in c.add_each.new.self) (lines_tables (select_of q)) (out-BoundSpecification q).from.tables filter (items_and_lines q) (c.in_ok-add_each.ensures ∙ ap (fold with_table (places_in c.args.self.now)) c.as_slice.ensures))
    (c.add_of_optional.ensures.adds [])
