-- Left open for both_brought_to: its result; answered by BroughtRows, JoinedTerms and UnionRows.
use Rattle.std.proofs.Common.{subst}
use Rattle.sq_meaning.specs.QueryExpression.{row_brought_to}
use Rattle.sq_bound.specs.WellFormed.{kinds_of_results}
use Rattle.sq_expression.specs.Fault.{HasRows, rows_in}
use Rattle.sq_query.specs.Union.{IsBringable}
use Rattle.sq_query.proofs.ByUnion.BroughtRows.{both_after, left_ends}
use Rattle.sq_query.proofs.ByUnion.JoinedTerms.{all_left, all_right}
use Rattle.sq_query.proofs.ByUnion.UnionRows.{passed_on}
use Rattle.sq_query.proofs.union.both_brought_to.Goals as goal

pub returns-in-Ok : goal.returns-in-Ok
returns-in-Ok c = λ were all.
    let kinds = kinds_of_results c.args.columns.now in
    let left = c.args.left.items in
    let right = c.args.right.items in
    let lefts = all_left (IsBringable kinds) left right all in
    let rights = all_right (IsBringable kinds) left right all in
    subst (HasRows c.with_brought.result) (both_after (row_brought_to kinds) left right c.in-Ok.rows.items (c.in-Ok.ensures were lefts)) (c.with_brought.ensures rights)

pub returns-in-Err : goal.returns-in-Err
returns-in-Err c = λ were all.
    let kinds = kinds_of_results c.args.columns.now in
    let left = c.args.left.items in
    let right = c.args.right.items in
    passed_on rows_in rows_in c.in-Err.fault _ _ (left_ends (row_brought_to kinds) left right) (c.in-Err.ensures were (all_left (IsBringable kinds) left right all))
