-- Left open for rows_over: the clause rows; answered by KnownKeys and AskedViews.
use Rattle.std.proofs.Common.{◌≡◌, [], subst, sym}
use Rattle.std.specs.Prelude.{IfOk}
use Rattle.sq_bound.specs.Condition.{select_of}
use Rattle.sq_bound.specs.WellFormed.{IsSelect, before_view}
use Rattle.sq_bound.specs.declared.condition.BoundSpecification.{BoundSpecification}
use Rattle.sq_expression.specs.Fault.{IsRight}
use Rattle.sq_expression.specs.Frame.{view_outcome}
use Rattle.sq_query.specs.Needed.{ReadsSelect}
use Rattle.sq_query.specs.Table.{rows_among, rows_of_view}
use Rattle.sq_query.proofs.Keys.KnownKeys.{same_some}
use Rattle.sq_query.proofs.PlainViews.AskedViews.{plain_reads}
use Rattle.sq_query.proofs.through.rows_over.Goals as goal

pub returns-clause-rows : goal.returns-clause-rows
returns-clause-rows g c = λ tables table at shown is plain right.
    let user = c.args.call.now.user in
    let query = c.view_at.result.now.query in
    let before = before_view c.args.view (g.N.Names.column_kinds c.args.names.now) in
    let same : query ≡ shown = same_some query shown _ c.view_at.ensures.among is in
    subst (λ (q : BoundSpecification). IfOk c.view_rows.result (λ found. view_outcome found.rows.items found.failure ≡ rows_of_view tables user q)) same
    (c.view_rows.ensures.meant tables c.view_at.ensures.is.0.notes c.view_at.ensures.is.0.numbers
    (subst (λ (q : BoundSpecification). ReadsSelect (λ t. rows_among c.args.bases.now c.args.views.now t ≡ tables t) (select_of q)) (sym same)
    (plain_reads shown table before plain (subst (IsSelect before [] []) same c.view_at.ensures.is.0) user (λ t. rows_among c.args.bases.now c.args.views.now t ≡ tables t) at))
    (subst (λ (q : BoundSpecification). IsRight (rows_of_view tables user q)) (sym same) right))
