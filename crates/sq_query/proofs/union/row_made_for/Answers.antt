-- Left open for row_made_for: its result, and that the loop keeps its invariant; answered by Unions.
use Rattle.std.proofs.Common.{◌≡◌, ◌≤◌, ℕ, length, drop, map, arith, rules, sym, ap, subst, ◌∙◌}
use Rattle.std.proofs.lemmas.Iterator.{YieldsList-from_slice, YieldsList-from_zip}
use Rattle.std.proofs.lemmas.Iterator.Adapters.{YieldsList-from_vec}
use Rattle.std.proofs.lemmas.Iterator.Consumers.{YieldsList-turn, YieldsList-end}
use Rattle.std.specs.List.{zip}
use Rattle.sq_value.specs.declared.domain.Kind.{Kind}
use Rattle.sq_value.specs.declared.value.Value.{Value}
use Rattle.sq_meaning.specs.QueryExpression.{row_brought_to}
use Rattle.sq_meaning.specs.Status.{each}
use Rattle.sq_bound.specs.WellFormed.{kinds_of_results}
use Rattle.sq_bound.specs.declared.condition.ResultColumn.{ResultColumn}
use Rattle.sq_query.specs.Union.{MayBeBrought}
use Rattle.sq_expression.proofs.Each.{after, after_start, each_done, each_failed, each_ends}
use Rattle.sq_expression.proofs.Expressions.{handed_on}
use Rattle.sq_query.proofs.ByUnion.Unions.{pair_brought, of_kind, kinds_zipped, all_kinds_at, one_more}
use Rattle.sq_query.proofs.union.row_made_for.Goals as goal

pub loop-column-init : goal.loop-column-init
loop-column-init c = record {
  can_next = search rules;
  is_finite = search rules;
  brought = λ all.
      ap (each pair_brought) (kinds_zipped c.args.columns.now c.args.row) ∙ after_start c.new-brought.result (each pair_brought (map of_kind (zip c.args.columns.now c.args.row))) c.new-brought.ensures;
}

pub loop-column-preserved : goal.loop-column-preserved
loop-column-preserved c =
    let columns = c.args.columns.now in
    let row = c.args.row in
    let done = c.loop-column.yielded in
    let pairs = YieldsList-from_zip (YieldsList-from_slice columns cc) (YieldsList-from_vec row (search rules) (search rules)) in
    let p : ResultColumn × Value = (c.in-Some.column.now, c.in-Some.value) in
    let at = YieldsList-turn pairs done _ c.loop-column.yielded_by c.next.result c.next.new.self (c.in-Some.column, c.in-Some.value) c.in-Some.is c.next.ensures.steps in
    let whole = row_brought_to (kinds_of_results columns) row in
    record {
      can_next = search rules;
      is_finite = search rules;
      brought = λ all.
          subst (λ (n : ℕ). whole ≡ after c.push.new.self (each pair_brought (map of_kind (drop n (zip columns row))))) (sym (one_more done (c.in-Some.column, c.in-Some.value)))
          (each_done pair_brought of_kind whole c.loop-column.brought c.push.new.self (zip columns row) (length done) p c.in_ok-value.value
          at.0 at.1 (c.loop-column.invariant.brought all)
          (c.in_ok-value.ensures (all_kinds_at (λ (q : Kind × Value). MayBeBrought q.0 q.1) columns row (length done) p all at.0 at.1)) c.in_ok-push.ensures.ok);
    }

pub returns-in_err-value : goal.returns-in_err-value
returns-in_err-value c = λ all.
    let columns = c.args.columns.now in
    let row = c.args.row in
    let done = c.loop-column.yielded in
    let pairs = YieldsList-from_zip (YieldsList-from_slice columns cc) (YieldsList-from_vec row (search rules) (search rules)) in
    let p : ResultColumn × Value = (c.in-Some.column.now, c.in-Some.value) in
    let at = YieldsList-turn pairs done _ c.loop-column.yielded_by c.next.result c.next.new.self (c.in-Some.column, c.in-Some.value) c.in-Some.is c.next.ensures.steps in
    let whole = row_brought_to (kinds_of_results columns) row in
    let e = c.in_err-value.field-0.0 in
    handed_on c.from_residual.result e whole c.from_residual.ensures.1
    (each_failed pair_brought of_kind whole c.loop-column.brought (zip columns row) (length done) p e at.0 at.1 (c.loop-column.invariant.brought all)
    (c.in_err-value.ensures (all_kinds_at (λ (q : Kind × Value). MayBeBrought q.0 q.1) columns row (length done) p all at.0 at.1)))

pub returns : goal.returns
returns c = λ all.
    let columns = c.args.columns.now in
    let row = c.args.row in
    let done = c.loop-column.yielded in
    let pairs = YieldsList-from_zip (YieldsList-from_slice columns cc) (YieldsList-from_vec row (search rules) (search rules)) in
    let end = YieldsList-end pairs done _ c.loop-column.yielded_by c.next.result c.next.new.self c.in-None.is c.next.ensures.steps in
    let past : length (zip columns row) ≤ length done = omega (arith, end.1) in
    each_ends pair_brought of_kind (row_brought_to (kinds_of_results columns) row) c.loop-column.brought (zip columns row) (length done) past (c.loop-column.invariant.brought all)
