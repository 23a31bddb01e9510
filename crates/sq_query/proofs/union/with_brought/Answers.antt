-- Left open: the result, and that the loop keeps its invariant; answered by Bases, BroughtRows and Unions.
use Rattle.std.proofs.Common.{◌≡◌, ◌≤◌, ℕ, List, drop, length, map, arith, rules, sym, ap, subst, Err, ◌∙◌}
use Rattle.std.proofs.lemmas.Iterator.Adapters.{YieldsList-from_vec}
use Rattle.std.proofs.lemmas.Iterator.Consumers.{YieldsList-turn, YieldsList-end}
use Rattle.sq_meaning.specs.Environment.{Row}
use Rattle.sq_meaning.specs.QueryExpression.{row_brought_to}
use Rattle.sq_meaning.specs.Status.{each}
use Rattle.sq_bound.specs.WellFormed.{kinds_of_results}
use Rattle.sq_expression.specs.Fault.{Meets, rows_in}
use Rattle.sq_query.specs.Union.{IsBringable}
use Rattle.sq_query.proofs.Needs.Bases.{all_same}
use Rattle.sq_query.proofs.ByUnion.BroughtRows.{after_is}
use Rattle.sq_expression.proofs.Each.{after, each_done, each_failed, each_ends}
use Rattle.sq_query.proofs.ByUnion.Unions.{all_at, one_more}
use Rattle.sq_expression.proofs.Views.{handed_on_as}
use Rattle.sq_query.proofs.union.with_brought.Goals as goal

pub loop-row-init : goal.loop-row-init
loop-row-init c = λ all.
    let f = row_brought_to (kinds_of_results c.args.columns.now) in
    ap (λ (rows : List Row). after c.args.rows.items (each f rows)) (sym (all_same c.args.others.items))

pub loop-row-preserved : goal.loop-row-preserved
loop-row-preserved c = λ all.
    let f = row_brought_to (kinds_of_results c.args.columns.now) in
    let others = c.args.others.items in
    let done = c.loop-row.yielded in
    let at = YieldsList-turn (YieldsList-from_vec others (search rules) (search rules)) done _ c.loop-row.yielded_by c.next.result c.next.new.self c.in-Some.row c.in-Some.is c.next.ensures.steps in
    let may = all_at (IsBringable (kinds_of_results c.args.columns.now)) others (length done) c.in-Some.row all at.0 at.1 in
    let whole = after c.args.rows.items (each f others) in
    subst (λ (n : ℕ). whole ≡ after c.push.new.self.items (each f (map (λ row. row) (drop n others)))) (sym (one_more done c.in-Some.row))
    (each_done f (λ r. r) whole c.loop-row.brought.items c.push.new.self.items others (length done) c.in-Some.row c.in_ok-row.row
    at.0 at.1 (c.loop-row.invariant all) (c.in_ok-row.ensures may) c.in_ok-push.ensures.items)

pub returns-in_err-row : goal.returns-in_err-row
returns-in_err-row c = λ all.
    let f = row_brought_to (kinds_of_results c.args.columns.now) in
    let others = c.args.others.items in
    let done = c.loop-row.yielded in
    let at = YieldsList-turn (YieldsList-from_vec others (search rules) (search rules)) done _ c.loop-row.yielded_by c.next.result c.next.new.self c.in-Some.row c.in-Some.is c.next.ensures.steps in
    let may = all_at (IsBringable (kinds_of_results c.args.columns.now)) others (length done) c.in-Some.row all at.0 at.1 in
    let e = c.in_err-row.field-0.0 in
    let whole = after c.args.rows.items (each f others) in
    handed_on_as rows_in c.from_residual.result e _ c.from_residual.ensures.1
    (subst (λ o. Meets (Err e) o) (after_is c.args.rows.items (each f others))
    (each_failed f (λ r. r) whole c.loop-row.brought.items others (length done) c.in-Some.row e at.0 at.1 (c.loop-row.invariant all) (c.in_err-row.ensures may)))

pub returns : goal.returns
returns c = λ all.
    let f = row_brought_to (kinds_of_results c.args.columns.now) in
    let others = c.args.others.items in
    let done = c.loop-row.yielded in
    let end = YieldsList-end (YieldsList-from_vec others (search rules) (search rules)) done _ c.loop-row.yielded_by c.next.result c.next.new.self c.in-None.is c.next.ensures.steps in
    let past : length others ≤ length done = omega (arith, end.1) in
    sym (after_is c.args.rows.items (each f others)) ∙ each_ends f (λ r. r) (after c.args.rows.items (each f others)) c.loop-row.brought.items others (length done) past (c.loop-row.invariant all)
