-- Left open: the call of row_satisfied, the clauses right, met and values, and the loop's invariant; answered by AllSatisfied and others.
use Rattle.std.proofs.Common.{◌∙◌, ◌&&◌, Bool, drop, length, refl, arith, ap, ◌+◌, rules}
use Rattle.std.specs.List.{AllByRecursion, list_all}
use Rattle.sq_store.specs.Change.{rows_put}
use Rattle.sq_meaning.specs.Constraints.{all_satisfied}
use Rattle.sq_expression.proofs.Expressions.{handed_on}
use Rattle.sq_query.specs.Row.{IsOnRow}
use Rattle.sq_bound.specs.Fits.{has_its_values}
use Rattle.sq_change.specs.Constraints.{row_met}
use Rattle.sq_change.specs.Made.{seen_by}
use Rattle.sq_change.proofs.OneByOne.AllSatisfied.{put_failed, put_more, rest_all, rest_none, rest_row}
use Rattle.sq_change.proofs.Changes.Applied.{put_so, row_wide}
use Rattle.sq_change.proofs.NewRows.Endings.{ends_so}
use Rattle.sq_change.proofs.constraint.rows_satisfied.Goals as goal
use Rattle.sq_change.proofs.constraint.rows_satisfied.Goals.{in-Some+in_ok-row_satisfied, in_default}

pub row_satisfied-requires-clause-wide : goal.row_satisfied-requires-clause-wide
row_satisfied-requires-clause-wide g c =
    row_wide (length c.args.table.now.columns) c.args.changes.now c.loop-change.change-index c.change-item.result c.in-Some.row.now c.requires.wide (omega arith) c.change-item.is c.in-Some.ensures

pub returns-in_err-row_satisfied-clause-right : goal.returns-in_err-row_satisfied-clause-right
returns-in_err-row_satisfied-clause-right g c = λ parameters tables may on.
    let columns = g.N.Names.column_kinds c.args.setting.now.names.now in
    let here =
    put_so (λ row. AllByRecursion (IsOnRow columns parameters row) c.args.table.now.checks) c.args.changes.now
    c.loop-change.change-index c.change-item.result c.in-Some.row.now on (omega arith) c.change-item.is c.in-Some.ensures in
    ends_so c.from_residual.result c.in_err-row_satisfied.field-0.0 c.from_residual.ensures.1 (c.in_err-row_satisfied.ensures.right parameters tables may here)

pub loop-change-init : goal.loop-change-init
loop-change-init g c = record { values = refl; met = λ parameters shown may on. refl }

pub loop-change-preserved : goal.loop-change-preserved
loop-change-preserved g c =
    let setting = c.args.setting.now in
    let columns = g.N.Names.column_kinds setting.names.now in
    let seen = seen_by (g.N.Names.view_queries setting.names.now) (g.S.Store.content_now setting.store.now) setting.user setting.parameters.now in
    let changes = c.args.changes.now in
    let i = c.loop-change.change-index in
    let x = c.change-item.result in
    let has = has_its_values c.args.table.now in
    let rest = rows_put (drop (i + 1) changes) in
    elim c.match-row_put.branch [
      | in-Some+in_ok-row_satisfied w ↦
          let row = w.in-Some.row.now in
          record {
            values = rest_row (list_all has) changes i x (omega arith) c.change-item.is c.loop-change.invariant.values row w.in-Some.ensures
                ∙ ap (λ (b : Bool). b && list_all has rest) {x = has row} w.in_ok-row_satisfied.ensures.values;
            met = λ parameters shown may on.
                let here = put_so (λ r. AllByRecursion (IsOnRow columns parameters r) c.args.table.now.checks) changes i x row on (omega arith) c.change-item.is w.in-Some.ensures in
                put_more (row_met shown seen c.args.table.now) changes i x (omega arith) c.change-item.is (c.loop-change.invariant.met parameters shown may on) row w.in-Some.ensures
                (w.in_ok-row_satisfied.ensures.met parameters shown may here);
          }
      | in_default w ↦
          record {
            values = rest_none (list_all has) changes i x (omega arith) c.change-item.is c.loop-change.invariant.values (search rules);
            met = λ parameters shown may on.
                rest_none (all_satisfied (row_met shown seen c.args.table.now)) changes i x (omega arith) c.change-item.is (c.loop-change.invariant.met parameters shown may on) (search rules);
          }
    ]

pub returns-in_err-row_satisfied-clause-met : goal.returns-in_err-row_satisfied-clause-met
returns-in_err-row_satisfied-clause-met g c = λ parameters shown may on.
    let setting = c.args.setting.now in
    let columns = g.N.Names.column_kinds setting.names.now in
    let seen = seen_by (g.N.Names.view_queries setting.names.now) (g.S.Store.content_now setting.store.now) setting.user setting.parameters.now in
    let changes = c.args.changes.now in
    let i = c.loop-change.change-index in
    let x = c.change-item.result in
    let test = row_met shown seen c.args.table.now in
    let row = c.in-Some.row.now in
    let here = put_so (λ r. AllByRecursion (IsOnRow columns parameters r) c.args.table.now.checks) changes i x row on (omega arith) c.change-item.is c.in-Some.ensures in
    let f = c.in_err-row_satisfied.field-0.0 in
    handed_on c.from_residual.result f (all_satisfied test (rows_put changes)) c.from_residual.ensures.1
    (put_failed test changes i x (omega arith) c.change-item.is (c.loop-change.invariant.met parameters shown may on) row c.in-Some.ensures f
    (c.in_err-row_satisfied.ensures.met parameters shown may here))

pub returns-clause-values : goal.returns-clause-values
returns-clause-values g c = rest_all (list_all (has_its_values c.args.table.now)) c.args.changes.now c.loop-change.change-index (omega arith) c.loop-change.invariant.values

pub returns-clause-met : goal.returns-clause-met
returns-clause-met g c = λ parameters shown may on.
    let setting = c.args.setting.now in
    let columns = g.N.Names.column_kinds setting.names.now in
    let seen = seen_by (g.N.Names.view_queries setting.names.now) (g.S.Store.content_now setting.store.now) setting.user setting.parameters.now in
    rest_all (all_satisfied (row_met shown seen c.args.table.now)) c.args.changes.now c.loop-change.change-index (omega arith) (c.loop-change.invariant.met parameters shown may on)
