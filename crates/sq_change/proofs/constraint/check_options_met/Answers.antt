-- Left open: the call of meets_check_option, the clauses right and met, and the loop's invariant; answered by AllSatisfied and others.
use Rattle.std.proofs.Common.{refl, arith, rules}
use Rattle.std.specs.List.{AllByRecursion}
use Rattle.sq_query.specs.Row.{IsOnRow}
use Rattle.sq_expression.proofs.Expressions.{handed_on}
use Rattle.sq_store.specs.Change.{rows_put}
use Rattle.sq_meaning.specs.Constraints.{all_satisfied}
use Rattle.sq_change.specs.Constraints.{check_option_met}
use Rattle.sq_change.specs.Made.{seen_by}
use Rattle.sq_change.proofs.OneByOne.AllSatisfied.{put_failed, put_more, rest_all, rest_none}
use Rattle.sq_query.proofs.Needs.Finds.{Reads}
use Rattle.sq_change.proofs.Changes.Applied.{put_so}
use Rattle.sq_change.proofs.NewRows.Domains.{all_taken}
use Rattle.sq_change.proofs.NewRows.Endings.{ends_so}
use Rattle.sq_change.proofs.constraint.check_options_met.Goals as goal
use Rattle.sq_change.proofs.constraint.check_options_met.Goals.{in-Some+in_ok-meets_check_option, in_default}

pub meets_check_option-requires : goal.meets_check_option-requires
meets_check_option-requires g c =
    let columns = g.N.Names.column_kinds c.args.setting.now.names.now in
    (c.requires.0, rw c.take_demanded-conditions.ensures (all_taken (Reads columns) c.args.leaf.now.demanded c.args.leaf.now.conditions c.requires.1))

pub returns-in_err-meets_check_option-clause-right : goal.returns-in_err-meets_check_option-clause-right
returns-in_err-meets_check_option-clause-right g c = λ parameters tables may on.
    let columns = g.N.Names.column_kinds c.args.setting.now.names.now in
    let conditions = c.args.leaf.now.conditions in
    let here =
    put_so (λ row. AllByRecursion (IsOnRow columns parameters row) conditions) c.args.changes.now c.loop-change.change-index c.change-item.result c.in-Some.row.now
    on (omega arith) c.change-item.is c.in-Some.ensures in
    ends_so c.from_residual.result c.in_err-meets_check_option.field-0.0 c.from_residual.ensures.1
    (c.in_err-meets_check_option.ensures.right parameters tables may
    (rw c.take_demanded-conditions.ensures (all_taken (IsOnRow columns parameters c.in-Some.row.now) c.args.leaf.now.demanded conditions here)))

pub loop-change-init : goal.loop-change-init
loop-change-init g c = λ parameters shown may on. refl

pub loop-change-preserved : goal.loop-change-preserved
loop-change-preserved g c = λ parameters shown may on.
    let setting = c.args.setting.now in
    let columns = g.N.Names.column_kinds setting.names.now in
    let seen = seen_by (g.N.Names.view_queries setting.names.now) (g.S.Store.content_now setting.store.now) setting.user setting.parameters.now in
    let conditions = c.args.leaf.now.conditions in
    let changes = c.args.changes.now in
    let i = c.loop-change.change-index in
    let x = c.change-item.result in
    let test = check_option_met shown seen c.args.leaf.now in
    elim c.match-row_put.branch [
      | in-Some+in_ok-meets_check_option w ↦
          let row = w.in-Some.row.now in
          let all = put_so (λ r. AllByRecursion (IsOnRow columns parameters r) conditions) changes i x row on (omega arith) c.change-item.is w.in-Some.ensures in
          let here : AllByRecursion (IsOnRow columns parameters row) c.take_demanded-conditions.result.now
          = rw c.take_demanded-conditions.ensures (all_taken (IsOnRow columns parameters row) c.args.leaf.now.demanded conditions all) in
          put_more test changes i x (omega arith) c.change-item.is (c.loop-change.invariant parameters shown may on) row w.in-Some.ensures
          (rw c.take_demanded-conditions.ensures at (w.in_ok-meets_check_option.ensures.met parameters shown may here))
      | in_default w ↦ rest_none (all_satisfied test) changes i x (omega arith) c.change-item.is (c.loop-change.invariant parameters shown may on) (search rules)
    ]

pub returns-in_err-meets_check_option-clause-met : goal.returns-in_err-meets_check_option-clause-met
returns-in_err-meets_check_option-clause-met g c = λ parameters shown may on.
    let setting = c.args.setting.now in
    let columns = g.N.Names.column_kinds setting.names.now in
    let seen = seen_by (g.N.Names.view_queries setting.names.now) (g.S.Store.content_now setting.store.now) setting.user setting.parameters.now in
    let conditions = c.args.leaf.now.conditions in
    let changes = c.args.changes.now in
    let i = c.loop-change.change-index in
    let x = c.change-item.result in
    let test = check_option_met shown seen c.args.leaf.now in
    let row = c.in-Some.row.now in
    let all = put_so (λ r. AllByRecursion (IsOnRow columns parameters r) conditions) changes i x row on (omega arith) c.change-item.is c.in-Some.ensures in
    let here : AllByRecursion (IsOnRow columns parameters row) c.take_demanded-conditions.result.now
    = rw c.take_demanded-conditions.ensures (all_taken (IsOnRow columns parameters row) c.args.leaf.now.demanded conditions all) in
    let f = c.in_err-meets_check_option.field-0.0 in
    handed_on c.from_residual.result f (all_satisfied test (rows_put changes)) c.from_residual.ensures.1
    (put_failed test changes i x (omega arith) c.change-item.is (c.loop-change.invariant parameters shown may on) row c.in-Some.ensures f
    (rw c.take_demanded-conditions.ensures at (c.in_err-meets_check_option.ensures.met parameters shown may here)))

pub returns-clause-met : goal.returns-clause-met
returns-clause-met g c = λ parameters shown may on.
    let setting = c.args.setting.now in
    let columns = g.N.Names.column_kinds setting.names.now in
    let seen = seen_by (g.N.Names.view_queries setting.names.now) (g.S.Store.content_now setting.store.now) setting.user setting.parameters.now in
    rest_all (all_satisfied (check_option_met shown seen c.args.leaf.now)) c.args.changes.now c.loop-change.change-index (omega arith) (c.loop-change.invariant parameters shown may on)
