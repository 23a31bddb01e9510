-- Left open: the call of stored_value, the clause meant, and the loop's invariant; answered by Domains and UpdatedRows.
use Rattle.std.proofs.Common.{[], ◌∷◌, refl, arith}
use Rattle.std.proofs.lemmas.Grind.{common_steps}
use Rattle.sq_bound.specs.Fits.{IsColumnOf}
use Rattle.sq_expression.proofs.Expressions.{handed_on}
use Rattle.sq_change.specs.Given.{IsStorable}
use Rattle.sq_change.specs.Made.{Seen, seen_by}
use Rattle.sq_change.proofs.NewRows.Domains.{all_at, assigned_in}
use Rattle.sq_change.proofs.NewRows.UpdatedRows.{all_set, none_set, one_set, set_failed}
use Rattle.sq_change.proofs.target.updated_row.Goals as goal

pub stored_value-requires : goal.stored_value-requires
stored_value-requires g c =
    let setting = c.args.setting.now in
    all_at (λ a. IsStorable a.column.domain a.value (c.args.row.now ∷ []) setting.parameters.now setting.user) c.args.assignments.now c.loop-assignment.assignment-index c.assignment-item.result
    c.requires.assignable c.loop-assignment-test.true c.assignment-item.is

pub loop-assignment-init : goal.loop-assignment-init
loop-assignment-init g c =
    let setting = c.args.setting.now in
    let s : Seen = seen_by (g.N.Names.view_queries setting.names.now) (g.S.Store.content_now setting.store.now) setting.user setting.parameters.now in
    record {
      set = none_set s c.args.assignments.now c.args.row.now _ (grind (arith, common_steps));
      wide = grind (arith, common_steps);
      in_domains = λ t of_table is. grind (arith, common_steps);
    }

pub loop-assignment-preserved : goal.loop-assignment-preserved
loop-assignment-preserved g c =
    let setting = c.args.setting.now in
    let s : Seen = seen_by (g.N.Names.view_queries setting.names.now) (g.S.Store.content_now setting.store.now) setting.user setting.parameters.now in
    record {
      set = one_set s c.args.assignments.now c.args.row.now c.loop-assignment.assignment-index c.loop-assignment.updated.items c.assignment-item.result c.loop-assignment-test.true c.assignment-item.is
          c.loop-assignment.invariant.set _ c.in_ok-value.value c.in_ok-value.ensures.meant refl;
      wide = grind (arith, common_steps);
      in_domains = λ t of_table is.
          assigned_in t c.assignment-item.result.column c.loop-assignment.updated.items c.in_ok-value.value
          (all_at (λ a. IsColumnOf t a.column) c.args.assignments.now c.loop-assignment.assignment-index c.assignment-item.result of_table c.loop-assignment-test.true c.assignment-item.is)
          c.in_ok-value.ensures.in_domain (c.loop-assignment.invariant.in_domains t of_table is);
    }

pub returns-in_err-value-clause-meant : goal.returns-in_err-value-clause-meant
returns-in_err-value-clause-meant g c = λ shown.
    let setting = c.args.setting.now in
    let s : Seen = seen_by (g.N.Names.view_queries setting.names.now) (g.S.Store.content_now setting.store.now) setting.user setting.parameters.now in
    let e = c.in_err-value.field-0.0 in
    handed_on c.from_residual-in_err-value.result e _ c.from_residual-in_err-value.ensures.1
    (set_failed s c.args.assignments.now c.args.row.now c.loop-assignment.assignment-index c.loop-assignment.updated.items c.assignment-item.result c.loop-assignment-test.true c.assignment-item.is
    c.loop-assignment.invariant.set shown e (c.in_err-value.ensures.meant shown))

pub returns-clause-meant : goal.returns-clause-meant
returns-clause-meant g c = λ shown.
    let setting = c.args.setting.now in
    let s : Seen = seen_by (g.N.Names.view_queries setting.names.now) (g.S.Store.content_now setting.store.now) setting.user setting.parameters.now in
    rw c.from_vec.ensures (all_set s c.args.assignments.now c.args.row.now c.loop-assignment.assignment-index c.loop-assignment.updated.items (omega arith) c.loop-assignment.invariant.set shown)
