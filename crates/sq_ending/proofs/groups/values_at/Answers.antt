-- Left open for values_at: its result, and that the loop keeps its invariant; answered by Each and Views.
use Rattle.std.proofs.Common.{ℕ, List, [], get_or}
use Rattle.std.proofs.lemmas.List.{get_or_default}
use Rattle.sq_bound.specs.Expression.{place_meant}
use Rattle.sq_bound.specs.declared.expression.Place.{Place}
use Rattle.sq_meaning.specs.Environment as meaning
use Rattle.sq_meaning.specs.Environment.{Env}
use Rattle.sq_expression.specs.Fault.{values_in}
use Rattle.sq_expression.specs.Frame.{scopes_of}
use Rattle.sq_expression.specs.Group.{values_meant}
use Rattle.sq_expression.proofs.Each.{after_start, each_done, each_failed}
use Rattle.sq_expression.proofs.Views.{handed_on_as}
use Rattle.sq_ending.proofs.groups.values_at.Goals as goal

-- the column at hand
abbrev at_hand : List Place → ℕ → Place
at_hand columns i = get_or columns i (record { depth = 0; item = 0; column = 0 })

pub loop-column-init : goal.loop-column-init
loop-column-init c = after_start c.new-values.result.items _ c.new-values.ensures.items

pub loop-column-preserved : goal.loop-column-preserved
loop-column-preserved c =
    let env : Env (Unit {0}) = record { scopes = scopes_of c.args.frame.now; inputs = []; user = [] } in
    each_done (meaning.value_at env) place_meant (values_meant c.args.frame.now c.args.columns.now) c.loop-column.values.items c.push.new.self.items c.args.columns.now c.loop-column.column-index (at_hand c.args.columns.now c.loop-column.column-index) c.in_ok-value.value
    c.loop-column-test.true (get_or_default c.args.columns.now c.loop-column.column-index (record { depth = 0; item = 0; column = 0 }) (at_hand c.args.columns.now c.loop-column.column-index) c.loop-column-test.true) c.loop-column.invariant c.in_ok-value.ensures c.in_ok-push.ensures.items

pub returns-in_err-value : goal.returns-in_err-value
returns-in_err-value c =
    let env : Env (Unit {0}) = record { scopes = scopes_of c.args.frame.now; inputs = []; user = [] } in
    let whole = values_meant c.args.frame.now c.args.columns.now in
    handed_on_as values_in c.from_residual.result c.in_err-value.field-0.0 whole c.from_residual.ensures.1
    (each_failed (meaning.value_at env) place_meant whole c.loop-column.values.items c.args.columns.now c.loop-column.column-index (at_hand c.args.columns.now c.loop-column.column-index) c.in_err-value.field-0.0
    c.loop-column-test.true (get_or_default c.args.columns.now c.loop-column.column-index (record { depth = 0; item = 0; column = 0 }) (at_hand c.args.columns.now c.loop-column.column-index) c.loop-column-test.true) c.loop-column.invariant c.in_err-value.ensures)
