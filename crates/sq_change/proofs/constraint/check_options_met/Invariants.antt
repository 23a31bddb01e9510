use Rattle.std.proofs.Common.{List}
use Rattle.sq_value.specs.declared.domain.Kind.{Kind}
use Rattle.sq_meaning.specs.Constraints.{all_satisfied}
use Rattle.sq_query.specs.MayRead.{MayRead}
use Rattle.sq_change.specs.Changed.{AreOnRowsPut}
use Rattle.sq_change.specs.Constraints.{check_option_met}
use Rattle.sq_change.specs.Made.{Shown, seen_by}
use Rattle.sq_change.proofs.OneByOne.AllSatisfied.{RestTo}
use Rattle.sq_change.proofs.constraint.check_options_met.Given as goal

abbrev pub invariant-loop-change : goal.invariant-loop-change
invariant-loop-change g l =
    let setting = l.setting in
    let seen = seen_by (g.N.Names.view_queries setting.names.now) (g.S.Store.content_now setting.store.now) setting.user setting.parameters.now in
    (parameters : List Kind) (shown : Shown)
    → MayRead (g.N.Names.base_tables setting.names.now) (g.N.Names.view_queries setting.names.now) (g.N.Names.column_kinds setting.names.now) (g.S.Store.content_now setting.store.now) setting.user setting.parameters.now parameters shown
    → AreOnRowsPut (g.N.Names.column_kinds setting.names.now) parameters l.leaf.conditions l.changes
    → RestTo (all_satisfied (check_option_met shown seen l.leaf)) l.changes l.change-index
