use Rattle.std.proofs.Common.{List}
use Rattle.std.specs.List.{list_all}
use Rattle.sq_value.specs.declared.domain.Kind.{Kind}
use Rattle.sq_meaning.specs.Constraints.{all_satisfied}
use Rattle.sq_query.specs.MayRead.{MayRead}
use Rattle.sq_change.specs.Changed.{AreOnRowsPut}
use Rattle.sq_bound.specs.Fits.{has_its_values}
use Rattle.sq_change.specs.Constraints.{row_met}
use Rattle.sq_change.specs.Made.{Shown, seen_by}
use Rattle.sq_change.proofs.OneByOne.AllSatisfied.{RestTo}
use Rattle.sq_change.proofs.constraint.rows_satisfied.Given as goal

abbrev pub invariant-loop-change : goal.invariant-loop-change
invariant-loop-change g l =
    let setting = l.setting in
    let seen = seen_by (g.N.Names.view_queries setting.names.now) (g.S.Store.content_now setting.store.now) setting.user setting.parameters.now in
    record {
      values : RestTo (list_all (has_its_values l.table)) l.changes l.change-index;
      met : (parameters : List Kind) (shown : Shown)
          → MayRead (g.N.Names.base_tables setting.names.now) (g.N.Names.view_queries setting.names.now) (g.N.Names.column_kinds setting.names.now) (g.S.Store.content_now setting.store.now) setting.user setting.parameters.now parameters shown
          → AreOnRowsPut (g.N.Names.column_kinds setting.names.now) parameters l.table.checks l.changes
          → RestTo (all_satisfied (row_met shown seen l.table)) l.changes l.change-index;
    }
