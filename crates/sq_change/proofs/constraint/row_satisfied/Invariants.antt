use Rattle.std.proofs.Common.{List}
use Rattle.std.specs.List.{AllByRecursion}
use Rattle.sq_value.specs.declared.domain.Kind.{Kind}
use Rattle.sq_query.specs.MayRead.{MayRead}
use Rattle.sq_query.specs.Row.{IsOnRow}
use Rattle.sq_change.specs.Constraints.{check_met}
use Rattle.sq_change.specs.Made.{Shown, seen_by}
use Rattle.sq_change.proofs.OneByOne.AllSatisfied.{SatisfiedTo}
use Rattle.sq_change.proofs.constraint.row_satisfied.Given as goal

abbrev pub invariant-loop-check : goal.invariant-loop-check
invariant-loop-check g l =
    let setting = l.setting in
    let seen = seen_by (g.N.Names.view_queries setting.names.now) (g.S.Store.content_now setting.store.now) setting.user setting.parameters.now in
    (parameters : List Kind) (shown : Shown)
    → MayRead (g.N.Names.base_tables setting.names.now) (g.N.Names.view_queries setting.names.now) (g.N.Names.column_kinds setting.names.now) (g.S.Store.content_now setting.store.now) setting.user setting.parameters.now parameters shown
    → AllByRecursion (IsOnRow (g.N.Names.column_kinds setting.names.now) parameters l.row) l.table.checks
    → SatisfiedTo (check_met shown seen l.row) l.table.checks l.check-index
