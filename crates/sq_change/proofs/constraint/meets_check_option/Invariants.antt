use Rattle.std.proofs.Common.{List}
use Rattle.std.specs.List.{AllByRecursion}
use Rattle.sq_value.specs.declared.domain.Kind.{Kind}
use Rattle.sq_query.specs.MayRead.{MayRead}
use Rattle.sq_query.specs.Row.{IsOnRow}
use Rattle.sq_change.specs.Constraints.{condition_met}
use Rattle.sq_change.specs.Made.{Shown, seen_by}
use Rattle.sq_change.proofs.OneByOne.AllSatisfied.{SatisfiedTo}
use Rattle.sq_change.proofs.constraint.meets_check_option.Given as goal

abbrev pub invariant-loop-condition : goal.invariant-loop-condition
invariant-loop-condition g l =
    let setting = l.setting in
    let seen = seen_by (g.N.Names.view_queries setting.names.now) (g.S.Store.content_now setting.store.now) setting.user setting.parameters.now in
    (parameters : List Kind) (shown : Shown)
    → MayRead (g.N.Names.base_tables setting.names.now) (g.N.Names.view_queries setting.names.now) (g.N.Names.column_kinds setting.names.now) (g.S.Store.content_now setting.store.now) setting.user setting.parameters.now parameters shown
    → AllByRecursion (IsOnRow (g.N.Names.column_kinds setting.names.now) parameters l.row) l.conditions
    → SatisfiedTo (condition_met shown seen l.row) l.conditions l.condition-index
