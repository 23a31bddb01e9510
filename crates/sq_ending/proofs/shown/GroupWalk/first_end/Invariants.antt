use Rattle.std.proofs.Common.{take}
use Rattle.sq_meaning.specs.Status.{kept}
use Rattle.sq_condition.specs.Memo.{Meant, IsMemoOf}
use Rattle.sq_condition.specs.Subquery.{KnowsGrouping}
use Rattle.sq_expression.specs.Fault.{IsRight}
use Rattle.sq_ending.specs.Shown.{met_by, shown_by}
use Rattle.sq_ending.specs.Walk.{IsFineOn}
use Rattle.sq_ending.proofs.shown.GroupWalk.first_end.Given as goal

abbrev pub invariant-loop-group : goal.invariant-loop-group
invariant-loop-group l =
    (meant : Meant) → KnowsGrouping l.self.context.now l.self.grouping.now meant → IsMemoOf l.self.context.now meant l.fn.memo
    → IsMemoOf l.self.context.now meant l.memo
    × (IsRight (kept (shown_by l.self.grouping.now l.self.context.now) l.groups) → IsFineOn (met_by l.self.grouping.now l.self.context.now l.self.list.now) (take l.group-index l.groups))
