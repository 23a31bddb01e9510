-- Left open for GroupWalk::first_end: its result, and that the loop keeps its invariant; answered by ShownGroups.
use Rattle.std.proofs.Common.{[], Option, refl, subst}
use Rattle.sq_ending.specs.Shown.{FindsOn, met_by}
use Rattle.sq_ending.specs.declared.ends.QueryEnd.{QueryEnd}
use Rattle.sq_ending.proofs.ShownGroups.{all_fine, group_ends, group_right, next_fine}
use Rattle.sq_ending.proofs.shown.GroupWalk.first_end.Goals as goal

pub loop-group-init : goal.loop-group-init
loop-group-init c = λ meant knows memo. (memo, λ right. ([], refl))

pub loop-group-preserved : goal.loop-group-preserved
loop-group-preserved c = λ meant knows memo.
    let walk = c.args.self.now in
    let groups = c.args.groups.now in
    let i = c.loop-group.group-index in
    let x = c.group-item.result in
    let before = c.loop-group.invariant meant knows memo in
    let met = c.in_ok-end.ensures meant knows before.0 in (
      met.0,
      λ right.
          let fine = before.1 right in
          next_fine (met_by walk.grouping.now walk.context.now walk.list.now) groups i x c.loop-group-test.true c.group-item.is fine
          (subst (FindsOn walk x) c.in_default.is (met.1 (group_right walk.grouping.now walk.context.now walk.list.now groups i x c.loop-group-test.true c.group-item.is fine right))),
    )

pub returns-in-Some : goal.returns-in-Some
returns-in-Some c = λ meant knows memo.
    let walk = c.args.self.now in
    let groups = c.args.groups.now in
    let i = c.loop-group.group-index in
    let x = c.group-item.result in
    let before = c.loop-group.invariant meant knows memo in
    let met = c.in_ok-end.ensures meant knows before.0 in (
      met.0,
      λ right.
          let fine = before.1 right in
          let ended = subst (FindsOn walk x) c.in-Some.is (met.1 (group_right walk.grouping.now walk.context.now walk.list.now groups i x c.loop-group-test.true c.group-item.is fine right)) in
          group_ends walk.grouping.now walk.context.now walk.list.now groups i x c.loop-group-test.true c.group-item.is fine c.in-Some.end ended.0 ended.1,
    )

pub returns : goal.returns
returns c = λ meant knows memo.
    let walk = c.args.self.now in
    let met = c.loop-group.invariant meant knows memo in
    (met.0, λ right. all_fine walk.grouping.now walk.context.now walk.list.now c.args.groups.now c.loop-group.group-index c.loop-group-test.false (met.1 right))
