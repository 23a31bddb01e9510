use Rattle.std.proofs.Common.{◌≡◌, None, drop, length, map}
use Rattle.sq_meaning.specs.Status.{kept}
use Rattle.sq_expression.specs.Group.{group_seen}
use Rattle.sq_condition.specs.Specification.{is_met}
use Rattle.sq_expression.proofs.Each.{after}
use Rattle.sq_query.proofs.single_row.groups_of_which.Given as goal

-- the groups that are kept so far, and then what is kept of those that are left
abbrev pub invariant-loop-group : goal.invariant-loop-group
invariant-loop-group l =
    let test = is_met l.having None l.call in
    kept test (map group_seen l.fn.groups.items) ≡ after (map group_seen l.kept.items) (kept test (map group_seen (drop (length l.yielded) l.fn.groups.items)))
