use Rattle.std.proofs.Common.{◌+◌, ◌*◌}
use Rattle.sq_condition.specs.Specification.{items_in}
use Rattle.sq_ending.specs.Inside.{views_end}
use Rattle.sq_ending.proofs.inside.+inner_end.Given as goal

abbrev pub decreases-inner_end : goal.decreases-inner_end
decreases-inner_end g l = 2 * views_end (items_in l.query.now) + 1

abbrev pub decreases-end_within : goal.decreases-end_within
decreases-end_within g l = 2 * views_end (items_in l.query.now)
