use Rattle.std.proofs.Common.{length}
use Rattle.sq_value.proofs.pattern.+cut_by_items.Given as goal

abbrev pub decreases-cut_by_items : goal.decreases-cut_by_items
decreases-cut_by_items l = length l.pattern.now
