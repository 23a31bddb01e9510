use Rattle.std.proofs.Common.{length}
use Rattle.sq_cause.proofs.query_cause.+add_items.Given as goal

abbrev pub decreases-add_items : goal.decreases-add_items
decreases-add_items l = length l.views.now
