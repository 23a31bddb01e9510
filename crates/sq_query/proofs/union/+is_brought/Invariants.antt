use Rattle.std.proofs.Common.{length}
use Rattle.sq_query.proofs.union.+is_brought.Given as goal

abbrev pub decreases-is_brought : goal.decreases-is_brought
decreases-is_brought l = length l.columns.now
