use Rattle.std.proofs.Common.{length}
use Rattle.sq_value.proofs.key.+are_in_columns.Given as goal

abbrev pub decreases-are_in_columns : goal.decreases-are_in_columns
decreases-are_in_columns l = length l.parts.now
