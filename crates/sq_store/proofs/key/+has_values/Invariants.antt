use Rattle.std.proofs.Common.{length}
use Rattle.sq_store.proofs.key.+has_values.Given as goal

abbrev pub decreases-has_values : goal.decreases-has_values
decreases-has_values l = length l.columns.now
