-- Left open for is_meant: the clause read; answered without a law.
use Rattle.sq_query.proofs.meant.is_meant.Goals as goal

pub returns-in-None-clause-read : goal.returns-in-None-clause-read
returns-in-None-clause-read g c = λ reads. c.meets_target-in-None.ensures.none (reads c.in-None.is)
