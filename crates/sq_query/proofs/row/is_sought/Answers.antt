-- Left open for is_sought: the clause none; answered without a law.
use Rattle.sq_query.proofs.row.is_sought.Goals as goal

pub returns-else-is_empty-clause-none : goal.returns-else-is_empty-clause-none
returns-else-is_empty-clause-none c = λ none. absurd (c.is_empty.ensures.some c.if-is_empty.false none)
