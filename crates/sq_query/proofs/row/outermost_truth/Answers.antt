-- Left open for outermost_truth: the clause known; answered without a law.
use Rattle.sq_query.proofs.row.outermost_truth.Goals as goal

pub returns-clause-known : goal.returns-clause-known
returns-clause-known c = λ meant knows. (c.truth_on-truth.ensures.known meant knows (c.new-memo.ensures c.args.context.now meant)).1
