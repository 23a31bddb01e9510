-- Left open for chosen_by: the clause known; answered without a law.
use Rattle.sq_query.proofs.scan.chosen_by.Goals as goal

pub returns-clause-known : goal.returns-clause-known
returns-clause-known c = λ meant knows. (c.chosen_with-chosen.ensures.known meant knows (c.new-memo.ensures c.args.context.now meant)).1
