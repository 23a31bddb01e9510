-- Left open for line_end: its result; answered without a law.
use Rattle.sq_ending.proofs.ending.line_end.Goals as goal

pub returns : goal.returns
returns c = λ meant knows right are. (c.phase_end-end.ensures meant knows (c.new-memo.ensures c.args.context.now meant)).1 right are
