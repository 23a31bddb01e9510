-- Left open for cut_by_nothing: its result; answered by Cutting.
use Rattle.std.proofs.Common.{◌∙◌, arith}
use Rattle.sq_value.proofs.Cutting.{nothing_set}
use Rattle.sq_value.proofs.pattern.cut_by_nothing.Goals as goal

pub returns : goal.returns
returns c = λ text e. nothing_set c.loop-cut.cuts text (c.loop-cut.auto.cuts ∙ e) (λ k h. c.loop-cut.invariant k (omega arith))
