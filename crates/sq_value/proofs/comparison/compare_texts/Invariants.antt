use Rattle.std.proofs.Common.{◌≡◌, drop}
use Rattle.sq_value.specs.Comparison.{texts_compared}
use Rattle.sq_value.specs.laws.Padding.{from_front}
use Rattle.sq_value.proofs.comparison.compare_texts.Given as goal

abbrev pub invariant-loop-place : goal.invariant-loop-place
invariant-loop-place l = texts_compared l.left l.right ≡ from_front (drop l.place l.left) (drop l.place l.right)
