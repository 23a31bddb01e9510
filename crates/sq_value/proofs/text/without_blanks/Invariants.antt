use Rattle.std.proofs.Common.{◌≡◌, length}
use Rattle.sq_value.specs.Text.{trimmed}
use Rattle.sq_value.proofs.text.without_blanks.Given as goal

-- what is left is as the whole without the blanks at its end
abbrev pub invariant-loop-last : goal.invariant-loop-last
invariant-loop-last l = trimmed l.codes ≡ trimmed l.initial.codes

abbrev pub decreases-loop-last : goal.decreases-loop-last
decreases-loop-last l = length l.codes
