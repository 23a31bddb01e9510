use Rattle.std.proofs.Common.{◌≡◌, take}
use Rattle.sq_tree.specs.declared.cond.Quantifier.TheVariants as quantifier
use Rattle.sq_meaning.specs.Query as meaning
use Rattle.sq_condition.proofs.comparison.compared_with_all.Given as goal

-- the truth so far is that over the rows so far
abbrev pub invariant-loop-row : goal.invariant-loop-row
invariant-loop-row l = l.so_far ≡ meaning.compared_with_rows l.comparison quantifier.All l.left (take l.row-index l.rows)
