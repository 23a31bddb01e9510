use Rattle.std.proofs.Common.{drop, map}
use Rattle.sq_tree.specs.declared.names.ColumnReference.{ColumnReference}
use Rattle.sq_meaning.specs.Spelled.{listed}
use Rattle.sq_bound.specs.Expression.{place_meant}
use Rattle.sq_binding.specs.Found.{each}
use Rattle.sq_binding.specs.Select.{grouping_column}
use Rattle.sq_binder.specs.Found.{counts_of}
use Rattle.sq_binder.specs.Surroundings.{surroundings}
use Rattle.sq_binder.proofs.OneByOne.InTurn.{SoFar}
use Rattle.sq_binder.proofs.group.columns_listed.Given as goal

abbrev pub invariant-loop-reference : goal.invariant-loop-reference
invariant-loop-reference g l =
    let f = grouping_column (surroundings g.T.Tables.named l.at) in
    let same = λ (r : ColumnReference). r in
    SoFar place_meant f same l.fn.before (each f (map same (listed l.list)) (counts_of l.fn.before)) l.columns (drop l.reference-index l.reference-items)
