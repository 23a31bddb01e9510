use Rattle.std.proofs.Common.{◌≡◌, drop}
use Rattle.std.specs.Cmp.Lexicographic.{pointwise}
use Rattle.sq_value.specs.Comparison.{is_same}
use Rattle.sq_value.specs.Key.{in_columns}
use Rattle.sq_store.proofs.key.are_same.Given as goal

abbrev pub invariant-loop-column : goal.invariant-loop-column
invariant-loop-column l =
    pointwise is_same (in_columns l.row l.columns) (in_columns l.other l.columns)
    ≡ pointwise is_same (in_columns l.row (drop l.column-index l.columns)) (in_columns l.other (drop l.column-index l.columns))
