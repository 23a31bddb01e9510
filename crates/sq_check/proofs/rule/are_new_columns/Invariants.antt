use Rattle.std.proofs.Common.{◌≡◌, drop, map}
use Rattle.sq_check.specs.Rule.{are_new_columns, column_of}
use Rattle.sq_check.proofs.rule.are_new_columns.Given as goal

abbrev pub invariant-loop-item : goal.invariant-loop-item
invariant-loop-item l = are_new_columns l.names.keys (map column_of (drop l.item-index l.items)) ≡ are_new_columns l.fn.names.keys (map column_of l.items)
