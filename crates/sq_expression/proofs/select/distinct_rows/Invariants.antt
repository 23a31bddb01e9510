use Rattle.std.proofs.Common.{◌≡◌}
use Rattle.sq_meaning.specs.Rows.{firsts, same_row}
use Rattle.sq_expression.proofs.select.distinct_rows.Given as goal

-- the rows so far, each at its first occurrence, and their keys
abbrev pub invariant-loop-row : goal.invariant-loop-row
invariant-loop-row l = record {
  keys : l.distinct.keys.keys ≡ l.distinct.rows.items;
  rows : l.distinct.rows.items ≡ firsts same_row l.yielded;
}
