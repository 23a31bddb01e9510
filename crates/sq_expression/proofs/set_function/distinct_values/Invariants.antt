use Rattle.std.proofs.Common.{◌≡◌, map}
use Rattle.sq_value.specs.Comparison.{is_same}
use Rattle.sq_meaning.specs.Rows.{firsts}
use Rattle.sq_expression.specs.Index.{alone}
use Rattle.sq_expression.proofs.set_function.distinct_values.Given as goal

-- the values so far, each at its first occurrence, and their keys
abbrev pub invariant-loop-value : goal.invariant-loop-value
invariant-loop-value l = record {
  keys : l.distinct.keys.keys ≡ map alone l.distinct.values.items;
  values : l.distinct.values.items ≡ firsts is_same l.yielded;
}
