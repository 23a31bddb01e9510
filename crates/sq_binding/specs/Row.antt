-- The bound form of SELECT INTO (ISO/IEC 9075:1992, 13.5).
use Rattle.std.specs.Prelude.{List, map}
use Rattle.sq_tree.specs.declared.statement.Select.{Select as SelectStatement}
use Rattle.sq_meaning.specs.Placed.{PlacedParameter}
use Rattle.sq_meaning.specs.Spelled.{listed}
use Rattle.sq_meaning.specs.Tables.{Declared}
use Rattle.sq_meaning.specs.WellFormedStatement.{select_of_statement}
use Rattle.sq_binding.specs.Changeable.{UserNames, outside}
use Rattle.sq_binding.specs.Condition.{select_bound}
use Rattle.sq_binding.specs.Found.{Binding, ◌>>=◌, outcome, pure}
use Rattle.sq_binding.specs.NumberedCondition.{NumberedSelect, columns_of}
use Rattle.sq_binding.specs.Targets.{targets_bound}

pub record NumberedRow : Type 0 where
  pub query : NumberedSelect
  pub targets : List PlacedParameter

abbrev pub row_bound : UserNames → List Declared → SelectStatement → Binding NumberedRow
row_bound names parameters s = do
  x ← select_bound (outside names parameters) (select_of_statement names.user s)
  targets ← outcome (targets_bound parameters (listed s.targets) (map (λ c. c.kind) (columns_of x)))
  pure (record { query = x; targets = targets })
