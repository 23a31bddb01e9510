-- Query specifications that are updatable, and the tables that they are over (ISO/IEC
-- 9075:1992, 7.9).
use Rattle.std.specs.Prelude.{ℕ, Bool, List, Option, None, Some, Ok, if◌then◌else◌}
use Rattle.sq_meaning.specs.Environment.{TableName}
use Rattle.sq_binding.specs.Changeable.{ChangedTable, NumberedTarget, NumberedUpdatable, made, updatable_where}
use Rattle.sq_binding.specs.Found.{Binding}
use Rattle.sq_binding.specs.NumberedCondition.{NumberedClause}
use Rattle.sq_binding.specs.Outcome.{and_then}

-- the updatable query of these columns, if they may be changed, and a condition
abbrev pub updatable_made : ChangedTable → Option (List ℕ) → Binding NumberedClause
    → Binding (Option NumberedUpdatable)
updatable_made t columns b = λ counts. and_then (b counts) (λ x. Ok (made (updatable_where t columns) x))

abbrev pub updatable_if : TableName → Option (List ℕ) → (has_subquery : Bool) → NumberedTarget
    → Option NumberedUpdatable
updatable_if t None has_subquery target = None
updatable_if t (Some columns) has_subquery target =
    if has_subquery then None else Some (record { table = t; target = target; columns = columns })
