-- Tables that may be changed, and the rows under them that meet a condition (ISO/IEC 9075:1992, 7.9).
use Rattle.std.specs.Prelude.{◌≡◌, ℕ, Bool, true, false, List, map, Option, None, Some}
use Rattle.std.specs.List.{zip}
use Rattle.sq_meaning.specs.Environment.{TableName}
use Rattle.sq_meaning.specs.Spelled.{Named}
use Rattle.sq_meaning.specs.Syntax.{Clause}
use Rattle.sq_bound.specs.Keyed.{IsShortestKey}
use Rattle.sq_bound.specs.declared.condition.BoundCond.{BoundCond}
use Rattle.sq_bound.specs.declared.names.Column.{Column}
use Rattle.sq_bound.specs.declared.names.Leaf.{Leaf}
use Rattle.sq_binding.specs.Changeable as binding
use Rattle.sq_binding.specs.Changeable.{NumberedTarget, condition_bound, table_over, target_over}
use Rattle.sq_binding.specs.Found.{Binding, ◌>>=◌, pure}
use Rattle.sq_binding.specs.From.{column_over}
use Rattle.sq_binding.specs.NumberedCondition.{NumberedClause}
use Rattle.sq_binding.specs.Scope.{ItemColumn}
use Rattle.sq_binding.specs.Select.{Surroundings}
use Rattle.sq_binder.specs.Surroundings.{descriptor_of, named_table_of}
use Rattle.sq_binder.specs.Names.{beneath_of, under_table}
use Rattle.sq_binder.specs.declared.changeable.ChangedTable.{ChangedTable}

abbrev pub table_name : ChangedTable → TableName
table_name t = record { user = t.user; name = t.name }

abbrev pub changed_of : ChangedTable → binding.ChangedTable
changed_of t =
    table_over (record { table = table_name t; correlation = t.correlation }) (named_table_of t.table)
    (under_table (beneath_of t.under))

-- the columns of the table that is over, each at its position in the one that is under it
abbrev pub columns_at_leaf : (under columns : List Column) → List ItemColumn
columns_at_leaf under columns =
    map column_over (zip (map (λ c. c.leaf_column) under) (map descriptor_of columns))

-- the rows under a table that meet a condition
abbrev pub target_made : binding.ChangedTable → Binding NumberedClause → Binding NumberedTarget
target_made t b = b >>= λ condition. pure (target_over t condition)

abbrev pub target_bound : Surroundings → binding.ChangedTable → Clause Named → Binding NumberedTarget
target_bound a t c = target_made t (condition_bound a t c)

-- The noted key for a condition on a base table: the shortest by which it names a row, if it has no subquery. If a view is in
-- between, there is none.
abbrev pub IsNotedKey : (is_base has_subquery : Bool) → Leaf → Option BoundCond → Option ℕ → Type 0
IsNotedKey true false leaf (Some own) noted = IsShortestKey leaf.table.keys own noted
IsNotedKey _ _ leaf own noted = noted ≡ None
