-- The columns of a table definition.
use Rattle.std.specs.List.{list_any}
use Rattle.std.specs.Borrow.{Bor}
use Rattle.std.specs.Prelude.{ℕ, Bool, List, map}
use Rattle.indexmap.specs.IndexSet.{index_set_len}
use Rattle.sq_lex.specs.declared.name.Name.{Name}
use Rattle.sq_tree.specs.declared.cond.Cond.{Cond}
use Rattle.sq_tree.specs.declared.schema.ColumnConstraint.{ColumnConstraint}
use Rattle.sq_tree.specs.declared.schema.ColumnDefinition.{ColumnDefinition}
use Rattle.sq_binding.specs.Column.{is_not_null}
use Rattle.sq_catalog.specs.declared.written.NamedColumns.{NamedColumns}

-- the column definitions that are lent
abbrev pub definitions_lent : List (Bor ColumnDefinition) → List ColumnDefinition
definitions_lent columns = map (λ w. w.now) columns

-- the conditions that are lent
abbrev pub conditions_lent : List (Bor Cond) → List Cond
conditions_lent checks = map (λ c. c.now) checks

-- the names of the columns, each at its place
abbrev pub names_at : NamedColumns → List Name
names_at columns = columns.names.keys

-- how many columns there are
abbrev pub column_count : NamedColumns → ℕ
column_count columns = index_set_len columns.names

abbrev pub is_not_null_constraint : ColumnConstraint → Bool
is_not_null_constraint = is_not_null

-- NOT NULL is written for a column (11.4)
abbrev pub is_written_not_null : ColumnDefinition → Bool
is_written_not_null column = list_any is_not_null_constraint column.constraints
