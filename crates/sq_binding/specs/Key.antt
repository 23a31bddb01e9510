-- Keys of a table definition (ISO/IEC 9075:1992, 11.7).
use Rattle.std.specs.Prelude.{ℕ, Bool, true, false, not, ◌||◌, List, nat_eq, nat_lt, length, filter_map, position, slice_get, Option, Some, None}
use Rattle.std.specs.List.{list_any}
use Rattle.sq_tree.specs.declared.schema.TableDefinition.{TableDefinition}
use Rattle.sq_meaning.specs.Schema.{Constraint, constraints, keys, primary_keys, table_columns}
use Rattle.sq_meaning.specs.Words.{has_twice, is_some_and}
use Rattle.sq_binding.specs.Column.{TypedColumn, refuses_null}
use Rattle.sq_binding.specs.ElementOutcome.{Outcome, each}
use Rattle.sq_binding.specs.Position.{positions_of}

-- the positions of the columns of each key
abbrev pub key_positions : TableDefinition → Outcome (List (List ℕ))
key_positions t = each (positions_of (table_columns t)) (keys t)

-- whether a key is a primary one
abbrev pub is_primary : Constraint → Option Bool
is_primary (Constraint.unique columns) = Some false
is_primary (Constraint.primary_key columns) = Some true
is_primary _ = None

-- the place of the primary key among the keys
abbrev pub primary_place : TableDefinition → Option ℕ
primary_place t = position (λ primary. primary) (filter_map is_primary (constraints t))

-- each column of a key is NOT NULL (own rule)
abbrev pub is_nullable_at : List TypedColumn → ℕ → Bool
is_nullable_at columns n = not (is_some_and (λ c. refuses_null c.definition) (slice_get columns n))

abbrev pub has_nullable : List TypedColumn → List ℕ → Bool
has_nullable columns key = list_any (is_nullable_at columns) key

-- the greatest number of columns of a key or a reference (own rule)
abbrev pub most_key_columns : ℕ
most_key_columns = 6

-- a list names a column twice, or names too many
abbrev pub is_bad_list : List ℕ → Bool
is_bad_list columns = nat_lt most_key_columns (length columns) || has_twice nat_eq columns

-- a table has one primary key at most
abbrev pub has_bad_key : TableDefinition → List (List ℕ) → Bool
has_bad_key t keys = nat_lt 1 (length (primary_keys t)) || list_any is_bad_list keys
