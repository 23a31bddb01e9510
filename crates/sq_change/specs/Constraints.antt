-- The rules for a change (ISO/IEC 9075:1992, 4.10, 11.4 to 11.9, 11.19). First come check options, row by row, and then NOT NULL
-- and CHECK, row by row. Then come the keys of the table that changes, and last the references of all tables.
use Rattle.std.specs.List.{enumerate_from, list_all}
use Rattle.std.specs.Prelude.{ℕ, Bool, ◌&&◌, ◌||◌, is_some, take, List, Ok}
use Rattle.sq_value.specs.Key.{in_columns}
use Rattle.sq_store.specs.Content.{Content, table_at, with_table}
use Rattle.sq_store.specs.Keys.{Keys, has_distinct_keys, key_at, with_key}
use Rattle.sq_store.specs.declared.table.Table.{Table}
use Rattle.sq_meaning.specs.Environment.{Row}
use Rattle.sq_meaning.specs.Query.{is_true}
use Rattle.sq_meaning.specs.Status.{Outcome, ◌>>=◌}
use Rattle.sq_meaning.specs.Target.{is_or_violates}
use Rattle.sq_meaning.specs.declared.status.Status.TheVariants as status
use Rattle.sq_meaning.specs.Constraints.{all_satisfied, demanded, has_null, satisfied}
use Rattle.sq_bound.specs.Fits.{has_its_values, keys_of_bases, not_nulls_hold}
use Rattle.sq_bound.specs.declared.condition.BoundCond.{BoundCond}
use Rattle.sq_bound.specs.declared.names.BaseTable.{BaseTable}
use Rattle.sq_bound.specs.declared.names.Leaf.{Leaf}
use Rattle.sq_bound.specs.declared.names.Reference.{Reference}
use Rattle.sq_query.specs.Row.{truth_on_row}
use Rattle.sq_change.specs.Made.{Seen, Shown}

-- ---- rows that are put in a table

-- a condition that check options demand is true of the row
abbrev pub condition_met : Shown → Seen → Row → BoundCond → Outcome (Unit {0})
condition_met shown s row c = is_true (truth_on_row shown s.values s.user row c) >>= is_or_violates

-- each of them is, from inside out (11.19)
abbrev pub check_option_met : Shown → Seen → Leaf → Row → Outcome (Unit {0})
check_option_met shown s leaf row =
    all_satisfied (condition_met shown s row) (take leaf.demanded leaf.conditions)

-- no column is null that may not be (11.4)
abbrev pub not_null_met : BaseTable → Row → Outcome (Unit {0})
not_null_met t row = demanded (has_its_values t row) status.IntegrityConstraintViolation

-- a CHECK is met when it is not false (11.9)
abbrev pub check_met : Shown → Seen → Row → BoundCond → Outcome (Unit {0})
check_met shown s row c = satisfied (truth_on_row shown s.values s.user row c)

-- NOT NULL, and then each CHECK in the order of the text
abbrev pub row_met : Shown → Seen → BaseTable → Row → Outcome (Unit {0})
row_met shown s t row = not_null_met t row >>= λ _. all_satisfied (check_met shown s row) t.checks

-- ---- references (11.8)

-- some referencing column is null, or a row of the other table has the same values in the referenced key
abbrev pub is_met_in : List Keys → Content → Reference → Row → Bool
is_met_in keys content r row =
    has_null (in_columns row r.by_key)
    || is_some (with_key (table_at content r.table) (key_at keys r.table r.key) (in_columns row r.by_key))

-- every row of the table at a place meets its reference
abbrev pub reference_met_in : List Keys → Content → ℕ → Reference → Bool
reference_met_in keys content place r =
    list_all (λ n. is_met_in keys content r n.row) (table_at content place).rows

-- every row meets each reference of its table
abbrev pub references_met : List BaseTable → Content → Bool
references_met bases content =
    list_all (λ p. list_all (reference_met_in (keys_of_bases bases) content p.0) p.1.references)
    (enumerate_from 0 bases)

-- ---- constraints on the tables between statements, besides keys

-- NOT NULL and references
abbrev pub constraints_hold : List BaseTable → Content → Bool
constraints_hold bases content = not_nulls_hold bases content && references_met bases content

-- ---- a changed table

-- check options come before NOT NULL and CHECK, of all rows
abbrev pub rows_met : Shown → Seen → Leaf → List Row → Outcome (Unit {0})
rows_met shown s leaf rows =
    all_satisfied (check_option_met shown s leaf) rows
    >>= λ _. all_satisfied (row_met shown s leaf.table) rows

-- no two rows have the same key (11.7)
abbrev pub keys_met : BaseTable → Table → Outcome (Unit {0})
keys_met t changed = demanded (has_distinct_keys t.keys changed) status.IntegrityConstraintViolation

-- the tables after one of them has changed, into which these rows are put, if it obeys
abbrev pub completed : Shown → Seen → List BaseTable → Leaf → List Row → Table → Outcome Content
completed shown s bases leaf rows changed = do
  _ ← rows_met shown s leaf rows
  _ ← keys_met leaf.table changed
  _ ← demanded (references_met bases (with_table s.tables leaf.table.place changed))
      status.IntegrityConstraintViolation
  Ok (with_table s.tables leaf.table.place changed)
