-- The changes that a statement is going to make, by its kind.
use Rattle.std.specs.Prelude.{◌≡◌, ◌≤◌, ◌+◌, ◌-◌, ℕ, Bool, true, false, List, [], ◌∷◌, length, map, nat_eq, Option, Ok, Vec}
use Rattle.std.specs.Borrow.{Bor}
use Rattle.std.specs.List.{AllByRecursion, AllZip, Any, list_all}
use Rattle.std.specs.declared.alloc.Global.{Global}
use Rattle.sq_value.specs.declared.domain.Kind.{Kind}
use Rattle.sq_value.specs.declared.value.Value.{Value}
use Rattle.sq_store.specs.declared.change.Change.{Change}
use Rattle.sq_store.specs.declared.change.Change.TheVariants.{Insert, Replace, Remove}
use Rattle.sq_store.specs.Change.{insert_count, rows_put}
use Rattle.sq_store.specs.Content.{changed_by}
use Rattle.sq_store.specs.declared.table.Numbered.{Numbered}
use Rattle.sq_store.specs.declared.table.Table.{Table}
use Rattle.sq_bound.specs.Fits.{IsRowIn}
use Rattle.sq_bound.specs.WellFormed.{TableKinds}
use Rattle.sq_bound.specs.declared.condition.BoundCond.{BoundCond}
use Rattle.sq_bound.specs.declared.names.BaseColumn.{BaseColumn}
use Rattle.sq_bound.specs.declared.names.BaseTable.{BaseTable}
use Rattle.sq_bound.specs.declared.statement.BoundUpdate.{BoundUpdate}
use Rattle.sq_bound.specs.declared.statement.ChangeTarget.{ChangeTarget}
use Rattle.sq_query.specs.FewRows.{few_rows}
use Rattle.sq_query.specs.Row.{IsOnRow}
use Rattle.sq_query.specs.declared.few_rows.FewRows.{FewRows}
use Rattle.sq_change.specs.Made.{Seen, Shown, rows_updated}
use Rattle.sq_change.specs.Reference.{KeepsKeys}
use Rattle.sq_change.specs.Statement.{Chosen, base_of}
use Rattle.sq_change.specs.declared.complete.Changed.{Changed}

-- the numbers of rows that a statement is going to change
abbrev pub numbers_with : Vec (ℕ × Bor (List Value)) Global → List ℕ
numbers_with rows = map (λ found. found.0) rows.items

abbrev pub few_with : FewRows → List ℕ
few_with rows = map (λ found. found.0) (few_rows rows)

-- the rows that changes put in a table
abbrev pub new_rows_in : Vec Change Global → List (List Value)
new_rows_in changes = rows_put changes.items

-- each row has this many values
abbrev pub are_wide : ℕ → List (List Value) → Bool
are_wide columns rows = list_all (λ row. nat_eq (length row) columns) rows

-- the rows that changes put in a table have their values in the domains of its columns
abbrev pub AreRowsPut : List BaseColumn → List Change → Type 0
AreRowsPut columns changes = AllByRecursion (IsRowIn columns) (rows_put changes)

-- each row that changes put in a table has a value for each column, in its domain
pub record FitTable (t : BaseTable) (changes : List Change) : Type 0 where
  pub wide : are_wide (length t.columns) (rows_put changes) ≡ true
  pub in_domains : AreRowsPut t.columns changes

-- the conditions are well formed on each row that changes put in a table
abbrev pub AreOnRowsPut : TableKinds → List Kind → List BoundCond → List Change → Type 0
AreOnRowsPut columns parameters conditions changes =
    AllByRecursion (λ row. AllByRecursion (IsOnRow columns parameters row) conditions) (rows_put changes)

-- each row that changes put in a table is in it after all of them
abbrev pub ArePutThere : Table → List Change → Type 0
ArePutThere t changes =
    AllByRecursion (λ row. Any (λ r. r.row ≡ row) (changed_by t changes).rows) (rows_put changes)

-- only new rows
abbrev pub is_insertion : Change → Bool
is_insertion (Insert row) = true
is_insertion (Replace number row) = false
is_insertion (Remove number) = false

abbrev pub are_insertions : List Change → Bool
are_insertions changes = list_all is_insertion changes

-- another row under this number
abbrev pub IsReplacement : ℕ → Change → Type 0
IsReplacement number (Insert row) = ⊥
IsReplacement number (Replace n row) = n ≡ number
IsReplacement number (Remove n) = ⊥

-- another row under each of the numbers
abbrev pub AreReplacements : List ℕ → List Change → Type 0
AreReplacements = AllZip IsReplacement

-- the rows that take the place of others, under their numbers
abbrev pub rows_replaced : List Change → List Numbered
rows_replaced [] = []
rows_replaced (Insert row ∷ changes) = rows_replaced changes
rows_replaced (Replace number row ∷ changes) = record { number = number; row = row } ∷ rows_replaced changes
rows_replaced (Remove number ∷ changes) = rows_replaced changes

abbrev pub rows_replaced_in : Vec Change Global → List Numbered
rows_replaced_in changes = rows_replaced changes.items

abbrev pub changed_in : Changed → List Numbered
changed_in changed = rows_replaced changed.changes.items

pub record Replacements (s : Seen) (u : BoundUpdate) (on : Option ℕ) (changes : List Change) : Type 0 where
  pub numbers : List ℕ
  pub chosen : Chosen s u.target on numbers
  pub all : AreReplacements numbers changes
  pub made : (shown : Shown) → rows_updated shown s u.assignments (base_of u.target) numbers
      ≡ Ok (rows_replaced changes)

-- the removal of the rows under the numbers
pub record Removals (s : Seen) (t : ChangeTarget) (on : Option ℕ) (changes : List Change) : Type 0 where
  pub numbers : List ℕ
  pub chosen : Chosen s t on numbers
  pub all : changes ≡ map Remove numbers

-- ---- the rest, which a change leaves alone

-- In keys other than the lost ones, the values that rows of the table had are still in it. So are the rows that are put in.
pub record KeepsRest (t : BaseTable) (before : Table) (changed : Changed) : Type 0 where
  pub keys : KeepsKeys t.keys changed.lost_keys.items before (changed_by before changed.changes.items)
  pub put : ArePutThere before changed.changes.items

-- Changes can be made in a table whose rows may have so many numbers. The rows that they put in fit it, and there is a number for each new
-- one. Keys other than the lost ones lose no values.
pub record CanBeMade (t : BaseTable) (before : Table) (row_numbers : ℕ) (changed : Changed) : Type 0 where
  pub fit : FitTable t changed.changes.items
  pub numbers : insert_count changed.changes.items ≤ row_numbers + 1 - before.next
  pub keeps : KeepsRest t before changed
