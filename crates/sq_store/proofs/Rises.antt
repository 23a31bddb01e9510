-- Changes keep the numbers rising.
use Rattle.std.proofs.Common.{◌≡◌, ℕ, zero, suc, ◌+◌, ◌≤◌, true, not, nat_eq, filter, map, List, [], ◌∷◌, ◌++◌, slice_set, arith, refl}
use Rattle.std.proofs.lemmas.Grind.{common_steps}
use Rattle.sq_value.specs.declared.value.Value.{Value}
use Rattle.sq_store.specs.declared.table.Numbered.{Numbered}
use Rattle.sq_store.specs.declared.table.Table.{Table}
use Rattle.sq_store.specs.declared.change.Change.{Change}
use Rattle.sq_store.specs.declared.change.Change.TheVariants.{Insert, Replace, Remove}
use Rattle.sq_store.specs.Change.{insert_count}
use Rattle.sq_store.specs.Content.{changed, changed_by, inserted, no_rows, removed, replaced, table_at}
use Rattle.sq_store.proofs.Search.{put}
use Rattle.sq_store.specs.Rising.{rising_between, has_rising_rows, is_rising, all_rising}

-- only a new row takes a number
pub next_changed_by : (t : Table) (changes : List Change) → (changed_by t changes).next ≡ t.next + insert_count changes
next_changed_by t [] = omega arith
next_changed_by t (Insert row ∷ changes) = grind (arith, common_steps, next_changed_by (inserted t row) changes)
next_changed_by t (Replace number row ∷ changes) = grind (arith, common_steps, next_changed_by (replaced t number row) changes)
next_changed_by t (Remove number ∷ changes) = grind (arith, common_steps, next_changed_by (removed t number) changes)

pub rising_push : (low : ℕ) (rs : List Numbered) (next : ℕ) (row : List Value) → rising_between low rs next ≡ true → rising_between low (rs ++ record { number = next; row = row } ∷ []) (next + 1) ≡ true
rising_push low [] next row h = grind (arith, common_steps)
rising_push low (r ∷ rs) next row h = grind (arith, common_steps, rising_push (r.number + 1) rs next row)

rising_lower : (low lower : ℕ) (rs : List Numbered) (next : ℕ) → lower ≤ low → rising_between low rs next ≡ true → rising_between lower rs next ≡ true
rising_lower low lower [] next le h = grind (arith, common_steps)
rising_lower low lower (r ∷ rs) next le h = grind (arith, common_steps)

pub rising_put : (low : ℕ) (rs : List Numbered) (next number : ℕ) (row : List Value) → rising_between low rs next ≡ true → rising_between low (map (put number row) rs) next ≡ true
rising_put low [] next number row h = h
rising_put low (r ∷ rs) next number row h = grind (arith, common_steps, rising_put (r.number + 1) rs next number row)

pub rising_without : (low : ℕ) (rs : List Numbered) (next number : ℕ) → rising_between low rs next ≡ true → rising_between low (filter (λ r. not (nat_eq r.number number)) rs) next ≡ true
rising_without low [] next number h = h
rising_without low (r ∷ rs) next number h =
    let rest : rising_between (r.number + 1) (filter (λ r. not (nat_eq r.number number)) rs) next ≡ true = rising_without (r.number + 1) rs next number (grind (arith, common_steps)) in
    grind (arith, common_steps, rising_lower (r.number + 1) low (filter (λ r. not (nat_eq r.number number)) rs) next)

-- changes keep the numbers rising
pub rising_changed : (t : Table) (change : Change) → has_rising_rows t ≡ true → has_rising_rows (changed t change) ≡ true
rising_changed t (Insert row) h = rising_push 1 t.rows t.next row h
rising_changed t (Replace number row) h = rising_put 1 t.rows t.next number row h
rising_changed t (Remove number) h = rising_without 1 t.rows t.next number h

pub rising_changed_by : (t : Table) (changes : List Change) → has_rising_rows t ≡ true → has_rising_rows (changed_by t changes) ≡ true
rising_changed_by t [] h = h
rising_changed_by t (change ∷ changes) h = rising_changed_by (changed t change) changes (rising_changed t change h)

pub is_rising_changed_by : (row_numbers : ℕ) (t : Table) (changes : List Change) → is_rising row_numbers t ≡ true → (changed_by t changes).next ≤ row_numbers + 1 → is_rising row_numbers (changed_by t changes) ≡ true
is_rising_changed_by row_numbers t changes h le = grind (arith, common_steps, rising_changed_by t changes)

pub all_rising_set : (row_numbers : ℕ) (ts : List Table) (i : ℕ) (t : Table) → all_rising row_numbers ts ≡ true → is_rising row_numbers t ≡ true → all_rising row_numbers (slice_set ts i t) ≡ true
all_rising_set row_numbers [] i t h k = h
all_rising_set row_numbers (u ∷ ts) zero t h k = grind (arith, common_steps)
all_rising_set row_numbers (u ∷ ts) (suc i) t h k = grind (arith, common_steps, all_rising_set row_numbers ts i t)

-- each table of a content has rising numbers
pub is_rising_at : (row_numbers : ℕ) (ts : List Table) (i : ℕ) → all_rising row_numbers ts ≡ true → is_rising row_numbers (table_at ts i) ≡ true
is_rising_at row_numbers [] i h = grind (arith, common_steps)
is_rising_at row_numbers (u ∷ ts) zero h = grind (arith, common_steps)
is_rising_at row_numbers (u ∷ ts) (suc i) h = grind (arith, common_steps, is_rising_at row_numbers ts i)

-- at first there are no rows
pub all_rising_at_first : (row_numbers tables : ℕ) → all_rising row_numbers (no_rows tables) ≡ true
all_rising_at_first row_numbers zero = refl
all_rising_at_first row_numbers (suc tables) = grind (arith, common_steps, all_rising_at_first row_numbers tables)

-- what the law says of one table
pub rows_rise_at : (row_numbers : ℕ) (ts : List Table) (i : ℕ) → all_rising row_numbers ts ≡ true → has_rising_rows (table_at ts i) ≡ true
rows_rise_at row_numbers ts i h = grind (arith, common_steps, is_rising_at row_numbers ts i)

pub next_at : (row_numbers : ℕ) (ts : List Table) (i : ℕ) → all_rising row_numbers ts ≡ true → (table_at ts i).next ≤ row_numbers + 1
next_at row_numbers ts i h = grind (arith, common_steps, is_rising_at row_numbers ts i)
