-- What holds of each content that a store may go to, and what keeps it.
use Rattle.std.proofs.Common.{◌≡◌, ℕ, zero, suc, ◌+◌, ◌-◌, ◌<◌, ◌≤◌, true, ◌&&◌, List, [], ◌∷◌, ◌++◌, length, map, filter, not, nat_eq, slice_set, slice_index_or, arith, refl, ap, Vec, get_or, subst, sym, ◌∙◌}
use Rattle.std.specs.List.{list_all}
use Rattle.std.proofs.lemmas.Grind.{common_steps}
use Rattle.std.proofs.lemmas.List.Elements.{All-cons, All-nil}
use Rattle.std.specs.declared.alloc.Global.{Global}
use Rattle.sq_value.specs.Key.{HasColumns}
use Rattle.sq_value.specs.declared.value.Value.{Value}
use Rattle.sq_store.specs.declared.table.Numbered.{Numbered}
use Rattle.sq_store.specs.declared.table.Table.{Table}
use Rattle.sq_store.specs.declared.change.Change.{Change}
use Rattle.sq_store.specs.declared.change.Change.TheVariants.{Insert, Replace, Remove}
use Rattle.sq_store.specs.Change.{insert_count, rows_put}
use Rattle.sq_store.specs.Content.{Content, changed, changed_by, empty, no_rows, table_at}
use Rattle.sq_store.specs.Keys.{Keys, are_keyed, has_columns, has_distinct_keys, has_keys, have_keys, keys_at, keys_of}
use Rattle.sq_store.specs.Rising.{has_rising_rows, all_rising}
use Rattle.sq_store.specs.Sound.{is_sound}
use Rattle.sq_store.specs.laws.Sound.{keyed_of, rises_of}
use Rattle.sq_store.proofs.Rises.{all_rising_at_first, all_rising_set, is_rising_at, is_rising_changed_by, next_changed_by, rows_rise_at}
use Rattle.sq_store.proofs.Search.{put}

-- ---- columns

pub HasColumns_test : (columns : List ℕ) (row : List Value) → has_columns columns row ≡ true → HasColumns row columns
HasColumns_test [] row h = All-nil (λ c. c < length row)
HasColumns_test (c ∷ columns) row h = All-cons (λ c. c < length row) c columns (grind (arith, common_steps)) (HasColumns_test columns row (grind (arith, common_steps)))

have_one : (keys : Keys) (rs : List Numbered) (key : ℕ) → have_keys keys rs ≡ true → key < length keys → list_all (λ r. has_columns (slice_index_or keys key []) r.row) rs ≡ true
have_one keys [] key h lt = refl
have_one keys (r ∷ rs) key h lt = grind (arith, common_steps, have_one keys rs key, one keys key)
  where
    one : (keys : Keys) (key : ℕ) → has_keys keys r.row ≡ true → key < length keys → has_columns (slice_index_or keys key []) r.row ≡ true
    one [] key h lt = absurd (omega arith)
    one (columns ∷ keys) zero h lt = grind (arith, common_steps)
    one (columns ∷ keys) (suc key) h lt = grind (arith, common_steps, one keys key)

pub have_columns : (keys : Keys) (rs : List Numbered) (key : ℕ) (columns : List ℕ) → columns ≡ get_or keys key columns → key < length keys → have_keys keys rs ≡ true → list_all (λ r. has_columns columns r.row) rs ≡ true
have_columns keys rs key columns e lt h =
    let same : slice_index_or keys key [] ≡ columns = default_same keys key [] columns lt ∙ sym e in
    subst (λ (c : List ℕ). list_all (λ r. has_columns c r.row) rs ≡ true) same (have_one keys rs key h lt)
  where
    default_same : (keys : Keys) (key : ℕ) (c d : List ℕ) → key < length keys → get_or keys key c ≡ get_or keys key d
    default_same [] key c d lt = absurd (omega arith)
    default_same (k ∷ keys) zero c d lt = refl
    default_same (k ∷ keys) (suc key) c d lt = default_same keys key c d (omega arith)

-- ---- one table

have_keys-push : (keys : Keys) (rs : List Numbered) (r : Numbered) → have_keys keys rs ≡ true → has_keys keys r.row ≡ true → have_keys keys (rs ++ r ∷ []) ≡ true
have_keys-push keys [] r h k = grind (arith, common_steps)
have_keys-push keys (q ∷ rs) r h k = grind (arith, common_steps, have_keys-push keys rs r)

have_keys-put : (keys : Keys) (rs : List Numbered) (number : ℕ) (row : List Value) → have_keys keys rs ≡ true → has_keys keys row ≡ true → have_keys keys (map (put number row) rs) ≡ true
have_keys-put keys [] number row h k = h
have_keys-put keys (r ∷ rs) number row h k = grind (arith, common_steps, have_keys-put keys rs number row)

have_keys-without : (keys : Keys) (rs : List Numbered) (number : ℕ) → have_keys keys rs ≡ true → have_keys keys (filter (λ r. not (nat_eq r.number number)) rs) ≡ true
have_keys-without keys [] number h = h
have_keys-without keys (r ∷ rs) number h = grind (arith, common_steps, have_keys-without keys rs number)

-- each row keeps the columns of each key
pub have_keys_changed_by : (keys : Keys) (t : Table) (changes : List Change) → have_keys keys t.rows ≡ true → list_all (has_keys keys) (rows_put changes) ≡ true → have_keys keys (changed_by t changes).rows ≡ true
have_keys_changed_by keys t [] h k = h
have_keys_changed_by keys t (Insert row ∷ changes) h k =
    have_keys_changed_by keys (changed t (Insert row)) changes (have_keys-push keys t.rows _ h (grind (arith, common_steps))) (grind (arith, common_steps))
have_keys_changed_by keys t (Replace number row ∷ changes) h k =
    have_keys_changed_by keys (changed t (Replace number row)) changes (have_keys-put keys t.rows number row h (grind (arith, common_steps))) (grind (arith, common_steps))
have_keys_changed_by keys t (Remove number ∷ changes) h k =
    have_keys_changed_by keys (changed t (Remove number)) changes (have_keys-without keys t.rows number h) k

-- ---- all tables

distinct_at_first : (keys : Keys) → has_distinct_keys keys empty ≡ true
distinct_at_first [] = refl
distinct_at_first (columns ∷ keys) = grind (arith, common_steps, distinct_at_first keys)

keyed_at_first : (keys : List Keys) (tables : ℕ) → tables ≡ length keys → are_keyed keys (no_rows tables) ≡ true
keyed_at_first [] zero e = refl
keyed_at_first [] (suc tables) e = absurd (omega arith)
keyed_at_first (keys ∷ rest) zero e = absurd (omega arith)
keyed_at_first (keys ∷ rest) (suc tables) e = grind (arith, common_steps, distinct_at_first keys, keyed_at_first rest tables)

length_keys_of : (tables : List (Vec (Vec ℕ Global) Global)) → length tables ≡ length (keys_of tables)
length_keys_of [] = refl
length_keys_of (t ∷ tables) = ap suc (length_keys_of tables)

-- a store without rows
pub sound_at_first : (row_numbers : ℕ) (tables : List (Vec (Vec ℕ Global) Global)) → is_sound row_numbers (keys_of tables) (no_rows (length tables)) ≡ true
sound_at_first row_numbers tables = grind (arith, common_steps, all_rising_at_first row_numbers (length tables), keyed_at_first (keys_of tables) (length tables) (length_keys_of tables))

pub keyed_length : (keys : List Keys) (ts : Content) → are_keyed keys ts ≡ true → length ts ≡ length keys
keyed_length [] [] h = refl
keyed_length [] (t ∷ ts) h = cc
keyed_length (keys ∷ rest) [] h = cc
keyed_length (keys ∷ rest) (t ∷ ts) h = grind (arith, common_steps, keyed_length rest ts)

-- the tables of a sound content
pub sound_length : (row_numbers : ℕ) (keys : List Keys) (ts : Content) → is_sound row_numbers keys ts ≡ true → length ts ≡ length keys
sound_length row_numbers keys ts h = keyed_length keys ts (keyed_of row_numbers keys ts h)

keyed_at : (keys : List Keys) (ts : Content) (table : ℕ) → are_keyed keys ts ≡ true → table < length ts → (have_keys (keys_at keys table) (table_at ts table).rows && has_distinct_keys (keys_at keys table) (table_at ts table)) ≡ true
keyed_at [] [] table h lt = absurd (omega arith)
keyed_at [] (t ∷ ts) table h lt = cc
keyed_at (keys ∷ rest) [] table h lt = cc
keyed_at (keys ∷ rest) (t ∷ ts) zero h lt = grind (arith, common_steps)
keyed_at (keys ∷ rest) (t ∷ ts) (suc table) h lt = grind (arith, common_steps, keyed_at rest ts table)

-- the rows of a table have the columns of its keys
pub columns_at : (row_numbers : ℕ) (keys : List Keys) (ts : Content) (table : ℕ) → is_sound row_numbers keys ts ≡ true → table < length ts → have_keys (keys_at keys table) (table_at ts table).rows ≡ true
columns_at row_numbers keys ts table h lt = grind (arith, common_steps, keyed_at keys ts table, keyed_of row_numbers keys ts)

pub rises_at : (row_numbers : ℕ) (keys : List Keys) (ts : Content) (table : ℕ) → is_sound row_numbers keys ts ≡ true → has_rising_rows (table_at ts table) ≡ true
rises_at row_numbers keys ts table h = rows_rise_at row_numbers ts table (rises_of row_numbers keys ts h)

pub next_at : (row_numbers : ℕ) (keys : List Keys) (ts : Content) (table : ℕ) → is_sound row_numbers keys ts ≡ true → (table_at ts table).next ≤ row_numbers + 1
next_at row_numbers keys ts table h = grind (arith, common_steps, is_rising_at row_numbers ts table, rises_of row_numbers keys ts)

keyed_set : (keys : List Keys) (ts : Content) (table : ℕ) (t : Table) → are_keyed keys ts ≡ true → have_keys (keys_at keys table) t.rows ≡ true → has_distinct_keys (keys_at keys table) t ≡ true → are_keyed keys (slice_set ts table t) ≡ true
keyed_set [] [] table t h k d = h
keyed_set [] (u ∷ ts) table t h k d = cc
keyed_set (keys ∷ rest) [] table t h k d = h
keyed_set (keys ∷ rest) (u ∷ ts) zero t h k d = grind (arith, common_steps)
keyed_set (keys ∷ rest) (u ∷ ts) (suc table) t h k d = grind (arith, common_steps, keyed_set rest ts table t)

-- changes of one table
pub sound_changed : (row_numbers : ℕ) (keys : List Keys) (ts : Content) (table : ℕ) (changes : List Change) → is_sound row_numbers keys ts ≡ true → table < length ts
    → insert_count changes ≤ row_numbers + 1 - (table_at ts table).next
    → list_all (has_keys (keys_at keys table)) (rows_put changes) ≡ true → has_distinct_keys (keys_at keys table) (changed_by (table_at ts table) changes) ≡ true
    → is_sound row_numbers keys (slice_set ts table (changed_by (table_at ts table) changes)) ≡ true
sound_changed row_numbers keys ts table changes h lt fits columns distinct =
    let t = table_at ts table in
    let low : t.next ≤ row_numbers + 1 = next_at row_numbers keys ts table h in
    let next : (changed_by t changes).next ≤ row_numbers + 1 = omega (arith, next_changed_by t changes) in
    let rises : all_rising row_numbers (slice_set ts table (changed_by t changes)) ≡ true
    = all_rising_set row_numbers ts table (changed_by t changes) (rises_of row_numbers keys ts h) (is_rising_changed_by row_numbers t changes (is_rising_at row_numbers ts table (rises_of row_numbers keys ts h)) next) in
    let keyed : are_keyed keys (slice_set ts table (changed_by t changes)) ≡ true
    = keyed_set keys ts table (changed_by t changes) (keyed_of row_numbers keys ts h) (have_keys_changed_by (keys_at keys table) t changes (columns_at row_numbers keys ts table h lt) columns) distinct in
    grind (arith, common_steps)
