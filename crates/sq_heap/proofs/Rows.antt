-- Slots and the table that they stand for.
use Rattle.std.proofs.Common.{◌≡◌, ℕ, zero, suc, ◌+◌, ◌-◌, ◌<◌, ◌≤◌, true, not, nat_eq, filter, find, map, List, [], ◌∷◌, ◌++◌, length, drop, get_or, slice_set, Some, None, is_some, arith, refl, sym, ap, ◌∙◌}
use Rattle.std.proofs.lemmas.Grind.{common_steps}
use Rattle.sq_value.specs.declared.value.Value.{Value}
use Rattle.sq_store.specs.declared.table.Numbered.{Numbered}
use Rattle.sq_store.specs.Content.{first_among, inserted, removed, replaced, row_at}
use Rattle.sq_store.specs.Rising.{rising_between}
use Rattle.sq_store.proofs.Search.{put}
use Rattle.sq_heap.specs.Slots.{Slot, rows_from, slot_at, table_of}

-- numbers rise
pub rising_rows : (number : ℕ) (ss : List Slot) (next : ℕ) → next ≡ number + length ss → rising_between number (rows_from number ss) next ≡ true
rising_rows number [] next e = grind (arith, common_steps)
rising_rows number (None ∷ ss) next e = lower number (number + 1) (rows_from (number + 1) ss) next (omega arith) (rising_rows (number + 1) ss next (omega arith))
  where
    lower : (low high : ℕ) (rs : List Numbered) (next : ℕ) → low ≤ high → rising_between high rs next ≡ true → rising_between low rs next ≡ true
    lower low high [] next le h = grind (arith, common_steps)
    lower low high (r ∷ rs) next le h = grind (arith, common_steps)
rising_rows number (Some row ∷ ss) next e = grind (arith, common_steps, rising_rows (number + 1) ss next)

-- a new slot
pub rows_push : (number : ℕ) (ss : List Slot) (row : List Value) (n : ℕ) → n ≡ number + length ss → rows_from number (ss ++ Some row ∷ []) ≡ rows_from number ss ++ record { number = n; row = row } ∷ []
rows_push number [] row n e = grind (arith, common_steps)
rows_push number (None ∷ ss) row n e = rows_push (number + 1) ss row n (omega arith)
rows_push number (Some old ∷ ss) row n e = grind (arith, common_steps, rows_push (number + 1) ss row n)

none_from : (low : ℕ) (ss : List Slot) (number : ℕ) (row : List Value) → number < low → map (put number row) (rows_from low ss) ≡ rows_from low ss
none_from low [] number row lt = refl
none_from low (None ∷ ss) number row lt = none_from (low + 1) ss number row (omega arith)
none_from low (Some old ∷ ss) number row lt = grind (arith, common_steps, none_from (low + 1) ss number row)

-- another row in a slot that has one
pub rows_replace : (low : ℕ) (ss : List Slot) (i number : ℕ) (row : List Value) → number ≡ low + i → is_some (slot_at ss i) ≡ true → rows_from low (slice_set ss i (Some row)) ≡ map (put number row) (rows_from low ss)
rows_replace low [] i number row e h = cc
rows_replace low (None ∷ ss) zero number row e h = cc
rows_replace low (Some first ∷ ss) zero number row e h = grind (arith, common_steps, none_from (low + 1) ss number row)
rows_replace low (None ∷ ss) (suc i) number row e h = rows_replace (low + 1) ss i number row (omega arith) h
rows_replace low (Some first ∷ ss) (suc i) number row e h = grind (arith, common_steps, rows_replace (low + 1) ss i number row)

kept_from : (low : ℕ) (ss : List Slot) (number : ℕ) → number < low → filter (λ r. not (nat_eq r.number number)) (rows_from low ss) ≡ rows_from low ss
kept_from low [] number lt = refl
kept_from low (None ∷ ss) number lt = kept_from (low + 1) ss number (omega arith)
kept_from low (Some old ∷ ss) number lt = grind (arith, common_steps, kept_from (low + 1) ss number)

-- a slot that is emptied
pub rows_remove : (low : ℕ) (ss : List Slot) (i number : ℕ) → number ≡ low + i → rows_from low (slice_set ss i None) ≡ filter (λ r. not (nat_eq r.number number)) (rows_from low ss)
rows_remove low [] i number e = refl
rows_remove low (None ∷ ss) zero number e = sym (kept_from (low + 1) ss number (omega arith))
rows_remove low (Some first ∷ ss) zero number e = grind (arith, common_steps, kept_from (low + 1) ss number)
rows_remove low (None ∷ ss) (suc i) number e = rows_remove (low + 1) ss i number (omega arith)
rows_remove low (Some first ∷ ss) (suc i) number e = grind (arith, common_steps, rows_remove (low + 1) ss i number)

-- where no row has a number, changes of that number do nothing
pub put_missing : (rs : List Numbered) (number : ℕ) (row : List Value) → find (λ r. nat_eq r.number number) rs ≡ None → map (put number row) rs ≡ rs
put_missing [] number row h = refl
put_missing (r ∷ rs) number row h = grind (arith, common_steps, put_missing rs number row)

pub filter_missing : (rs : List Numbered) (number : ℕ) → find (λ r. nat_eq r.number number) rs ≡ None → filter (λ r. not (nat_eq r.number number)) rs ≡ rs
filter_missing [] number h = refl
filter_missing (r ∷ rs) number h = grind (arith, common_steps, filter_missing rs number)

-- the row under a number is that of its slot
none_at : (low : ℕ) (ss : List Slot) (number : ℕ) → number < low → find (λ r. nat_eq r.number number) (rows_from low ss) ≡ None
none_at low [] number lt = refl
none_at low (None ∷ ss) number lt = none_at (low + 1) ss number (omega arith)
none_at low (Some row ∷ ss) number lt = grind (arith, common_steps, none_at (low + 1) ss number)

pub row_there : (low : ℕ) (ss : List Slot) (i number : ℕ) (row : List Value) → number ≡ low + i → slot_at ss i ≡ Some row → find (λ r. nat_eq r.number number) (rows_from low ss) ≡ Some (record { number = number; row = row })
row_there low [] i number row e h = cc
row_there low (None ∷ ss) zero number row e h = cc
row_there low (Some first ∷ ss) zero number row e h = grind (arith, common_steps)
row_there low (None ∷ ss) (suc i) number row e h = row_there (low + 1) ss i number row (omega arith) h
row_there low (Some first ∷ ss) (suc i) number row e h = grind (arith, common_steps, row_there (low + 1) ss i number row)

pub row_missing : (low : ℕ) (ss : List Slot) (i number : ℕ) → number ≡ low + i → slot_at ss i ≡ None → find (λ r. nat_eq r.number number) (rows_from low ss) ≡ None
row_missing low [] i number e h = refl
row_missing low (None ∷ ss) zero number e h = none_at (low + 1) ss number (omega arith)
row_missing low (Some first ∷ ss) zero number e h = cc
row_missing low (None ∷ ss) (suc i) number e h = row_missing (low + 1) ss i number (omega arith) h
row_missing low (Some first ∷ ss) (suc i) number e h = grind (arith, common_steps, row_missing (low + 1) ss i number)

pub row_missing_low : (ss : List Slot) (number : ℕ) → number < 1 → find (λ r. nat_eq r.number number) (rows_from 1 ss) ≡ None
row_missing_low ss number lt = none_at 1 ss number lt

-- ---- the first row at or after a number

-- slots below the number don't matter
pub first_past : (low : ℕ) (ss : List Slot) (i number : ℕ) → low + i ≤ number → first_among (rows_from low ss) number ≡ first_among (rows_from (low + i) (drop i ss)) number
first_past low ss zero number le = let same : low ≡ low + 0 = omega arith in ap (λ n. first_among (rows_from n ss) number) same
first_past low [] (suc i) number le = refl
first_past low (None ∷ ss) (suc i) number le =
    let same : low + 1 + i ≡ low + suc i = omega arith in
    first_past (low + 1) ss i number (omega arith) ∙ ap (λ n. first_among (rows_from n (drop i ss)) number) same
first_past low (Some row ∷ ss) (suc i) number le =
    let same : low + 1 + i ≡ low + suc i = omega arith in
    let rest : first_among (rows_from (low + 1) ss) number ≡ first_among (rows_from (low + suc i) (drop i ss)) number
    = first_past (low + 1) ss i number (omega arith) ∙ ap (λ n. first_among (rows_from n (drop i ss)) number) same in
    grind (arith, common_steps)

-- from the slot of the number on
pub first_start : (ss : List Slot) (i number : ℕ) → i ≡ number - 1 → first_among (rows_from 1 ss) number ≡ first_among (rows_from (1 + i) (drop i ss)) number
first_start ss zero number e = refl
first_start ss (suc i) number e = first_past 1 ss (suc i) number (omega arith)

-- ---- one slot

pub slot_is : (ss : List Slot) (i : ℕ) (s : Slot) → i < length ss → s ≡ get_or ss i s → slot_at ss i ≡ s
slot_is [] i s lt e = absurd (omega arith)
slot_is (t ∷ ss) zero s lt e = sym e
slot_is (t ∷ ss) (suc i) s lt e = slot_is ss i s (omega arith) e

pub slot_past : (ss : List Slot) (i : ℕ) → length ss ≤ i → slot_at ss i ≡ None
slot_past [] i le = refl
slot_past (t ∷ ss) zero le = absurd (omega arith)
slot_past (t ∷ ss) (suc i) le = slot_past ss i (omega arith)

-- ---- the table after a change of one slot

length_of_set : (ss : List Slot) (i : ℕ) (s : Slot) → length (slice_set ss i s) ≡ length ss
length_of_set [] i s = refl
length_of_set (t ∷ ss) zero s = refl
length_of_set (t ∷ ss) (suc i) s = ap suc (length_of_set ss i s)

length_of_push : (ss : List Slot) (s : Slot) → length (ss ++ s ∷ []) ≡ length ss + 1
length_of_push [] s = refl
length_of_push (t ∷ ss) s = let rest : length (ss ++ s ∷ []) ≡ length ss + 1 = length_of_push ss s in omega arith

pub table_push : (ss : List Slot) (row : List Value) → table_of (ss ++ Some row ∷ []) ≡ inserted (table_of ss) row
table_push ss row =
    let rows : rows_from 1 (ss ++ Some row ∷ []) ≡ rows_from 1 ss ++ record { number = length ss + 1; row = row } ∷ [] = rows_push 1 ss row (length ss + 1) (omega arith) in
    λ i. record { rows = rows i; next = length_of_push ss (Some row) i + 1 }

pub table_replace : (ss : List Slot) (i number : ℕ) (row : List Value) → number ≡ 1 + i → is_some (slot_at ss i) ≡ true → table_of (slice_set ss i (Some row)) ≡ replaced (table_of ss) number row
table_replace ss i number row e h = λ j. record { rows = rows_replace 1 ss i number row e h j; next = length_of_set ss i (Some row) j + 1 }

pub table_remove : (ss : List Slot) (i number : ℕ) → number ≡ 1 + i → table_of (slice_set ss i None) ≡ removed (table_of ss) number
table_remove ss i number e = λ j. record { rows = rows_remove 1 ss i number e j; next = length_of_set ss i None j + 1 }

pub table_replace_missing : (ss : List Slot) (number : ℕ) (row : List Value) → row_at (table_of ss) number ≡ None → table_of ss ≡ replaced (table_of ss) number row
table_replace_missing ss number row h = λ j. record { rows = sym (put_missing (rows_from 1 ss) number row h) j; next = length ss + 1 }

pub table_remove_missing : (ss : List Slot) (number : ℕ) → row_at (table_of ss) number ≡ None → table_of ss ≡ removed (table_of ss) number
table_remove_missing ss number h = λ j. record { rows = sym (filter_missing (rows_from 1 ss) number h) j; next = length ss + 1 }
