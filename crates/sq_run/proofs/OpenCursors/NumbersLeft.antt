-- A FETCH over numbers comes to the same row by the machine's cursor and by a session's (ISO/IEC
-- 9075:1992, 13.3), where what is left to both is the same but for numbers under which there is no row any
-- more: those are passed for good.
use Rattle.std.proofs.Common.{◌≡◌, ℕ, zero, suc, ◌+◌, ◌<◌, min, not, cond, Bool, true, false, List, [], ◌∷◌, drop, filter, length, Option, Some, None, refl, sym, ap, subst, ◌∙◌, arith}
use Rattle.std.specs.Prelude.{is_some, slice_get}
use Rattle.std.specs.List.{AllByRecursion, position_or_len}
use Rattle.std.specs.Option.{option_and_then}
use Rattle.sq_store.specs.declared.table.Table.{Table}
use Rattle.sq_meaning.specs.Environment.{Row}
use Rattle.sq_meaning.specs.Cursor.{CursorState, at_number, to_next}
use Rattle.sq_session.specs.State.{gone, is_there, left, next_number}
use Rattle.sq_session.specs.declared.cursor.NumbersCursor.{NumbersCursor}

-- ---- the first that is there

module _ (test : ℕ → Bool) where
  abbrev pub first : List ℕ → ℕ
  first = position_or_len test

  -- The next number is the first under which there is a row, and the numbers behind it are the others.
  pub first_is : (xs : List ℕ) → slice_get xs (first xs) ≡ slice_get (filter test xs) 0
  first_is [] = refl
  first_is (x ∷ xs) = by_test (test x) (first_is xs)
    where
      by_test : (b : Bool) → slice_get xs (first xs) ≡ slice_get (filter test xs) 0
          → slice_get (x ∷ xs) (cond (not b) (1 + first xs) 0) ≡ slice_get (cond b (x ∷ filter test xs) (filter test xs)) 0
      by_test true e = refl
      by_test false e = let one : 1 + first xs ≡ suc (first xs) = omega arith in ap (slice_get (x ∷ xs)) one ∙ e

  none_behind : (xs : List ℕ) → drop 0 xs ≡ xs
  none_behind [] = refl
  none_behind (x ∷ xs) = refl

  pub others_are : (xs : List ℕ) → filter test (drop (first xs + 1) xs) ≡ drop 1 (filter test xs)
  others_are [] = refl
  others_are (x ∷ xs) = by_test (test x) (others_are xs)
    where
      by_test : (b : Bool) → filter test (drop (first xs + 1) xs) ≡ drop 1 (filter test xs)
          → filter test (drop (cond (not b) (1 + first xs) 0 + 1) (x ∷ xs)) ≡ drop 1 (cond b (x ∷ filter test xs) (filter test xs))
      by_test true e = let one : 0 + 1 ≡ suc 0 = omega arith in ap (λ n. filter test (drop n (x ∷ xs))) one ∙ ap (filter test) (none_behind xs) ∙ sym (none_behind (filter test xs))
      by_test false e =
          let one : 1 + first xs + 1 ≡ suc (first xs + 1) = omega arith in ap (λ n. filter test (drop n (x ∷ xs))) one ∙ e

-- ---- the machine

module _ (now : ℕ → Option Row) where
  abbrev pub there : ℕ → Bool
  there n = is_some (now n)

  pub next_cursor : (numbers : List ℕ)
      → (to_next now numbers).cursor
      ≡ CursorState.over_numbers (drop (first there numbers + 1) numbers) (slice_get numbers (first there numbers))
  next_cursor [] = refl
  next_cursor (n ∷ numbers) = by_row (now n) (next_cursor numbers)
    where
      by_row : (o : Option Row)
          → (to_next now numbers).cursor
          ≡ CursorState.over_numbers (drop (first there numbers + 1) numbers) (slice_get numbers (first there numbers))
          → (at_number numbers n (to_next now numbers) o).cursor
          ≡ CursorState.over_numbers (drop (cond (not (is_some o)) (1 + first there numbers) 0 + 1) (n ∷ numbers))
          (slice_get (n ∷ numbers) (cond (not (is_some o)) (1 + first there numbers) 0))
      by_row None e =
          let one : 1 + first there numbers + 1 ≡ suc (first there numbers + 1) = omega arith in
          let other : 1 + first there numbers ≡ suc (first there numbers) = omega arith in
          e ∙ (λ i. CursorState.over_numbers (drop (sym one i) (n ∷ numbers)) (slice_get (n ∷ numbers) (sym other i)))
      by_row (Some row) e =
          let one : 0 + 1 ≡ suc 0 = omega arith in
          (λ i. CursorState.over_numbers (sym (none_behind there numbers) i) (Some n))
          ∙ ap (λ k. CursorState.over_numbers (drop k (n ∷ numbers)) (Some n)) (sym one)

  pub next_row : (numbers : List ℕ) → (to_next now numbers).row ≡ option_and_then now (slice_get numbers (first there numbers))
  next_row [] = refl
  next_row (n ∷ numbers) = by_row (now n) refl (next_row numbers)
    where
      by_row : (o : Option Row) → now n ≡ o → (to_next now numbers).row ≡ option_and_then now (slice_get numbers (first there numbers))
          → (at_number numbers n (to_next now numbers) o).row
          ≡ option_and_then now (slice_get (n ∷ numbers) (cond (not (is_some o)) (1 + first there numbers) 0))
      by_row None h e =
          let one : 1 + first there numbers ≡ suc (first there numbers) = omega arith in
          e ∙ ap (λ k. option_and_then now (slice_get (n ∷ numbers) k)) (sym one)
      by_row (Some row) h e = sym h

-- ---- a session's cursor over numbers

none_dropped : {A : Type 0} (n : ℕ) (xs : List A) → xs ≡ [] → drop n xs ≡ []
none_dropped zero [] e = refl
none_dropped (suc n) [] e = refl
none_dropped n (x ∷ xs) e = cc

drop_more : {A : Type 0} (n k : ℕ) (xs : List A) → drop k (drop n xs) ≡ drop (n + k) xs
drop_more {A} n k [] =
    none_dropped k (drop n []) (none_dropped n [] refl) ∙ sym (none_dropped {A = A} (n + k) [] refl)
drop_more zero k (x ∷ xs) = let same : k ≡ 0 + k = omega arith in ap (λ m. drop m (x ∷ xs)) same
drop_more (suc n) k (x ∷ xs) = let same : suc (n + k) ≡ suc n + k = omega arith in drop_more n k xs ∙ ap (λ m. drop m (x ∷ xs)) same

drop_within : {A : Type 0} (xs : List A) (n : ℕ) → drop (min (length xs) n) xs ≡ drop n xs
drop_within {A} [] n = none_dropped {A = A} (min 0 n) [] refl ∙ sym (none_dropped {A = A} n [] refl)
drop_within (x ∷ xs) zero = let none : min (length (x ∷ xs)) 0 ≡ 0 = omega arith in ap (λ m. drop m (x ∷ xs)) none
drop_within (x ∷ xs) (suc n) =
    let one : min (length (x ∷ xs)) (suc n) ≡ suc (min (length xs) n) = omega arith in ap (λ m. drop m (x ∷ xs)) one ∙ drop_within xs n

-- what is left to it after a FETCH
left_after : (t : Table) (c : NumbersCursor) → left (next_number t c) ≡ drop (gone t c + 1) (left c)
left_after t c =
    drop_within c.numbers (c.passed + gone t c + 1) ∙ (let same : c.passed + gone t c + 1 ≡ c.passed + (gone t c + 1) = omega arith in ap (λ n. drop n c.numbers) same)
    ∙ sym (drop_more c.passed (gone t c + 1) c.numbers)

-- ---- both

-- the first under which there is a row now is the same
pub firsts_alike : (t : Table) (now : ℕ → Option Row) → ((n : ℕ) → is_some (now n) ≡ is_there t n) → (xs : List ℕ)
    → first (there now) xs ≡ first (is_there t) xs
firsts_alike t now alike [] = refl
firsts_alike t now alike (x ∷ xs) = (λ i. cond (not (alike x i)) (1 + firsts_alike t now alike xs i) 0)

-- numbers that rows of a table have had: new rows have others
abbrev pub AreBelow : ℕ → List ℕ → Type 0
AreBelow next numbers = AllByRecursion (λ n. n < next) numbers

pub below_dropped : (next k : ℕ) (numbers : List ℕ) → AreBelow next numbers → AreBelow next (drop k numbers)
below_dropped next zero [] h = tt
below_dropped next (suc k) [] h = tt
below_dropped next zero (n ∷ numbers) h = h
below_dropped next (suc k) (n ∷ numbers) h = below_dropped next k numbers h.1

-- The same numbers are left to both cursors, except for those without a row, and both are on the same row.
pub record SameNumbers (t : Table) (c : NumbersCursor) (x : CursorState) : Type 0 where
  pub numbers : List ℕ
  pub is : x ≡ CursorState.over_numbers numbers c.on
  pub same : filter (is_there t) numbers ≡ filter (is_there t) (left c)
  pub below : AreBelow t.next numbers
  pub left_below : AreBelow t.next (left c)

-- FETCH keeps it so, and comes to the row that is under the number that the session's cursor is on then.
pub next_same : (t : Table) (now : ℕ → Option Row) → ((n : ℕ) → is_some (now n) ≡ is_there t n) → (c : NumbersCursor)
    (x : CursorState) (h : SameNumbers t c x)
    → SameNumbers t (next_number t c) (to_next now h.numbers).cursor
    × ((to_next now h.numbers).row ≡ option_and_then now (next_number t c).on)
next_same t now alike c x h = (
  record {
    numbers = drop (first (is_there t) h.numbers + 1) h.numbers;
    is =
        next_cursor now h.numbers
        ∙ (λ i. CursorState.over_numbers (drop (firsts_alike t now alike h.numbers i + 1) h.numbers) (slice_get h.numbers (firsts_alike t now alike h.numbers i)))
        ∙ ap (CursorState.over_numbers (drop (first (is_there t) h.numbers + 1) h.numbers)) on_same;
    same =
        others_are (is_there t) h.numbers ∙ ap (drop 1) h.same ∙ sym (others_are (is_there t) (left c))
        ∙ ap (filter (is_there t)) (sym (left_after t c));
    below = below_dropped t.next (first (is_there t) h.numbers + 1) h.numbers h.below;
    left_below = subst (AreBelow t.next) (sym (left_after t c)) (below_dropped t.next (gone t c + 1) (left c) h.left_below);
  },
  next_row now h.numbers ∙ (λ i. option_and_then now (slice_get h.numbers (firsts_alike t now alike h.numbers i))) ∙ ap (option_and_then now) on_same,
)
  where
    on_same : slice_get h.numbers (first (is_there t) h.numbers) ≡ slice_get (left c) (gone t c)
    on_same = first_is (is_there t) h.numbers ∙ ap (λ xs. slice_get xs 0) h.same ∙ sym (first_is (is_there t) (left c))
