-- The place that a binary search over rising numbers answers.
use Rattle.std.proofs.Common.{◌≡◌, ℕ, zero, suc, ◌+◌, ◌<◌, ◌≤◌, true, false, nat_eq, nat_lt, find, map, cond, slice_set, List, [], ◌∷◌, length, slice_index_or, slice_get, arith, refl, sym, ◌∙◌}
use Rattle.std.proofs.Common.{Option, Some, None}
use Rattle.std.proofs.lemmas.Option.{slice_get-get_or, slice_get_past}
use Rattle.std.specs.List.Sorted.{IsPartitionPoint, IsPartitionedBy}
use Rattle.std.proofs.lemmas.Grind.{common_steps}
use Rattle.sq_value.specs.declared.value.Value.{Value}
use Rattle.sq_store.specs.declared.table.Numbered.{Numbered}
use Rattle.sq_store.specs.Content.{first_among}
use Rattle.sq_store.specs.Rising.{rising_between}

-- a row at or after another one has no lower number
rising_at : (low : ℕ) (rs : List Numbered) (next i : ℕ) (d : Numbered) → rising_between low rs next ≡ true → i < length rs → low ≤ (slice_index_or rs i d).number
rising_at low [] next i d h lt = absurd (omega arith)
rising_at low (r ∷ rs) next zero d h lt = grind (arith, common_steps)
rising_at low (r ∷ rs) next (suc i) d h lt = grind (arith, common_steps, rising_at (r.number + 1) rs next i d)

rising_order : (low : ℕ) (rs : List Numbered) (next i j : ℕ) (d : Numbered) → rising_between low rs next ≡ true → i ≤ j → j < length rs → (slice_index_or rs i d).number ≤ (slice_index_or rs j d).number
rising_order low [] next i j d h le lt = absurd (omega arith)
rising_order low (r ∷ rs) next zero zero d h le lt = omega arith
rising_order low (r ∷ rs) next zero (suc j) d h le lt = grind (arith, common_steps, rising_at (r.number + 1) rs next j d)
rising_order low (r ∷ rs) next (suc i) zero d h le lt = absurd (omega arith)
rising_order low (r ∷ rs) next (suc i) (suc j) d h le lt = grind (arith, common_steps, rising_order (r.number + 1) rs next i j d)

-- no row below a number comes after one that isn't
pub rising_partitioned : (rs : List Numbered) (next number : ℕ) → rising_between 1 rs next ≡ true → IsPartitionedBy (λ r. nat_lt r.number number) rs
rising_partitioned rs next number h i j d le lt below = grind (arith, common_steps, rising_order 1 rs next i j d h le lt)

-- where all rows before a place are below a number, and none from there on, the row there is the first
pub find_at_point : (number : ℕ) (rs : List Numbered) (i : ℕ) → i ≤ length rs → IsPartitionPoint (λ r. nat_lt r.number number ≡ true) (λ r. nat_lt r.number number ≡ false) rs i → first_among rs number ≡ slice_get rs i
find_at_point number [] i le point = grind (arith, common_steps)
find_at_point number (r ∷ rs) zero le point = let here : nat_lt r.number number ≡ false = point.1 0 r (omega arith) (omega arith) in grind (arith, common_steps)
find_at_point number (r ∷ rs) (suc i) le point =
    let here : nat_lt r.number number ≡ true = point.0 0 r (omega arith) (omega arith) in
    let later : first_among rs number ≡ slice_get rs i = find_at_point number rs i (omega arith)
    (λ k d low high. point.0 (suc k) d (omega arith) (omega arith), λ k d low high. point.1 (suc k) d (omega arith) (omega arith)) in
    grind (arith, common_steps)

-- ---- the row under a number

-- a row if it has a number
abbrev pub numbered : ℕ → Option Numbered → Option Numbered
numbered number None = None
numbered number (Some r) = cond (nat_eq r.number number) (Some r) None

-- no row has a number below all
none_below : (low : ℕ) (rs : List Numbered) (next number : ℕ) → rising_between low rs next ≡ true → number < low → find (λ r. nat_eq r.number number) rs ≡ None
none_below low [] next number h lt = refl
none_below low (r ∷ rs) next number h lt = grind (arith, common_steps, none_below (r.number + 1) rs next number)

-- the row under a number is the first at or after it, if that has the number
pub row_is_first : (low : ℕ) (rs : List Numbered) (next number : ℕ) → rising_between low rs next ≡ true → find (λ r. nat_eq r.number number) rs ≡ numbered number (first_among rs number)
row_is_first low [] next number h = refl
row_is_first low (r ∷ rs) next number h = grind (arith, common_steps, row_is_first (r.number + 1) rs next number, none_below (r.number + 1) rs next number)

pub same_row : (r : Numbered) (number : ℕ) → r.number ≡ number → r ≡ record { number = number; row = r.row }
same_row r number e = λ i. record { number = e i; row = r.row }

-- ---- another row under a number

abbrev pub put : ℕ → List Value → Numbered → Numbered
put number row r = cond (nat_eq r.number number) (record { number = number; row = row }) r

none_put : (low : ℕ) (rs : List Numbered) (next number : ℕ) (row : List Value) → rising_between low rs next ≡ true → number < low → map (put number row) rs ≡ rs
none_put low [] next number row h lt = refl
none_put low (r ∷ rs) next number row h lt = grind (arith, common_steps, none_put (r.number + 1) rs next number row)

-- where a row has the number, it alone changes
pub put_at : (low : ℕ) (rs : List Numbered) (next number : ℕ) (row : List Value) (i : ℕ) (d : Numbered) → rising_between low rs next ≡ true → i < length rs → (slice_index_or rs i d).number ≡ number
    → map (put number row) rs ≡ slice_set rs i (record { number = number; row = row })
put_at low [] next number row i d h lt e = absurd (omega arith)
put_at low (r ∷ rs) next number row zero d h lt e = grind (arith, common_steps, none_put (r.number + 1) rs next number row)
put_at low (r ∷ rs) next number row (suc i) d h lt e =
    let later : r.number + 1 ≤ (slice_index_or rs i d).number = rising_at (r.number + 1) rs next i d (grind (arith, common_steps)) (omega arith) in
    grind (arith, common_steps, put_at (r.number + 1) rs next number row i d)

-- where the first row at or after the number has another one, nothing changes
put_none : (rs : List Numbered) (number : ℕ) (row : List Value) → first_among rs number ≡ None → map (put number row) rs ≡ rs
put_none [] number row e = refl
put_none (r ∷ rs) number row e = grind (arith, common_steps, put_none rs number row)

put_other : (low : ℕ) (rs : List Numbered) (next number : ℕ) (row : List Value) (f : Numbered) → rising_between low rs next ≡ true → first_among rs number ≡ Some f
    → nat_eq f.number number ≡ false → map (put number row) rs ≡ rs
put_other low [] next number row f h e other = refl
put_other low (r ∷ rs) next number row f h e other = grind (arith, common_steps, put_other (r.number + 1) rs next number row f, none_put (r.number + 1) rs next number row)

pub put_past : (rs : List Numbered) (number : ℕ) (row : List Value) (i : ℕ) → slice_get rs i ≡ first_among rs number → length rs ≤ i → map (put number row) rs ≡ rs
put_past rs number row i e past = put_none rs number row (sym e ∙ slice_get_past rs i past)

pub put_nowhere : (low : ℕ) (rs : List Numbered) (next number : ℕ) (row : List Value) (i : ℕ) (d : Numbered) → rising_between low rs next ≡ true → slice_get rs i ≡ first_among rs number
    → i < length rs → nat_eq (slice_index_or rs i d).number number ≡ false → map (put number row) rs ≡ rs
put_nowhere low rs next number row i d h e lt other = put_other low rs next number row (slice_index_or rs i d) h (sym e ∙ slice_get-get_or rs i d lt) other
