-- A walk over a table by rising numbers.
use Rattle.std.proofs.Common.{◌≡◌, ℕ, ◌+◌, ◌<◌, ◌≤◌, Bool, true, false, nat_eq, nat_le, nat_lt, List, [], ◌∷◌, length, arith, refl, Some, None, find, filter, subst, ap}
use Rattle.std.specs.Option.{option_map}
use Rattle.std.proofs.lemmas.Grind.{common_steps}
use Rattle.sq_store.specs.declared.table.Numbered.{Numbered}
use Rattle.sq_store.specs.Content.{Content, first_from, table_at}
use Rattle.sq_store.specs.Rising.{rising_between, all_rising}
use Rattle.sq_session.specs.Fetch.{row_on}
use Rattle.sq_session.specs.Walk.{rows_between, rows_from}
use Rattle.sq_store.proofs.Rises.{rows_rise_at, next_at}
use Rattle.sq_store.proofs.Walk.{rows_from_none, walked}

-- From a number below all others on, there are all rows.
pub rows_from_low : (low number : ℕ) (rs : List Numbered) (next : ℕ) → rising_between low rs next ≡ true → number ≤ low → rows_from number rs ≡ rs
rows_from_low low number [] next h le = refl
rows_from_low low number (r ∷ rs) next h le = grind (arith, common_steps, rows_from_low (r.number + 1) number rs next)

-- what is found is the row at hand, or is found among the others
found_here : (number : ℕ) (r f : Numbered) (rs : List Numbered) → nat_le number r.number ≡ true → find (λ x. nat_le number x.number) (r ∷ rs) ≡ Some f → r ≡ f
found_here number r f rs e h = let k : Some r ≡ Some f = rw e at h in cc

found_later : (number : ℕ) (r f : Numbered) (rs : List Numbered) → nat_le number r.number ≡ false → find (λ x. nat_le number x.number) (r ∷ rs) ≡ Some f → find (λ x. nat_le number x.number) rs ≡ Some f
found_later number r f rs e h = rw e at h

found_by : (number : ℕ) (r f : Numbered) (rs : List Numbered) (P : Type 0) → find (λ x. nat_le number x.number) (r ∷ rs) ≡ Some f
    → (nat_le number r.number ≡ true → r ≡ f → P) → (nat_le number r.number ≡ false → find (λ x. nat_le number x.number) rs ≡ Some f → P) → P
found_by number r f rs P e here later = by_test (nat_le number r.number) refl
  where
    by_test : (b : Bool) → nat_le number r.number ≡ b → P
    by_test true t = here t (found_here number r f rs t e)
    by_test false t = later t (found_later number r f rs t e)

found_from : (number : ℕ) (rs : List Numbered) (f : Numbered) → find (λ r. nat_le number r.number) rs ≡ Some f → number ≤ f.number
found_from number [] f e = cc
found_from number (r ∷ rs) f e = found_by number r f rs (number ≤ f.number) e
    (λ t q. rw (← q) (grind (arith, common_steps)))
    (λ t k. found_from number rs f k)

found_least : (low number : ℕ) (rs : List Numbered) (next : ℕ) (f : Numbered) → rising_between low rs next ≡ true → find (λ r. nat_le number r.number) rs ≡ Some f → low ≤ f.number
found_least low number [] next f h e = cc
found_least low number (r ∷ rs) next f h e = found_by number r f rs (low ≤ f.number) e
    (λ t q. rw (← q) (grind (arith, common_steps)))
    (λ t k. let above : r.number + 1 ≤ f.number = found_least (r.number + 1) number rs next f (grind (arith, common_steps)) k in grind (arith, common_steps))

-- what is found by a number or more is found by its own number
row_by : (number : ℕ) (rs : List Numbered) (f : Numbered) → find (λ r. nat_le number r.number) rs ≡ Some f → find (λ r. nat_eq r.number f.number) rs ≡ Some f
row_by number [] f e = cc
row_by number (r ∷ rs) f e = found_by number r f rs (find (λ x. nat_eq x.number f.number) (r ∷ rs) ≡ Some f) e
    (λ t q. let P : Numbered → Type 0 = λ g. find (λ x. nat_eq x.number g.number) (r ∷ rs) ≡ Some g in subst P q (grind (arith, common_steps)))
    (λ t k. let ih : find (λ x. nat_eq x.number f.number) rs ≡ Some f = row_by number rs f k in
    let le : number ≤ f.number = found_from number rs f k in grind (arith, common_steps))

rising_length : (low : ℕ) (rs : List Numbered) (next : ℕ) → rising_between low rs next ≡ true → low + length rs ≤ next
rising_length low [] next h = grind (arith, common_steps)
rising_length low (r ∷ rs) next h = grind (arith, common_steps, rising_length (r.number + 1) rs next)

fewer_from : (number : ℕ) (rs : List Numbered) → length (rows_from number rs) ≤ length rs
fewer_from number [] = omega arith
fewer_from number (r ∷ rs) = grind (arith, common_steps, fewer_from number rs)

-- there are at most as many rows as row numbers
pub rows_counted : (row_numbers : ℕ) (content : Content) (table number : ℕ) → all_rising row_numbers content ≡ true → length (rows_from number (table_at content table).rows) ≤ row_numbers
rows_counted row_numbers content table number h =
    let t = table_at content table in
    let all : 1 + length t.rows ≤ t.next = rising_length 1 t.rows t.next (rows_rise_at row_numbers content table h) in
    let next = next_at row_numbers content table h in
    omega (arith, all, next, fewer_from number t.rows)

-- what is found from a number is the row under its number
pub found_row : (content : Content) (table number : ℕ) (f : Numbered) → first_from (table_at content table) number ≡ Some f → row_on (table_at content table) (Some f.number) ≡ Some f.row
found_row content table number f e = ap (λ o. option_map (λ (r : Numbered). r.row) o) (row_by number (table_at content table).rows f e)

-- numbers begin at 1
pub found_positive : (row_numbers : ℕ) (content : Content) (table number : ℕ) (f : Numbered) → all_rising row_numbers content ≡ true → first_from (table_at content table) number ≡ Some f → 1 ≤ f.number
found_positive row_numbers content table number f h e =
    let t = table_at content table in found_least 1 number t.rows t.next f (rows_rise_at row_numbers content table h) e

-- ---- before a mark

none_before : (number mark : ℕ) (rs : List Numbered) → mark ≤ number → rows_between number mark rs ≡ []
none_before number mark [] le = refl
none_before number mark (r ∷ rs) le = grind (arith, common_steps, none_before number mark rs)

-- the row found from a number is the first of those, and the others come after it
pub between_next : (row_numbers : ℕ) (content : Content) (table number mark : ℕ) (f : Numbered) → all_rising row_numbers content ≡ true → first_from (table_at content table) number ≡ Some f → f.number < mark
    → rows_between number mark (table_at content table).rows ≡ f ∷ rows_between (f.number + 1) mark (table_at content table).rows
between_next row_numbers content table number mark f h e lt =
    let next = walked row_numbers content table number f h e in
    let below : nat_lt f.number mark ≡ true = grind (arith, common_steps) in
    rw (next, below) refl

-- Where the row found is not before the mark, there are no rows before it.
pub between_past : (row_numbers : ℕ) (content : Content) (table number mark : ℕ) (f : Numbered) → all_rising row_numbers content ≡ true → first_from (table_at content table) number ≡ Some f → mark ≤ f.number
    → rows_between number mark (table_at content table).rows ≡ []
between_past row_numbers content table number mark f h e le =
    let next = walked row_numbers content table number f h e in
    let beyond : nat_lt f.number mark ≡ false = grind (arith, common_steps) in
    let others : rows_between (f.number + 1) mark (table_at content table).rows ≡ [] = none_before (f.number + 1) mark (table_at content table).rows (omega (arith, le)) in
    rw (next, beyond) others

pub between_end : (content : Content) (table number mark : ℕ) → first_from (table_at content table) number ≡ None → rows_between number mark (table_at content table).rows ≡ []
between_end content table number mark e = ap (λ rows. filter (λ (r : Numbered). nat_lt r.number mark) rows) (rows_from_none number (table_at content table).rows e)

-- ---- the first that passes a test

pub find_first : (test : Numbered → Bool) (r : Numbered) (rs : List Numbered) → test r ≡ true → find test (r ∷ rs) ≡ Some r
find_first test r rs h = rw h refl

pub find_later : (test : Numbered → Bool) (r : Numbered) (rs : List Numbered) → test r ≡ false → find test (r ∷ rs) ≡ find test rs
find_later test r rs h = rw h refl
