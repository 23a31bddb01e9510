-- The rows that a target means stand in the table under their numbers (ISO/IEC 9075:1992, 13.7 and 13.10).
use Rattle.std.proofs.Common.{◌≡◌, ℕ, ◌+◌, ◌≤◌, Bool, true, false, List, [], ◌∷◌, cond, length, map, Option, Some, Result, Vec, Global, refl, ap, subst, arith, Ok, Err}
use Rattle.std.proofs.lemmas.Bool.{eq-eqb, eqb-true, leb-true}
use Rattle.std.specs.Prelude.{IfOk, IsSome, find, if◌then◌else◌, is_some, nat_eq, nat_le, nat_lt}
use Rattle.std.specs.List.{AllByRecursion}
use Rattle.sq_store.specs.Content.{Content, row_at, table_at}
use Rattle.sq_store.specs.Rising.{all_rising, rising_between}
use Rattle.sq_store.specs.declared.table.Numbered.{Numbered}
use Rattle.sq_store.specs.declared.table.Table.{Table}
use Rattle.sq_store.proofs.Rises.{rows_rise_at}
use Rattle.sq_meaning.specs.Status.{Outcome, and_then, kept, not_well_formed}
use Rattle.sq_bound.proofs.QuietTruths.{both_left, both_right}
use Rattle.sq_expression.specs.Fault.{MeetsAs}
use Rattle.sq_expression.specs.declared.fault.Fault.{Fault}
use Rattle.sq_expression.proofs.Kept.{ok_same}
use Rattle.sq_query.specs.Table.{stored_numbered}
use Rattle.sq_query.specs.Target.{AreNumbersOf, AreRowsThere, chosen, numbers_in}

-- ---- each row is found by its number, where the numbers rise

from_lower : (low high : ℕ) (rows : List Numbered) → low ≤ high → AllByRecursion (λ (r : Numbered). high + 1 ≤ r.number) rows → AllByRecursion (λ (r : Numbered). low ≤ r.number) rows
from_lower low high [] lower all = tt
from_lower low high (r ∷ rows) lower all = (omega (arith, all.0, lower), from_lower low high rows lower all.1)

pub all_from : (low : ℕ) (rows : List Numbered) (next : ℕ) → rising_between low rows next ≡ true → AllByRecursion (λ (r : Numbered). low ≤ r.number) rows
all_from low [] next rises = tt
all_from low (x ∷ rows) next rises =
    let here : low ≤ x.number = leb-true low x.number (both_left (nat_le low x.number) (rising_between (x.number + 1) rows next) rises) in
    (here, from_lower low x.number rows here (all_from (x.number + 1) rows next (both_right (nat_le low x.number) (rising_between (x.number + 1) rows next) rises)))

-- a row behind one with a lower number
behind : (x : Numbered) (rows : List Numbered) (r : Numbered) → x.number + 1 ≤ r.number → find (λ s. nat_eq s.number r.number) rows ≡ Some r → find (λ s. nat_eq s.number r.number) (x ∷ rows) ≡ Some r
behind x rows r above found = by (nat_eq x.number r.number) refl
  where
    by : (b : Bool) → nat_eq x.number r.number ≡ b → cond b (Some x) (find (λ s. nat_eq s.number r.number) rows) ≡ Some r
    by false e = found
    by true e = let same : x.number ≡ r.number = eqb-true x.number r.number e in absurd (omega (arith, above, same))

all_behind : (x : Numbered) (whole rows : List Numbered) → AllByRecursion (λ (r : Numbered). x.number + 1 ≤ r.number) rows → AllByRecursion (λ (r : Numbered). find (λ s. nat_eq s.number r.number) whole ≡ Some r) rows
    → AllByRecursion (λ (r : Numbered). find (λ s. nat_eq s.number r.number) (x ∷ whole) ≡ Some r) rows
all_behind x whole [] above found = tt
all_behind x whole (r ∷ rows) above found = (behind x whole r above.0 found.0, all_behind x whole rows above.1 found.1)

all_found : (low : ℕ) (rows : List Numbered) (next : ℕ) → rising_between low rows next ≡ true → AllByRecursion (λ (r : Numbered). find (λ s. nat_eq s.number r.number) rows ≡ Some r) rows
all_found low [] next rises = tt
all_found low (x ∷ rows) next rises =
    let rest = both_right (nat_le low x.number) (rising_between (x.number + 1) rows next) rises in (
      ap (λ b. cond b (Some x) (find (λ s. nat_eq s.number x.number) rows)) (eq-eqb x.number x.number refl),
      all_behind x rows rows (all_from (x.number + 1) rows next rest) (all_found (x.number + 1) rows next rest),
    )

-- ---- conditions choose some of the rows

module _ (P : Numbered → Type 0) where
  kept_all : (test : Numbered → Outcome Bool) (rows : List Numbered) → AllByRecursion P rows → IfOk (kept test rows) (AllByRecursion P)
  kept_all test [] h = tt
  kept_all test (r ∷ rows) h = by (test r) (kept test rows) (kept_all test rows h.1)
    where
      by : (o : Outcome Bool) (p : Outcome (List Numbered)) → IfOk p (AllByRecursion P) → IfOk (and_then o (λ passes. and_then p (λ ys. Ok (if passes then r ∷ ys else ys)))) (AllByRecursion P)
      by (Err s) p k = tt
      by (Ok true) (Err s) k = tt
      by (Ok false) (Err s) k = tt
      by (Ok true) (Ok ys) k = (h.0, k)
      by (Ok false) (Ok ys) k = k

  chosen_all : {X : Type 0} (test : X → Numbered → Outcome Bool) (xs : List X) (rows : List Numbered) → AllByRecursion P rows → IfOk (chosen test xs rows) (AllByRecursion P)
  chosen_all test [] rows h = h
  chosen_all test (x ∷ xs) rows h = by (kept (test x) rows) (kept_all (test x) rows h) (λ left k. chosen_all test xs left k)
    where
      by : (o : Outcome (List Numbered)) → IfOk o (AllByRecursion P) → ((left : List Numbered) → AllByRecursion P left → IfOk (chosen test xs left) (AllByRecursion P))
          → IfOk (and_then o (chosen test xs)) (AllByRecursion P)
      by (Err s) k later = tt
      by (Ok left) k later = later left k

chosen_there : {X : Type 0} (content : Content) (base row_numbers : ℕ) (test : X → Numbered → Outcome Bool) (xs : List X) → all_rising row_numbers content ≡ true
    → IfOk (and_then (stored_numbered content base) (chosen test xs)) (AreRowsThere (table_at content base))
chosen_there content base row_numbers test xs rises = by (nat_lt base (length content))
  where
    t : Table
    t = table_at content base

    by : (b : Bool) → IfOk (and_then (and_then (if b then Ok t else not_well_formed) (λ found. Ok found.rows)) (chosen test xs)) (AreRowsThere t)
    by true = chosen_all (λ r. row_at t r.number ≡ Some r) test xs t.rows (all_found 1 t.rows t.next (rows_rise_at row_numbers content base rises))
    by false = tt

-- ---- the rows that were found

pub rows_there : {X A : Type 0} (view : A → List Numbered) (r : Result A Fault) (content : Content) (base row_numbers : ℕ) (test : X → Numbered → Outcome Bool) (xs : List X) → all_rising row_numbers content ≡ true
    → MeetsAs view r (and_then (stored_numbered content base) (chosen test xs)) → IfOk r (λ rows. AreRowsThere (table_at content base) (view rows))
rows_there view (Err e) content base row_numbers test xs rises h = tt
rows_there view (Ok rows) content base row_numbers test xs rises h = subst (λ (o : Outcome (List Numbered)). IfOk o (AreRowsThere (table_at content base))) h (chosen_there content base row_numbers test xs rises)

-- the number of a row that is there is there
some_there : (t : Table) (n : ℕ) (r : Numbered) → row_at t n ≡ Some r → IsSome (row_at t n)
some_there t n r is = ap (λ (o : Option Numbered). is_some o) is

all_some : (t : Table) (rows : List Numbered) → AreRowsThere t rows → AreNumbersOf t (map (λ r. r.number) rows)
all_some t [] there = tt
all_some t (r ∷ rows) there = (some_there t r.number r there.0, all_some t rows there.1)

pub numbers_there : (r : Result (Vec ℕ Global) Fault) (t : Table) (rows : List Numbered) → AreRowsThere t rows → MeetsAs numbers_in r (Ok (map (λ r. r.number) rows)) → IfOk r (λ numbers. AreNumbersOf t numbers.items)
numbers_there (Err e) t rows there h = tt
numbers_there (Ok numbers) t rows there h = subst (AreNumbersOf t) (ok_same (map (λ r. r.number) rows) numbers.items h) (all_some t rows there)
