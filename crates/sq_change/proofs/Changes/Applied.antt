-- The rows that some changes put into a table.
use Rattle.std.proofs.Common.{◌≡◌, ℕ, zero, suc, ◌<◌, ◌≤◌, true, ◌&&◌, List, [], ◌∷◌, ◌++◌, length, map, nat_eq, get_or, Option, ◌∙◌, refl, sym, ap, subst, arith}
use Rattle.std.specs.List.{AllByRecursion, list_all}
use Rattle.std.proofs.lemmas.Grind.{common_steps}
use Rattle.std.proofs.lemmas.List.Folds.{list_all-append}
use Rattle.sq_value.specs.declared.value.Value.{Value}
use Rattle.sq_store.specs.declared.change.Change.{Change}
use Rattle.sq_store.specs.declared.change.Change.TheVariants.{Insert, Replace, Remove}
use Rattle.sq_store.specs.Change.{insert_count, rows_put}
use Rattle.sq_bound.specs.Fits.{under}
use Rattle.sq_bound.specs.declared.statement.BoundUpdate.{BoundUpdate}
use Rattle.sq_bound.specs.declared.statement.ChangeTarget.{ChangeTarget}
use Rattle.sq_bound.specs.declared.statement.ChangeTarget.TheVariants as target
use Rattle.sq_change.specs.Changed.{AreReplacements, Removals, Replacements, are_wide}
use Rattle.sq_change.specs.Made.{Seen}
use Rattle.sq_change.specs.Statement.{base_of}

-- ---- new rows

pub fewer_inserted : (changes : List Change) → insert_count changes ≤ length changes
fewer_inserted [] = omega arith
fewer_inserted (Insert row ∷ changes) = omega (arith, fewer_inserted changes)
fewer_inserted (Replace number row ∷ changes) = omega (arith, fewer_inserted changes)
fewer_inserted (Remove number ∷ changes) = omega (arith, fewer_inserted changes)

none_inserted : (numbers : List ℕ) (changes : List Change) → AreReplacements numbers changes → insert_count changes ≡ 0
none_inserted [] [] h = refl
none_inserted [] (change ∷ changes) h = absurd h
none_inserted (n ∷ numbers) [] h = absurd h
none_inserted (n ∷ numbers) (Insert row ∷ changes) h = absurd h.0
none_inserted (n ∷ numbers) (Replace number row ∷ changes) h = none_inserted numbers changes h.1
none_inserted (n ∷ numbers) (Remove number ∷ changes) h = absurd h.0

removed_none : (numbers : List ℕ) → insert_count (map Remove numbers) ≡ 0
removed_none [] = refl
removed_none (number ∷ numbers) = removed_none numbers

-- UPDATE and DELETE put no new row in
pub replaced_few : (s : Seen) (u : BoundUpdate) (on : Option ℕ) (changes : List Change) (n : ℕ) → Replacements s u on changes → insert_count changes ≤ n
replaced_few s u on changes n h = omega (arith, none_inserted h.numbers changes h.all)

pub removed_few : (s : Seen) (t : ChangeTarget) (on : Option ℕ) (changes : List Change) (n : ℕ) → Removals s t on changes → insert_count changes ≤ n
removed_few s t on changes n h = let none : insert_count changes ≡ 0 = rw h.all (removed_none h.numbers) in omega arith

-- one more row
pub one_put : (changes more : List Change) (row : List Value) → more ≡ changes ++ Insert row ∷ [] → rows_put more ≡ rows_put changes ++ row ∷ []
one_put changes more row joined = ap rows_put joined ∙ by changes
  where
    by : (cs : List Change) → rows_put (cs ++ Insert row ∷ []) ≡ rows_put cs ++ row ∷ []
    by [] = refl
    by (Insert other ∷ cs) = ap (λ (rows : List (List Value)). other ∷ rows) (by cs)
    by (Replace number other ∷ cs) = ap (λ (rows : List (List Value)). other ∷ rows) (by cs)
    by (Remove number ∷ cs) = by cs

-- ---- how wide rows are

removed_wide : (n : ℕ) (numbers : List ℕ) → are_wide n (rows_put (map Remove numbers)) ≡ true
removed_wide n [] = refl
removed_wide n (number ∷ numbers) = removed_wide n numbers

-- DELETE puts no row in
pub removals_wide : (s : Seen) (t : ChangeTarget) (on : Option ℕ) (changes : List Change) (n : ℕ) → Removals s t on changes → are_wide n (rows_put changes) ≡ true
removals_wide s t on changes n h = rw h.all (removed_wide n h.numbers)

pub put_apart : (change : Change) (changes : List Change) → rows_put (change ∷ changes) ≡ rows_put (change ∷ []) ++ rows_put changes
put_apart (Insert row) changes = refl
put_apart (Replace number row) changes = refl
put_apart (Remove number) changes = refl

put_first : {first change : Change} {row : List Value} → change ≡ first → rows_put (change ∷ []) ≡ row ∷ [] → rows_put (first ∷ []) ≡ row ∷ []
put_first e put = sym (ap (λ (d : Change). rows_put (d ∷ [])) e) ∙ put

first_so : (P : List Value → Type 0) (r : List Value) (rows : List (List Value)) (row : List Value) → AllByRecursion P (r ∷ rows) → r ∷ [] ≡ row ∷ [] → P row
first_so P r rows row h e = let same : r ≡ row = cc in subst P same h.0

-- a row that one of the changes puts in is as wide as all
pub row_wide : (n : ℕ) (changes : List Change) (i : ℕ) (change : Change) (row : List Value) → are_wide n (rows_put changes) ≡ true → i < length changes → change ≡ get_or changes i change → rows_put (change ∷ []) ≡ row ∷ []
    → length row ≡ n
row_wide n [] i change row h lt e put = absurd (omega arith)
row_wide n (c ∷ changes) zero change row h lt e put =
    let q : rows_put (c ∷ changes) ≡ row ∷ rows_put changes = put_apart c changes ∙ ap (λ (rows : List (List Value)). rows ++ rows_put changes) (ap (λ (d : Change). rows_put (d ∷ [])) (sym e) ∙ put) in
    let k : are_wide n (row ∷ rows_put changes) ≡ true = sym (ap (are_wide n) q) ∙ h in
    grind (arith, common_steps)
row_wide n (c ∷ changes) (suc i) change row h lt e put =
    let k : (list_all (λ r. nat_eq (length r) n) (rows_put (c ∷ [])) && are_wide n (rows_put changes)) ≡ true
    = sym (list_all-append (λ r. nat_eq (length r) n) (rows_put (c ∷ [])) (rows_put changes)) ∙ sym (ap (are_wide n) (put_apart c changes)) ∙ h in
    row_wide n changes i change row (grind (arith, common_steps)) (omega arith) e put

-- what holds of all rows that are put in holds of it, too
pub put_so : (P : List Value → Type 0) (changes : List Change) (i : ℕ) (change : Change) (row : List Value) → AllByRecursion P (rows_put changes)
    → i < length changes → change ≡ get_or changes i change → rows_put (change ∷ []) ≡ row ∷ [] → P row
put_so P [] i change row h lt e put = absurd (omega arith)
put_so P (Insert r ∷ changes) zero change row h lt e put = first_so P r (rows_put changes) row h (put_first e put)
put_so P (Replace number r ∷ changes) zero change row h lt e put = first_so P r (rows_put changes) row h (put_first e put)
put_so P (Remove number ∷ changes) zero change row h lt e put = let none : rows_put (Remove number ∷ []) ≡ row ∷ [] = put_first e put in cc
put_so P (Insert r ∷ changes) (suc i) change row h lt e put = put_so P changes i change row h.1 (omega arith) e put
put_so P (Replace number r ∷ changes) (suc i) change row h lt e put = put_so P changes i change row h.1 (omega arith) e put
put_so P (Remove number ∷ changes) (suc i) change row h lt e put = put_so P changes i change row h (omega arith) e put

-- one more row that is put in
pub wide_inserted : (n : ℕ) (changes : List Change) (row : List Value) → are_wide n (rows_put changes) ≡ true → length row ≡ n → are_wide n (rows_put (changes ++ Insert row ∷ [])) ≡ true
wide_inserted n [] row h e = grind (arith, common_steps)
wide_inserted n (Insert other ∷ changes) row h e = grind (arith, common_steps, wide_inserted n changes row)
wide_inserted n (Replace number other ∷ changes) row h e = grind (arith, common_steps, wide_inserted n changes row)
wide_inserted n (Remove number ∷ changes) row h e = wide_inserted n changes row h e

pub wide_replaced : (n : ℕ) (changes : List Change) (number : ℕ) (row : List Value) → are_wide n (rows_put changes) ≡ true → length row ≡ n → are_wide n (rows_put (changes ++ Replace number row ∷ [])) ≡ true
wide_replaced n [] number row h e = grind (arith, common_steps)
wide_replaced n (Insert other ∷ changes) number row h e = grind (arith, common_steps, wide_replaced n changes number row)
wide_replaced n (Replace place other ∷ changes) number row h e = grind (arith, common_steps, wide_replaced n changes number row)
wide_replaced n (Remove place ∷ changes) number row h e = wide_replaced n changes number row h e

-- ---- the base table

pub base_under : (t : ChangeTarget) → base_of t ≡ (under t).table.place
base_under (target.Searched t) = t.is_under
base_under (target.Positioned p) = p.is_under
