-- The rows that a statement is going to change, and their numbers (ISO/IEC 9075:1992, 13.6, 13.7, 13.9 and 13.10).
use Rattle.std.proofs.Common.{◌≡◌, ◌∙◌, ◌<◌, ℕ, Bool, List, [], ◌∷◌, Vec, Global, Bor, Result, Some, length, map, refl, sym, ap, subst, arith, Ok, Err}
use Rattle.std.proofs.lemmas.List.{length-map}
use Rattle.std.specs.Prelude.{IfErr, IfOk}
use Rattle.std.specs.List.{AllByRecursion, AllZip}
use Rattle.sq_store.specs.declared.table.Numbered.{Numbered}
use Rattle.sq_meaning.specs.Environment.{Row}
use Rattle.sq_meaning.specs.Status.{Outcome, and_then}
use Rattle.sq_meaning.specs.Change.{if_some}
use Rattle.sq_expression.specs.Fault.{Meets, MeetsAs, status_of}
use Rattle.sq_expression.specs.declared.fault.Failure.TheVariants as failure
use Rattle.sq_expression.specs.declared.fault.Fault.{Fault}
use Rattle.sq_expression.specs.declared.fault.Fault.TheVariants as fault
use Rattle.sq_query.specs.FewRows.{few_numbered, few_rows}
use Rattle.sq_query.specs.declared.few_rows.FewRows.{FewRows}
use Rattle.sq_query.specs.Target.{chosen, numbers_chosen}
use Rattle.sq_query.proofs.Targets.ChosenNumbers.{numbers_are}
use Rattle.sq_change.specs.Changed.{few_with}
use Rattle.sq_change.specs.Made.{number_given}
use Rattle.sq_change.proofs.Changes.Chosen.{some_found}

module _ {X : Type 0} (test : X → Numbered → Outcome Bool) (xs : List X) (o : Outcome (List Numbered)) (rows : FewRows) (found : and_then o (chosen test xs) ≡ Ok (few_numbered rows)) where
  pub rows_some : 0 < length (few_rows rows) → and_then (and_then o (numbers_chosen test xs)) if_some ≡ Ok (few_with rows)
  rows_some some =
      some_found (and_then o (numbers_chosen test xs)) (few_with rows) (subst (λ n. 0 < n) (sym (length-map (few_rows rows) (λ (r : ℕ × Bor Row). r.0))) some) (numbers_are test xs o (few_rows rows) found)

  -- a search that finds none ends so
  pub rows_none : length (few_rows rows) ≡ 0 → Meets {A = List ℕ} (Err (fault.Status failure.NoData)) (and_then (and_then o (numbers_chosen test xs)) if_some)
  rows_none none = ap (λ (p : Outcome (List ℕ)). and_then p if_some) (numbers_are test xs o (few_rows rows) found) ∙ by (few_rows rows) none
    where
      by : (rs : List (ℕ × Bor Row)) → length rs ≡ 0 → if_some (map (λ (r : ℕ × Bor Row). r.0) rs) ≡ Err (status_of failure.NoData)
      by [] h = refl
      by (r ∷ rs) h = absurd (omega arith)

-- the row that a cursor is on
pub only_row : (n : ℕ) (rows : FewRows) → few_with rows ≡ n ∷ [] → MeetsAs few_with (Ok rows) (number_given (Some n))
only_row n rows only = ap Ok (sym only)

-- ---- lists

pub all_unmapped : {A B : Type 0} (P : B → Type 0) (f : A → B) (xs : List A) → AllByRecursion P (map f xs) → AllByRecursion (λ x. P (f x)) xs
all_unmapped P f [] h = tt
all_unmapped P f (x ∷ xs) h = (h.0, all_unmapped P f xs h.1)

pub zip_mapped : {A B C : Type 0} (R : B → C → Type 0) (f : A → B) (xs : List A) (ys : List C) → AllZip (λ x y. R (f x) y) xs ys → AllZip R (map f xs) ys
zip_mapped R f [] [] h = tt
zip_mapped R f [] (y ∷ ys) h = absurd h
zip_mapped R f (x ∷ xs) [] h = absurd h
zip_mapped R f (x ∷ xs) (y ∷ ys) h = (h.0, zip_mapped R f xs ys h.1)
