-- The numbers of the rows that conditions choose.
use Rattle.std.proofs.Common.{◌≡◌, ◌∙◌, ℕ, Bool, List, Bor, map, refl, ap, Ok, Err}
use Rattle.std.proofs.lemmas.Simd.{map-map}
use Rattle.sq_store.specs.declared.table.Numbered.{Numbered}
use Rattle.sq_meaning.specs.Environment.{Row}
use Rattle.sq_meaning.specs.Status.{Outcome, and_then}
use Rattle.sq_expression.specs.Fault.{Meets}
use Rattle.sq_expression.specs.declared.fault.Fault.{Fault}
use Rattle.sq_expression.proofs.Groups.{fails_then, meets_same}
use Rattle.sq_query.specs.Table.{numbered_row}
use Rattle.sq_query.specs.Target.{chosen, numbers_chosen}

module _ {X : Type 0} (test : X → Numbered → Outcome Bool) (xs : List X) where
  abbrev pub numbers_of_rows : List Numbered → Outcome (List ℕ)
  numbers_of_rows found = Ok (map (λ r. r.number) found)

  pub numbers_after : (o : Outcome (List Numbered)) → and_then o (numbers_chosen test xs) ≡ and_then (and_then o (chosen test xs)) numbers_of_rows
  numbers_after (Ok rows) = refl
  numbers_after (Err status) = refl

  pub numbers_are : (o : Outcome (List Numbered)) (rows : List (ℕ × Bor Row)) → and_then o (chosen test xs) ≡ Ok (map numbered_row rows) → and_then o (numbers_chosen test xs) ≡ Ok (map (λ (found : ℕ × Bor Row). found.0) rows)
  numbers_are o rows found =
      numbers_after o ∙ ap (λ p. and_then p numbers_of_rows) found
      ∙ ap (λ (ns : List ℕ). let is : Outcome (List ℕ) = Ok ns in is) (map-map (λ (r : Numbered). r.number) numbered_row rows)

  -- where no row is chosen for a fault
  pub numbers_fail : (o : Outcome (List Numbered)) (e : Fault) → Meets {A = List Numbered} (Err e) (and_then o (chosen test xs)) → Meets {A = List ℕ} (Err e) (and_then o (numbers_chosen test xs))
  numbers_fail o e failed = meets_same (Err e) (and_then o (numbers_chosen test xs)) (and_then (and_then o (chosen test xs)) numbers_of_rows) (numbers_after o) (fails_then e (and_then o (chosen test xs)) numbers_of_rows failed)
