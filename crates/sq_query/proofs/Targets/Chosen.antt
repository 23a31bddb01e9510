-- Rows that conditions choose, one after another.
use Rattle.std.proofs.Common.{◌≡◌, ℕ, ◌+◌, ◌<◌, ◌≤◌, List, [], ◌∷◌, length, drop, take, map, get_or, refl, sym, ap, ◌∙◌, Ok, Err, Bor}
use Rattle.std.proofs.lemmas.List.{drop_more, take_all}
use Rattle.std.proofs.lemmas.Simd.{map-map}
use Rattle.std.proofs.Math.ListN.{drop_of_length-le}
use Rattle.std.specs.Prelude.{Bool}
use Rattle.sq_store.specs.declared.table.Numbered.{Numbered}
use Rattle.sq_meaning.specs.Environment.{Row}
use Rattle.sq_meaning.specs.Status.{Outcome, and_then, kept}
use Rattle.sq_expression.specs.Fault.{Meets}
use Rattle.sq_query.specs.Table.{numbered_row}
use Rattle.sq_query.specs.Target.{chosen}
use Rattle.sq_expression.specs.declared.fault.Fault.{Fault}
use Rattle.sq_expression.specs.declared.fault.Fault.TheVariants as fault

-- conditions where they stand choose what they choose
pub chosen_lent : {X : Type 0} (test : X → Numbered → Outcome Bool) (xs : List (Bor X)) (rows : List Numbered) → chosen test (map (λ b. b.now) xs) rows ≡ chosen (λ (b : Bor X). test b.now) xs rows
chosen_lent test [] rows = refl
chosen_lent test (x ∷ xs) rows = λ i. and_then (kept (test x.now) rows) (λ left. chosen_lent test xs left i)

module _ {X : Type 0} (test : X → Numbered → Outcome Bool) (whole : Outcome (List Numbered)) (xs : List X) (i : ℕ) (rows : List Numbered) (so_far : whole ≡ chosen test (drop i xs) rows) where
  first_chooses : (x : X) → i < length xs → x ≡ get_or xs i x → whole ≡ and_then (kept (test x) rows) (chosen test (drop (i + 1) xs))
  first_chooses x within is = so_far ∙ ap (λ (l : List X). chosen test l rows) (drop_more xs i x within ∙ ap (λ (y : X). y ∷ drop (i + 1) xs) (sym is))

  pub chosen_more : (x : X) (left : List Numbered) → i < length xs → x ≡ get_or xs i x → kept (test x) rows ≡ Ok left → whole ≡ chosen test (drop (i + 1) xs) left
  chosen_more x left within is has = first_chooses x within is ∙ ap (λ (o : Outcome (List Numbered)). and_then o (chosen test (drop (i + 1) xs))) has

  pub chosen_failed : (x : X) (e : Fault) → i < length xs → x ≡ get_or xs i x → Meets {A = List Numbered} (Err e) (kept (test x) rows) → Meets {A = List Numbered} (Err e) whole
  chosen_failed x fault.NoMemory within is failed = tt
  chosen_failed x (fault.Status s) within is failed = first_chooses x within is ∙ ap (λ (o : Outcome (List Numbered)). and_then o (chosen test (drop (i + 1) xs))) failed

  pub chosen_ends : length xs ≤ i → whole ≡ Ok rows
  chosen_ends past = so_far ∙ ap (λ (l : List X). chosen test l rows) (drop_of_length-le xs past)

pub all_numbers : (numbers : List ℕ) (rows : List (ℕ × Bor Row)) (i : ℕ) → length rows ≤ i → numbers ≡ map (λ (found : ℕ × Bor Row). found.0) (take i rows) → map (λ (r : Numbered). r.number) (map numbered_row rows) ≡ numbers
all_numbers numbers rows i past so_far =
    map-map (λ (r : Numbered). r.number) numbered_row rows
    ∙ sym (so_far ∙ ap (map (λ (found : ℕ × Bor Row). found.0)) (take_all i rows past))
