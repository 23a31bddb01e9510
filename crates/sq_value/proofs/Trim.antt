-- The blanks at a text's end, one at a time.
use Rattle.std.proofs.Common.{◌≡◌, ◌≢◌, ℕ, List, [], ◌∷◌, ◌++◌, refl, ap, ◌∙◌, arith}
use Rattle.std.proofs.lemmas.Grind.{common_steps}
use Rattle.sq_value.specs.Text.{trimmed, trim_onto}

pub trimmed_blank : (xs : List ℕ) → trimmed (xs ++ 32 ∷ []) ≡ trimmed xs
trimmed_blank [] = refl
trimmed_blank (x ∷ xs) = ap (trim_onto x) (trimmed_blank xs)

onto_more : (x y : ℕ) (xs : List ℕ) → trim_onto x (xs ++ y ∷ []) ≡ x ∷ (xs ++ y ∷ [])
onto_more x y [] = refl
onto_more x y (z ∷ zs) = refl

pub trimmed_other : (xs : List ℕ) (y : ℕ) → y ≢ 32 → trimmed (xs ++ y ∷ []) ≡ xs ++ y ∷ []
trimmed_other [] y n = grind (arith, common_steps)
trimmed_other (x ∷ xs) y n = ap (trim_onto x) (trimmed_other xs y n) ∙ onto_more x y xs
