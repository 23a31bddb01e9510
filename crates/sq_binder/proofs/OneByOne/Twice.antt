-- Whether a list with further elements has one twice.
use Rattle.std.proofs.Common.{◌≡◌, Bool, true, false, ◌||◌, List, [], ◌∷◌, ◌++◌, refl, sym, ap, append_assoc, ◌∙◌}
use Rattle.std.proofs.lemmas.List.Folds.{list_any-append}
use Rattle.std.specs.List.{list_any}
use Rattle.sq_value.proofs.Truths.{or_false}
use Rattle.sq_meaning.specs.Words.{has_twice}

module _ {A : Type 0} (same : A → A → Bool) where
  one_behind : (xs : List A) (y : A) → has_twice same (xs ++ y ∷ []) ≡ (list_any (λ x. same x y) xs || has_twice same xs)
  one_behind [] y = refl
  one_behind (x ∷ xs) y =
      (λ i. list_any-append (same x) xs (y ∷ []) i || one_behind xs y i)
      ∙ ap (λ b. (list_any (same x) xs || b) || (list_any (λ x. same x y) xs || has_twice same xs)) (or_false (same x y))
      ∙ turned (list_any (same x) xs) (same x y) (list_any (λ x. same x y) xs) (has_twice same xs)
    where
      turned : (a b c d : Bool) → ((a || b) || (c || d)) ≡ ((b || c) || (a || d))
      turned true true c d = refl
      turned true false true d = refl
      turned true false false d = refl
      turned false true c d = refl
      turned false false c d = refl

  -- a further element, where none is there twice
  pub once_more : (xs : List A) (y : A) → has_twice same xs ≡ false → has_twice same (xs ++ y ∷ []) ≡ list_any (λ x. same x y) xs
  once_more xs y once = one_behind xs y ∙ ap (λ b. list_any (λ x. same x y) xs || b) once ∙ or_false (list_any (λ x. same x y) xs)

  -- two more elements
  pub twice_more : (xs : List A) (y z : A) → has_twice same xs ≡ false → has_twice same (xs ++ y ∷ z ∷ []) ≡ (list_any (λ x. same x y) xs || (same y z || list_any (λ x. same x z) xs))
  twice_more xs y z once =
      ap (has_twice same) (sym (append_assoc xs (y ∷ []) (z ∷ []))) ∙ one_behind (xs ++ y ∷ []) z
      ∙ (λ i. list_any-append (λ x. same x z) xs (y ∷ []) i || once_more xs y once i)
      ∙ turned (list_any (λ x. same x z) xs) (same y z) (list_any (λ x. same x y) xs)
    where
      turned : (a b c : Bool) → ((a || (b || false)) || c) ≡ (c || (b || a))
      turned true true true = refl
      turned true true false = refl
      turned true false true = refl
      turned true false false = refl
      turned false true true = refl
      turned false true false = refl
      turned false false true = refl
      turned false false false = refl
