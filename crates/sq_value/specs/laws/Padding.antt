-- Comparison of texts as if padded with blanks, code by code.
use Rattle.std.proofs.Common.{◌≡◌, ℕ, zero, suc, ◌+◌, ◌-◌, max, List, [], ◌∷◌, ◌++◌, length, drop, get_or, replicate, refl, sym, ap, ◌∙◌, arith, add-one, inl, inr, ◌⊎◌, ◌≤◌}
use Rattle.std.specs.declared.cmp.Ordering.{Ordering}
use Rattle.std.specs.declared.cmp.Ordering.TheVariants.{Equal}
use Rattle.std.specs.Ordering.{nat_cmp, ordering_then}
use Rattle.std.specs.Cmp.Lexicographic.{slice_cmp}
use Rattle.sq_value.specs.Comparison.{texts_compared, padded}

-- the comparison from the front, as if a list that has ended went on with blanks
abbrev pub from_front : List ℕ → List ℕ → Ordering
from_front [] [] = Equal
from_front [] (y ∷ ys) = ordering_then (nat_cmp 32 y) (from_front [] ys)
from_front (x ∷ xs) [] = ordering_then (nat_cmp x 32) (from_front xs [])
from_front (x ∷ xs) (y ∷ ys) = ordering_then (nat_cmp x y) (from_front xs ys)

blank_padded : (n : ℕ) → padded (suc n) [] ≡ 32 ∷ padded n []
blank_padded n = let more : suc n - 0 ≡ suc (n - 0) = omega arith in ap (λ k. replicate k 32) more

code_padded : (n x : ℕ) (xs : List ℕ) → padded (suc n) (x ∷ xs) ≡ x ∷ padded n xs
code_padded n x xs = let same : suc n - suc (length xs) ≡ n - length xs =
    omega arith in ap (λ k. x ∷ (xs ++ replicate k 32)) same

-- to whatever length both are padded
pub padded_is : (n : ℕ) (xs ys : List ℕ) → length xs ≤ n → length ys ≤ n
    → slice_cmp nat_cmp (padded n xs) (padded n ys) ≡ from_front xs ys
padded_is zero [] [] p q = refl
padded_is zero [] (y ∷ ys) p q = absurd (omega arith)
padded_is zero (x ∷ xs) ys p q = absurd (omega arith)
padded_is (suc n) [] [] p q =
    (λ i. slice_cmp nat_cmp (blank_padded n i) (blank_padded n i)) ∙ padded_is n [] [] (omega arith)
    (omega arith)
padded_is (suc n) [] (y ∷ ys) p q =
    (λ i. slice_cmp nat_cmp (blank_padded n i) (code_padded n y ys i)) ∙ ap (ordering_then (nat_cmp 32 y))
    (padded_is n [] ys (omega arith) (omega arith))
padded_is (suc n) (x ∷ xs) [] p q =
    (λ i. slice_cmp nat_cmp (code_padded n x xs i) (blank_padded n i)) ∙ ap (ordering_then (nat_cmp x 32))
    (padded_is n xs [] (omega arith) (omega arith))
padded_is (suc n) (x ∷ xs) (y ∷ ys) p q =
    (λ i. slice_cmp nat_cmp (code_padded n x xs i) (code_padded n y ys i)) ∙ ap
    (ordering_then (nat_cmp x y)) (padded_is n xs ys (omega arith) (omega arith))

pub front_is : (xs ys : List ℕ) → texts_compared xs ys ≡ from_front xs ys
front_is xs ys = padded_is (max (length xs) (length ys)) xs ys (omega arith) (omega arith)

-- the rest of a list from a place on, and the code read there
at_place : (xs : List ℕ) (i : ℕ)
    → (drop i xs ≡ get_or xs i 32 ∷ drop (suc i) xs) ⊎ ((drop i xs ≡ []) × (get_or xs i 32 ≡ 32)
    × (drop (suc i) xs ≡ []))
at_place [] zero = inr (refl, refl, refl)
at_place [] (suc i) = inr (refl, refl, refl)
at_place (x ∷ xs) zero = inl refl
at_place (x ∷ xs) (suc i) = at_place xs i

one_step : (xs ys : List ℕ) (i : ℕ) → from_front (drop i xs) (drop i ys)
    ≡ ordering_then (nat_cmp (get_or xs i 32) (get_or ys i 32))
    (from_front (drop (suc i) xs) (drop (suc i) ys))
one_step xs ys i = elim (at_place xs i) [
  | inl p ↦ elim (at_place ys i) [
    | inl q ↦ (λ j. from_front (p j) (q j))
    | inr q ↦ (λ j. from_front (p j) (q.0 j)) ∙
        (λ j. ordering_then (nat_cmp (get_or xs i 32) (sym (q.1) j))
        (from_front (drop (suc i) xs) (sym (q.2) j)))
  ]
  | inr p ↦ elim (at_place ys i) [
    | inl q ↦ (λ j. from_front (p.0 j) (q j)) ∙
        (λ j. ordering_then (nat_cmp (sym (p.1) j) (get_or ys i 32))
        (from_front (sym (p.2) j) (drop (suc i) ys)))
    | inr q ↦ (λ j. from_front (p.0 j) (q.0 j)) ∙
        (λ j. ordering_then (nat_cmp (sym (p.1) j) (sym (q.1) j)) (from_front (sym (p.2) j) (sym (q.2) j)))
  ]
]

pub front_step : (xs ys : List ℕ) (i : ℕ) → from_front (drop i xs) (drop i ys)
    ≡ ordering_then (nat_cmp (get_or xs i 32) (get_or ys i 32))
    (from_front (drop (i + 1) xs) (drop (i + 1) ys))
front_step xs ys i = one_step xs ys i ∙
    (λ j. ordering_then (nat_cmp (get_or xs i 32) (get_or ys i 32))
    (from_front (drop (sym (add-one i) j) xs) (drop (sym (add-one i) j) ys)))

pub ruleset padding = (front_is, front_step)
