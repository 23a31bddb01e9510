-- The elements of a list, and what tests of all of them, or of one, say of each.
use Rattle.std.proofs.Common.{◌≡◌, ℕ, zero, suc, ◌<◌, ◌⊎◌, inl, inr, Bool, true, false, ◌||◌, List, [], ◌∷◌, length, map, get_or, slice_get, cond, filter, find, is_some, Some, refl, sym, ap, subst, ◌+◌, ◌∙◌, arith}
use Rattle.std.specs.List.{AllByRecursion, Contains, enumerate_from, list_all, list_any}
use Rattle.std.proofs.lemmas.Bool.{false_from_ne_true, true≢false}
use Rattle.std.proofs.lemmas.List.{get_or-map, length-map}
use Rattle.std.proofs.lemmas.List.Elements.{All-from_recursion, Contains-get_or}
use Rattle.std.proofs.lemmas.List.Folds.{list_any-from_Any}
use Rattle.std.proofs.lemmas.List.FromFn.{get_or-enumerate_from, length-enumerate_from}
use Rattle.std.proofs.lemmas.Option.{get_or_from_slice_get, slice_get-get_or, slice_get_within}
use Rattle.std.proofs.lemmas.List.Sums.{AllPass-from_list_all, list_all-from_AllPass}
use Rattle.sq_change.proofs.OneByOne.InTurn.{place_at}

-- ---- tests

module _ {X : Type 0} (p : X → Bool) where
  pub all_in : (xs : List X) (x : X) → list_all p xs ≡ true → Contains xs x → p x ≡ true
  all_in xs x h c = sym (ap p c.2) ∙ AllPass-from_list_all p xs h c.0 x c.1

  pub all_from : (xs : List X) → ((x : X) → Contains xs x → p x ≡ true) → list_all p xs ≡ true
  all_from xs h = list_all-from_AllPass p xs (λ k d lt. h (get_or xs k d) (Contains-get_or xs k d lt))

  pub any_from : (xs : List X) (x : X) → Contains xs x → p x ≡ true → list_any p xs ≡ true
  any_from xs x c h = list_any-from_Any p xs (c.0, x, c.1, c.2, h)

  pub none_in : (xs : List X) (x : X) → list_any p xs ≡ false → Contains xs x → p x ≡ false
  none_in xs x h c = false_from_ne_true (p x) (λ e. true≢false (sym (any_from xs x c e) ∙ h))

  -- where one passes, one is found
  pub found_any : (xs : List X) → is_some (find p xs) ≡ list_any p xs
  found_any [] = refl
  found_any (x ∷ xs) = by (p x) (found_any xs)
    where
      by : (b : Bool) → is_some (find p xs) ≡ list_any p xs → is_some (cond b (Some x) (find p xs)) ≡ (b || list_any p xs)
      by true e = refl
      by false e = e

-- ---- elements

module _ {X : Type 0} where
  pub is_first : (y : X) (xs : List X) (x : X) → y ≡ x → Contains (y ∷ xs) x
  is_first y xs x e = (0, omega arith, e)

  pub first_there : (x : X) (xs : List X) → Contains (x ∷ xs) x
  first_there x xs = is_first x xs x refl

  pub later_there : (y : X) (xs : List X) (x : X) → Contains xs x → Contains (y ∷ xs) x
  later_there y xs x c = let lt : suc c.0 < length (y ∷ xs) = omega arith in (suc c.0, lt, c.2)

  pub none_there : {P : Type 0} (x : X) → Contains [] x → P
  none_there x c = let lt : c.0 < 0 = c.1 in absurd (omega arith)

  pub first_or_later : (y : X) (xs : List X) (x : X) → Contains (y ∷ xs) x → (y ≡ x) ⊎ Contains xs x
  first_or_later y xs x c = by c.0 c.1 c.2
    where
      by : (k : ℕ) → k < length (y ∷ xs) → get_or (y ∷ xs) k x ≡ x → (y ≡ x) ⊎ Contains xs x
      by zero lt e = inl e
      by (suc k) lt e = inr (k, omega arith, e)

  -- what is found is there, and passes
  pub found_there : (p : X → Bool) (xs : List X) (x : X) → find p xs ≡ Some x → Contains xs x × (p x ≡ true)
  found_there p [] x e = cc
  found_there p (y ∷ xs) x e = by (p y) refl e (found_there p xs x)
    where
      by : (b : Bool) → p y ≡ b → cond b (Some y) (find p xs) ≡ Some x → (find p xs ≡ Some x → Contains xs x × (p x ≡ true)) → Contains (y ∷ xs) x × (p x ≡ true)
      by true t e later = let same : y ≡ x = cc in (is_first y xs x same, sym (ap p same) ∙ t)
      by false t e later = let h = later e in (later_there y xs x h.0, h.1)

  pub kept_there : (p : X → Bool) (xs : List X) (x : X) → Contains (filter p xs) x → Contains xs x
  kept_there p [] x c = c
  kept_there p (y ∷ xs) x c = by (p y) c (kept_there p xs x)
    where
      on : (y ≡ x) ⊎ Contains (filter p xs) x → (Contains (filter p xs) x → Contains xs x) → Contains (y ∷ xs) x
      on (inl s) later = is_first y xs x s
      on (inr d) later = later_there y xs x (later d)

      by : (b : Bool) → Contains (cond b (y ∷ filter p xs) (filter p xs)) x → (Contains (filter p xs) x → Contains xs x) → Contains (y ∷ xs) x
      by true d later = on (first_or_later y (filter p xs) x d) later
      by false d later = later_there y xs x (later d)

  pub at_there : (xs : List X) (i : ℕ) (x : X) → slice_get xs i ≡ Some x → Contains xs x
  at_there xs i x e = (i, slice_get_within xs i x e, get_or_from_slice_get xs i x x e)

  -- what holds of each
  pub each_so : (P : X → Type 0) (xs : List X) (x : X) → AllByRecursion P xs → Contains xs x → P x
  each_so P xs x h c = subst P c.2 (All-from_recursion P xs h c.0 x c.1)

  -- elements and their places
  pub placed_there : (xs : List X) (i : ℕ) (x : X) → slice_get xs i ≡ Some x → Contains (enumerate_from 0 xs) (i, x)
  placed_there xs i x e = let h = place_at xs i x (slice_get_within xs i x e) (sym (get_or_from_slice_get xs i x x e)) in (i, h.0, sym h.1)

  pub placed_at : (xs : List X) (p : ℕ × X) → Contains (enumerate_from 0 xs) p → slice_get xs p.0 ≡ Some p.1
  placed_at xs p c =
      let lt : c.0 < length xs = omega (arith, c.1, length-enumerate_from 0 xs) in
      let is : p ≡ (0 + c.0, get_or xs c.0 p.1) = sym c.2 ∙ get_or-enumerate_from 0 xs c.0 p lt in
      let place : p.0 ≡ 0 + c.0 = ap (λ (q : ℕ × X). q.0) is in
      let here : p.0 ≡ c.0 = omega (arith, place) in
      ap (slice_get xs) here ∙ slice_get-get_or xs c.0 p.1 lt ∙ ap (λ (q : ℕ × X). Some q.1) (sym is)

module _ {X Y : Type 0} (f : X → Y) (xs : List X) where
  pub mapped_there : (x : X) → Contains xs x → Contains (map f xs) (f x)
  mapped_there x c = (c.0, omega (arith, c.1, length-map xs f), get_or-map f xs c.0 x (f x) c.1 ∙ ap f c.2)

  pub mapped_of : (y : Y) → Contains (map f xs) y → (x : X) × Contains xs x × (f x ≡ y)
  mapped_of y c = by xs c
    where
      on : (x : X) (rest : List X) → (f x ≡ y) ⊎ Contains (map f rest) y → (Contains (map f rest) y → (z : X) × Contains rest z × (f z ≡ y)) → (z : X) × Contains (x ∷ rest) z × (f z ≡ y)
      on x rest (inl e) later = (x, first_there x rest, e)
      on x rest (inr d) later = let h = later d in (h.0, later_there x rest h.0 h.1, h.2)

      by : (rest : List X) → Contains (map f rest) y → (z : X) × Contains rest z × (f z ≡ y)
      by [] d = none_there y d
      by (x ∷ rest) d = on x rest (first_or_later (f x) (map f rest) y d) (by rest)
