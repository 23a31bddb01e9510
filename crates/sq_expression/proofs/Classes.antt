-- The classes of elements that are the same, as one element more comes.
use Rattle.std.proofs.Common.{◌≡◌, ℕ, ◌+◌, Bool, true, false, not, ◌||◌, List, [], ◌∷◌, ◌++◌, map, cond, get_or, set, refl, sym, ap, ◌∙◌, true≢false, one-add}
use Rattle.std.specs.Prelude.{filter, if◌then◌else◌}
use Rattle.std.specs.Cmp.{IsEquivalence}
use Rattle.std.specs.List.{list_any, list_all, position_or_len}
use Rattle.std.proofs.lemmas.List.{map_push}
use Rattle.std.proofs.lemmas.List.Elements.{filter-append}
use Rattle.std.proofs.lemmas.Map.Views.{any-filter_same}
use Rattle.std.proofs.lemmas.Bool.{or_parts, and_parts, not-true}
use Rattle.sq_meaning.specs.Rows.{firsts, classes}
use Rattle.sq_meaning.proofs.RowLaws.{are_apart, firsts_are_apart}
use Rattle.sq_expression.proofs.Firsts.{firsts_more}

append_nothing : {A : Type 0} (xs : List A) → xs ++ [] ≡ xs
append_nothing [] = refl
append_nothing (x ∷ xs) = ap (λ ys. x ∷ ys) (append_nothing xs)

-- with one element more, the lists of those places: at the first that passes, or behind the others
abbrev pub with_element : {X : Type 0} → List (List X) → ℕ → X → List (List X)
with_element lists place x = set lists place (get_or lists place [] ++ x ∷ [])

module _ {A : Type 0} (same : A → A → Bool) (laws : IsEquivalence same) where
  stays : (xs : List A) (e f : A) → same e f ≡ false → filter (same f) (xs ++ e ∷ []) ≡ filter (same f) xs
  stays xs e f h =
      let unlike : same f e ≡ false = laws.symm f e ∙ h in
      filter-append (same f) xs (e ∷ []) ∙ ap (λ t. filter (same f) xs ++ cond t (e ∷ []) []) unlike ∙ append_nothing (filter (same f) xs)

  grows : (xs : List A) (e f : A) → same e f ≡ true → filter (same f) (xs ++ e ∷ []) ≡ filter (same f) xs ++ e ∷ []
  grows xs e f h =
      let like : same f e ≡ true = laws.symm f e ∙ h in
      filter-append (same f) xs (e ∷ []) ∙ ap (λ t. filter (same f) xs ++ cond t (e ∷ []) []) like

  all_stay : (xs : List A) (e : A) (fs : List A) → list_any (same e) fs ≡ false → map (λ f. filter (same f) (xs ++ e ∷ [])) fs ≡ map (λ f. filter (same f) xs) fs
  all_stay xs e [] h = refl
  all_stay xs e (f ∷ fs) h =
      let apart = or_parts (same e f) (list_any (same e) fs) h in
      (λ i. stays xs e f apart.0 i ∷ all_stay xs e fs apart.1 i)

  -- what is like the first of a list is like none of the others
  none_behind : (e f : A) (fs : List A) → same e f ≡ true → list_all (λ y. not (same f y)) fs ≡ true → list_any (same e) fs ≡ false
  none_behind e f [] h k = refl
  none_behind e f (g ∷ gs) h k =
      let apart = and_parts (not (same f g)) (list_all (λ y. not (same f y)) gs) k in
      (λ i. (laws.congr e f g h ∙ not-true (same f g) apart.0) i || none_behind e f gs h apart.1 i)

  one_grows : (xs : List A) (e : A) (fs : List A) → are_apart same fs ≡ true → list_any (same e) fs ≡ true
      → with_element (map (λ f. filter (same f) xs) fs) (position_or_len (same e) fs) e ≡ map (λ f. filter (same f) (xs ++ e ∷ [])) fs
  one_grows xs e [] apart h = absurd (true≢false (sym h))
  one_grows xs e (f ∷ fs) apart h = split (same e f) refl (one_grows xs e fs parts.1) h
    where
      parts : (list_all (λ y. not (same f y)) fs ≡ true) × (are_apart same fs ≡ true)
      parts = and_parts (list_all (λ y. not (same f y)) fs) (are_apart same fs) apart

      split : (b : Bool) → same e f ≡ b
          → (list_any (same e) fs ≡ true → with_element (map (λ g. filter (same g) xs) fs) (position_or_len (same e) fs) e ≡ map (λ g. filter (same g) (xs ++ e ∷ [])) fs)
          → (b || list_any (same e) fs) ≡ true
          → with_element (filter (same f) xs ∷ map (λ g. filter (same g) xs) fs) (cond (not b) (1 + position_or_len (same e) fs) 0) e
          ≡ filter (same f) (xs ++ e ∷ []) ∷ map (λ g. filter (same g) (xs ++ e ∷ [])) fs
      split true is later k =
          (λ i. sym (grows xs e f is) i ∷ sym (all_stay xs e fs (none_behind e f fs is parts.0)) i)
      split false is later k =
          ap (λ n. with_element (filter (same f) xs ∷ map (λ g. filter (same g) xs) fs) n e) (one-add (position_or_len (same e) fs))
          ∙ (λ i. sym (stays xs e f is) i ∷ later k i)

  pub any_firsts : (e : A) (xs : List A) → list_any (same e) (firsts same xs) ≡ list_any (same e) xs
  any_firsts e [] = refl
  any_firsts e (y ∷ ys) = split (same e y) refl (any_firsts e ys)
    where
      unlike : same e y ≡ false → (k : A) → same e k ≡ true → not (same y k) ≡ true
      unlike h k like = ap not (laws.symm y k ∙ sym (laws.congr e k y like) ∙ h)

      split : (b : Bool) → same e y ≡ b → list_any (same e) (firsts same ys) ≡ list_any (same e) ys → (b || list_any (same e) (filter (λ z. not (same y z)) (firsts same ys))) ≡ (b || list_any (same e) ys)
      split true h others = refl
      split false h others = any-filter_same (same e) (λ z. not (same y z)) true (unlike h) (firsts same ys) ∙ others

  none_pass : (e : A) (xs : List A) → list_any (same e) xs ≡ false → filter (same e) xs ≡ []
  none_pass e [] h = refl
  none_pass e (x ∷ xs) h =
      let apart = or_parts (same e x) (list_any (same e) xs) h in
      ap (λ t. cond t (x ∷ filter (same e) xs) (filter (same e) xs)) apart.0 ∙ none_pass e xs apart.1

  alone_passes : (xs : List A) (e : A) → list_any (same e) (firsts same xs) ≡ false → filter (same e) (xs ++ e ∷ []) ≡ e ∷ []
  alone_passes xs e h =
      grows xs e e (laws.refl e) ∙ ap (λ ys. ys ++ e ∷ []) (none_pass e xs (sym (any_firsts e xs) ∙ h))

  -- where no element is the same
  pub class_behind : (xs : List A) (e : A) → list_any (same e) (firsts same xs) ≡ false → classes same (xs ++ e ∷ []) ≡ classes same xs ++ (e ∷ []) ∷ []
  class_behind xs e h =
      let fs : List A = firsts same xs in
      let kept : firsts same (xs ++ e ∷ []) ≡ fs ++ e ∷ [] = firsts_more same laws xs e ∙ ap (λ t. if t then fs else fs ++ e ∷ []) h in
      ap (map (λ f. filter (same f) (xs ++ e ∷ []))) kept
      ∙ map_push (λ f. filter (same f) (xs ++ e ∷ [])) fs e
      ∙ (λ i. all_stay xs e fs h i ++ alone_passes xs e h i ∷ [])

  -- where one is
  pub class_grows : (xs : List A) (e : A) → list_any (same e) (firsts same xs) ≡ true → classes same (xs ++ e ∷ []) ≡ with_element (classes same xs) (position_or_len (same e) (firsts same xs)) e
  class_grows xs e h =
      let fs : List A = firsts same xs in
      let kept : firsts same (xs ++ e ∷ []) ≡ fs = firsts_more same laws xs e ∙ ap (λ t. if t then fs else fs ++ e ∷ []) h in
      ap (map (λ f. filter (same f) (xs ++ e ∷ []))) kept
      ∙ sym (one_grows xs e fs (firsts_are_apart same xs) h)
