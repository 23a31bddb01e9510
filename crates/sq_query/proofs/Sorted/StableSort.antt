-- A stable sort has one result.
use Rattle.std.proofs.Common.{◌≡◌, suc, ◌+◌, ◌<◌, Bool, true, false, not, ◌&&◌, List, [], ◌∷◌, length, get_or, cond, refl, sym, ap, ◌∙◌, add-one, arith}
use Rattle.std.specs.Prelude.{filter, ⊤}
use Rattle.std.specs.List.{list_all}
use Rattle.std.specs.List.Sorted.{IsSortedBy, IsStableBy, ties}
use Rattle.std.specs.Cmp.{IsTotalOrder, IsStrictWeakOrder}
use Rattle.std.specs.Ordering.{is_lt, is_gt, is_eq, ordering_reverse}
use Rattle.std.specs.declared.cmp.Ordering.{Ordering}
use Rattle.std.specs.declared.cmp.Ordering.TheVariants.{Less, Equal, Greater}
use Rattle.std.proofs.lemmas.List.MinMax.{ranks_by}
use Rattle.std.proofs.lemmas.Bool.{and_parts}
use Rattle.sq_meaning.specs.Rows.{sorted}
use Rattle.sq_meaning.proofs.RowLaws.{is_in_order, not_above, is_sorted, ties_stay}
use Rattle.sq_meaning.proofs.RowLaws as law

module _ {A : Type 0} (lt : A → A → Bool) where
  -- none is below x
  abbrev AllUp : A → List A → Type 0
  AllUp x [] = ⊤
  AllUp x (y ∷ ys) = (lt y x ≡ false) × AllUp x ys

  -- none is below one before it
  abbrev IsUp : List A → Type 0
  IsUp [] = ⊤
  IsUp (x ∷ xs) = AllUp x xs × IsUp xs

  module _ (order : IsStrictWeakOrder lt) where
    not_below : (x : A) → lt x x ≡ false
    not_below x = split (lt x x) refl
      where
        split : (b : Bool) → lt x x ≡ b → lt x x ≡ false
        split false e = e
        split true e = order.one_way x x e

    tie_self : (x : A) → ties lt x x ≡ true
    tie_self x = λ i. not (not_below x i) && not (not_below x i)

    up_from : (x y : A) (zs : List A) → lt y x ≡ false → AllUp y zs → AllUp x zs
    up_from x y [] e h = tt
    up_from x y (z ∷ zs) e h = (order.chain z y x h.0 e, up_from x y zs e h.1)

    tail_sorted : (y : A) (ys : List A) → IsSortedBy lt (y ∷ ys) → IsSortedBy lt ys
    tail_sorted y ys s = λ k d low h.
        let within : suc k + 1 < length (y ∷ ys) = omega arith in
        let e : lt (get_or (y ∷ ys) (suc k + 1) d) (get_or (y ∷ ys) (suc k) d) ≡ false = s (suc k) d (omega arith) within in
        ap (λ n. lt (get_or ys n d) (get_or ys k d)) (add-one k)
        ∙ ap (λ n. lt (get_or (y ∷ ys) n d) (get_or ys k d)) (sym (add-one (suc k))) ∙ e

    sorted_up : (ys : List A) → IsSortedBy lt ys → IsUp ys
    sorted_up [] s = tt
    sorted_up (y ∷ []) s = (tt, tt)
    sorted_up (y ∷ z ∷ zs) s =
        let rest : IsUp (z ∷ zs) = sorted_up (z ∷ zs) (tail_sorted y (z ∷ zs) s) in
        let e : lt z y ≡ false = s 0 y (omega arith) (omega arith) in
        ((e, up_from y z zs e rest.0), rest)

    -- what passes a test first is not below what none is below
    first_up : (p : A → Bool) (x y : A) (rest ms : List A) → AllUp x ms → y ∷ rest ≡ filter p ms → lt y x ≡ false
    first_up p x y rest [] up e = cc
    first_up p x y rest (m ∷ ms) up e = split (p m) refl (first_up p x y rest ms up.1)
      where
        split : (b : Bool) → p m ≡ b → (y ∷ rest ≡ filter p ms → lt y x ≡ false) → lt y x ≡ false
        split true t later =
            let here : y ∷ rest ≡ m ∷ filter p ms = e ∙ ap (λ b. cond b (m ∷ filter p ms) (filter p ms)) t in
            let is : y ≡ m = cc in
            ap (λ a. lt a x) is ∙ up.0
        split false t later = later (e ∙ ap (λ b. cond b (m ∷ filter p ms) (filter p ms)) t)

    tail_same : (b : Bool) (y : A) (p q : List A) → cond b (y ∷ p) p ≡ cond b (y ∷ q) q → p ≡ q
    tail_same true y p q h = cc
    tail_same false y p q h = h

    own_ties : (y : A) (ys : List A) → filter (ties lt y) (y ∷ ys) ≡ y ∷ filter (ties lt y) ys
    own_ties y ys = ap (λ b. cond b (y ∷ filter (ties lt y) ys) (filter (ties lt y) ys)) (tie_self y)

    same_head : (y z : A) (ys zs : List A) → AllUp y ys → AllUp z zs → ((w : A) → filter (ties lt w) (y ∷ ys) ≡ filter (ties lt w) (z ∷ zs)) → y ≡ z
    same_head y z ys zs u v f =
        let above : lt y z ≡ false = first_up (ties lt y) z y (filter (ties lt y) ys) (z ∷ zs) (not_below z, v) (sym (own_ties y ys) ∙ f y) in
        let below : lt z y ≡ false = first_up (ties lt z) y z (filter (ties lt z) zs) (y ∷ ys) (not_below y, u) (sym (own_ties z zs) ∙ sym (f z)) in
        let tie : ties lt y z ≡ true = (λ i. not (above i) && not (below i)) in
        let both : y ∷ filter (ties lt y) ys ≡ z ∷ filter (ties lt y) zs = sym (own_ties y ys) ∙ f y ∙ ap (λ b. cond b (z ∷ filter (ties lt y) zs) (filter (ties lt y) zs)) tie in
        cc

    only_one : (ys zs : List A) → IsUp ys → IsUp zs → ((w : A) → filter (ties lt w) ys ≡ filter (ties lt w) zs) → ys ≡ zs
    only_one [] [] u v f = refl
    only_one [] (z ∷ zs) u v f = let none : [] ≡ z ∷ filter (ties lt z) zs = f z ∙ own_ties z zs in cc
    only_one (y ∷ ys) [] u v f = let none : y ∷ filter (ties lt y) ys ≡ [] = sym (own_ties y ys) ∙ f y in cc
    only_one (y ∷ ys) (z ∷ zs) u v f =
        let e : y ≡ z = same_head y z ys zs u.0 v.0 f in
        let rest : ys ≡ zs = only_one ys zs u.1 v.1 (λ w. tail_same (ties lt w y) y (filter (ties lt w) ys) (filter (ties lt w) zs)
        (f w ∙ (λ i. cond (ties lt w (sym e i)) (sym e i ∷ filter (ties lt w) zs) (filter (ties lt w) zs)))) in
        (λ i. e i ∷ rest i)

not_lower : (o p : Ordering) → p ≡ ordering_reverse o → not (is_gt o) ≡ true → is_lt p ≡ false
not_lower Less p e h = ap is_lt e
not_lower Equal p e h = ap is_lt e
not_lower Greater p e h = cc

tie_or_not : (o p : Ordering) → p ≡ ordering_reverse o → is_eq o ≡ (not (is_lt o) && not (is_lt p))
tie_or_not Less p e = refl
tie_or_not Equal p e = sym (ap (λ q. not (is_lt q)) e)
tie_or_not Greater p e = sym (ap (λ q. not (is_lt q)) e)

module _ {A : Type 0} (cmp : A → A → Ordering) (total : IsTotalOrder cmp) where
  abbrev below : A → A → Bool
  below x y = is_lt (cmp x y)

  all_up : (x : A) (ys : List A) → list_all (not_above cmp x) ys ≡ true → AllUp below x ys
  all_up x [] h = tt
  all_up x (y ∷ ys) h =
      let b = and_parts (not_above cmp x y) (list_all (not_above cmp x) ys) h in
      (not_lower (cmp x y) (cmp y x) (total.antisymm y x) b.0, all_up x ys b.1)

  in_order_up : (ys : List A) → is_in_order cmp ys ≡ true → IsUp below ys
  in_order_up [] h = tt
  in_order_up (y ∷ ys) h =
      let b = and_parts (list_all (not_above cmp y) ys) (is_in_order cmp ys) h in
      (all_up y ys b.0, in_order_up ys b.1)

  same_ties : (w : A) (ys : List A) → filter (law.ties cmp w) ys ≡ filter (ties below w) ys
  same_ties w ys = λ i. filter (λ y. tie_or_not (cmp w y) (cmp y w) (total.antisymm y w) i) ys

  -- rows in order whose ties stayed are the rows sorted
  pub stable_is_sorted : (xs ys : List A) → IsSortedBy (λ x y. is_lt (cmp x y)) ys → IsStableBy (λ x y. is_lt (cmp x y)) xs ys → ys ≡ sorted cmp xs
  stable_is_sorted xs ys up stable =
      only_one below (ranks_by total (λ x. x)) ys (sorted cmp xs)
      (sorted_up below (ranks_by total (λ x. x)) ys up)
      (in_order_up (sorted cmp xs) (is_sorted cmp total xs))
      (λ w. stable w ∙ sym (same_ties w xs) ∙ sym (ties_stay cmp total w xs) ∙ same_ties w (sorted cmp xs))
