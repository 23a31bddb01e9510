-- Tests that name each column of a key, as many as it has columns, name its columns and no other: a key
-- lists no column twice (ISO/IEC 9075:1992, 11.7).
use Rattle.std.proofs.Common.{◌≡◌, ◌⊎◌, ℕ, zero, suc, ◌≤◌, Bool, true, false, true≢false, ◌||◌, List, [], ◌∷◌, length, map, take, Option, Some, None, refl, sym, ap, subst, ◌∙◌, arith, inl, inr}
use Rattle.std.proofs.lemmas.Cmp.{nat_list_eq_equiv}
use Rattle.std.specs.Cmp.Lexicographic.{same_text}
use Rattle.std.specs.Prelude.{filter_map}
use Rattle.std.specs.List.{AllByRecursion, cons_option, list_any}
use Rattle.sq_lex.specs.declared.name.Name.{Name}
use Rattle.sq_meaning.specs.Environment.{same_name}
use Rattle.sq_meaning.proofs.AnswerLaws.{all_weaker}
use Rattle.sq_run.proofs.Sites.SiteLaws.{neither, none_passes}
use Rattle.sq_meaning.specs.Words.{has_twice}

-- ---- one of a list

abbrev pub Has : {A : Type 0} → List A → A → Type 0
Has [] x = ⊥
Has (y ∷ ys) x = (y ≡ x) ⊎ Has ys x

-- the others
abbrev without : {A : Type 0} (xs : List A) (x : A) → Has xs x → List A
without [] x h = []
without (y ∷ ys) x (inl e) = ys
without (y ∷ ys) x (inr h) = y ∷ without ys x h

shorter : {A : Type 0} (xs : List A) (x : A) (h : Has xs x) → length xs ≡ suc (length (without xs x h))
shorter [] x h = absurd h
shorter (y ∷ ys) x (inl e) = refl
shorter (y ∷ ys) x (inr h) = ap suc (shorter ys x h)

still : {A : Type 0} (xs : List A) (x : A) (h : Has xs x) (z : A) → (z ≡ x → ⊥) → Has xs z → Has (without xs x h) z
still [] x h z apart k = absurd h
still (y ∷ ys) x (inl e) z apart (inl k) = absurd (apart (sym k ∙ e))
still (y ∷ ys) x (inl e) z apart (inr k) = k
still (y ∷ ys) x (inr h) z apart (inl k) = inl k
still (y ∷ ys) x (inr h) z apart (inr k) = inr (still ys x h z apart k)

all_again : {A : Type 0} (P : A → Type 0) (xs : List A) (x : A) (h : Has xs x) → P x → AllByRecursion P (without xs x h)
    → AllByRecursion P xs
all_again P [] x h p all = tt
all_again P (y ∷ ys) x (inl e) p all = (subst P (sym e) p, all)
all_again P (y ∷ ys) x (inr h) p all = (all.0, all_again P ys x h p all.1)

-- ---- names

apart_from : (n m : Name) → same_name n m ≡ false → ◌≡◌ {A = Option Name} (Some m) (Some n) → ⊥
apart_from n m a e =
    let same : m ≡ n = cc in true≢false (sym (nat_list_eq_equiv.refl n) ∙ ap (same_name n) (sym same) ∙ a)

others_still : (n : Name) (ns : List Name) (os : List (Option Name)) (h : Has os (Some n))
    → AllByRecursion (λ m. same_name n m ≡ false) ns → AllByRecursion (λ m. Has os (Some m)) ns
    → AllByRecursion (λ m. Has (without os (Some n) h) (Some m)) ns
others_still n [] os h a b = tt
others_still n (m ∷ ns) os h a b = (still os (Some n) h (Some m) (apart_from n m a.0) b.0, others_still n ns os h a.1 b.1)

-- a name of the key
abbrev pub IsOneOf : List Name → Option Name → Type 0
IsOneOf key o = (n : Name) × Has key n × (o ≡ Some n)

-- As many as the key has, among which each of its names is, are its names.
pub all_named : (key : List Name) (os : List (Option Name)) → has_twice same_name key ≡ false → length os ≤ length key
    → AllByRecursion (λ n. Has os (Some n)) key → (length os ≡ length key) × AllByRecursion (IsOneOf key) os
all_named [] [] once less has = (refl, tt)
all_named [] (o ∷ os) once less has = absurd (omega arith)
all_named (n ∷ ns) os once less has =
    let parts = neither (list_any (same_name n) ns) (has_twice same_name ns) once in
    let short : length os ≡ suc (length (without os (Some n) has.0)) = shorter os (Some n) has.0 in
    let fewer : length (without os (Some n) has.0) ≤ length ns = omega (arith, short) in
    let rest = all_named ns (without os (Some n) has.0) parts.1 fewer
    (others_still n ns os has.0 (none_passes (same_name n) ns parts.0) has.1) in
    let as_many : length (without os (Some n) has.0) ≡ length ns = rest.0 in (
      short ∙ ap suc as_many,
      all_again (IsOneOf (n ∷ ns)) os (Some n) has.0 (n, inl refl, refl)
          (all_weaker (IsOneOf ns) (IsOneOf (n ∷ ns)) (λ o k. (k.0, inr k.1, k.2)) (without os (Some n) has.0) rest.1),
    )

-- ---- names that are found

module _ {C : Type 0} (f : C → Option Name) where
  pub has_found : (ts : List C) (n : Name) → list_any (same_name n) (filter_map f ts) ≡ true → Has (map f ts) (Some n)
  has_found [] n e = cc
  has_found (t ∷ ts) n e = by_found (f t) (has_found ts n) e
    where
      by_test : (m : Name) (b : Bool) → same_name n m ≡ b → (list_any (same_name n) (filter_map f ts) ≡ true → Has (map f ts) (Some n))
          → (b || list_any (same_name n) (filter_map f ts)) ≡ true
          → (◌≡◌ {A = Option Name} (Some m) (Some n)) ⊎ Has (map f ts) (Some n)
      by_test m true same rest e = inl (ap (λ (k : Name). Some k) (sym (same_text n m (sym same))))
      by_test m false same rest e = inr (rest e)

      by_found : (o : Option Name) → (list_any (same_name n) (filter_map f ts) ≡ true → Has (map f ts) (Some n))
          → list_any (same_name n) (cons_option o (filter_map f ts)) ≡ true → (o ≡ Some n) ⊎ Has (map f ts) (Some n)
      by_found None rest e = inr (rest e)
      by_found (Some m) rest e = by_test m (same_name n m) refl rest e

  pub found_short : (count : ℕ) (ts : List C) → length (map f (take count ts)) ≤ count
  found_short zero ts = omega arith
  found_short (suc count) [] = omega arith
  found_short (suc count) (t ∷ ts) =
      let fewer : length (map f (take count ts)) ≤ count = found_short count ts in omega (arith, fewer)
