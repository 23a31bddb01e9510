-- Referencing columns are paired with the referenced ones in the order in which these are listed, or in
-- the order of the key that they are: both say the same of two rows (ISO/IEC 9075:1992, 11.8), since the
-- same columns stand in both.
use Rattle.std.proofs.Common.{◌≡◌, ℕ, zero, suc, cond, not, Bool, true, false, List, [], ◌∷◌, length, map, get_or, Option, Some, None, refl, sym, ap, subst, ◌∙◌, arith, eqb-true}
use Rattle.std.proofs.lemmas.List.Quantifiers.{position-Some}
use Rattle.std.proofs.lemmas.Option.{slice_get-get_or}
use Rattle.std.specs.Cmp.Lexicographic.{pointwise}
use Rattle.std.specs.Prelude.{◌&&◌, ◌||◌, find, is_some, nat_eq, position, slice_get, slice_index_or}
use Rattle.std.specs.List.{list_all, list_any}
use Rattle.std.specs.Option.{option_and_then}
use Rattle.std.proofs.lemmas.Bool.{and_parts}
use Rattle.sq_value.specs.Comparison.{is_same}
use Rattle.sq_value.specs.Key.{in_columns}
use Rattle.sq_value.specs.SetFunctions.{is_null}
use Rattle.sq_value.specs.declared.value.Value.TheVariants.{Null}
use Rattle.sq_store.specs.Keys.{has_key}
use Rattle.sq_store.specs.declared.table.Numbered.{Numbered}
use Rattle.sq_meaning.specs.Environment.{Row}
use Rattle.sq_meaning.specs.Rows.{same_row}
use Rattle.sq_meaning.specs.Constraints.{has_null}
use Rattle.sq_binding.proofs.Schemas.Names.{alike as bool_same}
use Rattle.sq_catalog.specs.References.{are_listed, paired_with}

-- ---- lists

map_at : {A B C : Type 0} (f : A → C) (g : B → C) (xs : List A) (ys : List B) → map f xs ≡ map g ys → (n : ℕ) (x : A)
    → slice_get xs n ≡ Some x → (y : B) × (slice_get ys n ≡ Some y) × (f x ≡ g y)
map_at f g [] ys e n x there = cc
map_at f g (z ∷ xs) [] e n x there = cc
map_at f g (z ∷ xs) (y ∷ ys) e zero x there =
    let is : z ≡ x = cc in
    let same : f z ≡ g y = cc in
    (y, refl, ap f (sym is) ∙ same)
map_at f g (z ∷ xs) (y ∷ ys) e (suc n) x there = let others : map f xs ≡ map g ys = cc in map_at f g xs ys others n x there

map_long : {A B C : Type 0} (f : A → C) (g : B → C) (xs : List A) (ys : List B) → map f xs ≡ map g ys → length xs ≡ length ys
map_long f g [] [] e = refl
map_long f g [] (y ∷ ys) e = cc
map_long f g (x ∷ xs) [] e = cc
map_long f g (x ∷ xs) (y ∷ ys) e = let others : map f xs ≡ map g ys = cc in ap suc (map_long f g xs ys others)

any_at : {A : Type 0} (test : A → Bool) (xs : List A) → list_any test xs ≡ true
    → (n : ℕ) × (x : A) × (slice_get xs n ≡ Some x) × (test x ≡ true)
any_at test [] e = cc
any_at {A} test (x ∷ xs) e = by_test (test x) refl (any_at test xs) e
  where
    by_test : (b : Bool) → test x ≡ b
        → (list_any test xs ≡ true → (n : ℕ) × (y : A) × (slice_get xs n ≡ Some y) × (test y ≡ true))
        → (b || list_any test xs) ≡ true → (n : ℕ) × (y : A) × (slice_get (x ∷ xs) n ≡ Some y) × (test y ≡ true)
    by_test true h others e = (0, x, refl, h)
    by_test false h others e = let found = others e in (suc found.0, found.1, found.2, found.3)

all_true_at : {A : Type 0} (test : A → Bool) (xs : List A) (n : ℕ) (x : A) → list_all test xs ≡ true → slice_get xs n ≡ Some x
    → test x ≡ true
all_true_at test [] n x e there = cc
all_true_at {A} test (y ∷ xs) n x e there = by_test (test y) refl n (all_true_at test xs) e there
  where
    by_test : (b : Bool) → test y ≡ b → (k : ℕ)
        → ((j : ℕ) (z : A) → list_all test xs ≡ true → slice_get xs j ≡ Some z → test z ≡ true)
        → (b && list_all test xs) ≡ true → slice_get (y ∷ xs) k ≡ Some x → test x ≡ true
    by_test false h k others e there = cc
    by_test true h zero others e there = let is : y ≡ x = cc in subst (λ z. test z ≡ true) is h
    by_test true h (suc k) others e there = others k x e there

-- ---- pairs

-- a test of each pair
abbrev pairs_pass : (ℕ → ℕ → Bool) → List ℕ → List ℕ → Bool
pairs_pass test [] qs = true
pairs_pass test (p ∷ ps) [] = true
pairs_pass test (p ∷ ps) (q ∷ qs) = test p q && pairs_pass test ps qs

abbrev EachPair : (ℕ → ℕ → Bool) → List ℕ → List ℕ → Type 0
EachPair test ps qs = (n p q : ℕ) → slice_get ps n ≡ Some p → slice_get qs n ≡ Some q → test p q ≡ true

each_pair : (test : ℕ → ℕ → Bool) (ps qs : List ℕ) → pairs_pass test ps qs ≡ true → EachPair test ps qs
each_pair test [] qs e n p q h k = cc
each_pair test (x ∷ ps) [] e n p q h k = cc
each_pair test (x ∷ ps) (y ∷ qs) e zero p q h k =
    let one : x ≡ p = cc in
    let other : y ≡ q = cc in
    (λ i. test (sym one i) (sym other i)) ∙ (and_parts (test x y) (pairs_pass test ps qs) e).0
each_pair test (x ∷ ps) (y ∷ qs) e (suc n) p q h k = each_pair test ps qs (and_parts (test x y) (pairs_pass test ps qs) e).1 n p q h k

pairs_all : (test : ℕ → ℕ → Bool) (ps qs : List ℕ) → EachPair test ps qs → pairs_pass test ps qs ≡ true
pairs_all test [] qs h = refl
pairs_all test (p ∷ ps) [] h = refl
pairs_all test (p ∷ ps) (q ∷ qs) h = (λ i. h 0 p q refl refl i && pairs_all test ps qs (λ n x y e f. h (suc n) x y e f) i)

-- each number once
abbrev pub AreOnce : List ℕ → Type 0
AreOnce ps = (i j p : ℕ) → slice_get ps i ≡ Some p → slice_get ps j ≡ Some p → i ≡ j

-- ---- the order of a list, and the order of a key

module _ (ps qs key own : List ℕ) (as_many : length qs ≡ length ps)
    (paired : map (paired_with ps qs) key ≡ map (λ column. Some column) own) (listed : are_listed key ps ≡ true)
    (once : AreOnce ps) where
  pair_found : (k b : ℕ) → paired_with ps qs k ≡ Some b → (n : ℕ) × (slice_get ps n ≡ Some k) × (slice_get qs n ≡ Some b)
  pair_found k b e = by_position (position (λ other. nat_eq other k) ps) refl e
    where
      by_position : (o : Option ℕ) → position (λ other. nat_eq other k) ps ≡ o
          → option_and_then (λ place. slice_get qs place) o ≡ Some b
          → (n : ℕ) × (slice_get ps n ≡ Some k) × (slice_get qs n ≡ Some b)
      by_position None at e = cc
      by_position (Some n) at e =
          let found = position-Some (λ other. nat_eq other k) ps n 0 at in
          (n, slice_get-get_or ps n 0 found.0 ∙ ap Some (eqb-true (get_or ps n 0) k found.1), e)

  from_list : (test : ℕ → ℕ → Bool) → EachPair test ps qs → EachPair test key own
  from_list test h n k b there own_there =
      let found = map_at (paired_with ps qs) (λ column. Some column) key own paired n k there in
      let same : found.0 ≡ b = cc (sym found.1 ∙ own_there) in
      let pair = pair_found k b (found.2 ∙ ap Some same) in
      h pair.0 k b pair.1 pair.2

  from_key : (test : ℕ → ℕ → Bool) → EachPair test key own → EachPair test ps qs
  from_key test h n p q there own_there =
      let at = any_at (λ other. nat_eq other p) key (all_true_at (λ column. list_any (λ other. nat_eq other column) key) ps n p listed there) in
      let is : at.1 ≡ p = eqb-true at.1 p at.3 in
      let in_key : slice_get key at.0 ≡ Some p = at.2 ∙ ap Some is in
      let found = map_at (paired_with ps qs) (λ column. Some column) key own paired at.0 p in_key in
      let pair = pair_found p found.0 found.2 in
      let here : pair.0 ≡ n = once pair.0 n p pair.1 there in
      let same : found.0 ≡ q = cc (sym pair.2 ∙ ap (slice_get qs) here ∙ own_there) in
      ap (test p) (sym same) ∙ h at.0 p found.0 in_key found.1

  pairs_same : (test : ℕ → ℕ → Bool) → pairs_pass test ps qs ≡ pairs_pass test key own
  pairs_same test =
      bool_same (pairs_pass test ps qs) (pairs_pass test key own)
      (λ e. pairs_all test key own (from_list test (each_pair test ps qs e)))
      (λ e. pairs_all test ps qs (from_key test (each_pair test key own e)))

  -- ---- rows

  nulls_pass : (row : Row) (xs ys : List ℕ) → length ys ≡ length xs
      → not (has_null (in_columns row ys)) ≡ pairs_pass (λ p q. not (is_null (slice_index_or row q Null))) xs ys
  nulls_pass row [] [] e = refl
  nulls_pass row [] (y ∷ ys) e = absurd (omega arith)
  nulls_pass row (x ∷ xs) [] e = absurd (omega arith)
  nulls_pass row (x ∷ xs) (y ∷ ys) e =
      let fewer : length ys ≡ length xs = omega arith in
      neither (is_null (slice_index_or row y Null)) (has_null (in_columns row ys))
      ∙ ap (λ b. not (is_null (slice_index_or row y Null)) && b) (nulls_pass row xs ys fewer)
    where
      neither : (a b : Bool) → not (a || b) ≡ (not a && not b)
      neither true b = refl
      neither false b = refl

  values_pass : (row other : Row) (xs ys : List ℕ) → length ys ≡ length xs
      → pointwise is_same (in_columns row ys) (in_columns other xs)
      ≡ pairs_pass (λ p q. is_same (slice_index_or row q Null) (slice_index_or other p Null)) xs ys
  values_pass row other [] [] e = refl
  values_pass row other [] (y ∷ ys) e = absurd (omega arith)
  values_pass row other (x ∷ xs) [] e = absurd (omega arith)
  values_pass row other (x ∷ xs) (y ∷ ys) e =
      let fewer : length ys ≡ length xs = omega arith in
      ap (λ b. is_same (slice_index_or row y Null) (slice_index_or other x Null) && b) (values_pass row other xs ys fewer)

  key_long : length own ≡ length key
  key_long = sym (map_long (paired_with ps qs) (λ column. Some column) key own paired)

  negated : (a b : Bool) → not a ≡ not b → a ≡ b
  negated true true e = refl
  negated true false e = cc
  negated false true e = cc
  negated false false e = refl

  -- some referencing column is null alike
  pub nulls_alike : (row : Row) → has_null (in_columns row qs) ≡ has_null (in_columns row own)
  nulls_alike row =
      negated (has_null (in_columns row qs)) (has_null (in_columns row own))
      (nulls_pass row ps qs as_many ∙ pairs_same (λ p q. not (is_null (slice_index_or row q Null)))
      ∙ sym (nulls_pass row key own key_long))

  -- two rows are the same in the paired columns alike
  pub rows_alike : (row other : Row)
      → same_row (in_columns row qs) (in_columns other ps) ≡ pointwise is_same (in_columns row own) (in_columns other key)
  rows_alike row other =
      values_pass row other ps qs as_many ∙ pairs_same (λ p q. is_same (slice_index_or row q Null) (slice_index_or other p Null))
      ∙ sym (values_pass row other key own key_long)

  -- A referenced row is found by pairs of columns exactly where it is found by the key.
  pub found_alike : (row : Row) (rows : List Numbered)
      → list_any (same_row (in_columns row qs)) (map (λ values. in_columns values ps) (map (λ (n : Numbered). n.row) rows))
      ≡ is_some (find (has_key key (in_columns row own)) rows)
  found_alike row [] = refl
  found_alike row (n ∷ rows) =
      (λ i. rows_alike row n.row i || found_alike row rows i)
      ∙ either (has_key key (in_columns row own) n) (find (has_key key (in_columns row own)) rows)
    where
      either : (b : Bool) (o : Option Numbered) → (b || is_some o) ≡ is_some (cond b (Some n) o)
      either true o = refl
      either false o = refl
