-- The columns of a table, each at its position in the base table under it.
use Rattle.std.proofs.Common.{◌≡◌, ℕ, zero, suc, ◌+◌, ◌<◌, ◌≤◌, List, [], ◌∷◌, ◌++◌, length, length-take-le, map, get_or, take, take_all, None, refl, sym, ap, ◌∙◌, arith}
use Rattle.std.proofs.lemmas.List.{length-map, map-append, take_more}
use Rattle.std.specs.List.{slice_get, zip}
use Rattle.sq_bound.specs.declared.names.Column.{Column}
use Rattle.sq_binding.specs.From.{column_over}
use Rattle.sq_binder.specs.Surroundings.{descriptor_of}
use Rattle.sq_binder.specs.Changeable.{columns_at_leaf}

zip_last : {A B : Type 0} (xs : List A) (ys : List B) (x : A) (y : B) → length xs ≡ length ys → zip (xs ++ x ∷ []) (ys ++ y ∷ []) ≡ zip xs ys ++ (x, y) ∷ []
zip_last [] [] x y e = refl
zip_last [] (b ∷ ys) x y e = absurd (omega (arith, e))
zip_last (a ∷ xs) [] x y e = absurd (omega (arith, e))
zip_last (a ∷ xs) (b ∷ ys) x y e = let rest : length xs ≡ length ys = omega (arith, e) in ap (λ l. (a, b) ∷ l) (zip_last xs ys x y rest)

zip_none : {A B : Type 0} (xs : List A) → zip {K = A} {X = B} xs [] ≡ []
zip_none [] = refl
zip_none (x ∷ xs) = refl

-- elements with none beside them are left out
zip_short : {A B : Type 0} (i : ℕ) (xs : List A) (ys : List B) → length ys ≤ i → zip (take i xs) (take i ys) ≡ zip xs ys
zip_short i xs [] past = ap (zip (take i xs)) (take_all i [] past) ∙ zip_none (take i xs) ∙ sym (zip_none xs)
zip_short zero xs (y ∷ ys) past = absurd (omega (arith, past))
zip_short (suc i) [] (y ∷ ys) past = refl
zip_short (suc i) (x ∷ xs) (y ∷ ys) past = let rest : length ys ≤ i = omega (arith, past) in ap (λ l. (x, y) ∷ l) (zip_short i xs ys rest)

zip_full : {A B : Type 0} (i : ℕ) (xs : List A) (ys : List B) → length xs ≤ i → zip (take i xs) (take i ys) ≡ zip xs ys
zip_full i [] ys past = ap (λ l. zip l (take i ys)) (take_all i [] past)
zip_full zero (x ∷ xs) ys past = absurd (omega (arith, past))
zip_full (suc i) (x ∷ xs) [] past = refl
zip_full (suc i) (x ∷ xs) (y ∷ ys) past = let rest : length xs ≤ i = omega (arith, past) in ap (λ l. (x, y) ∷ l) (zip_full i xs ys rest)

map_take : {A B : Type 0} (f : A → B) (i : ℕ) (xs : List A) → map f (take i xs) ≡ take i (map f xs)
map_take f zero xs = refl
map_take f (suc i) [] = refl
map_take f (suc i) (x ∷ xs) = ap (λ l. f x ∷ l) (map_take f i xs)

-- a list that is no longer
pub past_end : {A : Type 0} (xs : List A) (i : ℕ) → slice_get xs i ≡ None → length xs ≤ i
past_end [] i none = omega arith
past_end (x ∷ xs) zero none = cc
past_end (x ∷ xs) (suc i) none = let rest : length xs ≤ i = past_end xs i none in omega (arith, rest)

abbrev position : Column → ℕ
position c = c.leaf_column

module _ (under columns : List Column) (i : ℕ) where
  taken : columns_at_leaf (take i under) (take i columns) ≡ map column_over (zip (take i (map position under)) (take i (map descriptor_of columns)))
  taken = λ j. map column_over (zip (map_take position i under j) (map_take descriptor_of i columns j))

  pub all_at_leaf : length under ≤ i → columns_at_leaf (take i under) (take i columns) ≡ columns_at_leaf under columns
  all_at_leaf past =
      let long = length-map under position in
      taken ∙ ap (map column_over) (zip_full i (map position under) (map descriptor_of columns) (omega (arith, past, long)))

  pub rest_left_out : length columns ≤ i → columns_at_leaf (take i under) (take i columns) ≡ columns_at_leaf under columns
  rest_left_out past =
      let long = length-map columns descriptor_of in
      taken ∙ ap (map column_over) (zip_short i (map position under) (map descriptor_of columns) (omega (arith, past, long)))

  pub next_at_leaf : (own column : Column) → i < length under → i < length columns → get_or under i own ≡ own → get_or columns i column ≡ column
      → columns_at_leaf (take (i + 1) under) (take (i + 1) columns) ≡ columns_at_leaf (take i under) (take i columns) ++ column_over (own.leaf_column, descriptor_of column) ∷ []
  next_at_leaf own column within beside at at_column =
      let before = map position (take i under) in
      let shown = map descriptor_of (take i columns) in
      let long : length before ≡ i = length-map (take i under) position ∙ length-take-le i under (omega (arith, within)) in
      let wide : length shown ≡ i = length-map (take i columns) descriptor_of ∙ length-take-le i columns (omega (arith, beside)) in
      (λ j. columns_at_leaf ((take_more under i own within ∙ ap (λ x. take i under ++ x ∷ []) at) j) ((take_more columns i column beside ∙ ap (λ x. take i columns ++ x ∷ []) at_column) j))
      ∙ (λ j. map column_over (zip (map-append position (take i under) (own ∷ []) j) (map-append descriptor_of (take i columns) (column ∷ []) j)))
      ∙ ap (map column_over) (zip_last before shown own.leaf_column (descriptor_of column) (long ∙ sym wide))
      ∙ map-append column_over (zip before shown) ((own.leaf_column, descriptor_of column) ∷ [])
