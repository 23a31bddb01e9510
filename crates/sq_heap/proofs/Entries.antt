-- The indexes of a table, and the entries of one of them.
use Rattle.std.proofs.Common.{◌≡◌, ℕ, zero, suc, ◌+◌, ◌<◌, Bool, true, nat_eq, List, [], ◌∷◌, length, take, get_or, slice_set, arith, refl, sym, ap, ◌∙◌}
use Rattle.std.specs.List.{list_all, fold}
use Rattle.std.proofs.lemmas.Bool.{eqb-true, and_from}
use Rattle.std.proofs.lemmas.List.{take-map}
use Rattle.std.specs.Cmp.Lexicographic.{pointwise}
use Rattle.std.specs.Hash.{items_Alike}
use Rattle.std.specs.Hash.FoldHasher as folding
use Rattle.sq_value.proofs.Truths.{both_left, both_right}
use Rattle.sq_value.specs.Comparison.{is_same}
use Rattle.sq_value.specs.Key.{in_columns}
use Rattle.sq_value.specs.laws.ValueOrder.{same_fed}
use Rattle.sq_value.specs.declared.value.Value.{Value}
use Rattle.sq_store.specs.Keys.{Keys}
use Rattle.sq_heap.specs.Index.{columns_of, has_entry, hash_of, is_in, keys_of}
use Rattle.sq_heap.specs.declared.index.Index.{Index}

-- keys that are the same have one hash
pub same_hash : (key other : List Value) → pointwise is_same key other ≡ true → hash_of key ≡ hash_of other
same_hash key other h = ap (λ (ws : List (List ℕ)). folding.finish (fold folding.write folding.initial ws)) ((items_Alike (record { fed = same_fed })).fed key other h)

-- an index that keeps its entries
pub in_keeps : (x y : Index) → y.columns ≡ x.columns → ((hash place : ℕ) → has_entry x hash place ≡ true → has_entry y hash place ≡ true)
    → (row : List Value) (at : ℕ) → is_in x row at ≡ true → is_in y row at ≡ true
in_keeps x y e keeps row at h =
    ap (λ (c : List ℕ). has_entry y (hash_of (in_columns row c)) at) e ∙ keeps (hash_of (in_columns row x.columns)) at h

-- ---- one of them is another

pub keys_set : (xs : List Index) (i : ℕ) (x y : Index) → i < length xs → x ≡ get_or xs i x → y.columns ≡ x.columns → keys_of (slice_set xs i y) ≡ keys_of xs
keys_set [] i x y lt e same = refl
keys_set (z ∷ xs) zero x y lt e same = ap (λ (c : List ℕ). c ∷ keys_of xs) (same ∙ ap columns_of e)
keys_set (z ∷ xs) (suc i) x y lt e same = ap (λ (ks : Keys). z.columns ∷ ks) (keys_set xs i x y (omega arith) e same)

pub all_set : (P : Index → Bool) (xs : List Index) (i : ℕ) (x y : Index) → i < length xs → x ≡ get_or xs i x → (P x ≡ true → P y ≡ true) → list_all P xs ≡ true → list_all P (slice_set xs i y) ≡ true
all_set P [] i x y lt e keeps h = refl
all_set P (z ∷ xs) zero x y lt e keeps h = and_from _ _ (keeps (ap P e ∙ both_left (P z) (list_all P xs) h)) (both_right (P z) (list_all P xs) h)
all_set P (z ∷ xs) (suc i) x y lt e keeps h = and_from _ _ (both_left (P z) (list_all P xs) h) (all_set P xs i x y (omega arith) e keeps (both_right (P z) (list_all P xs) h))

pub all_taken : (P : Index → Bool) (xs : List Index) (i : ℕ) (y : Index) → list_all P (take i xs) ≡ true → P y ≡ true → list_all P (take (i + 1) (slice_set xs i y)) ≡ true
all_taken P xs i y h p = let k : i + 1 ≡ suc i = omega arith in ap (λ (m : ℕ). list_all P (take m (slice_set xs i y))) k ∙ one_more xs i h
  where
    one_more : (xs : List Index) (i : ℕ) → list_all P (take i xs) ≡ true → list_all P (take (suc i) (slice_set xs i y)) ≡ true
    one_more [] i h = refl
    one_more (z ∷ xs) zero h = and_from _ _ p refl
    one_more (z ∷ xs) (suc i) h = and_from _ _ (both_left (P z) (list_all P (take i xs)) h) (one_more xs i (both_right (P z) (list_all P (take i xs)) h))

pub all_at : (P : Index → Bool) (xs : List Index) (i : ℕ) (x : Index) → i < length xs → x ≡ get_or xs i x → list_all P xs ≡ true → P x ≡ true
all_at P [] i x lt e h = absurd (omega arith)
all_at P (z ∷ xs) zero x lt e h = ap P e ∙ both_left (P z) (list_all P xs) h
all_at P (z ∷ xs) (suc i) x lt e h = all_at P xs i x (omega arith) e (both_right (P z) (list_all P xs) h)

pub all_put : (P : Index → Bool) (xs : List Index) (i : ℕ) (y : Index) → list_all P xs ≡ true → P y ≡ true → list_all P (slice_set xs i y) ≡ true
all_put P [] i y h p = refl
all_put P (z ∷ xs) zero y h p = and_from _ _ p (both_right (P z) (list_all P xs) h)
all_put P (z ∷ xs) (suc i) y h p = and_from _ _ (both_left (P z) (list_all P xs) h) (all_put P xs i y (both_right (P z) (list_all P xs) h) p)

pub length_put : (xs : List Index) (i : ℕ) (y : Index) → length (slice_set xs i y) ≡ length xs
length_put [] i y = refl
length_put (z ∷ xs) zero y = refl
length_put (z ∷ xs) (suc i) y = ap suc (length_put xs i y)

pub length_keys : (xs : List Index) → length (keys_of xs) ≡ length xs
length_keys [] = refl
length_keys (z ∷ xs) = ap suc (length_keys xs)

pub same_length : (xs ys : List Index) → keys_of ys ≡ keys_of xs → length ys ≡ length xs
same_length xs ys e = sym (length_keys ys) ∙ ap length e ∙ length_keys xs

-- ---- the first of them

pub keys_first : (n : ℕ) (xs : List Index) → keys_of (take n xs) ≡ take n (keys_of xs)
keys_first n xs = sym (take-map columns_of n xs)

pub all_first : (P : Index → Bool) (n : ℕ) (xs : List Index) → list_all P xs ≡ true → list_all P (take n xs) ≡ true
all_first P zero xs h = refl
all_first P (suc n) [] h = refl
all_first P (suc n) (x ∷ xs) h = and_from _ _ (both_left (P x) (list_all P xs) h) (all_first P n xs (both_right (P x) (list_all P xs) h))

-- ---- lists of columns

pub same_numbers : (ms ns : List ℕ) → pointwise nat_eq ms ns ≡ true → ms ≡ ns
same_numbers [] [] h = refl
same_numbers [] (n ∷ ns) h = cc
same_numbers (m ∷ ms) [] h = cc
same_numbers (m ∷ ms) (n ∷ ns) h =
    let first : m ≡ n = eqb-true m n (both_left (nat_eq m n) (pointwise nat_eq ms ns) h) in
    let rest : ms ≡ ns = same_numbers ms ns (both_right (nat_eq m n) (pointwise nat_eq ms ns) h) in
    λ i. first i ∷ rest i
