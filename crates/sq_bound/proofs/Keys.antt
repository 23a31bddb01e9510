-- The shortest of the keys that fit, and tests that name columns of a key.
use Rattle.std.proofs.Common.{◌≡◌, ℕ, zero, suc, ◌+◌, ◌<◌, ◌≤◌, Bool, true, false, not, ◌&&◌, ◌||◌, List, [], ◌∷◌, ◌++◌, length, map, take, get_or, nat_le, nat_lt, Option, Some, None, refl, sym, ap, subst, ◌∙◌, arith, ◌⊎◌, inl, inr}
use Rattle.std.specs.Prelude.{IfSome, slice_get}
use Rattle.std.specs.List.{list_all, list_any}
use Rattle.std.proofs.lemmas.Bool.{le-leb, leb-true, lt-ltb, ltb-false, ltb-true, or_parts}
use Rattle.std.proofs.lemmas.List.{length-map, length-take-le, take-map, take_all, take_more}
use Rattle.std.proofs.lemmas.List.Folds.{list_all-append, list_all-map, list_any-append}
use Rattle.std.proofs.lemmas.Option.{get_or_from_slice_get, slice_get_within}
use Rattle.sq_value.proofs.Truths.{both_left, both_right}
use Rattle.sq_bound.specs.Condition.{test_of}
use Rattle.sq_bound.specs.Keyed.{IsShortest, IsShortestKey, has_no_fewer, is_named_by, is_plain_base, is_shortest_of, names_column, names_key, names_one_of, start_with_key}
use Rattle.sq_bound.specs.Names.{option_all}
use Rattle.sq_bound.specs.declared.condition.BoundCond.{BoundCond, out-BoundCond}
use Rattle.sq_bound.specs.declared.condition.BoundConj.{BoundConj, out-BoundConj}
use Rattle.sq_bound.specs.declared.condition.BoundTest.{BoundTest}
use Rattle.sq_bound.specs.declared.names.BaseTable.{BaseTable}
use Rattle.sq_bound.specs.declared.names.Leaf.{Leaf}
use Rattle.sq_bound.specs.declared.names.TableBody.TheVariants as body

abbrev Key : Type 0
Key = List ℕ

-- ---- one key more

get_further : {A : Type 0} (xs ys : List A) (k : ℕ) (x : A) → slice_get xs k ≡ Some x → slice_get (xs ++ ys) k ≡ Some x
get_further [] ys k x h = cc
get_further (y ∷ xs) ys zero x h = h
get_further (y ∷ xs) ys (suc k) x h = get_further xs ys k x h

get_last : {A : Type 0} (xs : List A) (x : A) → slice_get (xs ++ x ∷ []) (length xs) ≡ Some x
get_last [] x = refl
get_last (y ∷ xs) x = get_last xs x

pub get_taken : {A : Type 0} (i : ℕ) (xs : List A) (k : ℕ) (x : A) → slice_get (take i xs) k ≡ Some x → slice_get xs k ≡ Some x
get_taken zero xs k x h = cc
get_taken (suc i) [] k x h = cc
get_taken (suc i) (y ∷ xs) zero x h = h
get_taken (suc i) (y ∷ xs) (suc k) x h = get_taken i xs k x h

all_and : {A : Type 0} (p : A → Bool) (xs : List A) (x : A) → list_all p xs ≡ true → p x ≡ true → list_all p (xs ++ x ∷ []) ≡ true
all_and p xs x all one = list_all-append p xs (x ∷ []) ∙ (λ i. all i && (one i && true))

module _ (fits : Key → Bool) where
  unfit : (key x : Key) → fits x ≡ false → has_no_fewer fits key x ≡ true
  unfit key x h = λ i. not (h i) || nat_le (length key) (length x)

  longer : (key x : Key) → length key ≤ length x → has_no_fewer fits key x ≡ true
  longer key x h = by (fits x)
    where
      by : (b : Bool) → (not b || nat_le (length key) (length x)) ≡ true
      by true = le-leb (length key) (length x) h
      by false = refl

  none_fit : (key : Key) (xs : List Key) → list_any fits xs ≡ false → list_all (has_no_fewer fits key) xs ≡ true
  none_fit key [] h = refl
  none_fit key (x ∷ xs) h = let parts = or_parts (fits x) (list_any fits xs) h in (λ i. unfit key x parts.0 i && none_fit key xs parts.1 i)

  fewer_than : (short key x : Key) → length short ≤ length key → has_no_fewer fits key x ≡ true → has_no_fewer fits short x ≡ true
  fewer_than short key x less h = by (fits x) refl
    where
      by : (b : Bool) → fits x ≡ b → has_no_fewer fits short x ≡ true
      by false e = unfit short x e
      by true e =
          let least : length key ≤ length x = leb-true (length key) (length x) ((λ i. not (sym e i) || nat_le (length key) (length x)) ∙ h) in
          longer short x (omega (arith, less, least))

  fewer : (short key : Key) (xs : List Key) → length short ≤ length key → list_all (has_no_fewer fits key) xs ≡ true → list_all (has_no_fewer fits short) xs ≡ true
  fewer short key [] less h = refl
  fewer short key (x ∷ xs) less h =
      let one = fewer_than short key x less (both_left (has_no_fewer fits key x) (list_all (has_no_fewer fits key) xs) h) in
      let others = fewer short key xs less (both_right (has_no_fewer fits key x) (list_all (has_no_fewer fits key) xs) h) in
      (λ i. one i && others i)

  -- a key that doesn't fit, or has as many columns as the shortest so far, changes nothing
  unchanged : (xs : List Key) (x : Key) (found : Option ℕ) → (fits x ≡ false) ⊎ (IfSome found (λ k. (key : Key) → slice_get xs k ≡ Some key → length key ≤ length x) × ((k : ℕ) × (found ≡ Some k)))
      → IsShortest fits xs found → IsShortest fits (xs ++ x ∷ []) found
  unchanged xs x None (inl un) h = list_any-append fits xs (x ∷ []) ∙ (λ i. h i || (un i || false))
  unchanged xs x None (inr (more, (k, is))) h = cc
  unchanged xs x (Some k) (inl un) (key, at, fit, least) = (key, get_further xs (x ∷ []) k key at, fit, all_and (has_no_fewer fits key) xs x least (unfit key x un))
  unchanged xs x (Some k) (inr (more, some)) (key, at, fit, least) = (key, get_further xs (x ∷ []) k key at, fit, all_and (has_no_fewer fits key) xs x least (longer key x (more key at)))

  -- one that fits and has fewer takes its place
  replaced : (xs : List Key) (x : Key) (found : Option ℕ) → fits x ≡ true → IfSome found (λ k. (key : Key) → slice_get xs k ≡ Some key → length x ≤ length key)
      → IsShortest fits xs found → IsShortest fits (xs ++ x ∷ []) (Some (length xs))
  replaced xs x None fit less h = (x, get_last xs x, fit, all_and (has_no_fewer fits x) xs x (none_fit x xs h) (longer x x (omega arith)))
  replaced xs x (Some k) fit less (key, at, was, least) = (x, get_last xs x, fit, all_and (has_no_fewer fits x) xs x (fewer x key xs (less key at) least) (longer x x (omega arith)))

  -- one key of the list after the other
  module _ (keys : List Key) where
    pub found_within : (i : ℕ) (found : Option ℕ) → IsShortest fits (take i keys) found → IfSome found (λ k. k < length keys)
    found_within i None h = tt
    found_within i (Some k) (key, at, fit, least) = slice_get_within keys k key (get_taken i keys k key at)

    abbrev is_shorter : Key → Option ℕ → Bool
    is_shorter x found = option_all (λ k. nat_lt (length x) (length (get_or keys k []))) found

    read_at : (i k : ℕ) (key : Key) → slice_get (take i keys) k ≡ Some key → length (get_or keys k []) ≡ length key
    read_at i k key at = ap length (get_or_from_slice_get keys k key [] (get_taken i keys k key at))

    one_more : (i : ℕ) (x : Key) → i < length keys → x ≡ get_or keys i x → take (i + 1) keys ≡ take i keys ++ x ∷ []
    one_more i x within is = take_more keys i x within ∙ ap (λ (k : Key). take i keys ++ k ∷ []) (sym is)

    no_worse : (i : ℕ) (x : Key) (found : Option ℕ) → is_shorter x found ≡ false
        → IfSome found (λ k. (key : Key) → slice_get (take i keys) k ≡ Some key → length key ≤ length x) × ((k : ℕ) × (found ≡ Some k))
    no_worse i x None h = cc
    no_worse i x (Some k) h = ((λ key at. subst (λ n. n ≤ length x) (read_at i k key at) (ltb-false (length x) (length (get_or keys k [])) h)), (k, refl))

    better : (i : ℕ) (x : Key) (found : Option ℕ) → is_shorter x found ≡ true → IfSome found (λ k. (key : Key) → slice_get (take i keys) k ≡ Some key → length x ≤ length key)
    better i x None h = tt
    better i x (Some k) h = λ key at.
        let less : length x < length (get_or keys k []) = ltb-true (length x) (length (get_or keys k [])) h in
        subst (λ n. length x ≤ n) (read_at i k key at) (omega (arith, less))

    pub goes_on : (i : ℕ) (x : Key) (found : Option ℕ) → i < length keys → x ≡ get_or keys i x → (fits x && is_shorter x found) ≡ false → IsShortest fits (take i keys) found
        → IsShortest fits (take (i + 1) keys) found
    goes_on i x found within is worse h =
        subst (λ (ks : List Key). IsShortest fits ks found) (sym (one_more i x within is)) (unchanged (take i keys) x found (by (fits x) refl) h)
      where
        by : (b : Bool) → fits x ≡ b → (fits x ≡ false) ⊎ (IfSome found (λ k. (key : Key) → slice_get (take i keys) k ≡ Some key → length key ≤ length x) × ((k : ℕ) × (found ≡ Some k)))
        by false e = inl e
        by true e = inr (no_worse i x found ((λ j. sym e j && is_shorter x found) ∙ worse))

    pub takes_place : (i : ℕ) (x : Key) (found : Option ℕ) → i < length keys → x ≡ get_or keys i x → (fits x && is_shorter x found) ≡ true → IsShortest fits (take i keys) found
        → IsShortest fits (take (i + 1) keys) (Some i)
    takes_place i x found within is both h =
        let fit : fits x ≡ true = both_left (fits x) (is_shorter x found) both in
        let short : is_shorter x found ≡ true = both_right (fits x) (is_shorter x found) both in
        let at : length (take i keys) ≡ i = length-take-le i keys (omega (arith, within)) in
        subst (λ n. IsShortest fits (take (i + 1) keys) (Some n)) at
        (subst (λ (ks : List Key). IsShortest fits ks (Some (length (take i keys)))) (sym (one_more i x within is)) (replaced (take i keys) x found fit (better i x found short) h))

    pub all_seen : (i : ℕ) (found : Option ℕ) → length keys ≤ i → IsShortest fits (take i keys) found → IsShortest fits keys found
    all_seen i found past h = subst (λ (ks : List Key). IsShortest fits ks found) (take_all i keys past) h

-- ---- tests, one after the other

any_map : {A B : Type 0} (test : B → Bool) (f : A → B) (xs : List A) → list_any test (map f xs) ≡ list_any (λ x. test (f x)) xs
any_map test f [] = refl
any_map test f (x ∷ xs) = ap (λ (b : Bool). test (f x) || b) (any_map test f xs)

module _ (key : Key) (tests : List BoundTest) where
  abbrev naming : Bool
  naming = list_all (λ t. names_one_of key (test_of [] t)) (take (length key) tests)

  abbrev named : Bool
  named = list_all (λ n. list_any (λ t. names_column n (test_of [] t)) (take (length key) tests)) key

  starts : length key ≤ length tests → start_with_key key (map (test_of []) tests) ≡ (naming && named)
  starts enough =
      let many : nat_le (length key) (length (map (test_of []) tests)) ≡ true = ap (nat_le (length key)) (length-map tests (test_of [])) ∙ le-leb (length key) (length tests) enough in
      let taken : take (length key) (map (test_of []) tests) ≡ map (test_of []) (take (length key) tests) = take-map (test_of []) (length key) tests in
      let each_names = ap (list_all (names_one_of key)) taken ∙ list_all-map (names_one_of key) (test_of []) (take (length key) tests) in
      let any_names : (n : ℕ) → list_any (names_column n) (take (length key) (map (test_of []) tests)) ≡ list_any (λ t. names_column n (test_of [] t)) (take (length key) tests) =
      λ n. ap (list_any (names_column n)) taken ∙ any_map (names_column n) (test_of []) (take (length key) tests) in
      (λ i. many i && each_names i && list_all (λ n. any_names n i) key)

  pub starts_named : length key ≤ length tests → naming ≡ true → start_with_key key (map (test_of []) tests) ≡ named
  starts_named enough all = starts enough ∙ ap (λ (b : Bool). b && named) all

  pub starts_unnamed : length key ≤ length tests → naming ≡ false → start_with_key key (map (test_of []) tests) ≡ false
  starts_unnamed enough fails = starts enough ∙ ap (λ (b : Bool). b && named) fails

-- ---- the tests of a condition

none_of : {A : Type 0} (p : A → Bool) (xs : List A) → ((x : A) → p x ≡ false) → list_any p xs ≡ false
none_of p [] none = refl
none_of p (x ∷ xs) none = λ i. none x i || none_of p xs none i

-- a condition that isn't one term names a row by no key
pub none_named : (keys : List Key) (terms : List BoundConj) → (length terms ≡ 1 → ⊥) → list_any (λ key. names_key key terms) keys ≡ false
none_named keys [] other = none_of (λ key. names_key key []) keys (λ key. refl)
none_named keys (term ∷ []) other = absurd (other refl)
none_named keys (term ∷ next ∷ terms) other = none_of (λ key. names_key key (term ∷ next ∷ terms)) keys (λ key. refl)

pub only_of : {A : Type 0} (xs : List A) (x : A) → length xs ≡ 1 → x ≡ get_or xs 0 x → xs ≡ x ∷ []
only_of [] x one is = absurd (omega (arith, one))
only_of (y ∷ []) x one is = ap (λ z. z ∷ []) (sym is)
only_of (y ∷ z ∷ xs) x one is = absurd (omega (arith, one))

pub term_names : (keys : List Key) (own : BoundCond) (term : BoundConj) (tests : List BoundTest) (found : Option ℕ) → (out-BoundCond own).terms ≡ term ∷ [] → tests ≡ (out-BoundConj term).tests
    → IsShortest (λ key. start_with_key key (map (test_of []) tests)) keys found → IsShortestKey keys own found
term_names keys own term tests found only are h =
    subst (λ (ts : List BoundConj). IsShortest (λ key. names_key key ts) keys found) (sym only)
    (subst (λ (ts : List BoundTest). IsShortest (λ key. start_with_key key (map (test_of []) ts)) keys found) are h)

-- ---- the key that is noted

module _ (leaf : Leaf) (own : BoundCond) where
  abbrev by_key : Key → Bool
  by_key key = names_key key (out-BoundCond own).terms

  number_at : (k : ℕ) (key : Key) → slice_get leaf.table.keys k ≡ Some key → get_or leaf.table.keys k [] ≡ key
  number_at k key at = get_or_from_slice_get leaf.table.keys k key [] at

  pub shortest_named : (b : BaseTable) (found : Option ℕ) → is_plain_base (body.Base b) (Some leaf) ≡ true → IsShortestKey leaf.table.keys own found → option_all (is_named_by leaf (Some own)) found ≡ true
  shortest_named b None plain h = refl
  shortest_named b (Some k) plain (key, at, fit, least) =
      let within : nat_lt k (length leaf.table.keys) ≡ true = lt-ltb k (length leaf.table.keys) (slice_get_within leaf.table.keys k key at) in
      (λ i. plain i && within i && (ap by_key (number_at k key at) ∙ fit) i)

  pub shortest_so : (found : Option ℕ) → IsShortestKey leaf.table.keys own found → option_all (is_shortest_of leaf (Some own)) found ≡ true
  shortest_so None h = refl
  shortest_so (Some k) (key, at, fit, least) = ap (λ (short : Key). list_all (has_no_fewer by_key short) leaf.table.keys) (number_at k key at) ∙ least
