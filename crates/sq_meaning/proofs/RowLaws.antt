-- Laws of lists of rows: the rows that DISTINCT leaves, and that ORDER BY keeps ties as they were.
use Rattle.std.proofs.Common.{◌≡◌, ℕ, zero, suc, Bool, true, false, ◌&&◌, not, List, [], ◌∷◌, ◌++◌, map, replicate, refl, sym, ap, ◌∙◌, cond}
use Rattle.std.specs.Prelude.{filter, if◌then◌else◌}
use Rattle.std.specs.List.{list_all}
use Rattle.std.specs.Cmp.{IsTotalOrder, on_total, back_total, then_total}
use Rattle.std.specs.Cmp.Derive.{point_total}
use Rattle.std.specs.declared.cmp.Ordering.{Ordering}
use Rattle.std.specs.declared.cmp.Ordering.TheVariants.{Less, Equal, Greater}
use Rattle.std.specs.Ordering.{nat_cmp, is_eq, is_lt, is_gt, ordering_then, ordering_reverse}
use Rattle.std.proofs.lemmas.Cmp.{nat_cmp_total}
use Rattle.std.proofs.lemmas.Bool.{false≢true, and_parts}
use Rattle.sq_value.specs.Comparison.{is_same}
use Rattle.sq_value.specs.declared.value.Value.{Value}
use Rattle.sq_value.specs.declared.value.Value.TheVariants.{Chars}
use Rattle.sq_value.specs.laws.Padding.{from_front, front_is}
use Rattle.sq_value.specs.laws.ValueOrder.{values_total}
use Rattle.sq_meaning.specs.Rows.{firsts, classes, before_higher, sorted, SortColumn, in_column, by_column, by_columns}

-- ---- what is left by first occurrence

-- no two are the same
abbrev pub are_apart : {A : Type 0} → (A → A → Bool) → List A → Bool
are_apart same [] = true
are_apart same (x ∷ xs) = list_all (λ y. not (same x y)) xs && are_apart same xs

-- a test that tells false from true
abbrev told : Bool → Type 0
told true = ⊥
told false = Unit {0}

all_filtered : {A : Type 0} (p : A → Bool) (xs : List A) → list_all p (filter p xs) ≡ true
all_filtered p [] = refl
all_filtered p (x ∷ xs) = split (all_filtered p xs) (p x) refl
  where
    split : list_all p (filter p xs) ≡ true → (b : Bool) → p x ≡ b → list_all p (cond b (x ∷ filter p xs) (filter p xs)) ≡ true
    split h true e = (λ i. e i && h i)
    split h false e = h

still_all : {A : Type 0} (p q : A → Bool) (xs : List A) → list_all p xs ≡ true → list_all p (filter q xs) ≡ true
still_all p q [] h = refl
still_all p q (x ∷ xs) h = split (still_all p q xs) (p x) refl (q x) h
  where
    split : (list_all p xs ≡ true → list_all p (filter q xs) ≡ true) → (b : Bool) → p x ≡ b → (c : Bool) → (b && list_all p xs) ≡ true → list_all p (cond c (x ∷ filter q xs) (filter q xs)) ≡ true
    split f true e true k = (λ i. e i && f k i)
    split f true e false k = f k
    split f false e c k = absurd (false≢true k)

still_apart : {A : Type 0} (same : A → A → Bool) (q : A → Bool) (xs : List A) → are_apart same xs ≡ true → are_apart same (filter q xs) ≡ true
still_apart same q [] h = refl
still_apart same q (x ∷ xs) h = split (still_apart same q xs) (list_all (λ y. not (same x y)) xs) refl (q x) h
  where
    split : (are_apart same xs ≡ true → are_apart same (filter q xs) ≡ true) → (b : Bool) → list_all (λ y. not (same x y)) xs ≡ b → (c : Bool) → (b && are_apart same xs) ≡ true → are_apart same (cond c (x ∷ filter q xs) (filter q xs)) ≡ true
    split f true e true k = (λ i. still_all (λ y. not (same x y)) q xs e i && f k i)
    split f true e false k = f k
    split f false e c k = absurd (false≢true k)

-- rows that DISTINCT leaves are not the same
pub firsts_are_apart : {A : Type 0} (same : A → A → Bool) (xs : List A) → are_apart same (firsts same xs) ≡ true
firsts_are_apart same [] = refl
firsts_are_apart same (x ∷ xs) = (λ i. all_filtered (λ y. not (same x y)) (firsts same xs) i && still_apart same (λ y. not (same x y)) (firsts same xs) (firsts_are_apart same xs) i)

-- ---- texts that differ in blanks

reflexive : (o : Ordering) → o ≡ ordering_reverse o → o ≡ Equal
reflexive Equal h = refl
reflexive Less h = absurd (false≢true (ap is_gt h))
reflexive Greater h = absurd (false≢true (ap is_lt h))

code_equal : (x : ℕ) → nat_cmp x x ≡ Equal
code_equal x = reflexive (nat_cmp x x) (nat_cmp_total.antisymm x x)

blanks_equal : (n : ℕ) → from_front [] (replicate n 32) ≡ Equal
blanks_equal zero = refl
blanks_equal (suc n) = blanks_equal n

padded_equal : (t : List ℕ) (n : ℕ) → from_front t (t ++ replicate n 32) ≡ Equal
padded_equal [] n = blanks_equal n
padded_equal (x ∷ t) n = (λ i. ordering_then (code_equal x i) (padded_equal t n i))

-- a text with blanks after it is the same in DISTINCT, GROUP BY and UNION
pub blanks_are_same : (t : List ℕ) (n : ℕ) → is_same (Chars t) (Chars (t ++ replicate n 32)) ≡ true
blanks_are_same t n = ap is_eq (front_is t (t ++ replicate n 32) ∙ padded_equal t n)

-- a value that is the same as the one before it makes no group of its own
pub one_for_both : {A : Type 0} (same : A → A → Bool) (x y : A) → same x y ≡ true → firsts same (x ∷ y ∷ []) ≡ x ∷ []
one_for_both same x y h = ap (λ b. x ∷ cond (not b) (y ∷ []) []) h

pub one_class : {A : Type 0} (same : A → A → Bool) (x y : A) → same x x ≡ true → same x y ≡ true → classes same (x ∷ y ∷ []) ≡ (x ∷ y ∷ []) ∷ []
one_class same x y h k =
    ap (map (λ first. filter (same first) (x ∷ y ∷ []))) (one_for_both same x y k)
    ∙ (λ i. cond (h i) (x ∷ cond (k i) (y ∷ []) []) (cond (k i) (y ∷ []) []) ∷ [])

-- ---- order

-- whether y ties with z
abbrev pub ties : {A : Type 0} → (A → A → Ordering) → A → A → Bool
ties cmp z y = is_eq (cmp z y)

equal_of : (o : Ordering) → is_eq o ≡ true → o ≡ Equal
equal_of Equal h = refl
equal_of Less h = absurd (false≢true h)
equal_of Greater h = absurd (false≢true h)

not_both : {A : Type 0} (cmp : A → A → Ordering) → IsTotalOrder cmp → (x y z : A) → cmp x y ≡ Greater → ties cmp z y ≡ true → ties cmp z x ≡ true → ⊥
not_both cmp total x y z h p q = false≢true (ap is_eq (sym h ∙ sym (total.congr z x y (equal_of (cmp z x) q)) ∙ equal_of (cmp z y) p))

exchanged : {A : Type 0} (x y : A) (ys : List A) (a b : Bool) → (a ≡ true → b ≡ true → ⊥) → cond a (y ∷ cond b (x ∷ ys) ys) (cond b (x ∷ ys) ys) ≡ cond b (x ∷ cond a (y ∷ ys) ys) (cond a (y ∷ ys) ys)
exchanged x y ys false b h = refl
exchanged x y ys true false h = refl
exchanged x y ys true true h = absurd (h refl refl)

ties_before_higher : {A : Type 0} (cmp : A → A → Ordering) → IsTotalOrder cmp → (z x : A) (ys : List A) → filter (ties cmp z) (before_higher cmp x ys) ≡ filter (ties cmp z) (x ∷ ys)
ties_before_higher cmp total z x [] = refl
ties_before_higher {A} cmp total z x (y ∷ ys) = split (ties_before_higher cmp total z x ys) (cmp x y) refl
  where
    split : filter (ties cmp z) (before_higher cmp x ys) ≡ filter (ties cmp z) (x ∷ ys)
        → (o : Ordering) → cmp x y ≡ o → filter (ties cmp z) (if is_gt o then y ∷ before_higher cmp x ys else x ∷ y ∷ ys) ≡ filter (ties cmp z) (x ∷ y ∷ ys)
    split h Less e = refl
    split h Equal e = refl
    split h Greater e =
        ap (λ (f : List A). cond (ties cmp z y) (y ∷ f) f) h
        ∙ exchanged x y (filter (ties cmp z) ys) (ties cmp z y) (ties cmp z x) (not_both cmp total x y z e)

-- rows that tie stay as they were
pub ties_stay : {A : Type 0} (cmp : A → A → Ordering) → IsTotalOrder cmp → (z : A) (xs : List A) → filter (ties cmp z) (sorted cmp xs) ≡ filter (ties cmp z) xs
ties_stay cmp total z [] = refl
ties_stay {A} cmp total z (x ∷ xs) = ties_before_higher cmp total z x (sorted cmp xs) ∙ ap (λ (f : List A). cond (ties cmp z x) (x ∷ f) f) (ties_stay cmp total z xs)

-- ORDER BY is such an order
column_total : (s : SortColumn) → IsTotalOrder (by_column s)
column_total s = split s.descending
  where
    split : (down : Bool) → IsTotalOrder (by_column (record { column = s.column; descending = down }))
    split true = back_total (on_total (in_column s.column) values_total)
    split false = on_total (in_column s.column) values_total

pub columns_total : (columns : List SortColumn) → IsTotalOrder (by_columns columns)
columns_total [] = point_total
columns_total (s ∷ others) = then_total (column_total s) (columns_total others)

pub ordered_ties_stay : (columns : List SortColumn) (z : List Value) (rows : List (List Value)) → filter (ties (by_columns columns) z) (sorted (by_columns columns) rows) ≡ filter (ties (by_columns columns) z) rows
ordered_ties_stay columns = ties_stay (by_columns columns) (columns_total columns)

-- none is above one behind it
abbrev pub not_above : {A : Type 0} → (A → A → Ordering) → A → A → Bool
not_above cmp x y = not (is_gt (cmp x y))

abbrev pub is_in_order : {A : Type 0} → (A → A → Ordering) → List A → Bool
is_in_order cmp [] = true
is_in_order cmp (x ∷ xs) = list_all (not_above cmp x) xs && is_in_order cmp xs

front_exchanged : (a b c : Bool) → (a && (b && c)) ≡ (b && (a && c))
front_exchanged true true c = refl
front_exchanged true false c = refl
front_exchanged false true c = refl
front_exchanged false false c = refl

all_before_higher : {A : Type 0} (cmp : A → A → Ordering) (p : A → Bool) (x : A) (ys : List A) → list_all p (before_higher cmp x ys) ≡ (p x && list_all p ys)
all_before_higher cmp p x [] = refl
all_before_higher {A} cmp p x (y ∷ ys) = split (all_before_higher cmp p x ys) (cmp x y)
  where
    split : list_all p (before_higher cmp x ys) ≡ (p x && list_all p ys) → (o : Ordering) → list_all p (if is_gt o then y ∷ before_higher cmp x ys else x ∷ y ∷ ys) ≡ (p x && (p y && list_all p ys))
    split h Less = refl
    split h Equal = refl
    split h Greater = ap (λ b. p y && b) h ∙ front_exchanged (p y) (p x) (list_all p ys)

all_of_more : {A : Type 0} (p q : A → Bool) → ((z : A) → p z ≡ true → q z ≡ true) → (ys : List A) → list_all p ys ≡ true → list_all q ys ≡ true
all_of_more p q f [] h = refl
all_of_more p q f (y ∷ ys) h = let both = and_parts (p y) (list_all p ys) h in (λ i. f y (both.0) i && all_of_more p q f ys (both.1) i)

below_all : {A : Type 0} (cmp : A → A → Ordering) → IsTotalOrder cmp → (x y z : A) → cmp x y ≡ Less → (o : Ordering) → cmp y z ≡ o → not (is_gt o) ≡ true → not_above cmp x z ≡ true
below_all cmp total x y z p Less q h = ap (λ o. not (is_gt o)) (total.trans x y z p q)
below_all cmp total x y z p Equal q h = ap (λ o. not (is_gt o)) (total.antisymm x z ∙ ap ordering_reverse (sym (total.congr y z x q)) ∙ sym (total.antisymm x y) ∙ p)
below_all cmp total x y z p Greater q h = absurd (false≢true h)

stays_in_order : {A : Type 0} (cmp : A → A → Ordering) → IsTotalOrder cmp → (x : A) (ys : List A) → is_in_order cmp ys ≡ true → is_in_order cmp (before_higher cmp x ys) ≡ true
stays_in_order cmp total x [] h = refl
stays_in_order {A} cmp total x (y ∷ ys) h = split (stays_in_order cmp total x ys ((and_parts (list_all (not_above cmp y) ys) (is_in_order cmp ys) h).1)) (cmp x y) refl
  where
    after : list_all (not_above cmp y) ys ≡ true
    after = (and_parts (list_all (not_above cmp y) ys) (is_in_order cmp ys) h).0

    split : is_in_order cmp (before_higher cmp x ys) ≡ true → (o : Ordering) → cmp x y ≡ o → is_in_order cmp (if is_gt o then y ∷ before_higher cmp x ys else x ∷ y ∷ ys) ≡ true
    split k Less e = (λ i. (not (is_gt (e i)) && all_of_more (not_above cmp y) (not_above cmp x) (λ z n. below_all cmp total x y z e (cmp y z) refl n) ys after i) && h i)
    split k Equal e = (λ i. (not (is_gt (e i)) && all_of_more (not_above cmp y) (not_above cmp x) (λ z n. ap (λ o. not (is_gt o)) (total.congr x y z e) ∙ n) ys after i) && h i)
    split k Greater e = (λ i. (all_before_higher cmp (not_above cmp y) x ys ∙ (λ j. not (is_gt ((total.antisymm y x ∙ ap ordering_reverse e) j)) && after j)) i && k i)

-- rows are in order
pub is_sorted : {A : Type 0} (cmp : A → A → Ordering) → IsTotalOrder cmp → (xs : List A) → is_in_order cmp (sorted cmp xs) ≡ true
is_sorted cmp total [] = refl
is_sorted cmp total (x ∷ xs) = stays_in_order cmp total x (sorted cmp xs) (is_sorted cmp total xs)

pub ordered_is_in_order : (columns : List SortColumn) (rows : List (List Value)) → is_in_order (by_columns columns) (sorted (by_columns columns) rows) ≡ true
ordered_is_in_order columns rows = is_sorted (by_columns columns) (columns_total columns) rows
