-- Rows looked up through an index: the places that its entries name, put in their order, are those of all rows with the values.
use Rattle.std.proofs.Common.{◌≡◌, ℕ, zero, suc, ◌+◌, ◌-◌, ◌<◌, ◌≤◌, Bool, true, false, ◌&&◌, ◌||◌, nat_eq, nat_le, filter, List, [], ◌∷◌, ◌++◌, length, get_or, if◌then◌else◌, cond, Some, None, arith, refl, sym, ap, ◌∙◌, subst}
use Rattle.std.specs.List.{Contains, list_any}
use Rattle.std.specs.List.Sorted.{IsStrictlyIncreasing}
use Rattle.std.specs.Cmp.Lexicographic.{pointwise}
use Rattle.std.proofs.lemmas.Bool.{false≢true, or_right, or_left, and_from}
use Rattle.std.proofs.lemmas.Grind.{common_steps}
use Rattle.sq_value.proofs.Truths.{alike, both_left, both_right}
use Rattle.sq_value.specs.Comparison.{is_same}
use Rattle.sq_value.specs.Key.{in_columns}
use Rattle.sq_value.specs.declared.value.Value.{Value}
use Rattle.sq_store.specs.Found.{has_one_of}
use Rattle.sq_store.specs.declared.table.Numbered.{Numbered}
use Rattle.sq_heap.specs.Chain.{is_entry}
use Rattle.sq_heap.specs.Index.{bucket_of, hash_of, is_in, named, names_key, slot_has_key, slots_hold}
use Rattle.sq_heap.specs.Lookup.{has_place, place_named, places_named, places_of, places_with, row_under, rows_under}
use Rattle.sq_heap.specs.Slots.{Slot, rows_from, slot_at}
use Rattle.sq_heap.specs.declared.index.Entry.{Entry}
use Rattle.sq_heap.specs.declared.index.Index.{Index}
use Rattle.sq_heap.proofs.Distinct.{by_test, or_rest}
use Rattle.sq_heap.proofs.Keyed.{entry_under, is_named, row_of_slot, slot_of_named}

-- ---- places

pub contained : (xs : List ℕ) (x : ℕ) → has_place xs x ≡ true → Contains xs x
contained [] x h = cc
contained (y ∷ xs) x h = by_test (nat_eq x y)
    (λ t. let same : y ≡ x = grind (arith, common_steps) in (0, omega arith, same))
    (λ f. let rest = contained xs x (or_rest (nat_eq x y) (has_place xs x) f h) in (suc rest.0, omega (arith, rest.1), rest.2))

place_at : (xs : List ℕ) (x k : ℕ) → k < length xs → get_or xs k x ≡ x → has_place xs x ≡ true
place_at [] x k lt e = absurd (omega arith)
place_at (y ∷ xs) x zero lt e = let same : nat_eq x y ≡ true = grind (arith, common_steps) in or_left (nat_eq x y) (has_place xs x) same
place_at (y ∷ xs) x (suc k) lt e = or_right (nat_eq x y) (has_place xs x) (place_at xs x k (omega arith) e)

pub is_there : (xs : List ℕ) (x : ℕ) → Contains xs x → has_place xs x ≡ true
is_there xs x h = place_at xs x h.0 h.1 h.2

place_of_both : (xs ys : List ℕ) (x : ℕ) → has_place (xs ++ ys) x ≡ (has_place xs x || has_place ys x)
place_of_both [] ys x = refl
place_of_both (y ∷ xs) ys x = by_test (nat_eq x y)
    (λ t. ap (λ b. b || has_place (xs ++ ys) x) t ∙ sym (ap (λ b. (b || has_place xs x) || has_place ys x) t))
    (λ f. ap (λ b. b || has_place (xs ++ ys) x) f ∙ place_of_both xs ys x ∙ sym (ap (λ b. (b || has_place xs x) || has_place ys x) f))

-- ---- places that rise

abbrev rises : ℕ → List ℕ → Bool
rises low [] = true
rises low (x ∷ xs) = nat_le low x && rises (x + 1) xs

rising : (low : ℕ) (xs : List ℕ) → IsStrictlyIncreasing xs → (0 < length xs → low ≤ get_or xs 0 0) → rises low xs ≡ true
rising low [] h le = refl
rising low (x ∷ xs) h le =
    let first : low ≤ x = le (omega arith) in
    let here : nat_le low x ≡ true = grind (arith, common_steps) in
    and_from (nat_le low x) (rises (x + 1) xs) here
    (rising (x + 1) xs
    (λ k within. let e : suc k + 1 ≡ suc (k + 1) = omega arith in subst (λ n. get_or xs k 0 < get_or (x ∷ xs) n 0) e (h (suc k) (omega arith)))
    (λ some. let next : x < get_or xs 0 0 = h 0 (omega arith) in omega arith))

-- a place that rising ones from it on lack is below them
above : (n : ℕ) (xs : List ℕ) → rises n xs ≡ true → has_place xs n ≡ false → rises (n + 1) xs ≡ true
above n [] up out = refl
above n (x ∷ xs) up out = by_test (nat_eq n x)
    (λ t. absurd (false≢true (sym out ∙ or_left (nat_eq n x) (has_place xs n) t)))
    (λ f.
    let low : nat_le n x ≡ true = both_left (nat_le n x) (rises (x + 1) xs) up in
    let here : nat_le (n + 1) x ≡ true = grind (arith, common_steps) in
    and_from (nat_le (n + 1) x) (rises (x + 1) xs) here (both_right (nat_le n x) (rises (x + 1) xs) up))

none_below : (low x : ℕ) (xs : List ℕ) → rises low xs ≡ true → x < low → has_place xs x ≡ false
none_below low x [] up lt = refl
none_below low x (y ∷ xs) up lt =
    let le : nat_le low y ≡ true = both_left (nat_le low y) (rises (y + 1) xs) up in
    let other : nat_eq x y ≡ false = grind (arith, common_steps) in
    let below : x < y + 1 = grind (arith, common_steps) in
    ap (λ b. b || has_place xs x) other ∙ none_below (y + 1) x xs (both_right (nat_le low y) (rises (y + 1) xs) up) below

-- a place that rising ones from it on have is the first of them
first_place : (n : ℕ) (xs : List ℕ) → rises n xs ≡ true → has_place xs n ≡ true → (ys : List ℕ) × (xs ≡ n ∷ ys) × (rises (n + 1) ys ≡ true)
first_place n [] up h = cc
first_place n (x ∷ xs) up h = by_test (nat_eq n x)
    (λ t.
    let same : x ≡ n = grind (arith, common_steps) in
    (xs, ap (λ y. y ∷ xs) same, ap (λ y. rises (y + 1) xs) (sym same) ∙ both_right (nat_le n x) (rises (x + 1) xs) up))
    (λ f.
    let le : nat_le n x ≡ true = both_left (nat_le n x) (rises (x + 1) xs) up in
    let below : n < x + 1 = grind (arith, common_steps) in
    let none : has_place xs n ≡ false = none_below (x + 1) n xs (both_right (nat_le n x) (rises (x + 1) xs) up) below in
    absurd (false≢true (sym none ∙ or_rest (nat_eq n x) (has_place xs n) f h)))

-- ---- the rows in the slots at rising places

abbrev at_number : ℕ → List Value → Numbered
at_number n row = record { number = n + 1; row = row }

later : (n j : ℕ) → n + 1 + j ≡ n + suc j
later n j = omega arith

kept_row : (b : Bool) (all : List Slot) (n : ℕ) (row : List Value) (places ps : List ℕ) (rest : List Numbered) → b ≡ true → slot_at all n ≡ Some row → places ≡ n ∷ ps → rows_under all ps ≡ rest
    → rows_under all places ≡ cond b (at_number n row ∷ rest) rest
kept_row b all n row places ps rest t s e h =
    ap (rows_under all) e ∙ ap (λ (slot : Slot). row_under n slot ++ rows_under all ps) s ∙ ap (λ (rs : List Numbered). at_number n row ∷ rs) h
    ∙ ap (λ (c : Bool). cond c (at_number n row ∷ rest) rest) (sym t)

-- where the places are those of the slots that pass a test, the rows are those that pass it
rows_there : (test : Slot → Bool) → test None ≡ false → (all : List Slot) (n : ℕ) (ss : List Slot) (places : List ℕ) → ((j : ℕ) → slot_at all (n + j) ≡ slot_at ss j) → rises n places ≡ true
    → ((j : ℕ) → has_place places (n + j) ≡ test (slot_at ss j)) → rows_under all places ≡ filter (λ r. test (Some r.row)) (rows_from (n + 1) ss)
rows_there test none all n [] [] a up is = refl
rows_there test none all n [] (p ∷ ps) a up is =
    let le : nat_le n p ≡ true = both_left (nat_le n p) (rises (p + 1) ps) up in
    let low : n ≤ p = grind (arith, common_steps) in
    let k : n + (p - n) ≡ p = omega arith in
    let here : nat_eq p p ≡ true = grind (arith, common_steps) in
    absurd (false≢true (sym none ∙ sym (is (p - n)) ∙ ap (has_place (p ∷ ps)) k ∙ or_left (nat_eq p p) (has_place ps p) here))
rows_there test none all n (None ∷ ss) places a up is =
    let at : n ≡ n + 0 = omega arith in
    rows_there test none all (n + 1) ss places (λ j. ap (slot_at all) (later n j) ∙ a (suc j))
    (above n places up (ap (has_place places) at ∙ is 0 ∙ none))
    (λ j. ap (has_place places) (later n j) ∙ is (suc j))
rows_there test none all n (Some row ∷ ss) places a up is =
    let at : n ≡ n + 0 = omega arith in
    let others = filter (λ r. test (Some r.row)) (rows_from (n + 1 + 1) ss) in
    by_test (test (Some row))
    (λ t.
    let first = first_place n places up (ap (has_place places) at ∙ is 0 ∙ t) in
    kept_row (test (Some row)) all n row places first.0 others t (ap (slot_at all) at ∙ a 0) first.1
    (rows_there test none all (n + 1) ss first.0 (λ j. ap (slot_at all) (later n j) ∙ a (suc j)) first.2
    (λ j.
    let other : nat_eq (n + suc j) n ≡ false = grind (arith, common_steps) in
    ap (has_place first.0) (later n j) ∙ sym (ap (λ b. b || has_place first.0 (n + suc j)) other) ∙ sym (ap (λ xs. has_place xs (n + suc j)) first.1) ∙ is (suc j))))
    (λ f.
    rows_there test none all (n + 1) ss places (λ j. ap (slot_at all) (later n j) ∙ a (suc j))
    (above n places up (ap (has_place places) at ∙ is 0 ∙ f))
    (λ j. ap (has_place places) (later n j) ∙ is (suc j))
    ∙ ap (λ (c : Bool). cond c (at_number n row ∷ others) others) (sym f))

-- ---- the places that entries name

place_of_one : (at x : ℕ) → has_place (at ∷ []) x ≡ nat_eq x at
place_of_one at x = by_test (nat_eq x at) (λ t. ap (λ b. b || false) t ∙ sym t) (λ f. ap (λ b. b || false) f ∙ sym f)

one_sound : (columns : List ℕ) (key : List Value) (ss : List Slot) (hash : ℕ) (e : Entry) (at : ℕ) → has_place (place_named columns key ss hash e) at ≡ true → slot_has_key columns key (slot_at ss at) ≡ true
one_sound columns key ss hash e at h = by_test (names_key columns key ss hash e)
    (λ t.
    let one : has_place (e.at ∷ []) at ≡ true = ap (λ (b : Bool). has_place (if b then e.at ∷ [] else []) at) (sym t) ∙ h in
    let same : nat_eq at e.at ≡ true = sym (place_of_one e.at at) ∙ one in
    let place : at ≡ e.at = grind (arith, common_steps) in
    let found = row_of_slot columns key (named ss hash e) t in
    ap (λ (k : ℕ). slot_has_key columns key (slot_at ss k)) place ∙ ap (slot_has_key columns key) (slot_of_named ss hash e found.0 found.1) ∙ found.2)
    (λ f.
    let none : has_place [] at ≡ true = ap (λ (b : Bool). has_place (if b then e.at ∷ [] else []) at) (sym f) ∙ h in
    absurd (false≢true none))

named_sound : (columns : List ℕ) (key : List Value) (ss : List Slot) (hash : ℕ) (es : List Entry) (at : ℕ) → has_place (places_named columns key ss hash es) at ≡ true → slot_has_key columns key (slot_at ss at) ≡ true
named_sound columns key ss hash [] at h = absurd (false≢true h)
named_sound columns key ss hash (e ∷ es) at h =
    let own = place_named columns key ss hash e in
    let rest = places_named columns key ss hash es in
    let either : (has_place own at || has_place rest at) ≡ true = sym (place_of_both own rest at) ∙ h in
    by_test (has_place own at)
    (λ t. one_sound columns key ss hash e at t)
    (λ f. named_sound columns key ss hash es at (or_rest (has_place own at) (has_place rest at) f either))

named_complete : (columns : List ℕ) (key : List Value) (ss : List Slot) (hash at : ℕ) (q : List Value) (es : List Entry) → slot_at ss at ≡ Some q → pointwise is_same key (in_columns q columns) ≡ true → list_any (is_entry hash at) es ≡ true
    → has_place (places_named columns key ss hash es) at ≡ true
named_complete columns key ss hash at q [] s same h = absurd (false≢true h)
named_complete columns key ss hash at q (e ∷ es) s same h =
    let own = place_named columns key ss hash e in
    let rest = places_named columns key ss hash es in
    place_of_both own rest at
    ∙ by_test (is_entry hash at e)
    (λ t.
    let place : nat_eq e.at at ≡ true = both_right (nat_eq e.hash hash) (nat_eq e.at at) t in
    let here : nat_eq at e.at ≡ true = grind (arith, common_steps) in
    or_left (has_place own at) (has_place rest at)
    (ap (λ (b : Bool). has_place (if b then e.at ∷ [] else []) at) (is_named columns key ss hash at q e s same t) ∙ place_of_one e.at at ∙ here))
    (λ f. or_right (has_place own at) (has_place rest at) (named_complete columns key ss hash at q es s same (or_rest (is_entry hash at e) (list_any (is_entry hash at) es) f h)))

named_there : (index : Index) (key : List Value) (ss : List Slot) (at : ℕ) → slots_hold (is_in index) 0 ss ≡ true
    → has_place (places_with index ss key) at ≡ slot_has_key index.columns key (slot_at ss at)
named_there index key ss at h = alike _ _
    (named_sound index.columns key ss (hash_of key) (bucket_of index (hash_of key)) at)
    (λ has.
    let found = row_of_slot index.columns key (slot_at ss at) has in
    named_complete index.columns key ss (hash_of key) at found.0 (bucket_of index (hash_of key)) found.1 found.2 (entry_under index key ss (hash_of key) at found.0 refl h found.1 found.2))

places_there : (index : Index) (ss : List Slot) (several : List (List Value)) (at : ℕ) → slots_hold (is_in index) 0 ss ≡ true
    → has_place (places_of index ss several) at ≡ list_any (λ key. slot_has_key index.columns key (slot_at ss at)) several
places_there index ss [] at h = refl
places_there index ss (key ∷ several) at h =
    let own = places_with index ss key in
    place_of_both own (places_of index ss several) at
    ∙ ap (λ b. b || has_place (places_of index ss several) at) (named_there index key ss at h)
    ∙ ap (λ b. slot_has_key index.columns key (slot_at ss at) || b) (places_there index ss several at h)

none_has : (columns : List ℕ) (several : List (List Value)) → list_any (λ key. slot_has_key columns key None) several ≡ false
none_has columns [] = refl
none_has columns (key ∷ several) = none_has columns several

-- ---- the rows

pub rows_found : (index : Index) (ss : List Slot) (several : List (List Value)) (places : List ℕ) → slots_hold (is_in index) 0 ss ≡ true → IsStrictlyIncreasing places
    → ((at : ℕ) → has_place places at ≡ has_place (places_of index ss several) at) → rows_under ss places ≡ filter (has_one_of index.columns several) (rows_from 1 ss)
rows_found index ss several places h up same =
    rows_there (λ s. list_any (λ key. slot_has_key index.columns key s) several) (none_has index.columns several) ss 0 ss places (λ j. ap (slot_at ss) (from_zero j))
    (rising 0 places up (λ some. omega arith))
    (λ j. ap (has_place places) (from_zero j) ∙ same j ∙ places_there index ss several j h)
  where
    from_zero : (j : ℕ) → 0 + j ≡ j
    from_zero j = omega arith
