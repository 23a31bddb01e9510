-- Rows found through an index, and whether they share its key.
use Rattle.std.proofs.Common.{◌≡◌, ℕ, zero, suc, ◌+◌, ◌<◌, Bool, true, false, not, nat_eq, find, List, [], ◌∷◌, length, get_or, slice_index_or, cond, if◌then◌else◌, is_some, Option, Some, None, arith, refl, sym, ap, ◌∙◌}
use Rattle.std.specs.List.{list_all, list_any}
use Rattle.std.proofs.lemmas.Bool.{false≢true, false_from_ne_true, or_right, or_left, not-true, and_from}
use Rattle.std.proofs.lemmas.Grind.{common_steps}
use Rattle.std.specs.Cmp.Lexicographic.{pointwise}
use Rattle.sq_value.proofs.Truths.{alike, both_left, both_right}
use Rattle.sq_value.specs.Comparison.{is_same}
use Rattle.sq_value.specs.Key.{in_columns}
use Rattle.sq_value.specs.declared.value.Value.{Value}
use Rattle.sq_store.specs.Keys.{are_distinct, has_columns, has_key}
use Rattle.sq_heap.specs.Alone.{is_alone, slots_have}
use Rattle.sq_heap.specs.Chain.{is_entry}
use Rattle.sq_heap.specs.Index.{bucket_of, columns_of, enters, has_entry, hash_of, in_all, is_in, keys_of, named, names_key, names_other, slot_has_key, slots_hold}
use Rattle.sq_heap.specs.Slots.{Slot, rows_from, slot_at}
use Rattle.sq_heap.specs.declared.index.Entry.{Entry}
use Rattle.sq_heap.specs.declared.index.Index.{Index}
use Rattle.sq_store.proofs.Unique.{found_with as unique_found}
use Rattle.sq_heap.proofs.Columns.{columns_of_slot}
use Rattle.sq_heap.proofs.Rows.{row_there}
use Rattle.sq_heap.proofs.Distinct.{alone_at, alone_from, by_test, or_rest}
use Rattle.sq_heap.proofs.Holds.{holds_at, slots_give}
use Rattle.sq_heap.proofs.Entries.{same_hash}

-- ---- one of the indexes

pub columns_at_index : (xs : List Index) (i : ℕ) (x : Index) → i < length xs → x ≡ get_or xs i x → slice_index_or (keys_of xs) i [] ≡ x.columns
columns_at_index [] i x lt e = absurd (omega arith)
columns_at_index (z ∷ xs) zero x lt e = ap columns_of (sym e)
columns_at_index (z ∷ xs) (suc i) x lt e = columns_at_index xs i x (omega arith) e

-- each has the entries that all have
pub each_holds : (xs : List Index) (ss : List Slot) → slots_hold (in_all xs) 0 ss ≡ true → list_all (enters ss) xs ≡ true
each_holds [] ss h = refl
each_holds (z ∷ xs) ss h =
    and_from _ _ (slots_give (in_all (z ∷ xs)) (is_in z) (λ r k t. both_left (is_in z r k) (in_all xs r k) t) 0 ss h)
    (each_holds xs ss (slots_give (in_all (z ∷ xs)) (in_all xs) (λ r k t. both_right (is_in z r k) (in_all xs r k) t) 0 ss h))

-- ---- an entry and its slot

pub slot_of_named : (ss : List Slot) (hash : ℕ) (e : Entry) (q : List Value) → named ss hash e ≡ Some q → slot_at ss e.at ≡ Some q
slot_of_named ss hash e q h = by_test (nat_eq e.hash hash)
    (λ t. ap (λ (b : Bool). if b then slot_at ss e.at else None) (sym t) ∙ h)
    (λ f. let none : None ≡ Some q = ap (λ (b : Bool). if b then slot_at ss e.at else None) (sym f) ∙ h in cc)

pub columns_of_named : (columns : List ℕ) (ss : List Slot) (hash : ℕ) (e : Entry) (q : List Value) → slots_have columns ss ≡ true → named ss hash e ≡ Some q → has_columns columns q ≡ true
columns_of_named columns ss hash e q h n = columns_of_slot columns ss e.at q h (slot_of_named ss hash e q n)

-- an entry of a row with the key names it
pub is_named : (columns : List ℕ) (key : List Value) (ss : List Slot) (hash j : ℕ) (q : List Value) (e : Entry) → slot_at ss j ≡ Some q → pointwise is_same key (in_columns q columns) ≡ true → is_entry hash j e ≡ true → names_key columns key ss hash e ≡ true
is_named columns key ss hash j q e s same h =
    let under : nat_eq e.hash hash ≡ true = both_left (nat_eq e.hash hash) (nat_eq e.at j) h in
    let place : nat_eq e.at j ≡ true = both_right (nat_eq e.hash hash) (nat_eq e.at j) h in
    let at : e.at ≡ j = grind (arith, common_steps) in
    ap (λ (b : Bool). slot_has_key columns key (if b then slot_at ss e.at else None)) under
    ∙ ap (λ (k : ℕ). slot_has_key columns key (slot_at ss k)) at ∙ ap (slot_has_key columns key) s ∙ same

names_one : (columns : List ℕ) (key : List Value) (ss : List Slot) (hash j : ℕ) (q : List Value) (es : List Entry) → slot_at ss j ≡ Some q → pointwise is_same key (in_columns q columns) ≡ true → list_any (is_entry hash j) es ≡ true → list_any (names_key columns key ss hash) es ≡ true
names_one columns key ss hash j q [] s same h = cc
names_one columns key ss hash j q (e ∷ es) s same h = by_test (is_entry hash j e)
    (λ t. or_left (names_key columns key ss hash e) (list_any (names_key columns key ss hash) es) (is_named columns key ss hash j q e s same t))
    (λ f. or_right (names_key columns key ss hash e) (list_any (names_key columns key ss hash) es) (names_one columns key ss hash j q es s same (or_rest (is_entry hash j e) (list_any (is_entry hash j) es) f h)))

names_another : (columns : List ℕ) (key : List Value) (at : ℕ) (ss : List Slot) (hash j : ℕ) (q : List Value) (es : List Entry) → nat_eq j at ≡ false → slot_at ss j ≡ Some q → pointwise is_same key (in_columns q columns) ≡ true → list_any (is_entry hash j) es ≡ true → list_any (names_other columns key at ss hash) es ≡ true
names_another columns key at ss hash j q [] other s same h = cc
names_another columns key at ss hash j q (e ∷ es) other s same h = by_test (is_entry hash j e)
    (λ t.
    let place : nat_eq e.at j ≡ true = both_right (nat_eq e.hash hash) (nat_eq e.at j) t in
    let same_place : e.at ≡ j = grind (arith, common_steps) in
    let elsewhere : not (nat_eq e.at at) ≡ true = ap (λ (k : ℕ). not (nat_eq k at)) same_place ∙ ap not other in
    or_left (names_other columns key at ss hash e) (list_any (names_other columns key at ss hash) es) (and_from _ _ elsewhere (is_named columns key ss hash j q e s same t)))
    (λ f. or_right (names_other columns key at ss hash e) (list_any (names_other columns key at ss hash) es) (names_another columns key at ss hash j q es other s same (or_rest (is_entry hash j e) (list_any (is_entry hash j) es) f h)))

pub row_of_slot : (columns : List ℕ) (key : List Value) (s : Slot) → slot_has_key columns key s ≡ true → (q : List Value) × (s ≡ Some q) × (pointwise is_same key (in_columns q columns) ≡ true)
row_of_slot columns key None h = cc
row_of_slot columns key (Some q) h = (q, refl, h)

other_row : (columns : List ℕ) (key : List Value) (at : ℕ) (ss : List Slot) (hash : ℕ) (es : List Entry) → list_any (names_other columns key at ss hash) es ≡ true
    → (j : ℕ) × (q : List Value) × (nat_eq j at ≡ false) × (slot_at ss j ≡ Some q) × (pointwise is_same key (in_columns q columns) ≡ true)
other_row columns key at ss hash [] h = cc
other_row columns key at ss hash (e ∷ es) h = by_test (names_other columns key at ss hash e)
    (λ t.
    let found = row_of_slot columns key (named ss hash e) (both_right (not (nat_eq e.at at)) (names_key columns key ss hash e) t) in
    (e.at, found.0, not-true (nat_eq e.at at) (both_left (not (nat_eq e.at at)) (names_key columns key ss hash e) t), slot_of_named ss hash e found.0 found.1, found.2))
    (λ f. other_row columns key at ss hash es (or_rest (names_other columns key at ss hash e) (list_any (names_other columns key at ss hash) es) f h))

-- ---- a row in a slot has its entry under the hash of a key that is the same

pub entry_under : (index : Index) (key : List Value) (ss : List Slot) (hash j : ℕ) (q : List Value) → hash ≡ hash_of key → slots_hold (is_in index) 0 ss ≡ true → slot_at ss j ≡ Some q → pointwise is_same key (in_columns q index.columns) ≡ true
    → list_any (is_entry hash j) (bucket_of index hash) ≡ true
entry_under index key ss hash j q e h s same =
    let under : hash ≡ hash_of (in_columns q index.columns) = e ∙ same_hash key (in_columns q index.columns) same in
    let k : j ≡ 0 + j = omega arith in
    ap (λ (n : ℕ). has_entry index n j) under ∙ ap (is_in index q) k ∙ holds_at (is_in index) 0 ss j q h s

-- ---- no row with a key

no_key : (columns : List ℕ) (key : List Value) (n : ℕ) (ss : List Slot) → ((j : ℕ) (q : List Value) → slot_at ss j ≡ Some q → pointwise is_same key (in_columns q columns) ≡ false) → find (has_key columns key) (rows_from n ss) ≡ None
no_key columns key n [] f = refl
no_key columns key n (None ∷ ss) f = no_key columns key (n + 1) ss (λ j q e. f (suc j) q e)
no_key columns key n (Some r ∷ ss) f =
    let here : pointwise is_same key (in_columns r columns) ≡ false = f 0 r refl in
    let rest : find (has_key columns key) (rows_from (n + 1) ss) ≡ None = no_key columns key (n + 1) ss (λ j q e. f (suc j) q e) in
    grind (arith, common_steps)

pub none_with : (index : Index) (key : List Value) (ss : List Slot) (hash : ℕ) → hash ≡ hash_of key → slots_hold (is_in index) 0 ss ≡ true → list_any (names_key index.columns key ss hash) (bucket_of index hash) ≡ false
    → find (has_key index.columns key) (rows_from 1 ss) ≡ None
none_with index key ss hash e h none = no_key index.columns key 1 ss (λ j q s. false_from_ne_true (pointwise is_same key (in_columns q index.columns)) (λ same.
    let some : list_any (names_key index.columns key ss hash) (bucket_of index hash) ≡ true
    = names_one index.columns key ss hash j q (bucket_of index hash) s same (entry_under index key ss hash j q e h s same) in
    false≢true (sym none ∙ some)))

-- ---- the row with a key

pub found_with : (columns : List ℕ) (key : List Value) (ss : List Slot) (j : ℕ) (q : List Value) (number : ℕ) → number ≡ 1 + j → are_distinct columns (rows_from 1 ss) ≡ true → slot_at ss j ≡ Some q → pointwise is_same key (in_columns q columns) ≡ true
    → find (has_key columns key) (rows_from 1 ss) ≡ Some (record { number = number; row = q })
found_with columns key ss j q number e distinct s same = unique_found columns key (rows_from 1 ss) number (record { number = number; row = q }) distinct (row_there 1 ss j number q e s) same

-- ---- whether there is one

is_some_of : {X : Type 0} (b : Bool) (x : X) (rest : Option X) → is_some rest ≡ true → is_some (cond b (Some x) rest) ≡ true
is_some_of true x rest h = refl
is_some_of false x rest h = h

is_some_here : {X : Type 0} (b : Bool) (x : X) (rest : Option X) → b ≡ true → is_some (cond b (Some x) rest) ≡ true
is_some_here true x rest h = refl
is_some_here false x rest h = cc

some_from : (columns : List ℕ) (key : List Value) (n : ℕ) (ss : List Slot) (j : ℕ) (q : List Value) → slot_at ss j ≡ Some q → pointwise is_same key (in_columns q columns) ≡ true
    → is_some (find (has_key columns key) (rows_from n ss)) ≡ true
some_from columns key n [] j q e h = cc
some_from columns key n (None ∷ ss) zero q e h = cc
some_from columns key n (None ∷ ss) (suc j) q e h = some_from columns key (n + 1) ss j q e h
some_from columns key n (Some r ∷ ss) zero q e h =
    let same : r ≡ q = cc in
    is_some_here (pointwise is_same key (in_columns r columns)) (record { number = n; row = r }) (find (has_key columns key) (rows_from (n + 1) ss)) (ap (λ (x : List Value). pointwise is_same key (in_columns x columns)) same ∙ h)
some_from columns key n (Some r ∷ ss) (suc j) q e h =
    is_some_of (pointwise is_same key (in_columns r columns)) (record { number = n; row = r }) (find (has_key columns key) (rows_from (n + 1) ss)) (some_from columns key (n + 1) ss j q e h)

pub some_with : (columns : List ℕ) (key : List Value) (ss : List Slot) (j : ℕ) (q : List Value) → slot_at ss j ≡ Some q → pointwise is_same key (in_columns q columns) ≡ true → is_some (find (has_key columns key) (rows_from 1 ss)) ≡ true
some_with columns key ss j q e h = some_from columns key 1 ss j q e h

-- ---- a row that shares its key with no other

pub alone_in : (index : Index) (row : List Value) (at : ℕ) (ss : List Slot) (hash : ℕ) → hash ≡ hash_of (in_columns row index.columns) → slots_hold (is_in index) 0 ss ≡ true
    → not (list_any (names_other index.columns (in_columns row index.columns) at ss hash) (bucket_of index hash)) ≡ is_alone index.columns row at 0 ss
alone_in index row at ss hash e h =
    let columns = index.columns in
    let key = in_columns row index.columns in
    let es = bucket_of index hash in
    let any = list_any (names_other index.columns (in_columns row index.columns) at ss hash) (bucket_of index hash) in
    alike (not any) (is_alone columns row at 0 ss)
    (λ none. alone_from columns row at 0 ss (λ j q s same. by_test (nat_eq j at)
    (λ t. let k : 0 + j ≡ at = grind (arith, common_steps) in k)
    (λ f.
    let some : any ≡ true = names_another columns key at ss hash j q es f s same (entry_under index key ss hash j q e h s same) in
    absurd (false≢true (sym (not-true any none) ∙ some)))))
    (λ alone. by_test any
    (λ some.
    let found = other_row columns key at ss hash es some in
    let k : 0 + found.0 ≡ at = alone_at columns row at 0 ss found.0 found.1 alone found.3 found.4 in
    let same : nat_eq found.0 at ≡ true = grind (arith, common_steps) in
    absurd (false≢true (sym found.2 ∙ same)))
    (λ none. ap not none))
