-- Whether two rows have the same key can be seen from the changed rows, where no two had before.
use Rattle.std.proofs.Common.{◌≡◌, ℕ, zero, suc, ◌+◌, ◌≤◌, ◌<◌, Bool, true, false, ◌&&◌, ◌||◌, not, nat_eq, List, [], ◌∷◌, ◌++◌, length, take, slice_set, Some, None, ◌⊎◌, inl, inr, arith, refl, sym, ap, subst, ◌∙◌}
use Rattle.std.specs.List.{list_all, list_any}
use Rattle.std.proofs.lemmas.Bool.{false≢true, and_from, false_from_ne_true, or_left, or_right}
use Rattle.std.proofs.lemmas.Grind.{common_steps}
use Rattle.std.specs.Cmp.Lexicographic.{lists_equiv, pointwise}
use Rattle.sq_value.proofs.Truths.{both_left, both_right, alike}
use Rattle.sq_value.specs.Comparison.{is_same}
use Rattle.sq_value.specs.Key.{in_columns}
use Rattle.sq_value.specs.laws.ValueOrder.{same_equiv}
use Rattle.sq_value.specs.declared.value.Value.{Value}
use Rattle.sq_store.specs.Keys.{Keys, are_distinct, has_distinct_keys, has_key}
use Rattle.sq_heap.specs.Alone.{all_alone, is_alone, keeps_key, same_key, slot_alone}
use Rattle.sq_heap.specs.Slots.{Slot, rows_from, slot_at, table_of}
use Rattle.sq_heap.specs.Undo.{back, before_change, fits, is_last_or_in, length_back, length_before}
use Rattle.sq_heap.proofs.Back.{fits_last, fits_pop}
use Rattle.sq_heap.specs.declared.undo.Undo.{Undo}

-- ---- tests

pub by_test : (a : Bool) {P : Type 0} → (a ≡ true → P) → (a ≡ false → P) → P
by_test true p q = p refl
by_test false p q = q refl

same_symm : (columns : List ℕ) (r q : List Value) → same_key columns r q ≡ true → same_key columns q r ≡ true
same_symm columns r q h = sym ((lists_equiv same_equiv).symm (in_columns r columns) (in_columns q columns)) ∙ h

-- ---- slots without two of the same key

-- a row with a key is in a slot
any_slot : (columns : List ℕ) (key : List Value) (n : ℕ) (ss : List Slot) → list_any (has_key columns key) (rows_from n ss) ≡ true → (j : ℕ) × (q : List Value) × (slot_at ss j ≡ Some q) × (pointwise is_same key (in_columns q columns) ≡ true)
any_slot columns key n [] h = cc
any_slot columns key n (None ∷ ss) h = let found = any_slot columns key (n + 1) ss h in (suc found.0, found.1, found.2, found.3)
any_slot columns key n (Some q ∷ ss) h = by_test (pointwise is_same key (in_columns q columns))
    (λ t. (0, q, refl, t))
    (λ f. let found = any_slot columns key (n + 1) ss (grind (arith, common_steps)) in (suc found.0, found.1, found.2, found.3))

slot_any : (columns : List ℕ) (key : List Value) (n : ℕ) (ss : List Slot) (j : ℕ) (q : List Value) → slot_at ss j ≡ Some q → pointwise is_same key (in_columns q columns) ≡ true → list_any (has_key columns key) (rows_from n ss) ≡ true
slot_any columns key n [] j q e h = cc
slot_any columns key n (None ∷ ss) zero q e h = cc
slot_any columns key n (None ∷ ss) (suc j) q e h = slot_any columns key (n + 1) ss j q e h
slot_any columns key n (Some r ∷ ss) zero q e h = grind (arith, common_steps)
slot_any columns key n (Some r ∷ ss) (suc j) q e h = let later = slot_any columns key (n + 1) ss j q e h in grind (arith, common_steps)

distinct_from_apart : (columns : List ℕ) (n : ℕ) (ss : List Slot) → ((i j : ℕ) (r q : List Value) → slot_at ss i ≡ Some r → slot_at ss j ≡ Some q → same_key columns r q ≡ true → i ≡ j) → are_distinct columns (rows_from n ss) ≡ true
distinct_from_apart columns n [] apart = refl
distinct_from_apart columns n (None ∷ ss) apart = distinct_from_apart columns (n + 1) ss (λ i j r q e f h. let k : suc i ≡ suc j = apart (suc i) (suc j) r q e f h in omega arith)
distinct_from_apart columns n (Some row ∷ ss) apart =
    let rest : are_distinct columns (rows_from (n + 1) ss) ≡ true = distinct_from_apart columns (n + 1) ss (λ i j r q e f h. let k : suc i ≡ suc j = apart (suc i) (suc j) r q e f h in omega arith) in
    let none : list_any (has_key columns (in_columns row columns)) (rows_from (n + 1) ss) ≡ false
    = false_from_ne_true (list_any (has_key columns (in_columns row columns)) (rows_from (n + 1) ss)) (λ t. let found = any_slot columns (in_columns row columns) (n + 1) ss t in
    let k : 0 ≡ suc found.0 = apart 0 (suc found.0) row found.1 refl found.2 found.3 in absurd (omega arith)) in
    grind (arith, common_steps)

none_later : (columns : List ℕ) (row : List Value) (n : ℕ) (ss : List Slot) → not (list_any (has_key columns (in_columns row columns)) (rows_from n ss)) ≡ true → (j : ℕ) (q : List Value) → slot_at ss j ≡ Some q → same_key columns row q ≡ true → ⊥
none_later columns row n ss none j q e s =
    let some : list_any (has_key columns (in_columns row columns)) (rows_from n ss) ≡ true = slot_any columns (in_columns row columns) n ss j q e s in
    false≢true (sym (ap not some) ∙ none)

pub apart_from_distinct : (columns : List ℕ) (n : ℕ) (ss : List Slot) → are_distinct columns (rows_from n ss) ≡ true → (i j : ℕ) (r q : List Value) → slot_at ss i ≡ Some r → slot_at ss j ≡ Some q → same_key columns r q ≡ true → i ≡ j
apart_from_distinct columns n [] h i j r q e f s = cc
apart_from_distinct columns n (None ∷ ss) h zero j r q e f s = cc
apart_from_distinct columns n (None ∷ ss) h (suc i) zero r q e f s = cc
apart_from_distinct columns n (None ∷ ss) h (suc i) (suc j) r q e f s = ap suc (apart_from_distinct columns (n + 1) ss h i j r q e f s)
apart_from_distinct columns n (Some row ∷ ss) h zero zero r q e f s = refl
apart_from_distinct columns n (Some row ∷ ss) h zero (suc j) r q e f s =
    let here : row ≡ r = cc in
    absurd (none_later columns row (n + 1) ss (both_left (not (list_any (has_key columns (in_columns row columns)) (rows_from (n + 1) ss))) (are_distinct columns (rows_from (n + 1) ss)) h) j q f (ap (λ (x : List Value). same_key columns x q) here ∙ s))
apart_from_distinct columns n (Some row ∷ ss) h (suc i) zero r q e f s =
    let here : row ≡ q = cc in
    absurd (none_later columns row (n + 1) ss (both_left (not (list_any (has_key columns (in_columns row columns)) (rows_from (n + 1) ss))) (are_distinct columns (rows_from (n + 1) ss)) h) i r e (ap (λ (x : List Value). same_key columns x r) here ∙ same_symm columns r q s))
apart_from_distinct columns n (Some row ∷ ss) h (suc i) (suc j) r q e f s =
    ap suc (apart_from_distinct columns (n + 1) ss (both_right (not (list_any (has_key columns (in_columns row columns)) (rows_from (n + 1) ss))) (are_distinct columns (rows_from (n + 1) ss)) h) i j r q e f s)

-- ---- one row

only_at : (a b : Bool) → (a || not b) ≡ true → b ≡ true → a ≡ true
only_at true b h s = refl
only_at false true h s = cc
only_at false false h s = cc

pub alone_at : (columns : List ℕ) (row : List Value) (at n : ℕ) (ss : List Slot) (j : ℕ) (q : List Value) → is_alone columns row at n ss ≡ true → slot_at ss j ≡ Some q → same_key columns row q ≡ true → n + j ≡ at
alone_at columns row at n [] j q h e s = cc
alone_at columns row at n (None ∷ ss) zero q h e s = cc
alone_at columns row at n (None ∷ ss) (suc j) q h e s = let k : n + 1 + j ≡ at = alone_at columns row at (n + 1) ss j q h e s in omega arith
alone_at columns row at n (Some r ∷ ss) zero q h e s =
    let same : r ≡ q = cc in
    let here : same_key columns row r ≡ true = ap (λ (x : List Value). same_key columns row x) same ∙ s in
    let equal : nat_eq n at ≡ true = only_at (nat_eq n at) (same_key columns row r) (both_left (nat_eq n at || not (same_key columns row r)) (is_alone columns row at (n + 1) ss) h) here in
    grind (arith, common_steps)
alone_at columns row at n (Some r ∷ ss) (suc j) q h e s =
    let k : n + 1 + j ≡ at = alone_at columns row at (n + 1) ss j q (both_right (nat_eq n at || not (same_key columns row r)) (is_alone columns row at (n + 1) ss) h) e s in omega arith

or_not : (a b : Bool) → b ≡ false → (a || not b) ≡ true
or_not true b f = refl
or_not false b f = ap not f

pub or_rest : (a b : Bool) → a ≡ false → (a || b) ≡ true → b ≡ true
or_rest true b f h = absurd (false≢true (sym f))
or_rest false b f h = h

pub alone_from : (columns : List ℕ) (row : List Value) (at n : ℕ) (ss : List Slot) → ((j : ℕ) (q : List Value) → slot_at ss j ≡ Some q → same_key columns row q ≡ true → n + j ≡ at) → is_alone columns row at n ss ≡ true
alone_from columns row at n [] only = refl
alone_from columns row at n (None ∷ ss) only = alone_from columns row at (n + 1) ss (λ j q e s. let k : n + suc j ≡ at = only (suc j) q e s in omega arith)
alone_from columns row at n (Some r ∷ ss) only =
    let first : (nat_eq n at || not (same_key columns row r)) ≡ true
    = by_test (same_key columns row r)
    (λ t. let k : n + 0 ≡ at = only 0 r refl t in let same : nat_eq n at ≡ true = grind (arith, common_steps) in or_left (nat_eq n at) (not (same_key columns row r)) same)
    (λ f. or_not (nat_eq n at) (same_key columns row r) f) in
    let rest : is_alone columns row at (n + 1) ss ≡ true = alone_from columns row at (n + 1) ss (λ j q e s. let k : n + suc j ≡ at = only (suc j) q e s in omega arith) in
    and_from _ _ first rest

-- ---- changed slots

length_set : (ss : List Slot) (i : ℕ) (s : Slot) → length (slice_set ss i s) ≡ length ss
length_set [] i s = refl
length_set (t ∷ ss) zero s = refl
length_set (t ∷ ss) (suc i) s = ap suc (length_set ss i s)

length_take : (ss : List Slot) (n : ℕ) → n ≤ length ss → length (take n ss) ≡ n
length_take ss zero le = refl
length_take [] (suc n) le = absurd (omega arith)
length_take (t ∷ ss) (suc n) le = ap suc (length_take ss n (omega arith))

before_length : (ss : List Slot) (at : ℕ) (old : Slot) → is_last_or_in (length ss) at old ≡ true → length (before_change ss at old) ≡ length_before (length ss) at old
before_length ss at None h = length_take ss at (grind (arith, common_steps))
before_length ss at (Some row) h = length_set ss at (Some row)

-- the slots before the last change
pub undone_fits : (ss : List Slot) (us : List Undo) (u : Undo) → fits (length ss) (us ++ u ∷ []) ≡ true → fits (length (before_change ss u.at u.old)) us ≡ true
undone_fits ss us u h = ap (λ (n : ℕ). fits n us) (before_length ss u.at u.old (fits_last (length ss) us u h)) ∙ fits_pop (length ss) us u h

back_length : (ss : List Slot) (us : List Undo) → fits (length ss) us ≡ true → length (back ss us) ≡ length_back (length ss) us
back_length ss [] h = refl
back_length ss (u ∷ us) h =
    let rest : fits (length ss) us ≡ true = both_right (is_last_or_in (length_back (length ss) us) u.at u.old) (fits (length ss) us) h in
    let first : is_last_or_in (length_back (length ss) us) u.at u.old ≡ true = both_left (is_last_or_in (length_back (length ss) us) u.at u.old) (fits (length ss) us) h in
    let same : length (back ss us) ≡ length_back (length ss) us = back_length ss us rest in
    before_length (back ss us) u.at u.old (ap (λ (n : ℕ). is_last_or_in n u.at u.old) same ∙ first) ∙ ap (λ (n : ℕ). length_before n u.at u.old) same

set_other : (ss : List Slot) (at i : ℕ) (s : Slot) → nat_eq at i ≡ false → slot_at (slice_set ss at s) i ≡ slot_at ss i
set_other [] at i s h = refl
set_other (t ∷ ss) zero zero s h = grind (arith, common_steps)
set_other (t ∷ ss) zero (suc i) s h = refl
set_other (t ∷ ss) (suc at) zero s h = refl
set_other (t ∷ ss) (suc at) (suc i) s h = set_other ss at i s (grind (arith, common_steps))

take_other : (ss : List Slot) (at i : ℕ) → at + 1 ≡ length ss → nat_eq at i ≡ false → slot_at (take at ss) i ≡ slot_at ss i
take_other [] at i e h = absurd (omega arith)
take_other (t ∷ ss) zero zero e h = grind (arith, common_steps)
take_other (t ∷ []) zero (suc i) e h = refl
take_other (t ∷ s ∷ ss) zero (suc i) e h = absurd (omega arith)
take_other (t ∷ ss) (suc at) zero e h = refl
take_other (t ∷ ss) (suc at) (suc i) e h = take_other ss at i (omega arith) (grind (arith, common_steps))

before_other : (ss : List Slot) (at : ℕ) (old : Slot) (i : ℕ) → is_last_or_in (length ss) at old ≡ true → nat_eq at i ≡ false → slot_at (before_change ss at old) i ≡ slot_at ss i
before_other ss at None i h ne = take_other ss at i (grind (arith, common_steps)) ne
before_other ss at (Some row) i h ne = set_other ss at i (Some row) ne

-- a slot that is set
set_here : (ss : List Slot) (at : ℕ) (s : Slot) → at < length ss → slot_at (slice_set ss at s) at ≡ s
set_here [] at s lt = absurd (omega arith)
set_here (t ∷ ss) zero s lt = refl
set_here (t ∷ ss) (suc at) s lt = set_here ss at s (omega arith)

-- ---- one slot, before all changes and now

-- its row is alone, or before all changes there was one with the same key
abbrev IsApart : List ℕ → List Slot → List Undo → ℕ → List Value → Type 0
IsApart columns ss us i r = (is_alone columns r i 0 ss ≡ true) ⊎ ((p : List Value) × (slot_at (back ss us) i ≡ Some p) × (same_key columns r p ≡ true))

kept_before : (columns : List ℕ) (ss : List Slot) (us : List Undo) (at : ℕ) (old : Slot) (r : List Value) → is_last_or_in (length (back ss us)) at old ≡ true → keeps_key columns old r ≡ true
    → (p : List Value) × (slot_at (before_change (back ss us) at old) at ≡ Some p) × (same_key columns r p ≡ true)
kept_before columns ss us at None r h k = cc
kept_before columns ss us at (Some p) r h k = let lt : at < length (back ss us) = grind (arith, common_steps) in (p, set_here (back ss us) at (Some p) lt, k)

apart_here : (columns : List ℕ) (ss : List Slot) (us : List Undo) (u : Undo) (r : List Value) → is_last_or_in (length (back ss us)) u.at u.old ≡ true → slot_alone columns ss u.at u.old (Some r) ≡ true
    → IsApart columns ss (u ∷ us) u.at r
apart_here columns ss us u r h alone = by_test (keeps_key columns u.old r)
    (λ t. inr (kept_before columns ss us u.at u.old r h t))
    (λ f. inl (or_rest (keeps_key columns u.old r) (is_alone columns r u.at 0 ss) f alone))

apart_one : (columns : List ℕ) (ss : List Slot) (us : List Undo) (i : ℕ) (r : List Value) → fits (length ss) us ≡ true → all_alone columns ss us ≡ true → slot_at ss i ≡ Some r → IsApart columns ss us i r
apart_one columns ss [] i r h alone e = inr (r, e, (lists_equiv same_equiv).refl (in_columns r columns))
apart_one columns ss (u ∷ us) i r h alone e =
    let rest : fits (length ss) us ≡ true = both_right (is_last_or_in (length_back (length ss) us) u.at u.old) (fits (length ss) us) h in
    let first : is_last_or_in (length_back (length ss) us) u.at u.old ≡ true = both_left (is_last_or_in (length_back (length ss) us) u.at u.old) (fits (length ss) us) h in
    let in' : is_last_or_in (length (back ss us)) u.at u.old ≡ true = ap (λ (n : ℕ). is_last_or_in n u.at u.old) (back_length ss us rest) ∙ first in
    let here : slot_alone columns ss u.at u.old (slot_at ss u.at) ≡ true = both_left (slot_alone columns ss u.at u.old (slot_at ss u.at)) (all_alone columns ss us) alone in
    let others : all_alone columns ss us ≡ true = both_right (slot_alone columns ss u.at u.old (slot_at ss u.at)) (all_alone columns ss us) alone in
    by_test (nat_eq u.at i)
    (λ y.
    let at : u.at ≡ i = grind (arith, common_steps) in
    let row : slot_at ss u.at ≡ Some r = ap (slot_at ss) at ∙ e in
    subst (λ (k : ℕ). IsApart columns ss (u ∷ us) k r) at (apart_here columns ss us u r in' (sym (ap (slot_alone columns ss u.at u.old) row) ∙ here)))
    (λ f. elim (apart_one columns ss us i r rest others e) [
      | inl one ↦ inl one
      | inr kept ↦ inr (kept.0, before_other (back ss us) u.at u.old i in' f ∙ kept.1, kept.2)
    ])

alone_slot : (columns : List ℕ) (ss : List Slot) (at : ℕ) (old s : Slot) → ((i j : ℕ) (r q : List Value) → slot_at ss i ≡ Some r → slot_at ss j ≡ Some q → same_key columns r q ≡ true → i ≡ j) → slot_at ss at ≡ s → slot_alone columns ss at old s ≡ true
alone_slot columns ss at old None apart e = refl
alone_slot columns ss at old (Some row) apart e = or_right (keeps_key columns old row) (is_alone columns row at 0 ss)
    (alone_from columns row at 0 ss (λ j q f s. let k : at ≡ j = apart at j row q e f s in omega arith))

alone_each : (columns : List ℕ) (ss : List Slot) (us : List Undo) → ((i j : ℕ) (r q : List Value) → slot_at ss i ≡ Some r → slot_at ss j ≡ Some q → same_key columns r q ≡ true → i ≡ j) → all_alone columns ss us ≡ true
alone_each columns ss [] apart = refl
alone_each columns ss (u ∷ us) apart = and_from _ _ (alone_slot columns ss u.at u.old (slot_at ss u.at) apart refl) (alone_each columns ss us apart)

-- two rows of before have the same key if rows with their keys have
same_before : (columns : List ℕ) (r q p o : List Value) → same_key columns r q ≡ true → same_key columns r p ≡ true → same_key columns q o ≡ true → same_key columns p o ≡ true
same_before columns r q p o rq rp qo =
    let laws = lists_equiv same_equiv in
    let first = in_columns r columns in
    let last = in_columns o columns in
    sym (laws.congr first (in_columns p columns) last rp) ∙ laws.congr first (in_columns q columns) last rq ∙ qo

-- no two rows have the same key exactly where all changed slots are alone
apart_later : (columns : List ℕ) (ss : List Slot) (us : List Undo) → fits (length ss) us ≡ true → are_distinct columns (rows_from 1 (back ss us)) ≡ true → all_alone columns ss us ≡ true
    → (i j : ℕ) (r q : List Value) → slot_at ss i ≡ Some r → slot_at ss j ≡ Some q → same_key columns r q ≡ true → i ≡ j
apart_later columns ss us h before alone i j r q e f s = elim (apart_one columns ss us i r h alone e) [
  | inl one ↦ let k : 0 + j ≡ i = alone_at columns r i 0 ss j q one f s in omega arith
  | inr kept ↦ elim (apart_one columns ss us j q h alone f) [
    | inl one ↦ let k : 0 + i ≡ j = alone_at columns q j 0 ss i r one e (same_symm columns r q s) in omega arith
    | inr also ↦ apart_from_distinct columns 1 (back ss us) before i j kept.0 also.0 kept.1 also.1 (same_before columns r q kept.0 also.0 s kept.2 also.2)
  ]
]

pub distinct_is_alone : (columns : List ℕ) (ss : List Slot) (us : List Undo) → fits (length ss) us ≡ true → are_distinct columns (rows_from 1 (back ss us)) ≡ true → are_distinct columns (rows_from 1 ss) ≡ all_alone columns ss us
distinct_is_alone columns ss us h before = alike (are_distinct columns (rows_from 1 ss)) (all_alone columns ss us)
    (λ t. alone_each columns ss us (λ i j r q e f s. apart_from_distinct columns 1 ss t i j r q e f s))
    (λ alone. distinct_from_apart columns 1 ss (λ i j r q e f s. apart_later columns ss us h before alone i j r q e f s))

pub distinct_keys_alone : (keys : Keys) (ss : List Slot) (us : List Undo) → fits (length ss) us ≡ true → has_distinct_keys keys (table_of (back ss us)) ≡ true → has_distinct_keys keys (table_of ss) ≡ list_all (λ columns. all_alone columns ss us) keys
distinct_keys_alone [] ss us h before = refl
distinct_keys_alone (columns ∷ keys) ss us h before =
    let here : are_distinct columns (rows_from 1 ss) ≡ all_alone columns ss us
    = distinct_is_alone columns ss us h (both_left (are_distinct columns (rows_from 1 (back ss us))) (has_distinct_keys keys (table_of (back ss us))) before) in
    let rest : has_distinct_keys keys (table_of ss) ≡ list_all (λ columns. all_alone columns ss us) keys
    = distinct_keys_alone keys ss us h (both_right (are_distinct columns (rows_from 1 (back ss us))) (has_distinct_keys keys (table_of (back ss us))) before) in
    λ i. here i && rest i
