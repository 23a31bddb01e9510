-- Going back.
use Rattle.std.proofs.Common.{◌≡◌, ℕ, zero, suc, ◌+◌, ◌<◌, ◌≤◌, true, nat_eq, nat_lt, List, [], ◌∷◌, ◌++◌, length, take, drop, get_or, slice_set, Some, None, is_some, arith, refl, sym, ap, ◌∙◌, append_assoc}
use Rattle.std.proofs.lemmas.Grind.{common_steps}
use Rattle.sq_store.specs.declared.change.Change.{Change}
use Rattle.sq_store.specs.declared.table.Table.{Table}
use Rattle.sq_store.specs.Content.{changed, changed_by}
use Rattle.sq_heap.specs.Slots.{Slot, slot_at}
use Rattle.sq_heap.specs.Undo.{GoesBack, back, before_change, fits, is_last_or_in, length_back, length_before}
use Rattle.sq_heap.specs.declared.undo.Undo.{Undo}

-- the later changes are undone first
pub back_append : (ss : List Slot) (us vs : List Undo) → back ss (us ++ vs) ≡ back (back ss vs) us
back_append ss [] vs = refl
back_append ss (u ∷ us) vs = ap (λ ys. before_change ys u.at u.old) (back_append ss us vs)

append_nil : {X : Type 0} (xs : List X) → xs ++ [] ≡ xs
append_nil [] = refl
append_nil (x ∷ xs) = ap (λ ys. x ∷ ys) (append_nil xs)

pub goes_back_none : (ss : List Slot) (us : List Undo) → GoesBack ss us ss us
goes_back_none ss us = record { made = []; grown = sym (append_nil us); undone = refl }

pub goes_back_one : (ss : List Slot) (us : List Undo) (later : List Slot) (u : Undo) → before_change later u.at u.old ≡ ss → GoesBack ss us later (us ++ u ∷ [])
goes_back_one ss us later u e = record { made = u ∷ []; grown = refl; undone = e }

pub goes_back_then : (ss : List Slot) (us : List Undo) (mid : List Slot) (mid_us : List Undo) (later : List Slot) (later_us : List Undo) → GoesBack ss us mid mid_us → GoesBack mid mid_us later later_us → GoesBack ss us later later_us
goes_back_then ss us mid mid_us later later_us p q = record {
  made = p.made ++ q.made;
  grown = q.grown ∙ ap (λ ys. ys ++ q.made) p.grown ∙ append_assoc us p.made q.made;
  undone = back_append later p.made q.made ∙ ap (λ ys. back ys p.made) q.undone ∙ p.undone;
}

-- ---- one change

pub undo_push : (ss : List Slot) (s : Slot) → take (length ss) (ss ++ s ∷ []) ≡ ss
undo_push [] s = refl
undo_push (t ∷ ss) s = ap (λ ys. t ∷ ys) (undo_push ss s)

undo_set : (ss : List Slot) (i : ℕ) (s old : Slot) → is_some (slot_at ss i) ≡ true → old ≡ get_or ss i old → before_change (slice_set ss i s) i old ≡ ss
undo_set [] i s old h e = cc
undo_set (t ∷ ss) zero s old h e = ap (λ (o : Slot). before_change (s ∷ ss) 0 o) e ∙ first t h
  where
    first : (t : Slot) → is_some t ≡ true → before_change (s ∷ ss) 0 t ≡ t ∷ ss
    first None h = cc
    first (Some row) h = refl
undo_set (t ∷ ss) (suc i) s old h e = later old (is_old ss i old h e) (undo_set ss i s old h e)
  where
    is_old : (ss : List Slot) (i : ℕ) (old : Slot) → is_some (slot_at ss i) ≡ true → old ≡ get_or ss i old → is_some old ≡ true
    is_old [] i old h e = cc
    is_old (t ∷ ss) zero old h e = ap is_some e ∙ h
    is_old (t ∷ ss) (suc i) old h e = is_old ss i old h e

    later : (old : Slot) → is_some old ≡ true → before_change (slice_set ss i s) i old ≡ ss → before_change (t ∷ slice_set ss i s) (suc i) old ≡ t ∷ ss
    later None h e = cc
    later (Some row) h e = ap (λ ys. t ∷ ys) e

-- ---- what changes were made

length_back_append : (n : ℕ) (us vs : List Undo) → length_back n (us ++ vs) ≡ length_back (length_back n vs) us
length_back_append n [] vs = refl
length_back_append n (u ∷ us) vs = ap (λ m. length_before m u.at u.old) (length_back_append n us vs)

-- a change more
pub fits_push : (n : ℕ) (us : List Undo) (m : ℕ) (u : Undo) → length_before m u.at u.old ≡ n → is_last_or_in m u.at u.old ≡ true → fits n us ≡ true → fits m (us ++ u ∷ []) ≡ true
fits_push n [] m u e k h = grind (arith, common_steps)
fits_push n (v ∷ us) m u e k h =
    let same : length_back m (us ++ u ∷ []) ≡ length_back n us = length_back_append m us (u ∷ []) ∙ ap (λ (l : ℕ). length_back l us) e in
    let rest : fits m (us ++ u ∷ []) ≡ true = fits_push n us m u e k (grind (arith, common_steps)) in
    let first : is_last_or_in (length_back n us) v.at v.old ≡ true = grind (arith, common_steps) in
    let there : is_last_or_in (length_back m (us ++ u ∷ [])) v.at v.old ≡ true = ap (λ (l : ℕ). is_last_or_in l v.at v.old) same ∙ first in
    grind (arith, common_steps)

-- a change less
pub fits_last : (n : ℕ) (us : List Undo) (u : Undo) → fits n (us ++ u ∷ []) ≡ true → is_last_or_in n u.at u.old ≡ true
fits_last n [] u h = grind (arith, common_steps)
fits_last n (v ∷ us) u h = fits_last n us u (grind (arith, common_steps))

pub fits_pop : (n : ℕ) (us : List Undo) (u : Undo) → fits n (us ++ u ∷ []) ≡ true → fits (length_before n u.at u.old) us ≡ true
fits_pop n [] u h = refl
fits_pop n (v ∷ us) u h =
    let same : length_back n (us ++ u ∷ []) ≡ length_back (length_before n u.at u.old) us = length_back_append n us (u ∷ []) in
    let rest : fits (length_before n u.at u.old) us ≡ true = fits_pop n us u (grind (arith, common_steps)) in
    let first : is_last_or_in (length_back n (us ++ u ∷ [])) v.at v.old ≡ true = grind (arith, common_steps) in
    let there : is_last_or_in (length_back (length_before n u.at u.old) us) v.at v.old ≡ true = ap (λ (l : ℕ). is_last_or_in l v.at v.old) (sym same) ∙ first in
    grind (arith, common_steps)

-- ---- one change more

pub length_push : (ss : List Slot) (s : Slot) → length (ss ++ s ∷ []) ≡ length ss + 1
length_push [] s = refl
length_push (t ∷ ss) s = let rest : length (ss ++ s ∷ []) ≡ length ss + 1 = length_push ss s in omega arith

pub length_same : (ss : List Slot) (i : ℕ) (s : Slot) → length (slice_set ss i s) ≡ length ss
length_same [] i s = refl
length_same (t ∷ ss) zero s = refl
length_same (t ∷ ss) (suc i) s = ap suc (length_same ss i s)

pub there : (ss : List Slot) (i : ℕ) (old : Slot) → is_some (slot_at ss i) ≡ true → old ≡ get_or ss i old → (i < length ss) × (is_some old ≡ true)
there [] i old h e = cc
there (t ∷ ss) zero old h e = (omega arith, ap is_some e ∙ h)
there (t ∷ ss) (suc i) old h e = let rest = there ss i old h e in (omega arith, rest.1)

-- a new slot
pub fits_new : (ss : List Slot) (us : List Undo) (s : Slot) (n : ℕ) → n ≡ length ss → fits (length ss) us ≡ true → fits (length (ss ++ s ∷ [])) (us ++ record { at = n; old = None } ∷ []) ≡ true
fits_new ss us s n e h =
    let longer : length (ss ++ s ∷ []) ≡ length ss + 1 = length_push ss s in
    let last : nat_eq (n + 1) (length (ss ++ s ∷ [])) ≡ true = grind (arith, common_steps) in
    fits_push (length ss) us (length (ss ++ s ∷ [])) (record { at = n; old = None }) e last h

pub goes_back_new : (ss : List Slot) (us : List Undo) (s : Slot) (n : ℕ) → n ≡ length ss → GoesBack ss us (ss ++ s ∷ []) (us ++ record { at = n; old = None } ∷ [])
goes_back_new ss us s n e = goes_back_one ss us (ss ++ s ∷ []) (record { at = n; old = None }) (ap (λ (k : ℕ). take k (ss ++ s ∷ [])) e ∙ undo_push ss s)

-- a slot that had a row
pub fits_set : (ss : List Slot) (us : List Undo) (i : ℕ) (s old : Slot) → is_some (slot_at ss i) ≡ true → old ≡ get_or ss i old → fits (length ss) us ≡ true → fits (length (slice_set ss i s)) (us ++ record { at = i; old = old } ∷ []) ≡ true
fits_set ss us i s old h e k = with_row old (there ss i old h e).1 (there ss i old h e).0
  where
    with_row : (old : Slot) → is_some old ≡ true → i < length ss → fits (length (slice_set ss i s)) (us ++ record { at = i; old = old } ∷ []) ≡ true
    with_row None none lt = cc
    with_row (Some row) some lt =
        let same : length (slice_set ss i s) ≡ length ss = length_same ss i s in
        let in' : nat_lt i (length (slice_set ss i s)) ≡ true = grind (arith, common_steps) in
        fits_push (length ss) us (length (slice_set ss i s)) (record { at = i; old = Some row }) same in' k

pub goes_back_set : (ss : List Slot) (us : List Undo) (i : ℕ) (s old : Slot) → is_some (slot_at ss i) ≡ true → old ≡ get_or ss i old → GoesBack ss us (slice_set ss i s) (us ++ record { at = i; old = old } ∷ [])
goes_back_set ss us i s old h e = goes_back_one ss us (slice_set ss i s) (record { at = i; old = old }) (undo_set ss i s old h e)

-- ---- back from a place in the list on

drop_push : {X : Type 0} (xs : List X) (x : X) (n : ℕ) → n ≤ length xs → drop n (xs ++ x ∷ []) ≡ drop n xs ++ x ∷ []
drop_push xs x zero le = refl
drop_push [] x (suc n) le = absurd (omega arith)
drop_push (y ∷ xs) x (suc n) le = drop_push xs x n (omega arith)

take_push : {X : Type 0} (xs : List X) (x : X) (n : ℕ) → n ≤ length xs → take n (xs ++ x ∷ []) ≡ take n xs
take_push xs x zero le = refl
take_push [] x (suc n) le = absurd (omega arith)
take_push (y ∷ xs) x (suc n) le = ap (λ ys. y ∷ ys) (take_push xs x n (omega arith))

pub back_pop : (ss : List Slot) (us : List Undo) (u : Undo) (from : ℕ) → from ≤ length us → back (before_change ss u.at u.old) (drop from us) ≡ back ss (drop from (us ++ u ∷ []))
back_pop ss us u from le = sym (ap (back ss) (drop_push us u from le) ∙ back_append ss (drop from us) (u ∷ []))

pub take_pop : (us : List Undo) (u : Undo) (from : ℕ) → from ≤ length us → take from us ≡ take from (us ++ u ∷ [])
take_pop us u from le = sym (take_push us u from le)

-- ---- what goes back

drop_all : {X : Type 0} (xs ys : List X) → drop (length xs) (xs ++ ys) ≡ ys
drop_all [] ys = refl
drop_all (x ∷ xs) ys = drop_all xs ys

take_all_of : {X : Type 0} (xs ys : List X) → take (length xs) (xs ++ ys) ≡ xs
take_all_of [] ys = refl
take_all_of (x ∷ xs) ys = ap (λ zs. x ∷ zs) (take_all_of xs ys)

pub goes_back_before : (ss : List Slot) (us : List Undo) (later : List Slot) (later_us : List Undo) → GoesBack ss us later later_us → back later (drop (length us) later_us) ≡ ss
goes_back_before ss us later later_us g = ap (λ vs. back later (drop (length us) vs)) g.grown ∙ ap (back later) (drop_all us g.made) ∙ g.undone

pub goes_back_take : (ss : List Slot) (us : List Undo) (later : List Slot) (later_us : List Undo) → GoesBack ss us later later_us → take (length us) later_us ≡ us
goes_back_take ss us later later_us g = ap (take (length us)) g.grown ∙ take_all_of us g.made

pub goes_back_committed : (ss : List Slot) (us : List Undo) (later : List Slot) (later_us : List Undo) → GoesBack ss us later later_us → back later later_us ≡ back ss us
goes_back_committed ss us later later_us g = ap (back later) g.grown ∙ back_append later us g.made ∙ ap (λ ys. back ys us) g.undone

pub fits_drop : (n : ℕ) (us : List Undo) (from : ℕ) → fits n us ≡ true → fits n (drop from us) ≡ true
fits_drop n us zero h = h
fits_drop n [] (suc from) h = h
fits_drop n (u ∷ us) (suc from) h = fits_drop n us from (grind (arith, common_steps))

-- back to a place, and from there back to the start
pub back_take_drop : (ss : List Slot) (us : List Undo) (from : ℕ) → back (back ss (drop from us)) (take from us) ≡ back ss us
back_take_drop ss us zero = refl
back_take_drop ss [] (suc from) = refl
back_take_drop ss (u ∷ us) (suc from) = ap (λ ys. before_change ys u.at u.old) (back_take_drop ss us from)

-- ---- a change after others

pub changed_by_push : (t : Table) (changes : List Change) (change : Change) → changed_by t (changes ++ change ∷ []) ≡ changed (changed_by t changes) change
changed_by_push t [] change = refl
changed_by_push t (first ∷ changes) change = changed_by_push (changed t first) changes change

pub length_changes : (changes : List Change) (change : Change) → length (changes ++ change ∷ []) ≡ length changes + 1
length_changes [] change = refl
length_changes (first ∷ changes) change = let rest : length (changes ++ change ∷ []) ≡ length changes + 1 = length_changes changes change in omega arith
