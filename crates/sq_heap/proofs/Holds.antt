-- What holds of each row in slots, and of each that undoing brings back.
use Rattle.std.proofs.Common.{◌≡◌, ℕ, zero, suc, ◌+◌, ◌<◌, true, List, [], ◌∷◌, ◌++◌, length, take, get_or, slice_set, Some, None, arith, refl, sym, ap, ◌∙◌}
use Rattle.std.proofs.lemmas.Bool.{and_from}
use Rattle.sq_value.proofs.Truths.{both_left, both_right}
use Rattle.sq_value.specs.declared.value.Value.{Value}
use Rattle.sq_heap.specs.Index.{Test, slot_holds, slots_hold, undo_holds}
use Rattle.sq_heap.specs.Slots.{Slot, slot_at}
use Rattle.sq_heap.specs.declared.undo.Undo.{Undo}

-- ---- slots

-- what holds of all slots holds of the row in one
pub holds_at : (P : Test) (n : ℕ) (ss : List Slot) (j : ℕ) (q : List Value) → slots_hold P n ss ≡ true → slot_at ss j ≡ Some q → P q (n + j) ≡ true
holds_at P n [] j q h e = cc
holds_at P n (None ∷ ss) zero q h e = cc
holds_at P n (None ∷ ss) (suc j) q h e =
    let k : n + suc j ≡ n + 1 + j = omega arith in
    ap (P q) k ∙ holds_at P (n + 1) ss j q h e
holds_at P n (Some r ∷ ss) zero q h e =
    let same : q ≡ r = cc in
    let k : n + 0 ≡ n = omega arith in
    ap (P q) k ∙ ap (λ (x : List Value). P x n) same ∙ both_left (P r n) (slots_hold P (n + 1) ss) h
holds_at P n (Some r ∷ ss) (suc j) q h e =
    let k : n + suc j ≡ n + 1 + j = omega arith in
    ap (P q) k ∙ holds_at P (n + 1) ss j q (both_right (P r n) (slots_hold P (n + 1) ss) h) e

-- what holds of all slots holds of the slot at a place, also past the last one
pub holds_there : (P : Test) (ss : List Slot) (j : ℕ) → slots_hold P 0 ss ≡ true → slot_holds P j (slot_at ss j) ≡ true
holds_there P ss j h = by_slot (slot_at ss j) refl
  where
    by_slot : (s : Slot) → slot_at ss j ≡ s → slot_holds P j (slot_at ss j) ≡ true
    by_slot None e = ap (slot_holds P j) e
    by_slot (Some row) e = let k : j ≡ 0 + j = omega arith in ap (slot_holds P j) e ∙ ap (P row) k ∙ holds_at P 0 ss j row h e

-- the same where the slot is known
pub holds_of : (P : Test) (n : ℕ) (ss : List Slot) (i : ℕ) (old : Slot) (k : ℕ) → k ≡ n + i → i < length ss → old ≡ get_or ss i old → slots_hold P n ss ≡ true → slot_holds P k old ≡ true
holds_of P n [] i old k e lt o h = absurd (omega arith)
holds_of P n (s ∷ ss) zero old k e lt o h =
    let same : k ≡ n = omega arith in
    ap (λ (m : ℕ). slot_holds P m old) same ∙ ap (slot_holds P n) o ∙ both_left (slot_holds P n s) (slots_hold P (n + 1) ss) h
holds_of P n (s ∷ ss) (suc i) old k e lt o h = holds_of P (n + 1) ss i old k (omega arith) (omega arith) o (both_right (slot_holds P n s) (slots_hold P (n + 1) ss) h)

pub holds_push : (P : Test) (n : ℕ) (ss : List Slot) (s : Slot) (k : ℕ) → k ≡ n + length ss → slots_hold P n ss ≡ true → slot_holds P k s ≡ true → slots_hold P n (ss ++ s ∷ []) ≡ true
holds_push P n [] s k e h t = let same : n ≡ k = omega arith in and_from _ _ (ap (λ (m : ℕ). slot_holds P m s) same ∙ t) refl
holds_push P n (r ∷ ss) s k e h t =
    and_from _ _ (both_left (slot_holds P n r) (slots_hold P (n + 1) ss) h) (holds_push P (n + 1) ss s k (omega arith) (both_right (slot_holds P n r) (slots_hold P (n + 1) ss) h) t)

pub holds_set : (P : Test) (n : ℕ) (ss : List Slot) (i : ℕ) (s : Slot) (k : ℕ) → k ≡ n + i → slots_hold P n ss ≡ true → slot_holds P k s ≡ true → slots_hold P n (slice_set ss i s) ≡ true
holds_set P n [] i s k e h t = refl
holds_set P n (r ∷ ss) zero s k e h t = let same : n ≡ k = omega arith in and_from _ _ (ap (λ (m : ℕ). slot_holds P m s) same ∙ t) (both_right (slot_holds P n r) (slots_hold P (n + 1) ss) h)
holds_set P n (r ∷ ss) (suc i) s k e h t =
    and_from _ _ (both_left (slot_holds P n r) (slots_hold P (n + 1) ss) h) (holds_set P (n + 1) ss i s k (omega arith) (both_right (slot_holds P n r) (slots_hold P (n + 1) ss) h) t)

-- what holds of the first slots and of the next one holds of one slot more
pub holds_more : (P : Test) (n : ℕ) (ss : List Slot) (i : ℕ) (s : Slot) (k : ℕ) → k ≡ n + i → i < length ss → s ≡ get_or ss i s → slots_hold P n (take i ss) ≡ true → slot_holds P k s ≡ true → slots_hold P n (take (i + 1) ss) ≡ true
holds_more P n ss i s k e lt o h t = let one : i + 1 ≡ suc i = omega arith in ap (λ (m : ℕ). slots_hold P n (take m ss)) one ∙ one_more n ss i e lt o h
  where
    one_more : (n : ℕ) (ss : List Slot) (i : ℕ) → k ≡ n + i → i < length ss → s ≡ get_or ss i s → slots_hold P n (take i ss) ≡ true → slots_hold P n (take (suc i) ss) ≡ true
    one_more n [] i e lt o h = refl
    one_more n (r ∷ ss) zero e lt o h =
        let same : n ≡ k = omega arith in
        and_from _ _ (ap (λ (m : ℕ). slot_holds P m r) same ∙ ap (slot_holds P k) (sym o) ∙ t) refl
    one_more n (r ∷ ss) (suc i) e lt o h =
        and_from _ _ (both_left (slot_holds P n r) (slots_hold P (n + 1) (take i ss)) h) (one_more (n + 1) ss i (omega arith) (omega arith) o (both_right (slot_holds P n r) (slots_hold P (n + 1) (take i ss)) h))

pub holds_take : (P : Test) (n : ℕ) (ss : List Slot) (k : ℕ) → slots_hold P n ss ≡ true → slots_hold P n (take k ss) ≡ true
holds_take P n ss zero h = refl
holds_take P n [] (suc k) h = refl
holds_take P n (r ∷ ss) (suc k) h =
    and_from _ _ (both_left (slot_holds P n r) (slots_hold P (n + 1) ss) h) (holds_take P (n + 1) ss k (both_right (slot_holds P n r) (slots_hold P (n + 1) ss) h))

-- ---- where one thing gives another

pub slot_gives : (P Q : Test) → ((r : List Value) (k : ℕ) → P r k ≡ true → Q r k ≡ true) → (at : ℕ) (s : Slot) → slot_holds P at s ≡ true → slot_holds Q at s ≡ true
slot_gives P Q f at None h = refl
slot_gives P Q f at (Some row) h = f row at h

pub slots_give : (P Q : Test) → ((r : List Value) (k : ℕ) → P r k ≡ true → Q r k ≡ true) → (n : ℕ) (ss : List Slot) → slots_hold P n ss ≡ true → slots_hold Q n ss ≡ true
slots_give P Q f n [] h = refl
slots_give P Q f n (s ∷ ss) h =
    and_from _ _ (slot_gives P Q f n s (both_left (slot_holds P n s) (slots_hold P (n + 1) ss) h)) (slots_give P Q f (n + 1) ss (both_right (slot_holds P n s) (slots_hold P (n + 1) ss) h))

pub undo_gives : (P Q : Test) → ((r : List Value) (k : ℕ) → P r k ≡ true → Q r k ≡ true) → (us : List Undo) → undo_holds P us ≡ true → undo_holds Q us ≡ true
undo_gives P Q f [] h = refl
undo_gives P Q f (u ∷ us) h =
    and_from _ _ (slot_gives P Q f u.at u.old (both_left (slot_holds P u.at u.old) (undo_holds P us) h)) (undo_gives P Q f us (both_right (slot_holds P u.at u.old) (undo_holds P us) h))

-- where two things give a third
slot_together : (P Q R : Test) → ((r : List Value) (k : ℕ) → P r k ≡ true → Q r k ≡ true → R r k ≡ true) → (at : ℕ) (s : Slot) → slot_holds P at s ≡ true → slot_holds Q at s ≡ true → slot_holds R at s ≡ true
slot_together P Q R f at None p q = refl
slot_together P Q R f at (Some row) p q = f row at p q

pub slots_together : (P Q R : Test) → ((r : List Value) (k : ℕ) → P r k ≡ true → Q r k ≡ true → R r k ≡ true) → (n : ℕ) (ss : List Slot) → slots_hold P n ss ≡ true → slots_hold Q n ss ≡ true → slots_hold R n ss ≡ true
slots_together P Q R f n [] p q = refl
slots_together P Q R f n (s ∷ ss) p q =
    and_from _ _ (slot_together P Q R f n s (both_left (slot_holds P n s) (slots_hold P (n + 1) ss) p) (both_left (slot_holds Q n s) (slots_hold Q (n + 1) ss) q))
    (slots_together P Q R f (n + 1) ss (both_right (slot_holds P n s) (slots_hold P (n + 1) ss) p) (both_right (slot_holds Q n s) (slots_hold Q (n + 1) ss) q))

pub undo_together : (P Q R : Test) → ((r : List Value) (k : ℕ) → P r k ≡ true → Q r k ≡ true → R r k ≡ true) → (us : List Undo) → undo_holds P us ≡ true → undo_holds Q us ≡ true → undo_holds R us ≡ true
undo_together P Q R f [] p q = refl
undo_together P Q R f (u ∷ us) p q =
    and_from _ _ (slot_together P Q R f u.at u.old (both_left (slot_holds P u.at u.old) (undo_holds P us) p) (both_left (slot_holds Q u.at u.old) (undo_holds Q us) q))
    (undo_together P Q R f us (both_right (slot_holds P u.at u.old) (undo_holds P us) p) (both_right (slot_holds Q u.at u.old) (undo_holds Q us) q))

-- ---- what undoes changes

pub undo_push : (P : Test) (us : List Undo) (u : Undo) → undo_holds P us ≡ true → slot_holds P u.at u.old ≡ true → undo_holds P (us ++ u ∷ []) ≡ true
undo_push P [] u h t = and_from _ _ t refl
undo_push P (v ∷ us) u h t = and_from _ _ (both_left (slot_holds P v.at v.old) (undo_holds P us) h) (undo_push P us u (both_right (slot_holds P v.at v.old) (undo_holds P us) h) t)

pub undo_last : (P : Test) (us : List Undo) (u : Undo) → undo_holds P (us ++ u ∷ []) ≡ true → slot_holds P u.at u.old ≡ true
undo_last P [] u h = both_left (slot_holds P u.at u.old) true h
undo_last P (v ∷ us) u h = undo_last P us u (both_right (slot_holds P v.at v.old) (undo_holds P (us ++ u ∷ [])) h)

pub undo_rest : (P : Test) (us : List Undo) (u : Undo) → undo_holds P (us ++ u ∷ []) ≡ true → undo_holds P us ≡ true
undo_rest P [] u h = refl
undo_rest P (v ∷ us) u h = and_from _ _ (both_left (slot_holds P v.at v.old) (undo_holds P (us ++ u ∷ [])) h) (undo_rest P us u (both_right (slot_holds P v.at v.old) (undo_holds P (us ++ u ∷ [])) h))

pub undo_more : (P : Test) (us : List Undo) (i : ℕ) (u : Undo) → i < length us → u ≡ get_or us i u → undo_holds P (take i us) ≡ true → slot_holds P u.at u.old ≡ true → undo_holds P (take (i + 1) us) ≡ true
undo_more P us i u lt o h t = let one : i + 1 ≡ suc i = omega arith in ap (λ (m : ℕ). undo_holds P (take m us)) one ∙ one_more us i lt o h
  where
    one_more : (us : List Undo) (i : ℕ) → i < length us → u ≡ get_or us i u → undo_holds P (take i us) ≡ true → undo_holds P (take (suc i) us) ≡ true
    one_more [] i lt o h = refl
    one_more (v ∷ us) zero lt o h = and_from _ _ (ap (λ (w : Undo). slot_holds P w.at w.old) (sym o) ∙ t) refl
    one_more (v ∷ us) (suc i) lt o h = and_from _ _ (both_left (slot_holds P v.at v.old) (undo_holds P (take i us)) h) (one_more us i (omega arith) o (both_right (slot_holds P v.at v.old) (undo_holds P (take i us)) h))
