-- How many rows each block of slots has.
use Rattle.std.proofs.Common.{◌≡◌, ℕ, zero, suc, ◌+◌, ◌-◌, ◌*◌, ◌/◌, ◌%◌, ◌≤◌, ◌<◌, Bool, true, false, nat_eq, if◌then◌else◌, List, [], ◌∷◌, ◌++◌, length, drop, get_or, slice_set, slice_index_or, Some, None, arith, refl, sym, ap, ◌∙◌}
use Rattle.std.proofs.lemmas.Grind.{common_steps}
use Rattle.std.proofs.lemmas.List.{get_or-set_same}
use Rattle.std.proofs.Math.Nat.{div-add-mod, mod-lt}
use Rattle.sq_store.specs.Content.{first_among}
use Rattle.sq_heap.specs.Blocks.{row_in, rows_in, rows_of}
use Rattle.sq_heap.specs.Slots.{Slot, rows_from, slot_at}
use Rattle.sq_heap.specs.declared.slots.TheConstants.{BLOCK}
use Rattle.sq_heap.proofs.Chains.{head_other}
use Rattle.sq_heap.proofs.Distinct.{by_test}

in_block : (b at : ℕ) (s : Slot) → nat_eq (at / BLOCK) b ≡ true → row_in b at s ≡ rows_of s
in_block b at None t = refl
in_block b at (Some row) t = ap (λ (x : Bool). if x then 1 else 0) t

not_in_block : (b at : ℕ) (s : Slot) → nat_eq (at / BLOCK) b ≡ false → row_in b at s ≡ 0
not_in_block b at None f = refl
not_in_block b at (Some row) f = ap (λ (x : Bool). if x then 1 else 0) f

row_of_kind : (b at : ℕ) (s t : Slot) → rows_of s ≡ rows_of t → row_in b at s ≡ row_in b at t
row_of_kind b at None None e = refl
row_of_kind b at None (Some r) e = absurd (omega arith)
row_of_kind b at (Some r) None e = absurd (omega arith)
row_of_kind b at (Some r) (Some q) e = refl

at_most_one : (b at : ℕ) (s : Slot) → row_in b at s ≤ 1
at_most_one b at None = omega arith
at_most_one b at (Some row) = by_test (nat_eq (at / BLOCK) b)
    (λ t. let one : row_in b at (Some row) ≡ 1 = in_block b at (Some row) t in omega arith)
    (λ f. let none : row_in b at (Some row) ≡ 0 = not_in_block b at (Some row) f in omega arith)

pub at_most_all : (b n : ℕ) (ss : List Slot) → rows_in b n ss ≤ length ss
at_most_all b n [] = omega arith
at_most_all b n (s ∷ ss) =
    let first : row_in b n s ≤ 1 = at_most_one b n s in
    let rest : rows_in b (n + 1) ss ≤ length ss = at_most_all b (n + 1) ss in omega arith

-- ---- a change of one slot

-- some slots come of others by a change of one: one slot has more, or less
abbrev pub Turns : ℕ → Slot → Slot → List Slot → List Slot → Type 0
Turns at old s ss later = (b : ℕ) → rows_in b 0 later + row_in b at old ≡ rows_in b 0 ss + row_in b at s

rows_set : (b n : ℕ) (ss : List Slot) (i k : ℕ) (s old : Slot) → k ≡ n + i → i < length ss → old ≡ get_or ss i old → rows_in b n (slice_set ss i s) + row_in b k old ≡ rows_in b n ss + row_in b k s
rows_set b n [] i k s old e lt o = absurd (omega arith)
rows_set b n (t ∷ ss) zero k s old e lt o =
    let here : k ≡ n = omega arith in
    let one : row_in b k old ≡ row_in b n t = ap (λ (m : ℕ). row_in b m old) here ∙ ap (row_in b n) o in
    let two : row_in b k s ≡ row_in b n s = ap (λ (m : ℕ). row_in b m s) here in
    omega (arith, one, two)
rows_set b n (t ∷ ss) (suc i) k s old e lt o =
    let rest : rows_in b (n + 1) (slice_set ss i s) + row_in b k old ≡ rows_in b (n + 1) ss + row_in b k s = rows_set b (n + 1) ss i k s old (omega arith) (omega arith) o in
    omega arith

pub turns_set : (ss : List Slot) (i : ℕ) (s old : Slot) → i < length ss → old ≡ get_or ss i old → Turns i old s ss (slice_set ss i s)
turns_set ss i s old lt o b = rows_set b 0 ss i i s old (omega arith) lt o

rows_push : (b n k : ℕ) (ss : List Slot) (s : Slot) → k ≡ n + length ss → rows_in b n (ss ++ s ∷ []) ≡ rows_in b n ss + row_in b k s
rows_push b n k [] s e = let here : k ≡ n = omega arith in let one : row_in b k s ≡ row_in b n s = ap (λ (m : ℕ). row_in b m s) here in omega arith
rows_push b n k (t ∷ ss) s e = let rest : rows_in b (n + 1) (ss ++ s ∷ []) ≡ rows_in b (n + 1) ss + row_in b k s = rows_push b (n + 1) k ss s (omega arith) in omega arith

pub turns_push : (ss : List Slot) (s : Slot) (at : ℕ) → at ≡ length ss → Turns at None s ss (ss ++ s ∷ [])
turns_push ss s at e b = let more : rows_in b 0 (ss ++ s ∷ []) ≡ rows_in b 0 ss + row_in b at s = rows_push b 0 at ss s (omega arith) in omega arith

pub turns_pop : (ss : List Slot) (s : Slot) (at : ℕ) → at ≡ length ss → Turns at s None (ss ++ s ∷ []) ss
turns_pop ss s at e b = let more : rows_in b 0 (ss ++ s ∷ []) ≡ rows_in b 0 ss + row_in b at s = rows_push b 0 at ss s (omega arith) in omega arith

-- ---- the counts after it

abbrev pub Counted : List ℕ → List Slot → Type 0
Counted cs ss = (b : ℕ) → slice_index_or cs b 0 ≡ rows_in b 0 ss

pub counted_turned : (cs : List ℕ) (ss later : List Slot) (at q v : ℕ) (s old : Slot) → Counted cs ss → Turns at old s ss later → q ≡ at / BLOCK → q < length cs → v + rows_of old ≡ slice_index_or cs q 0 + rows_of s
    → Counted (slice_set cs q v) later
counted_turned cs ss later at q v s old counts turns e lt sum b = by_test (nat_eq (at / BLOCK) b)
    (λ t.
    let same : b ≡ q = grind (arith, common_steps) in
    let put : slice_index_or (slice_set cs q v) b 0 ≡ v = ap (λ (k : ℕ). slice_index_or (slice_set cs q v) k 0) same ∙ get_or-set_same cs q v 0 lt in
    let before : slice_index_or cs q 0 ≡ rows_in b 0 ss = ap (λ (k : ℕ). slice_index_or cs k 0) (sym same) ∙ counts b in
    let one : row_in b at old ≡ rows_of old = in_block b at old t in
    let two : row_in b at s ≡ rows_of s = in_block b at s t in
    omega (arith, put, before, one, two, turns b, sum))
    (λ f.
    let apart : nat_eq q b ≡ false = ap (λ (k : ℕ). nat_eq k b) e ∙ f in
    let put : slice_index_or (slice_set cs q v) b 0 ≡ slice_index_or cs b 0 = head_other cs q b v apart in
    let one : row_in b at old ≡ 0 = not_in_block b at old f in
    let two : row_in b at s ≡ 0 = not_in_block b at s f in
    omega (arith, put, counts b, one, two, turns b))

-- a slot's rows are among those of its block
pub counted_least : (cs : List ℕ) (ss later : List Slot) (at q : ℕ) (old : Slot) → Counted cs ss → Turns at old None ss later → q ≡ at / BLOCK → rows_of old ≤ slice_index_or cs q 0
counted_least cs ss later at q old counts turns e =
    let here : nat_eq (at / BLOCK) q ≡ true = grind (arith, common_steps) in
    let one : row_in q at old ≡ rows_of old = in_block q at old here in
    omega (arith, counts q, one, turns q)

-- a block has no more rows than there are slots
pub counted_most : (cs : List ℕ) (ss later : List Slot) (at q v : ℕ) (s old : Slot) → Counted cs ss → Turns at old s ss later → q ≡ at / BLOCK → v + rows_of old ≡ slice_index_or cs q 0 + rows_of s → v ≤ length later
counted_most cs ss later at q v s old counts turns e sum =
    let here : nat_eq (at / BLOCK) q ≡ true = grind (arith, common_steps) in
    let one : row_in q at old ≡ rows_of old = in_block q at old here in
    let two : row_in q at s ≡ rows_of s = in_block q at s here in
    let most : rows_in q 0 later ≤ length later = at_most_all q 0 later in
    omega (arith, counts q, one, two, turns q, most, sum)

-- ---- a block without rows

none_there : (b n k : ℕ) (s : Slot) → row_in b k s ≡ 0 → nat_eq (k / BLOCK) b ≡ true → s ≡ None
none_there b n k None z t = refl
none_there b n k (Some row) z t = let one : row_in b k (Some row) ≡ 1 = in_block b k (Some row) t in absurd (omega arith)

none_in : (b n : ℕ) (ss : List Slot) (j k : ℕ) → k ≡ n + j → rows_in b n ss ≡ 0 → nat_eq (k / BLOCK) b ≡ true → slot_at ss j ≡ None
none_in b n [] j k e z t = refl
none_in b n (s ∷ ss) zero k e z t =
    let here : k ≡ n = omega arith in
    let first : row_in b n s ≡ 0 = omega arith in
    none_there b n k s (ap (λ (m : ℕ). row_in b m s) here ∙ first) t
none_in b n (s ∷ ss) (suc j) k e z t = none_in b (n + 1) ss j k (omega arith) (omega arith) t

-- a block begins at a place, and each of its slots has the same block
same_block : (at j : ℕ) → at % BLOCK ≡ 0 → at ≤ j → j < at + BLOCK → nat_eq (j / BLOCK) (at / BLOCK) ≡ true
same_block at j begins le lt =
    let one : BLOCK * (at / BLOCK) + at % BLOCK ≡ at = div-add-mod at BLOCK in
    let two : BLOCK * (j / BLOCK) + j % BLOCK ≡ j = div-add-mod j BLOCK in
    let less : j % BLOCK < BLOCK = mod-lt j (omega arith) in
    let same : j / BLOCK ≡ at / BLOCK = omega (arith, one, two, less, begins) in
    grind (arith, common_steps)

pub gap : (cs : List ℕ) (ss : List Slot) (at j : ℕ) → Counted cs ss → at % BLOCK ≡ 0 → slice_index_or cs (at / BLOCK) 0 ≡ 0 → at ≤ j → j < at + BLOCK → slot_at ss j ≡ None
gap cs ss at j counts begins none le lt =
    none_in (at / BLOCK) 0 ss j j (omega arith) (sym (counts (at / BLOCK)) ∙ none) (same_block at j begins le lt)

-- ---- past empty slots

past_one : (n : ℕ) (ss : List Slot) (k : ℕ) → slot_at ss k ≡ None → rows_from (n + k) (drop k ss) ≡ rows_from (n + k + 1) (drop (k + 1) ss)
past_one n [] zero h = refl
past_one n [] (suc k) h = let more : suc k + 1 ≡ suc (k + 1) = omega arith in ap (λ (m : ℕ). rows_from (n + suc k + 1) (drop m [])) (sym more)
past_one n (None ∷ ss) zero h = refl
past_one n (Some row ∷ ss) zero h = cc
past_one n (s ∷ ss) (suc k) h =
    let more : suc (k + 1) ≡ suc k + 1 = omega arith in
    let one : n + suc k ≡ n + 1 + k = omega arith in
    let two : n + 1 + k + 1 ≡ n + suc k + 1 = omega arith in
    ap (λ (m : ℕ). rows_from m (drop k ss)) one ∙ past_one (n + 1) ss k h ∙ ap (λ (m : ℕ). rows_from m (drop (k + 1) ss)) two
    ∙ ap (λ (m : ℕ). rows_from (n + suc k + 1) (drop m (s ∷ ss))) more

past_all : (ss : List Slot) (at m : ℕ) → ((j : ℕ) → at ≤ j → j < at + m → slot_at ss j ≡ None) → rows_from (1 + at) (drop at ss) ≡ rows_from (1 + (at + m)) (drop (at + m) ss)
past_all ss at zero none = let same : at ≡ at + 0 = omega arith in ap (λ (k : ℕ). rows_from (1 + k) (drop k ss)) same
past_all ss at (suc m) none =
    let before : rows_from (1 + at) (drop at ss) ≡ rows_from (1 + (at + m)) (drop (at + m) ss) = past_all ss at m (λ j le lt. none j le (omega arith)) in
    let one : 1 + (at + m) + 1 ≡ 1 + (at + suc m) = omega arith in
    let two : at + m + 1 ≡ at + suc m = omega arith in
    before ∙ past_one 1 ss (at + m) (none (at + m) (omega arith) (omega arith))
    ∙ ap (λ (k : ℕ). rows_from k (drop (at + m + 1) ss)) one ∙ ap (λ (k : ℕ). rows_from (1 + (at + suc m)) (drop k ss)) two

pub first_past_none : (ss : List Slot) (at behind number : ℕ) → at ≤ behind → ((j : ℕ) → at ≤ j → j < behind → slot_at ss j ≡ None)
    → first_among (rows_from (1 + at) (drop at ss)) number ≡ first_among (rows_from (1 + behind) (drop behind ss)) number
first_past_none ss at behind number le none =
    let m = behind - at in
    let same : at + (behind - at) ≡ behind = omega arith in
    ap (λ rs. first_among rs number) (past_all ss at m (λ j low high. none j low (omega arith)))
    ∙ ap (λ (k : ℕ). first_among (rows_from (1 + k) (drop k ss)) number) same
