-- Changes whose rows have their entries.
use Rattle.std.proofs.Common.{◌≡◌, ℕ, zero, suc, ◌+◌, ◌-◌, ◌≤◌, ◌<◌, true, List, [], ◌∷◌, length, drop, get_or, arith, refl, sym, ap, ◌∙◌}
use Rattle.std.proofs.lemmas.Bool.{and_from}
use Rattle.sq_value.proofs.Truths.{both_left, both_right}
use Rattle.sq_value.specs.declared.value.Value.{Value}
use Rattle.sq_store.specs.declared.change.Change.{Change}
use Rattle.sq_store.specs.declared.change.Change.TheVariants.{Insert, Replace, Remove}
use Rattle.sq_store.specs.Content.{changed}
use Rattle.sq_heap.specs.Entered.{change_holds, changes_hold, next_slot}
use Rattle.sq_heap.specs.Index.{Test}
use Rattle.sq_heap.specs.Slots.{Slot, table_of}

-- where one thing gives another
pub change_gives : (P Q : Test) → ((r : List Value) (k : ℕ) → P r k ≡ true → Q r k ≡ true) → (n : ℕ) (change : Change) → change_holds P n change ≡ true → change_holds Q n change ≡ true
change_gives P Q f n (Insert row) h = f row n h
change_gives P Q f n (Replace number row) h = f row (number - 1) h
change_gives P Q f n (Remove number) h = h

-- the change at a place and those behind it, or those from the place on
split_at : (P : Test) (n : ℕ) (cs : List Change) (i : ℕ) (c : Change) → i < length cs → c ≡ get_or cs i c → changes_hold P n (drop i cs) ≡ changes_hold P n (c ∷ drop (i + 1) cs)
split_at P n [] i c lt e = absurd (omega arith)
split_at P n (x ∷ cs) zero c lt e = ap (λ (y : Change). changes_hold P n (y ∷ cs)) (sym e)
split_at P n (x ∷ cs) (suc i) c lt e =
    let more : suc (i + 1) ≡ suc i + 1 = omega arith in
    split_at P n cs i c (omega arith) e ∙ ap (λ (k : ℕ). changes_hold P n (c ∷ drop k (x ∷ cs))) more

pub holds_here : (P : Test) (n : ℕ) (cs : List Change) (i : ℕ) (c : Change) → i < length cs → c ≡ get_or cs i c → changes_hold P n (drop i cs) ≡ true → change_holds P n c ≡ true
holds_here P n cs i c lt e h = both_left (change_holds P n c) (changes_hold P (next_slot n c) (drop (i + 1) cs)) (sym (split_at P n cs i c lt e) ∙ h)

pub holds_behind : (P : Test) (n : ℕ) (cs : List Change) (i : ℕ) (c : Change) → i < length cs → c ≡ get_or cs i c → changes_hold P n (drop i cs) ≡ true → changes_hold P (next_slot n c) (drop (i + 1) cs) ≡ true
holds_behind P n cs i c lt e h = both_right (change_holds P n c) (changes_hold P (next_slot n c) (drop (i + 1) cs)) (sym (split_at P n cs i c lt e) ∙ h)

pub holds_from : (P : Test) (n : ℕ) (cs : List Change) (i : ℕ) (c : Change) → i < length cs → c ≡ get_or cs i c → change_holds P n c ≡ true → changes_hold P (next_slot n c) (drop (i + 1) cs) ≡ true → changes_hold P n (drop i cs) ≡ true
holds_from P n cs i c lt e h rest = split_at P n cs i c lt e ∙ and_from _ _ h rest

pub holds_none : (P : Test) (n : ℕ) (cs : List Change) (i : ℕ) → length cs ≤ i → changes_hold P n (drop i cs) ≡ true
holds_none P n [] zero le = refl
holds_none P n [] (suc i) le = refl
holds_none P n (c ∷ cs) zero le = absurd (omega arith)
holds_none P n (c ∷ cs) (suc i) le = holds_none P n cs i (omega arith)

-- the slot of the next new row
next_of : (ss : List Slot) (c : Change) → (changed (table_of ss) c).next ≡ next_slot (length ss) c + 1
next_of ss (Insert row) = refl
next_of ss (Replace number row) = refl
next_of ss (Remove number) = refl

pub slots_after : (ss later : List Slot) (c : Change) → table_of later ≡ changed (table_of ss) c → length later ≡ next_slot (length ss) c
slots_after ss later c e = let same : length later + 1 ≡ next_slot (length ss) c + 1 = ap (λ t. t.next) e ∙ next_of ss c in omega arith

pub next_at_most : (n : ℕ) (c : Change) → next_slot n c ≤ n + 1
next_at_most n (Insert row) = omega arith
next_at_most n (Replace number row) = omega arith
next_at_most n (Remove number) = omega arith
