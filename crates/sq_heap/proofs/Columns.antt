-- The columns of keys, in rows and in slots.
use Rattle.std.proofs.Common.{◌≡◌, ℕ, zero, suc, ◌+◌, true, List, [], ◌∷◌, Some, None, arith, refl}
use Rattle.std.specs.List.{list_all}
use Rattle.std.proofs.lemmas.Grind.{common_steps}
use Rattle.sq_value.specs.declared.value.Value.{Value}
use Rattle.sq_store.specs.declared.table.Numbered.{Numbered}
use Rattle.sq_store.specs.Keys.{Keys, has_columns, has_keys, have_keys}
use Rattle.sq_heap.specs.Alone.{slots_have}
use Rattle.sq_heap.specs.Slots.{Slot, rows_from, slot_at}

-- the row of a slot
pub columns_of_slot : (columns : List ℕ) (ss : List Slot) (at : ℕ) (row : List Value) → slots_have columns ss ≡ true → slot_at ss at ≡ Some row → has_columns columns row ≡ true
columns_of_slot columns [] at row h e = cc
columns_of_slot columns (None ∷ ss) zero row h e = cc
columns_of_slot columns (Some r ∷ ss) zero row h e = let same : r ≡ row = cc in grind (arith, common_steps)
columns_of_slot columns (None ∷ ss) (suc at) row h e = columns_of_slot columns ss at row h e
columns_of_slot columns (Some r ∷ ss) (suc at) row h e = columns_of_slot columns ss at row (grind (arith, common_steps)) e

no_slots_of : (keys : Keys) → list_all (λ columns. slots_have columns []) keys ≡ true
no_slots_of [] = refl
no_slots_of (columns ∷ keys) = no_slots_of keys

slots_of_keys_none : (keys : Keys) (ss : List Slot) → list_all (λ columns. slots_have columns ss) keys ≡ true → list_all (λ columns. slots_have columns (None ∷ ss)) keys ≡ true
slots_of_keys_none [] ss h = refl
slots_of_keys_none (columns ∷ keys) ss h = grind (arith, common_steps, slots_of_keys_none keys ss)

slots_of_keys_some : (keys : Keys) (row : List Value) (ss : List Slot) → has_keys keys row ≡ true → list_all (λ columns. slots_have columns ss) keys ≡ true → list_all (λ columns. slots_have columns (Some row ∷ ss)) keys ≡ true
slots_of_keys_some [] row ss k h = refl
slots_of_keys_some (columns ∷ keys) row ss k h = grind (arith, common_steps, slots_of_keys_some keys row ss)

-- the rows of a table, and its slots
pub slots_of_keys : (keys : Keys) (n : ℕ) (ss : List Slot) → have_keys keys (rows_from n ss) ≡ true → list_all (λ columns. slots_have columns ss) keys ≡ true
slots_of_keys keys n [] h = no_slots_of keys
slots_of_keys keys n (None ∷ ss) h = slots_of_keys_none keys ss (slots_of_keys keys (n + 1) ss h)
slots_of_keys keys n (Some row ∷ ss) h = slots_of_keys_some keys row ss (grind (arith, common_steps)) (slots_of_keys keys (n + 1) ss (grind (arith, common_steps)))

-- rows with the columns of one list
pub slots_of_rows : (columns : List ℕ) (n : ℕ) (ss : List Slot) → list_all (λ (r : Numbered). has_columns columns r.row) (rows_from n ss) ≡ true → slots_have columns ss ≡ true
slots_of_rows columns n [] h = refl
slots_of_rows columns n (None ∷ ss) h = slots_of_rows columns (n + 1) ss h
slots_of_rows columns n (Some row ∷ ss) h =
    let rest : slots_have columns ss ≡ true = slots_of_rows columns (n + 1) ss (grind (arith, common_steps)) in
    grind (arith, common_steps)
