-- The entries of an index, in chains: each entry knows the one before it in its chain, and each chain its last entry. Who
-- is before an entry is said by one more than its place, and by 0 where there is none.
use Rattle.std.specs.Prelude.{ℕ, zero, suc, ◌+◌, Bool, true, ◌&&◌, nat_eq, nat_le, if◌then◌else◌, List, [], ◌∷◌, length, slice_index_or}
use Rattle.sq_heap.specs.declared.index.Entry.{Entry}

abbrev pub entry_at : List Entry → ℕ → Entry
entry_at entries place = slice_index_or entries place (record { hash = 0; at = 0; next = 0 })

-- the chain that a link leads to, among the first `count` entries
abbrev pub chain : List Entry → ℕ → ℕ → List Entry
chain entries zero link = []
chain entries (suc count) link =
    if nat_eq link (suc count)
    then entry_at entries count ∷ chain entries count (entry_at entries count).next
    else chain entries count link

abbrev pub chain_of : List Entry → ℕ → List Entry
chain_of entries link = chain entries (length entries) link

abbrev pub is_entry : ℕ → ℕ → Entry → Bool
is_entry hash at e = nat_eq e.hash hash && nat_eq e.at at

-- ---- what makes chains end

abbrev pub is_within : ℕ → ℕ → Bool
is_within count link = nat_le link count

-- each entry comes after the one before it in its chain, where the first is at a place
abbrev pub are_falling : ℕ → List Entry → Bool
are_falling place [] = true
are_falling place (e ∷ entries) = nat_le e.next place && are_falling (place + 1) entries
