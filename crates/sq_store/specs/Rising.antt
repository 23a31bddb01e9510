-- Rows stand by rising numbers from 1 on, each below the next number (own rule).
use Rattle.std.specs.Prelude.{ℕ, ◌+◌, Bool, ◌&&◌, nat_le, List, [], ◌∷◌}
use Rattle.std.specs.List.{list_all}
use Rattle.sq_store.specs.declared.table.Numbered.{Numbered}
use Rattle.sq_store.specs.declared.table.Table.{Table}
use Rattle.sq_store.specs.Content.{Content}

-- the numbers rise, from `low` on and below `next`
abbrev pub rising_between : ℕ → List Numbered → ℕ → Bool
rising_between low [] next = nat_le low next
rising_between low (r ∷ rs) next = nat_le low r.number && rising_between (r.number + 1) rs next

abbrev pub has_rising_rows : Table → Bool
has_rising_rows t = rising_between 1 t.rows t.next

-- the numbers rise, and the next one is at most one more than the greatest that a row may have
abbrev pub is_rising : ℕ → Table → Bool
is_rising row_numbers t = has_rising_rows t && nat_le t.next (row_numbers + 1)

abbrev pub all_rising : ℕ → Content → Bool
all_rising row_numbers content = list_all (is_rising row_numbers) content
