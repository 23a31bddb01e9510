-- A table of a store has fewer than 10 ^ 18 rows: their numbers rise, up to the greatest that a row may have.
use Rattle.std.proofs.Common.{◌≡◌, ℕ, ◌+◌, ◌≤◌, ◌<◌, ◌^◌, true, List, [], ◌∷◌, length, arith, subst, sym}
use Rattle.std.proofs.lemmas.Grind.{common_steps}
use Rattle.sq_store.specs.Content.{Content, table_at}
use Rattle.sq_store.specs.Rising.{all_rising, rising_between}
use Rattle.sq_store.specs.declared.store.TheConstants.{MOST_ROW_NUMBERS}
use Rattle.sq_store.specs.declared.table.Numbered.{Numbered}
use Rattle.sq_store.proofs.Rises.{next_at, rows_rise_at}
use Rattle.sq_meaning.specs.Tables.{rows_in}
use Rattle.sq_query.proofs.PlainViews.SureRows.{IsShort, map_long}

rising_long : (low : ℕ) (rs : List Numbered) (next : ℕ) → rising_between low rs next ≡ true → low + length rs ≤ next
rising_long low [] next h = grind (arith, common_steps)
rising_long low (r ∷ rs) next h = grind (arith, common_steps, rising_long (r.number + 1) rs next)

most_short : MOST_ROW_NUMBERS < 10 ^ 18
most_short = omega arith

pub few_rows : (row_numbers : ℕ) (content : Content) (base : ℕ) → all_rising row_numbers content ≡ true → row_numbers ≤ MOST_ROW_NUMBERS → IsShort (rows_in (table_at content base))
few_rows row_numbers content base rising most =
    let t = table_at content base in
    let long = rising_long 1 t.rows t.next (rows_rise_at row_numbers content base rising) in
    let few : length t.rows < 10 ^ 18 = omega (arith, long, next_at row_numbers content base rising, most, most_short) in
    subst (λ n. n < 10 ^ 18) (sym (map_long (λ (r : Numbered). r.row) t.rows)) few
