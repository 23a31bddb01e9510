-- Rows of a base table with their numbers, a single one in place.
use Rattle.std.specs.Prelude.{ℕ, List, [], ◌∷◌, map}
use Rattle.std.specs.Borrow.{Bor}
use Rattle.sq_store.specs.declared.table.Numbered.{Numbered}
use Rattle.sq_meaning.specs.Environment.{Row}
use Rattle.sq_query.specs.Table.{numbered_row}
use Rattle.sq_query.specs.declared.few_rows.FewRows.{FewRows}
use Rattle.sq_query.specs.declared.few_rows.FewRows.TheVariants.{Listed, One}

abbrev pub few_rows : FewRows → List (ℕ × Bor Row)
few_rows (One row) = row ∷ []
few_rows (Listed rows) = rows.items

abbrev pub few_numbered : FewRows → List Numbered
few_numbered rows = map numbered_row (few_rows rows)
