-- What some changes put into a table.
use Rattle.std.specs.Prelude.{ℕ, ◌+◌, List, [], ◌∷◌}
use Rattle.sq_value.specs.declared.value.Value.{Value}
use Rattle.sq_store.specs.declared.change.Change.{Change}
use Rattle.sq_store.specs.declared.change.Change.TheVariants.{Insert, Replace, Remove}

-- how many new rows there are
abbrev pub insert_count : List Change → ℕ
insert_count [] = 0
insert_count (Insert row ∷ changes) = insert_count changes + 1
insert_count (Replace number row ∷ changes) = insert_count changes
insert_count (Remove number ∷ changes) = insert_count changes

-- the rows that are put in, new or in place of others
abbrev pub rows_put : List Change → List (List Value)
rows_put [] = []
rows_put (Insert row ∷ changes) = row ∷ rows_put changes
rows_put (Replace number row ∷ changes) = row ∷ rows_put changes
rows_put (Remove number ∷ changes) = rows_put changes
