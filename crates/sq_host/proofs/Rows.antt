-- The next row of a table is the last one that is kept.
use Rattle.std.proofs.Common.{◌≡◌, List, [], ◌∷◌, ◌++◌, Ok, refl}
use Rattle.sq_value.specs.declared.value.Value.{Value}
use Rattle.sq_host.specs.Calls.{last_of}

pub last_added : (rows : List (List Value)) (row : List Value) → last_of (rows ++ row ∷ []) ≡ Ok row
last_added [] row = refl
last_added (first ∷ []) row = refl
last_added (first ∷ second ∷ rows) row = last_added (second ∷ rows) row
