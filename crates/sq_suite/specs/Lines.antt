-- Lines.
use Rattle.std.specs.Prelude.{ℕ, List, [], ◌∷◌, ◌++◌}
use Rattle.std.specs.Borrow.{Bor}

-- The text that lines make.
abbrev pub joined : List (Bor (List ℕ)) → List ℕ
joined [] = []
joined (line ∷ lines) = line.now ++ joined lines
