-- The depth of a part that a text may lack, and of a row of parts.
use Rattle.std.specs.Prelude.{ℕ, max, List, [], ◌∷◌, Option, Some, None}

-- the depth of [ x ]
abbrev pub optional_depth : {A : Type 0} → (A → ℕ) → Option A → ℕ
optional_depth depth None = 0
optional_depth depth (Some x) = depth x

-- the depth of a row of parts is the greatest of theirs
abbrev pub greatest : List ℕ → ℕ
greatest [] = 0
greatest (d ∷ ds) = max d (greatest ds)
