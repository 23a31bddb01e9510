-- Texts (4.2). Their codes and their greatest length are own rules.
use Rattle.std.specs.Prelude.{ℕ, List, ◌++◌, length, take, drop, replicate, ◌≤◌, ◌-◌, ◌==◌, All, Bool, [], ◌∷◌, if◌then◌else◌}
use Rattle.std.specs.List.{list_all}
use Rattle.sq_value.specs.Characters.{blank}

-- a printable character of ASCII, the blank among them
abbrev pub IsCode : ℕ → Type 0
IsCode c = (blank ≤ c) × (c ≤ 126)

abbrev pub IsText : List ℕ → Type 0
IsText codes = (length codes ≤ 240) × All IsCode codes

-- a text of exactly n codes: cut, or padded with blanks
abbrev pub of_length : ℕ → List ℕ → List ℕ
of_length n t = take n t ++ replicate (n - length t) blank

-- only blanks follow the first n codes
abbrev pub only_blanks_past : ℕ → List ℕ → Bool
only_blanks_past n t = list_all (λ c. c == blank) (drop n t)

-- a code in front of a text that has no blanks at its end
abbrev pub trim_onto : ℕ → List ℕ → List ℕ
trim_onto c [] = if c == blank then [] else (c ∷ [])
trim_onto c (d ∷ ds) = c ∷ (d ∷ ds)

-- the text without the blanks at its end
abbrev pub trimmed : List ℕ → List ℕ
trimmed [] = []
trimmed (c ∷ cs) = trim_onto c (trimmed cs)
