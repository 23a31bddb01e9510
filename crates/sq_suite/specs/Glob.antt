-- The texts that a pattern stands for.
use Rattle.std.specs.Prelude.{ℕ, Bool, true, false, ◌==◌, ◌&&◌, ◌||◌, List, [], ◌∷◌, if◌then◌else◌}

-- Some end of the text, which may be all of it or nothing, passes.
abbrev pub some_end : (List ℕ → Bool) → List ℕ → Bool
some_end passes [] = passes []
some_end passes (byte ∷ bytes) = passes (byte ∷ bytes) || some_end passes bytes

-- The text has a first byte that the sign stands for, and the rest passes: `?` is 63.
abbrev pub first_then : ℕ → (List ℕ → Bool) → List ℕ → Bool
first_then sign passes [] = false
first_then sign passes (byte ∷ bytes) = (sign == 63 || sign == byte) && passes bytes

abbrev pub is_end : List ℕ → Bool
is_end [] = true
is_end (byte ∷ bytes) = false

-- The text is one of those that the pattern stands for: `*` is 42.
abbrev pub matches : List ℕ → List ℕ → Bool
matches [] text = is_end text
matches (sign ∷ rest) text =
    if sign == 42 then some_end (matches rest) text else first_then sign (matches rest) text
