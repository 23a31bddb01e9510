-- The lines of a text.
use Rattle.std.specs.Prelude.{ℕ, ◌-◌, ◌==◌, Bool, not, List, drop, length, reverse, take}
use Rattle.std.specs.List.{take_while}
use Rattle.sq_lex.specs.Characters.{line_feed}

abbrev pub is_of_line : ℕ → Bool
is_of_line b = not (b == line_feed)

-- How many bytes the first line has, without its end.
abbrev pub line_length : List ℕ → ℕ
line_length text = length (take_while is_of_line text)

-- The first line, without its end.
abbrev pub first_line : List ℕ → List ℕ
first_line text = take (line_length text) text

-- How many bytes the last line has.
abbrev pub last_length : List ℕ → ℕ
last_length text = length (take_while is_of_line (reverse text))

-- The line that holds a byte, without its end: it begins after the last end of a line before the byte.
abbrev pub line_around : List ℕ → ℕ → List ℕ
line_around text byte =
    first_line (drop (length (take byte text) - last_length (take byte text)) text)
