-- Texts of printable characters and line ends, as JSON has them.
use Rattle.std.specs.Prelude.{ℕ, zero, suc, ◌==◌, ◌++◌, List, [], ◌∷◌, codes, flat_map, if◌then◌else◌}

-- a quote and a backslash stand behind a backslash, a line end is `\n`, and `<` stands by its number, so that no text ends a script
abbrev pub escaped : ℕ → List ℕ
escaped byte =
    if byte == 34 then codes "\\\""
    else if byte == 92 then codes "\\\\"
    else if byte == 10 then codes "\\n"
    else if byte == 60 then codes "\\u003c"
    else byte ∷ []

abbrev pub text : List ℕ → List ℕ
text codes_of = codes "\"" ++ flat_map escaped codes_of ++ codes "\""

-- what stands before the element of a list with this place
abbrev pub comma : ℕ → List ℕ
comma zero = []
comma (suc place) = codes ","
