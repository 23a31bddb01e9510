-- Bytes that are written in other words.
use Rattle.std.specs.Prelude.{ℕ, Bool, ◌==◌, ◌+◌, ◌-◌, ◌/◌, ◌%◌, ◌&&◌, ◌||◌, true, ◌++◌, List, [], ◌∷◌, codes, if◌then◌else◌, nat_lt, nat_le}

abbrev pub one : ℕ → List ℕ
one byte = byte ∷ []

-- A byte of a text in XML.
abbrev pub escaped : ℕ → List ℕ
escaped byte =
    if byte == 38 then codes "&amp;"
    else if byte == 60 then codes "&lt;"
    else if byte == 62 then codes "&gt;"
    else if byte == 34 then codes "&quot;"
    else one byte

abbrev pub digit : ℕ → ℕ
digit value = if nat_lt value 10 then 48 + value else 65 + (value - 10)

-- A byte of a name in TAP: `#` and the backslash come after a backslash, and a control character is `?`.
abbrev pub named : ℕ → List ℕ
named byte =
    if byte == 35 || byte == 92 then 92 ∷ one byte
    else if nat_lt byte 32 || byte == 127 then codes "?"
    else one byte

-- A text with two blanks before each of its lines; whether it starts a line.
abbrev pub indented : Bool → List ℕ → List ℕ
indented starts [] = []
indented starts (byte ∷ bytes) = (if starts then codes "  " else []) ++ (byte ∷ indented (byte == 10) bytes)

-- A byte of a line: printable ones are as they are, but a backslash is doubled.
abbrev pub shown : ℕ → List ℕ
shown byte =
    if byte == 92 then codes "\\\\"
    else if nat_le 32 byte && nat_le byte 126 then one byte
    else 92 ∷ 120 ∷ digit (byte / 16) ∷ digit (byte % 16) ∷ []
