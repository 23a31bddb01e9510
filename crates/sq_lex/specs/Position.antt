-- Positions in a text: lines and columns count from 1, in bytes, and a line ends with LF (own rule).
use Rattle.std.specs.Prelude.{ℕ, ◌+◌, List, take, fold, if◌then◌else◌, ◌==◌}
use Rattle.sq_lex.specs.Characters.{line_feed}
use Rattle.sq_lex.specs.declared.position.Position.{Position}

-- the first byte's
abbrev pub start : Position
start = record { byte = 0; line = 1; column = 1 }

-- the position after one that has this byte
abbrev pub next : Position → ℕ → Position
next position b =
    record {
      byte = position.byte + 1;
      line = if b == line_feed then position.line + 1 else position.line;
      column = if b == line_feed then 1 else position.column + 1;
    }

-- the position after these bytes
abbrev pub past : Position → List ℕ → Position
past position bytes = fold next position bytes

-- the position of a byte of a text; past the text's end it is the position of the end
abbrev pub position : List ℕ → ℕ → Position
position text byte = past start (take byte text)
