-- The characters of a text literal (ISO/IEC 9075:1992, 5.3 <character string literal>).
use Rattle.std.specs.Prelude.{ℕ, ◌≤◌, List, length}
use Rattle.std.specs.List.{All}
use Rattle.sq_lex.specs.Characters.{IsPrintable}

-- at most 240, each printable (own rules)
abbrev pub AreCharacters : List ℕ → Type 0
AreCharacters codes = (length codes ≤ 240) × All IsPrintable codes
