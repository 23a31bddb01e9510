-- Text literals (ISO/IEC 9075:1992, 5.3 <character string literal>), from the byte after the opening quote on.
use Rattle.std.specs.Prelude.{ℕ, ◌+◌, ◌<◌, ◌≤◌, List, [], ◌∷◌, take, if◌then◌else◌, ◌==◌}
use Rattle.sq_lex.specs.declared.literal.Literal.{Literal}
use Rattle.sq_lex.specs.declared.literal.Literal.TheVariants.{Closed, Open, BadByte}
use Rattle.sq_lex.specs.Characters.{quote, is_line_end, is_printable}

-- a character, with the length of its spelling in bytes, before the rest of a literal
abbrev pub with_character : ℕ → ℕ → Literal → Literal
with_character character spelled (Closed characters size) = Closed (character ∷ characters) (spelled + size)
with_character character spelled Open = Open
with_character character spelled (BadByte at) = BadByte (spelled + at)

abbrev mutual
  -- the characters up to the closing quote, and how many bytes they take with it; no line ends in a literal
  pub literal : List ℕ → Literal
  literal [] = Open
  literal (b ∷ bytes) =
      if b == quote then after_quote bytes
      else (if is_line_end b then Open
      else (if is_printable b then with_character b 1 (literal bytes)
      else BadByte 0))

  -- after a quote: a second one makes both a character, else the first one closes
  pub after_quote : List ℕ → Literal
  after_quote [] = Closed [] 1
  after_quote (b ∷ bytes) = if b == quote then with_character quote 2 (literal bytes) else Closed [] 1

-- The part of a literal that is kept: its first 241 characters, which tell whether it has more than the 240 that it may have.
abbrev pub kept_characters : List ℕ → List ℕ
kept_characters characters = take 241 characters

abbrev pub kept : Literal → Literal
kept (Closed characters size) = Closed (kept_characters characters) size
kept Open = Open
kept (BadByte at) = BadByte at

-- a literal ends within the first n bytes
abbrev pub IsWithin : ℕ → Literal → Type 0
IsWithin n (Closed characters size) = (0 < size) × (size ≤ n)
IsWithin n Open = Unit {0}
IsWithin n (BadByte at) = at < n
