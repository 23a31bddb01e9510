-- Texts in which pieces are passed over: blanks take their place, and each line keeps its end.
use Rattle.std.specs.Prelude.{◌≡◌, ◌==◌, ◌≤◌, ℕ, length, if◌then◌else◌, List, [], ◌∷◌, ◌++◌, drop, map, take}
use Rattle.std.specs.List.{slice_range}
use Rattle.sq_lex.specs.Characters.{blank, line_feed}
use Rattle.sq_advice.specs.declared.passed.Piece.{Piece}

-- the byte in the place of another
abbrev pub blank_for : ℕ → ℕ
blank_for b = if b == line_feed then line_feed else blank

-- a piece of this text
pub record IsPieceOf (text : List ℕ) (piece : Piece) : Type 0 where
  pub ordered : piece.start ≤ piece.«end»
  pub within : piece.«end» ≤ length text

-- the text with blanks for one of its pieces
abbrev pub passed : List ℕ → Piece → List ℕ
passed text piece =
    (take piece.start text ++ map blank_for (slice_range text piece.start piece.«end»))
    ++ drop piece.«end» text

-- the text with blanks for several of its pieces, one after the other
abbrev pub all_passed : List ℕ → List Piece → List ℕ
all_passed text [] = text
all_passed text (piece ∷ pieces) = all_passed (passed text piece) pieces

-- this is the rest of a text after some of its pieces are passed over
pub record IsLeft (text left : List ℕ) : Type 0 where
  pub pieces : List Piece
  pub is : left ≡ all_passed text pieces
