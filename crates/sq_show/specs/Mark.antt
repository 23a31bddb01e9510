-- Notes beside a report: lines that begin with two blanks and `--`, as a comment does.
use Rattle.std.specs.Prelude.{◌≡◌, ℕ, Bool, true, false, ◌==◌, ◌++◌, List, [], ◌∷◌, codes, flat_map}

-- What stands before a byte: at the start of a line the mark of a note.
abbrev pub mark : Bool → List ℕ
mark true = codes "  -- "
mark false = []

-- What ends a text: a line that has begun gets its end.
abbrev pub last_end : Bool → List ℕ
last_end true = []
last_end false = codes "\n"

-- Any text as notes: each of its lines with the mark before it, the last one ended, too; and whether the text starts a line.
abbrev pub marked : Bool → List ℕ → List ℕ
marked starts [] = last_end starts
marked starts (byte ∷ bytes) = mark starts ++ (byte ∷ marked (byte == 10) bytes)

-- notes are added to what was there, each as lines of its own
pub record AddsNotes (old new : List ℕ) : Type 0 where
  pub notes : List (List ℕ)
  pub added : new ≡ old ++ flat_map (marked true) notes
