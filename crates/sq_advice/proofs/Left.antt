-- The rest of a text after one piece of it is passed over.
use Rattle.std.proofs.Common.{◌≡◌, ℕ, List, [], ◌∷◌}
use Rattle.sq_advice.specs.Passed.{IsLeft, passed}
use Rattle.sq_advice.specs.declared.passed.Piece.{Piece}

pub one_left : (text left : List ℕ) (piece : Piece) → left ≡ passed text piece → IsLeft text left
one_left text left piece e = record { pieces = piece ∷ []; is = e }
