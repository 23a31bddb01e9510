-- Values that are made one beside the other.
use Rattle.std.specs.Prelude.{◌≡◌, Result, Ok, Err}

-- the first fault of the two
abbrev pub IsFaultOf : {A B E : Type 0} → Result A E → Result B E → E → Type 0
IsFaultOf (Err first) right fault = fault ≡ first
IsFaultOf (Ok x) (Err second) fault = fault ≡ second
IsFaultOf (Ok x) (Ok y) fault = ⊥
