-- An output over a writer of std.
use Rattle.std.specs.Prelude.{Bool}

-- the writer, and whether one of its writes was a fault
pub record OverWriter (W : Type 0) : Type 0 where
  pub writer : W
  pub failed : Bool
