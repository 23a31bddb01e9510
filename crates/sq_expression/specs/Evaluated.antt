-- A value that is lent from its place, or made.
use Rattle.std.specs.Prelude.{Option, Some, None}
use Rattle.std.specs.Borrow.{Bor}
use Rattle.sq_value.specs.declared.value.Value.{Value}

abbrev pub evaluated : Option (Bor Value) → Value → Value
evaluated None made = made
evaluated (Some lent) made = lent.now
