-- Whole numbers.
use Rattle.std.specs.Prelude.{ℤ}
use Rattle.sq_value.specs.declared.value.Value.{Value}
use Rattle.sq_value.specs.declared.value.Value.TheVariants.{Num}

-- the number without digits after the point
abbrev pub whole : ℤ → Value
whole n = Num (record { unscaled = n; scale = 0 })
