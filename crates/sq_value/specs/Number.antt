-- Exact numbers (ISO/IEC 9075:1992, 4.4.1). That they have at most 18 digits is an own rule.
use Rattle.std.specs.Prelude.{ℕ, ℤ, ◌<◌, ◌≤◌, ◌^◌, unsigned_abs}

-- an unscaled value, divided by ten to the power of a scale
pub record Number : Type 0 where
  pub unscaled : ℤ
  pub scale : ℕ

-- at most 18 digits, and at most 18 of them after the point
abbrev pub IsNumber : Number → Type 0
IsNumber n = (unsigned_abs n.unscaled < 10 ^ 18) × (n.scale ≤ 18)
