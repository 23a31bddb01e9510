-- Arithmetic on exact numbers (ISO/IEC 9075:1992, 6.12). The standard leaves to the implementation the number of
-- digits of a result, and the scale and truncation of a quotient. They are own rules.
use Rattle.std.specs.Prelude.{ℕ, ℤ, pos, ◌+◌, ◌-◌, ◌^◌, ◌*ℤ◌, ◌+ℤ◌, ◌-ℤ◌, neg_ℤ, max, nat_lt, unsigned_abs, int_div, Result, Ok, Err, if◌then◌else◌}
use Rattle.std.specs.declared.cmp.Ordering.{Ordering}
use Rattle.std.specs.Ordering.{int_cmp, int_eq}
use Rattle.sq_value.specs.Number.{Number}
use Rattle.sq_value.specs.declared.fault.ArithmeticFault.{ArithmeticFault}
use Rattle.sq_value.specs.declared.fault.ArithmeticFault.TheVariants.{Range, ZeroDivisor}

-- the number of a scale, or a fault if it has more than 18 digits
abbrev pub in_range : ℕ → ℤ → Result Number ArithmeticFault
in_range s m = if nat_lt (unsigned_abs m) (10 ^ 18) then Ok (record { unscaled = m; scale = s })
    else Err Range

-- the unscaled value of the same number at a greater scale
abbrev pub at_scale : ℕ → Number → ℤ
at_scale s n = n.unscaled *ℤ pos (10 ^ (s - n.scale))

-- the scale of a sum and a difference is the greater one
abbrev pub added : Number → Number → Result Number ArithmeticFault
added a b = let s = max a.scale b.scale in in_range s (at_scale s a +ℤ at_scale s b)

abbrev pub subtracted : Number → Number → Result Number ArithmeticFault
subtracted a b = let s = max a.scale b.scale in in_range s (at_scale s a -ℤ at_scale s b)

-- the scale of a product is the sum of both
abbrev pub multiplied : Number → Number → Result Number ArithmeticFault
multiplied a b = in_range (a.scale + b.scale) (a.unscaled *ℤ b.unscaled)

-- a quotient has the greater scale, and is truncated toward zero
abbrev pub divided : Number → Number → Result Number ArithmeticFault
divided a b =
    let s = max a.scale b.scale in
    if int_eq b.unscaled (pos 0) then Err ZeroDivisor
    else in_range s (int_div (a.unscaled *ℤ pos (10 ^ (s + b.scale - a.scale))) b.unscaled)

-- the number at another scale, its further digits truncated toward zero (own rule)
abbrev pub truncated : ℕ → Number → Number
truncated s n = record { unscaled = int_div (n.unscaled *ℤ pos (10 ^ s)) (pos (10 ^ n.scale)); scale = s }

abbrev pub negated : Number → Number
negated n = record { unscaled = neg_ℤ n.unscaled; scale = n.scale }

-- numbers compare by their values (8.2): m / 10 ^ s and n / 10 ^ t as m * 10 ^ t and n * 10 ^ s
abbrev pub numbers_compared : Number → Number → Ordering
numbers_compared a b = int_cmp (a.unscaled *ℤ pos (10 ^ b.scale)) (b.unscaled *ℤ pos (10 ^ a.scale))
