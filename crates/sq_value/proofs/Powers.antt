-- Powers of ten.
use Rattle.std.proofs.Common.{ℕ, ◌≤◌, ◌^◌, arith}
use Rattle.std.proofs.Math.Nat.{pow-le-pow_right, one-le-pow}

pub power_of_ten_le : (k : ℕ) → k ≤ 18 → 10 ^ k ≤ 10 ^ 18
power_of_ten_le k h = pow-le-pow_right {n = 10} (omega arith) h

pub power_of_ten_ge : (k : ℕ) → 1 ≤ 10 ^ k
power_of_ten_ge k = omega (arith, one-le-pow k 10 (omega arith))

pub ruleset powers = (power_of_ten_le, power_of_ten_ge)
