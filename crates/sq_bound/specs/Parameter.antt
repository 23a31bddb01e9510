-- Parameters of procedures (ISO/IEC 9075:1992, 12.3).
use Rattle.std.specs.Coded.{×_prop, Unit-prop, le_prop}
use Rattle.std.proofs.Common.{◌≤◌, ℕ, ap₂}
use Rattle.sq_value.specs.Domain.{IsDomain}
use Rattle.sq_value.specs.declared.domain.Domain.{Domain}
use Rattle.sq_value.specs.declared.domain.Domain.TheVariants.{Small, Int, Numeric, Char, VarChar}

are_digits-prop : (p s : ℕ) → IsProp ((1 ≤ p) × (p ≤ 18) × (s ≤ p))
are_digits-prop p s x y =
    let one : IsProp (1 ≤ p) = le_prop in
    let two : IsProp ((p ≤ 18) × (s ≤ p)) = ×_prop le_prop le_prop in
    ap₂ (λ (a : 1 ≤ p) (b : (p ≤ 18) × (s ≤ p)). (a, b.0, b.1)) (one x.0 y.0) (two (x.1, x.2) (y.1, y.2))

-- there is one way at most to be a domain
pub IsDomain-prop : (d : Domain) → IsProp (IsDomain d)
IsDomain-prop Small = Unit-prop
IsDomain-prop Int = Unit-prop
IsDomain-prop (Numeric p s) = are_digits-prop p s
IsDomain-prop (Char n) = ×_prop le_prop le_prop
IsDomain-prop (VarChar n) = ×_prop le_prop le_prop
