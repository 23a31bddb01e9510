-- Defaults of columns (ISO/IEC 9075:1992, 11.5).
use Rattle.std.specs.Prelude.{◌≡◌, ℤ, ◌≤ℤ◌, false}
use Rattle.std.specs.Coded.{×_prop, Unit-prop, le_prop, Coded-set, coded_bool, coded_ℕ, codes}
use Rattle.std.proofs.Common.{ℕ, List, length, ap₂}
use Rattle.sq_value.specs.Domain.{IsInDomain, NumberIsIn, TextIsIn, is_of_numbers}
use Rattle.sq_value.specs.Number.{Number}
use Rattle.sq_value.specs.declared.domain.Domain.{Domain}
use Rattle.sq_value.specs.declared.domain.Domain.TheVariants.{Small, Int, Numeric, Char, VarChar}
use Rattle.sq_value.specs.declared.value.Value.{Value}
use Rattle.sq_value.specs.declared.value.Value.TheVariants.{Null, Num, Chars}
use Rattle.sq_bound.specs.declared.names.ColumnDefault.{ColumnDefault}
use Rattle.sq_bound.specs.declared.names.ColumnDefault.TheVariants as default

-- a default that is a value is in the column's domain; USER, a text, is stored at each call
abbrev pub DefaultIsIn : Domain → ColumnDefault → Type 0
DefaultIsIn d (default.Value v) = IsInDomain d v
DefaultIsIn d default.User = is_of_numbers d ≡ false

-- ---- there is one way at most to be in a domain

none : IsProp ⊥
none x y = absurd x

whole : (low high : ℤ) (n : Number) → IsProp ((n.scale ≡ 0) × (low ≤ℤ n.unscaled) × (n.unscaled ≤ℤ high))
whole low high n x y =
    let scale : IsProp (n.scale ≡ 0) = Coded-set coded_ℕ n.scale 0 in
    let from : IsProp (low ≤ℤ n.unscaled) = Prim.hlevel codes in
    let to : IsProp (n.unscaled ≤ℤ high) = Prim.hlevel codes in
    let within : IsProp ((low ≤ℤ n.unscaled) × (n.unscaled ≤ℤ high)) = ×_prop from to in
    ap₂ (λ (a : n.scale ≡ 0) (b : (low ≤ℤ n.unscaled) × (n.unscaled ≤ℤ high)). (a, b.0, b.1))
    (scale x.0 y.0) (within (x.1, x.2) (y.1, y.2))

NumberIsIn-prop : (d : Domain) (n : Number) → IsProp (NumberIsIn d n)
NumberIsIn-prop Small n = whole _ _ n
NumberIsIn-prop Int n = whole _ _ n
NumberIsIn-prop (Numeric p s) n = ×_prop (Coded-set coded_ℕ n.scale s) le_prop
NumberIsIn-prop (Char _) n = none
NumberIsIn-prop (VarChar _) n = none

TextIsIn-prop : (d : Domain) (t : List ℕ) → IsProp (TextIsIn d t)
TextIsIn-prop Small t = none
TextIsIn-prop Int t = none
TextIsIn-prop (Numeric _ _) t = none
TextIsIn-prop (Char n) t = Coded-set coded_ℕ (length t) n
TextIsIn-prop (VarChar n) t = le_prop

IsInDomain-prop : (d : Domain) (v : Value) → IsProp (IsInDomain d v)
IsInDomain-prop d Null = Unit-prop
IsInDomain-prop d (Num n) = NumberIsIn-prop d n
IsInDomain-prop d (Chars t) = TextIsIn-prop d t

pub DefaultIsIn-prop : (d : Domain) (c : ColumnDefault) → IsProp (DefaultIsIn d c)
DefaultIsIn-prop d (default.Value v) = IsInDomain-prop d v
DefaultIsIn-prop d default.User = Coded-set coded_bool (is_of_numbers d) false
