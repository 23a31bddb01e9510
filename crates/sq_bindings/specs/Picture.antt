-- Numbers in digits, and pictures of COBOL.
use Rattle.std.specs.Prelude.{ℕ, ◌+◌, ◌-◌, ◌/◌, ◌%◌, [], ◌∷◌, ◌++◌, nat_le, nat_lt, if◌then◌else◌}
use Rattle.sq_bindings.specs.Template.{Text}
use Rattle.sq_bindings.specs.declared.parameter.Kind.{Kind}
use Rattle.sq_bindings.specs.declared.parameter.Kind.TheVariants as kind
use Rattle.sq_bindings.specs.declared.picture.TheConstants.{WHOLE, FRACTION}

-- a number below 1000 in digits
abbrev pub digits_of : ℕ → Text
digits_of n =
    (if nat_le 100 n then (48 + n / 100) ∷ [] else [])
    ++ (if nat_le 10 n then (48 + n / 10 % 10) ∷ [] else []) ++ (48 + n % 10) ∷ []

-- how many digits a number has, or characters a text
abbrev pub size_of : Kind → ℕ
size_of kind.Small = 0
size_of kind.Integer = 0
size_of (kind.Numeric digits scale) = digits
size_of (kind.Decimal digits scale) = digits
size_of (kind.Fixed length) = length
size_of (kind.Varying length) = length

abbrev pub scale_of : Kind → ℕ
scale_of kind.Small = 0
scale_of kind.Integer = 0
scale_of (kind.Numeric digits scale) = scale
scale_of (kind.Decimal digits scale) = scale
scale_of (kind.Fixed length) = 0
scale_of (kind.Varying length) = 0

-- so many digits of a picture, if there are any: `9(5)` or `V9(2)`
abbrev pub nines : Text → ℕ → Text
nines start count = if nat_lt 0 count then start ++ digits_of count ++ 41 ∷ [] else []

abbrev pub picture_of : Kind → Text
picture_of k = 83 ∷ [] ++ nines WHOLE.now (size_of k - scale_of k) ++ nines FRACTION.now (scale_of k)
