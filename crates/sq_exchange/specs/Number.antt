-- Numbers that are handed in.
use Rattle.std.specs.Prelude.{◌≡◌, ℕ, ℤ, ◌^◌, ◌&&◌, ◌==◌, nat_lt, nat_le, unsigned_abs, List, [], ◌∷◌, Result, Ok, Err, if◌then◌else◌}
use Rattle.std.specs.Str.{IsTrimAscii}
use Rattle.sq_value.specs.Arithmetic.{negated}
use Rattle.sq_value.specs.Number.{Number}
use Rattle.sq_value.specs.Spelling.{read}
use Rattle.sq_value.specs.declared.value.Value.{Value}
use Rattle.sq_value.specs.declared.value.Value.TheVariants.{Num}
use Rattle.sq_value.specs.declared.fault.ReadFault.{ReadFault}
use Rattle.sq_exchange.specs.declared.answer.Answer.{Answer}
use Rattle.sq_exchange.specs.declared.answer.Answer.TheVariants.{BadValue}

-- a number is one of at most 18 digits, of which at most 18 are after its point
abbrev pub number_value : ℤ → ℕ → Result Value Answer
number_value unscaled scale =
    if nat_lt (unsigned_abs unscaled) (10 ^ 18) && nat_le scale 18
    then Ok (Num (record { unscaled = unscaled; scale = scale })) else Err BadValue

abbrev pub value_read : Result Number ReadFault → Result Value Answer
value_read (Ok n) = Ok (Num n)
value_read (Err fault) = Err BadValue

abbrev pub negative_read : Result Number ReadFault → Result Value Answer
negative_read (Ok n) = Ok (Num (negated n))
negative_read (Err fault) = Err BadValue

abbrev pub unsigned_value : List ℕ → Result Value Answer
unsigned_value digits = value_read (read digits)

-- with a minus sign (45), a plus sign (43), or none
abbrev pub signed_value : List ℕ → Result Value Answer
signed_value [] = unsigned_value []
signed_value (c ∷ digits) =
    if c == 45 then negative_read (read digits) else
    if c == 43 then unsigned_value digits else unsigned_value (c ∷ digits)

-- the white space around a number is no part of it
pub record IsSpelled (text : List ℕ) (result : Result Value Answer) : Type 0 where
  pub bare : List ℕ
  pub trimmed : IsTrimAscii text bare
  pub is : result ≡ signed_value bare
