-- Spellings of exact numbers (ISO/IEC 9075:1992, 5.3, exact numeric literal): `12`, `12.`, `.5`, `12.5`. A sign belongs
-- to the expression. At most 18 digits is an own rule.
use Rattle.std.specs.Prelude.{ℕ, pos, zero, suc, ◌+◌, ◌/◌, ◌%◌, ◌^◌, ◌&&◌, ◌==◌, nat_lt, nat_le, int_lt, unsigned_abs, Bool, Result, Ok, Err, if◌then◌else◌, List, [], ◌∷◌, ◌++◌, length, decimal}
use Rattle.std.specs.List.{list_all, before_first, after_first}
use Rattle.std.specs.Char.{is_ascii_digit}
use Rattle.std.specs.Fmt.{sign_text}
use Rattle.std.specs.Str.Parse.{digits_value}
use Rattle.sq_value.specs.Characters.{point}
use Rattle.sq_value.specs.Number.{Number}
use Rattle.sq_value.specs.declared.fault.ReadFault.{ReadFault}
use Rattle.sq_value.specs.declared.fault.ReadFault.TheVariants.{NotANumber, Range}

abbrev pub is_point : ℕ → Bool
is_point c = c == point

-- one digit or more, and nothing else
abbrev pub are_digits : List ℕ → Bool
are_digits ds = nat_lt 0 (length ds) && list_all is_ascii_digit ds

-- the number spelled by the digits before a point and the digits after it: either may be missing
abbrev pub read_parts : List ℕ → List ℕ → Result Number ReadFault
read_parts whole fraction =
    if are_digits (whole ++ fraction) then (
    if nat_le (length whole + length fraction) 18
    then Ok (record { unscaled = pos (digits_value 10 (whole ++ fraction)); scale = length fraction })
    else Err Range)
    else Err NotANumber

-- the number that is spelled
abbrev pub read : List ℕ → Result Number ReadFault
read s = read_parts (before_first is_point s) (after_first is_point s)

-- the last k digits of a number, the highest first
abbrev pub last_digits : ℕ → ℕ → List ℕ
last_digits zero n = []
last_digits (suc k) n = last_digits k (n / 10) ++ (48 + n % 10) ∷ []

-- a point and the digits after it, or nothing at scale 0
abbrev pub fraction_written : ℕ → ℕ → List ℕ
fraction_written zero n = []
fraction_written (suc k) n = point ∷ last_digits (suc k) n

-- a sign if the number is below zero, the whole part, and as many digits after the point as the scale says
abbrev pub written : Number → List ℕ
written n =
    sign_text (int_lt n.unscaled (pos 0)) ++ decimal (unsigned_abs n.unscaled / 10 ^ n.scale)
    ++ fraction_written n.scale (unsigned_abs n.unscaled)
