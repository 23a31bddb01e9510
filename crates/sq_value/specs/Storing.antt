-- Storing a value in a domain (ISO/IEC 9075:1992, 9.2, store assignment).
use Rattle.std.specs.Prelude.{ℕ, ℤ, pos, negsuc, ◌^◌, ◌&&◌, ◌≡◌, ⊤, nat_lt, unsigned_abs, int_le, Option, Some, None, Result, Ok, Err, if◌then◌else◌, List, take}
use Rattle.sq_value.specs.Number.{Number}
use Rattle.sq_value.specs.Arithmetic.{truncated}
use Rattle.sq_value.specs.Text.{of_length, only_blanks_past}
use Rattle.sq_value.specs.declared.domain.Domain.{Domain}
use Rattle.sq_value.specs.declared.domain.Domain.TheVariants.{Small, Int, Numeric, Char, VarChar}
use Rattle.sq_value.specs.declared.fault.StoreFault.{StoreFault}
use Rattle.sq_value.specs.declared.fault.StoreFault.TheVariants.{Range, TooLong, NoMemory}
use Rattle.sq_value.specs.declared.value.Value.{Value}
use Rattle.sq_value.specs.declared.value.Value.TheVariants.{Null, Num, Chars}

-- the number, if it is between two whole numbers, or has at most p digits
abbrev pub if_between : ℤ → ℤ → Number → Option Number
if_between low high n = if int_le low n.unscaled && int_le n.unscaled high then Some n else None

abbrev pub if_of_digits : ℕ → Number → Option Number
if_of_digits p n = if nat_lt (unsigned_abs n.unscaled) (10 ^ p) then Some n else None

-- the number as a domain of numbers holds it, or none if leading digits would be lost: truncated first, then tested
abbrev pub fitted : Domain → Number → Option Number
fitted Small n = if_between (negsuc 32767) (pos 32767) (truncated 0 n)
fitted Int n = if_between (negsuc 2147483647) (pos 2147483647) (truncated 0 n)
fitted (Numeric p s) n = if_of_digits p (truncated s n)
fitted (Char _) n = None
fitted (VarChar _) n = None

-- the text as a domain of texts holds it, or none if codes other than blanks would be lost
abbrev pub kept_text : Domain → List ℕ → Option (List ℕ)
kept_text Small t = None
kept_text Int t = None
kept_text (Numeric _ _) t = None
kept_text (Char n) t = if only_blanks_past n t then Some (of_length n t) else None
kept_text (VarChar n) t = if only_blanks_past n t then Some (take n t) else None

abbrev pub number_or_range : Option Number → Result Value StoreFault
number_or_range None = Err Range
number_or_range (Some n) = Ok (Num n)

abbrev pub text_or_too_long : Option (List ℕ) → Result Value StoreFault
text_or_too_long None = Err TooLong
text_or_too_long (Some t) = Ok (Chars t)

-- the value that is stored, or the status
abbrev pub stored : Domain → Value → Result Value StoreFault
stored d Null = Ok Null
stored d (Num n) = number_or_range (fitted d n)
stored d (Chars t) = text_or_too_long (kept_text d t)

-- the answer of `store`: this, unless memory was refused
abbrev pub IsStored : Result Value StoreFault → Result Value StoreFault → Type 0
IsStored (Ok v) answer = answer ≡ Ok v
IsStored (Err Range) answer = answer ≡ Err Range
IsStored (Err TooLong) answer = answer ≡ Err TooLong
IsStored (Err NoMemory) answer = ⊤
