-- Retrieving a value into a parameter (ISO/IEC 9075:1992, 9.1, retrieval assignment).
use Rattle.std.specs.Prelude.{ℕ, ◌≡◌, ⊤, nat_lt, Option, Some, None, Result, Ok, Err, if◌then◌else◌, List, length, take}
use Rattle.sq_value.specs.Number.{Number}
use Rattle.sq_value.specs.Text.{of_length}
use Rattle.sq_value.specs.Domain.{domain_length}
use Rattle.sq_value.specs.Storing.{fitted}
use Rattle.sq_value.specs.declared.domain.Domain.{Domain}
use Rattle.sq_value.specs.declared.domain.Domain.TheVariants.{Small, Int, Numeric, Char, VarChar}
use Rattle.sq_value.specs.declared.fault.RetrieveFault.{RetrieveFault}
use Rattle.sq_value.specs.declared.fault.RetrieveFault.TheVariants.{Range, NoMemory}
use Rattle.sq_value.specs.declared.retrieving.Retrieved.{Retrieved}
use Rattle.sq_value.specs.declared.value.Value.{Value}
use Rattle.sq_value.specs.declared.value.Value.TheVariants.{Null, Num, Chars}

-- the text as the parameter holds it: cut if it is longer, and padded with blanks if the length is fixed
abbrev pub text_retrieved : Domain → List ℕ → List ℕ
text_retrieved Small t = t
text_retrieved Int t = t
text_retrieved (Numeric _ _) t = t
text_retrieved (Char n) t = of_length n t
text_retrieved (VarChar n) t = take n t

-- the length before the cut, blanks counted, if the text was longer than the parameter (warning 01004)
abbrev pub uncut_length : Domain → List ℕ → Option ℕ
uncut_length d t = if nat_lt (domain_length d) (length t) then Some (length t) else None

abbrev pub number_or_range : Option Number → Result Retrieved RetrieveFault
number_or_range None = Err Range
number_or_range (Some n) = Ok (record { value = Num n; uncut = None })

-- the value and, if it was cut, its length before; or the status
abbrev pub retrieved : Domain → Value → Result Retrieved RetrieveFault
retrieved d Null = Ok (record { value = Null; uncut = None })
retrieved d (Num n) = number_or_range (fitted d n)
retrieved d (Chars t) = Ok (record { value = Chars (text_retrieved d t); uncut = uncut_length d t })

-- the answer of `retrieve`: this, unless memory was refused
abbrev pub IsRetrieved : Result Retrieved RetrieveFault → Result Retrieved RetrieveFault → Type 0
IsRetrieved (Ok v) answer = answer ≡ Ok v
IsRetrieved (Err Range) answer = answer ≡ Err Range
IsRetrieved (Err NoMemory) answer = ⊤
