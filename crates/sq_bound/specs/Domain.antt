-- Which values are of a kind that a domain stores (ISO/IEC 9075:1992, 9.2).
use Rattle.std.specs.Prelude.{Bool, not, true}
use Rattle.sq_value.specs.Domain.{is_of_numbers}
use Rattle.sq_value.specs.declared.domain.Domain.{Domain}
use Rattle.sq_value.specs.declared.value.Value.{Value}
use Rattle.sq_value.specs.declared.value.Value.TheVariants.{Null, Num, Chars}

-- a value that is null, a number in a domain of numbers, or a text in one of texts
abbrev pub fits_kind : Domain → Value → Bool
fits_kind d Null = true
fits_kind d (Num n) = is_of_numbers d
fits_kind d (Chars t) = not (is_of_numbers d)
