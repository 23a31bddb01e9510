-- Set functions over the values of one expression (ISO/IEC 9075:1992, 6.5), which are of one kind. Nulls are left out,
-- and only the final result is tested for its range.
use Rattle.std.specs.Prelude.{All, ℤ, pos, ◌+ℤ◌, int_div, Option, Some, None, Bool, Result, Ok, Err, List, [], ◌∷◌, length, fold, true, false, filter, not, find, unwrap_or}
use Rattle.std.specs.List.{filter_map, list_all}
use Rattle.std.specs.Ordering.{is_lt}
use Rattle.sq_value.specs.Comparison.{ordered}
use Rattle.sq_value.specs.declared.set_functions.Extreme.{Extreme}
use Rattle.sq_value.specs.declared.set_functions.Extreme.TheVariants.{Least, Greatest}
use Rattle.sq_value.specs.Number.{Number}
use Rattle.sq_value.specs.Arithmetic.{in_range}
use Rattle.sq_value.specs.Domain.{IsOfKind}
use Rattle.sq_value.specs.declared.domain.Kind.{Kind}
use Rattle.sq_value.specs.declared.fault.ArithmeticFault.{ArithmeticFault}
use Rattle.sq_value.specs.declared.value.Value.{Value}
use Rattle.sq_value.specs.declared.value.Value.TheVariants.{Null, Num, Chars}

-- null aside, they are numbers of one scale, or texts of one length or greatest length
abbrev pub AreOfOneKind : List Value → Type 0
AreOfOneKind vs = (k : Kind) × All (IsOfKind k) vs

abbrev pub number_in : Value → Option Number
number_in Null = None
number_in (Num n) = Some n
number_in (Chars t) = None

-- the numbers among the values
abbrev pub numbers : List Value → List Number
numbers vs = filter_map number_in vs

-- the sum of the unscaled values
abbrev pub total : List Number → ℤ
total ns = fold (λ sum n. sum +ℤ n.unscaled) (pos 0) ns

abbrev pub number_or_fault : Result Number ArithmeticFault → Result Value ArithmeticFault
number_or_fault (Ok n) = Ok (Num n)
number_or_fault (Err fault) = Err fault

-- the sum has the scale of its operands, and is null on nothing
abbrev pub sum_of_numbers : List Number → Result Value ArithmeticFault
sum_of_numbers [] = Ok Null
sum_of_numbers (n ∷ ns) = number_or_fault (in_range n.scale (total (n ∷ ns)))

-- the mean has it too, and is truncated toward zero (own rule)
abbrev pub mean_of_numbers : List Number → Result Value ArithmeticFault
mean_of_numbers [] = Ok Null
mean_of_numbers (n ∷ ns) =
    number_or_fault (in_range n.scale (int_div (total (n ∷ ns)) (pos (length (n ∷ ns)))))

abbrev pub summed : List Value → Result Value ArithmeticFault
summed vs = sum_of_numbers (numbers vs)

abbrev pub averaged : List Value → Result Value ArithmeticFault
averaged vs = mean_of_numbers (numbers vs)

-- ---- extremes

abbrev pub is_null : Value → Bool
is_null Null = true
is_null (Num n) = false
is_null (Chars t) = false

abbrev pub without_nulls : List Value → List Value
without_nulls vs = filter (λ v. not (is_null v)) vs

-- v is lesser than w, or greater
abbrev pub surpasses : Extreme → Value → Value → Bool
surpasses Least v w = is_lt (ordered v w)
surpasses Greatest v w = is_lt (ordered w v)

-- the first of the values that no other surpasses
abbrev pub is_unsurpassed : Extreme → List Value → Value → Bool
is_unsurpassed e vs v = list_all (λ w. not (surpasses e w v)) vs

abbrev pub first_unsurpassed : Extreme → List Value → Option Value
first_unsurpassed e vs = find (is_unsurpassed e vs) vs

-- MIN and MAX: among equals the first (own rule), and null on nothing
abbrev pub extreme : Extreme → List Value → Value
extreme e vs = unwrap_or (first_unsurpassed e (without_nulls vs)) Null
