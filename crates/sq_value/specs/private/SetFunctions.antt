-- The answers of the private functions of the set functions, and the facts that they keep from value to value.
use Rattle.std.specs.Prelude.{ℕ, ℤ, pos, Option, Some, None, is_some, Bool, List, [], ◌∷◌, if◌then◌else◌}
use Rattle.sq_value.specs.Number.{Number}
use Rattle.sq_value.specs.SetFunctions.{number_in, is_null, surpasses}
use Rattle.sq_value.specs.declared.set_functions.Extreme.{Extreme}
use Rattle.sq_value.specs.declared.value.Value.{Value}
use Rattle.sq_value.specs.declared.value.Value.TheVariants.{Null, Num, Chars}

-- the summand of a value in the sum of the unscaled values
abbrev pub unscaled_of : Value → ℤ
unscaled_of Null = pos 0
unscaled_of (Num n) = n.unscaled
unscaled_of (Chars t) = pos 0

abbrev pub first_scale : List Number → Option ℕ
first_scale [] = None
first_scale (n ∷ ns) = Some n.scale

abbrev pub is_number : Value → Bool
is_number v = is_some (number_in v)

-- the best value so far, after one more
abbrev pub better_of : Extreme → Option Value → Value → Option Value
better_of e None v = Some v
better_of e (Some best) v = if surpasses e v best then Some v else Some best

abbrev pub kept_best : Extreme → Option Value → Value → Option Value
kept_best e best v = if is_null v then best else better_of e best v
