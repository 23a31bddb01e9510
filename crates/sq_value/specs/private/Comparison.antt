-- The answers of the private functions of comparison.
use Rattle.std.specs.Prelude.{ℕ}
use Rattle.sq_value.specs.declared.value.Value.{Value}
use Rattle.sq_value.specs.declared.value.Value.TheVariants.{Null, Num, Chars}

-- the rank of a value among values of other kinds
abbrev pub kind_rank : Value → ℕ
kind_rank Null = 0
kind_rank (Num n) = 1
kind_rank (Chars t) = 2
