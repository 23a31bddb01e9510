-- The values that take memory.
use Rattle.std.specs.Prelude.{Bool, true, false}
use Rattle.sq_value.specs.declared.value.Value.{Value}
use Rattle.sq_value.specs.declared.value.Value.TheVariants.{Null, Num, Chars}

-- nulls and numbers take none
abbrev pub takes_memory : Value → Bool
takes_memory Null = false
takes_memory (Num n) = false
takes_memory (Chars t) = true
