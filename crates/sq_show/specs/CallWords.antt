-- A call as a script writes it.
use Rattle.std.specs.Prelude.{ℕ, List, [], ◌∷◌, ◌++◌, codes, flat_map}
use Rattle.sq_value.specs.declared.value.Value.{Value}
use Rattle.sq_value.specs.declared.value.Value.TheVariants.{Null, Num, Chars}
use Rattle.sq_meaning.specs.Machine.{Call}
use Rattle.sq_meaning.specs.Report.{value_codes}

-- an argument: `*` where no value is given, as there is no word for null
abbrev pub argument : Value → List ℕ
argument Null = codes "*"
argument (Num n) = value_codes (Num n)
argument (Chars text) = value_codes (Chars text)

abbrev pub other_argument : Value → List ℕ
other_argument v = codes ", " ++ argument v

-- the arguments in brackets, with commas between them; without any, no brackets
abbrev pub arguments : List Value → List ℕ
arguments [] = []
arguments (v ∷ values) = codes " (" ++ argument v ++ flat_map other_argument values ++ codes ")"

abbrev pub call_words : Call → List ℕ
call_words c = codes "CALL " ++ c.in_module ++ codes "." ++ c.procedure ++ arguments c.values
