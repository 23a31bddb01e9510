-- The contract of a function that reads: the outcome of the grammar's reading, unless memory ran out.
use Rattle.std.specs.Prelude.{◌≡◌, Result, Ok, Err}
use Rattle.sq_grammar.specs.Reading.{Tokens, Outcome}
use Rattle.sq_grammar.specs.declared.stop.Stop.{Stop}
use Rattle.sq_grammar.specs.declared.stop.Stop.TheVariants.{NoMemory, Unfit}

abbrev pub Stops : {A : Type 0} → Outcome A → Stop → Type 0
Stops outcome NoMemory = Unit {0}
Stops outcome (Unfit n) = outcome ≡ Err n

abbrev pub Reads : {A : Type 0} → Outcome A → Result A Stop → Tokens → Type 0
Reads outcome (Ok x) new = outcome ≡ Ok (x, new)
Reads outcome (Err e) new = Stops outcome e
