-- A reading of all of the tokens, as the answer of a parse.
use Rattle.std.proofs.Common.{◌≡◌, ◌-◌, Result, Ok, Err, length, sym, ap}
use Rattle.sq_grammar.specs.Reading.{Tokens, Parser, whole}
use Rattle.sq_parse.specs.declared.error.ParseError.{ParseError}
use Rattle.sq_parse.specs.declared.error.ParseError.TheVariants.{NoMemory, Unexpected, TooDeep, EndOfText}
use Rattle.sq_grammar.specs.declared.stop.Stop.{Stop}
use Rattle.sq_grammar.specs.declared.stop.Stop.TheVariants as stop
use Rattle.sq_grammar.specs.Reads.{Stops}
use Rattle.sq_parse.specs.Refusal.{refusal_at, answer, parsed, Answers, refusal}

pub answers_tree : {T : Type 0} (rule : Parser T) (ts new : Tokens) (tree : T) → whole rule ts ≡ Ok (tree, new) → Answers (parsed rule ts) (Ok tree)
answers_tree rule ts new tree read = ap (answer ts) (sym read)

fault : {T : Type 0} (wanted : Result T ParseError) (e : ParseError) → Err e ≡ wanted → Answers wanted (Err e)
fault wanted NoMemory is = tt
fault wanted (Unexpected index) is = is
fault wanted (TooDeep index) is = is
fault wanted EndOfText is = is

pub answers_stop : {T : Type 0} (rule : Parser T) (ts : Tokens) (s : Stop) → Stops (whole rule ts) s → Answers (parsed rule ts) (Err (refusal ts s))
answers_stop rule ts stop.NoMemory stops = tt
answers_stop rule ts (stop.Unfit left) stops = fault (parsed rule ts) (refusal_at ts (length ts - left)) (ap (answer ts) (sym stops))
