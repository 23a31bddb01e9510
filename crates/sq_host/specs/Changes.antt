-- Changes of the host to which a handle leads.
use Rattle.std.specs.Prelude.{◌≡◌, List, [], ◌∷◌, ◌++◌, Option, Some, None, Result, Ok, Err}
use Rattle.sq_value.specs.declared.value.Value.{Value}
use Rattle.sq_exchange.specs.declared.answer.Answer.{Answer}
use Rattle.sq_exchange.specs.declared.answer.Answer.TheVariants.{AlreadyOpen, Done}
use Rattle.sq_host.specs.declared.host.Host.{Host}

abbrev pub start_answer : Option Host → Answer
start_answer None = Done
start_answer (Some h) = AlreadyOpen

-- ---- values for the next call

abbrev pub values_of : Option Host → List Value
values_of None = []
values_of (Some h) = h.values.items

-- the values after one was handed in, if it is one
abbrev pub with_value : List Value → Result Value Answer → List Value
with_value values (Ok v) = values ++ v ∷ []
with_value values (Err why) = values
