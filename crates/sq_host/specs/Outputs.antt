-- The values that the last call set, or the values of the row that is read.
use Rattle.std.specs.Prelude.{ℕ, ℤ, List, [], ◌∷◌, ◌++◌, length, slice_get, position, Option, Some, None, option_map, Result, Ok, Err}
use Rattle.sq_lex.specs.declared.name.Name.{Name}
use Rattle.sq_value.specs.Number.{Number}
use Rattle.sq_value.specs.declared.value.Value.{Value}
use Rattle.sq_meaning.specs.Status as status
use Rattle.sq_meaning.specs.Environment.{same_name}
use Rattle.sq_meaning.specs.declared.status.Status.{Status}
use Rattle.sq_run.specs.declared.Output.{Output}
use Rattle.sq_show.specs.declared.last.LastCall.{LastCall}
use Rattle.sq_exchange.specs.Name.{name_read}
use Rattle.sq_exchange.specs.Value as exchanged
use Rattle.sq_exchange.specs.declared.answer.Answer.{Answer}
use Rattle.sq_exchange.specs.declared.answer.Answer.TheVariants.{Unknown}
use Rattle.sq_host.specs.Asked.{and_then, asked, found}
use Rattle.sq_host.specs.declared.host.Host.{Host}

-- ---- the last call

abbrev pub status_in : Option LastCall → Result Status Answer
status_in None = Err Unknown
status_in (Some call) = Ok call.reply.status

abbrev pub status_of : Host → Result Status Answer
status_of h = status_in h.last

-- SQLSTATE with a zero after it
abbrev pub ended_state : Status → List ℕ
ended_state s = status.sqlstate s ++ 0 ∷ []

-- ---- the parameters that it set; while a row is read there are none

abbrev pub outputs_in : Option (List Value) → Option LastCall → List Output
outputs_in (Some row) last = []
outputs_in None None = []
outputs_in None (Some call) = call.reply.outputs

abbrev pub outputs : Host → List Output
outputs h = outputs_in h.row h.last

abbrev pub name_at : Host → ℕ → Result Name Answer
name_at h place = found (option_map (λ o. o.name) (slice_get (outputs h) place))

abbrev pub place_named : Host → Name → Result ℕ Answer
place_named h name = found (position (λ o. same_name o.name name) (outputs h))

-- by the text that spells the name
abbrev pub place_of : Host → List ℕ → Result ℕ Answer
place_of h text = and_then (place_named h) (name_read text)

-- ---- values: of the row that is read, else of the parameters

abbrev pub count_in : Option (List Value) → Option LastCall → Result ℕ Answer
count_in (Some row) last = Ok (length row)
count_in None None = Err Unknown
count_in None (Some call) = Ok (length call.reply.outputs)

abbrev pub count : Host → Result ℕ Answer
count h = count_in h.row h.last

abbrev pub value_in : Option (List Value) → Option LastCall → ℕ → Result Value Answer
value_in (Some row) last place = found (slice_get row place)
value_in None last place = found (option_map (λ o. o.value) (slice_get (outputs_in None last) place))

abbrev pub value_at : Host → ℕ → Result Value Answer
value_at h place = value_in h.row h.last place

abbrev pub kind_at : Host → ℕ → Result ℤ Answer
kind_at h place = and_then (λ v. Ok (exchanged.kind_of v)) (value_at h place)

abbrev pub number_at : Host → ℕ → Result Number Answer
number_at h place = and_then exchanged.number_of (value_at h place)

abbrev pub digits_at : Host → ℕ → Result (List ℕ) Answer
digits_at h place = and_then exchanged.digits_of (value_at h place)

abbrev pub text_at : Host → ℕ → Result (List ℕ) Answer
text_at h place = and_then exchanged.text_of (value_at h place)

-- ---- the same of that to which a handle leads, if it leads to a host

abbrev pub status_behind : Option Host → Result Status Answer
status_behind h = asked h status_of

abbrev pub state_behind : Option Host → Result (List ℕ) Answer
state_behind h = and_then (λ s. Ok (ended_state s)) (status_behind h)

abbrev pub code_behind : Option Host → Result ℤ Answer
code_behind h = and_then (λ s. Ok (status.sqlcode s)) (status_behind h)

abbrev pub count_behind : Option Host → Result ℕ Answer
count_behind h = asked h count

abbrev pub name_behind : Option Host → ℕ → Result Name Answer
name_behind h place = asked h (λ h. name_at h place)

abbrev pub place_behind : Option Host → List ℕ → Result ℕ Answer
place_behind h name = asked h (λ h. place_of h name)

abbrev pub kind_behind : Option Host → ℕ → Result ℤ Answer
kind_behind h place = asked h (λ h. kind_at h place)

abbrev pub number_behind : Option Host → ℕ → Result Number Answer
number_behind h place = asked h (λ h. number_at h place)

abbrev pub unscaled_behind : Option Host → ℕ → Result ℤ Answer
unscaled_behind h place = and_then (λ n. Ok n.unscaled) (number_behind h place)

abbrev pub scale_behind : Option Host → ℕ → Result ℕ Answer
scale_behind h place = and_then (λ n. Ok n.scale) (number_behind h place)

abbrev pub digits_behind : Option Host → ℕ → Result (List ℕ) Answer
digits_behind h place = asked h (λ h. digits_at h place)

abbrev pub text_behind : Option Host → ℕ → Result (List ℕ) Answer
text_behind h place = asked h (λ h. text_at h place)

-- the line of the last refusal
abbrev pub line_behind : Option Host → Result (List ℕ) Answer
line_behind h = asked h (λ h. Ok h.line.items)
