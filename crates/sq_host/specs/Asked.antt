-- Questions to a handle, their answers, and the values that they set.
use Rattle.std.specs.Prelude.{ℕ, List, length, Option, Some, None, Result, Ok, Err}
use Rattle.sq_exchange.specs.Room.{room_answer, with_text}
use Rattle.sq_exchange.specs.declared.answer.Answer.{Answer}
use Rattle.sq_exchange.specs.declared.answer.Answer.TheVariants.{Done, NotOpen, Unknown}

-- A question to the host that a handle leads to. It has no answer if the handle leads to nothing.
abbrev pub asked : {H A : Type 0} → Option H → (H → Result A Answer) → Result A Answer
asked None ask = Err NotOpen
asked (Some h) ask = ask h

-- the result of a search, if it has one
abbrev pub found : {A : Type 0} → Option A → Result A Answer
found None = Err Unknown
found (Some x) = Ok x

-- a question to an answer, if it has a value
abbrev pub and_then : {A B : Type 0} → (A → Result B Answer) → Result A Answer → Result B Answer
and_then ask (Ok x) = ask x
and_then ask (Err why) = Err why

-- ---- a value that is set, if it exists

abbrev pub set_answer : {A : Type 0} → Result A Answer → Answer
set_answer (Ok value) = Done
set_answer (Err why) = why

abbrev pub set_value : {A : Type 0} → Result A Answer → A → A
set_value (Ok value) old = value
set_value (Err why) old = old

-- ---- a text that is put into a room with a zero after it, if it exists

abbrev pub put_answer : Result (List ℕ) Answer → List ℕ → Answer
put_answer (Ok text) room = room_answer text room
put_answer (Err why) room = why

abbrev pub put_room : Result (List ℕ) Answer → List ℕ → List ℕ
put_room (Ok text) room = with_text text room
put_room (Err why) room = room

abbrev pub put_length : Result (List ℕ) Answer → ℕ → ℕ
put_length (Ok text) old = length text
put_length (Err why) old = old
