-- Rooms: memory of the caller's, into which a text is put with a zero after it.
use Rattle.std.specs.Prelude.{ℕ, suc, nat_lt, List, ◌∷◌, ◌++◌, length, drop, if◌then◌else◌}
use Rattle.sq_exchange.specs.declared.answer.Answer.{Answer}
use Rattle.sq_exchange.specs.declared.answer.Answer.TheVariants.{Done, NoRoom}

-- whether there is room for a text and its zero
abbrev pub room_answer : List ℕ → List ℕ → Answer
room_answer text room = if nat_lt (length text) (length room) then Done else NoRoom

-- a room after a text was put there
abbrev pub with_text : List ℕ → List ℕ → List ℕ
with_text text room =
    if nat_lt (length text) (length room) then text ++ 0 ∷ drop (suc (length text)) room else room
