-- The result that a page is shown.
use Rattle.std.specs.Prelude.{◌≡◌, ℕ, ℤ, List, length}
use Rattle.sq_exchange.specs.Answer.{code}
use Rattle.sq_exchange.specs.Room.{room_answer, with_text}
use Rattle.sq_exchange.specs.declared.answer.Answer.{Answer}
use Rattle.sq_exchange.specs.declared.answer.Answer.TheVariants.{Done}
use Rattle.sq_meaning.specs.Report.{Bytes}
use Rattle.sq_page_c.specs.declared.outcome.Outcome.{Outcome}

-- the answer after a text was put into a room
abbrev pub answer_of : Answer → Answer → Answer
answer_of Done answer = answer
answer_of other answer = other

-- the answer of an outcome, unless the room is too small for its text
abbrev pub answer_in : Outcome → Bytes → Answer
answer_in o room = answer_of (room_answer o.text.items room) o.answer

-- Such an outcome is put into the room, if there is room for it, with its answer and the length of its text.
pub record IsShown (Is : Outcome → Type 0) (before after : Bytes) (count : ℕ) (answer : ℤ) : Type 0 where
  pub outcome : Outcome
  pub is : Is outcome
  pub answered : answer ≡ code (answer_in outcome before)
  pub room : after ≡ with_text outcome.text.items before
  pub counted : count ≡ length outcome.text.items
