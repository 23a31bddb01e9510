-- An outcome that is put in a room is shown.
use Rattle.std.proofs.Common.{◌≡◌, ◌∙◌, ap, refl, ℕ, ℤ, List, length, of_z, to_z, w32}
use Rattle.sq_exchange.specs.Answer.{code}
use Rattle.sq_exchange.specs.Room.{with_text}
use Rattle.sq_exchange.specs.declared.answer.Answer.{Answer}
use Rattle.sq_exchange.specs.declared.answer.Answer.TheVariants.{Done, NotOpen, AlreadyOpen, Refused, NoMemory, Unknown, BadValue, BadArguments, OtherKind, NullPointer, NoRoom, IsNull, NoRow}
use Rattle.sq_meaning.specs.Report.{Bytes}
use Rattle.sq_page_c.specs.Shown.{IsShown, answer_in}
use Rattle.sq_page_c.specs.declared.outcome.Outcome.{Outcome}

-- All codes fit in 32 bits.
same_code : (a : Answer) → to_z w32 (of_z w32 (code a)) ≡ code a
same_code Done = refl
same_code NotOpen = refl
same_code AlreadyOpen = refl
same_code Refused = refl
same_code NoMemory = refl
same_code Unknown = refl
same_code BadValue = refl
same_code BadArguments = refl
same_code OtherKind = refl
same_code NullPointer = refl
same_code NoRoom = refl
same_code IsNull = refl
same_code NoRow = refl

pub shown : (Is : Outcome → Type 0) (o : Outcome) (before after : Bytes) (count : ℕ) (put : Answer) (number : ℤ) → Is o → put ≡ answer_in o before
    → after ≡ with_text o.text.items before → count ≡ length o.text.items → number ≡ code put → IsShown Is before after count (to_z w32 (of_z w32 number))
shown Is o before after count put number is answer room counted numbered = record {
  outcome = o;
  is = is;
  answered = ap (λ z. to_z w32 (of_z w32 z)) (numbered ∙ ap code answer) ∙ same_code (answer_in o before);
  room = room;
  counted = counted;
}
