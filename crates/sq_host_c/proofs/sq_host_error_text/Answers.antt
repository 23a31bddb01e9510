-- Left open for sq_host_error_text: the clause answer; answered by laws of std.
use Rattle.std.proofs.Common.{◌≡◌, ◌∙◌, ap, refl, Bool, true, false, length, nat_lt, of_z, to_z, w32}
use Rattle.std.proofs.lemmas.Int.{to_z-of_z}
use Rattle.std.specs.Prelude.{if◌then◌else◌}
use Rattle.sq_exchange.specs.Answer.{answer_text, code}
use Rattle.sq_exchange.specs.Room.{room_answer}
use Rattle.sq_exchange.specs.declared.answer.Answer.TheVariants.{Done, NoRoom}
use Rattle.sq_host_c.proofs.sq_host_error_text.Goals as goal

-- Both codes fit in 32 bits.
same_code : (fits : Bool) → to_z w32 (of_z w32 (code (if fits then Done else NoRoom))) ≡ code (if fits then Done else NoRoom)
same_code true = refl
same_code false = refl

pub returns-clause-answer : goal.returns-clause-answer
returns-clause-answer c =
    let room = c.args.room.now in
    let text = answer_text c.args.error in
    let is : c.code.result ≡ code (room_answer text room)
    = c.code.ensures ∙ ap code (c.put_text.ensures.answer ∙ ap (λ t. room_answer t room) (c.answer_text.ensures ∙ ap answer_text (to_z-of_z w32 c.args.error c.ranges.error))) in
    ap (λ z. to_z w32 (of_z w32 z)) is ∙ same_code (nat_lt (length text) (length room))
