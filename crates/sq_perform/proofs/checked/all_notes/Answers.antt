-- Left open: the call of text_notes, the result, that a place is within its list, and the loop's invariant; answered by Noted.
use Rattle.std.proofs.Common.{arith}
use Rattle.sq_perform.proofs.Noted.{notes_all, notes_next, text_read}
use Rattle.sq_perform.proofs.checked.all_notes.Goals as goal

pub bounds-marks-number : goal.bounds-marks-number
bounds-marks-number c = omega (arith, c.loop-number-test.true, c.requires.count)

pub text_notes-requires : goal.text_notes-requires
text_notes-requires c =
    rw c.as_slice.ensures.value
    (text_read c.args.all.now c.loop-number.number c.index-all-number.result c.requires.read c.loop-number-test.true c.index-all-number.is)

pub loop-number-preserved : goal.loop-number-preserved
loop-number-preserved c =
    rw c.in_ok-push.ensures.items
    (notes_next c.args.all.now c.args.marks.now c.loop-number.notes.items c.loop-number.number c.index-all-number.result c.index-marks-number.result c.in_ok-text_notes.field-0
    c.loop-number-test.true c.requires.count c.index-all-number.is c.index-marks-number.is c.loop-number.invariant
    (rw c.as_slice.ensures.value at (rw c.as_slice-in-loop-number.ensures at c.in_ok-text_notes.ensures)))

pub returns : goal.returns
returns c = notes_all c.args.all.now c.args.marks.now c.loop-number.notes.items c.loop-number.number c.loop-number-test.false c.requires.count c.loop-number.invariant
