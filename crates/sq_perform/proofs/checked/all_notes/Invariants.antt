use Rattle.std.proofs.Common.{take}
use Rattle.sq_perform.specs.Checked.{AreAllNotes}
use Rattle.sq_perform.specs.Texts.{texts}
use Rattle.sq_perform.proofs.checked.all_notes.Given as goal

abbrev pub invariant-loop-number : goal.invariant-loop-number
invariant-loop-number l = AreAllNotes (take l.number (texts l.all)) (take l.number l.marks) l.notes.items
