use Rattle.std.proofs.Common.{◌≡◌, map, take}
use Rattle.sq_lex.specs.Position.{position}
use Rattle.sq_perform.specs.Checked.{note_at}
use Rattle.sq_perform.proofs.checked.notes_at.Given as goal

abbrev pub invariant-loop-mark : goal.invariant-loop-mark
invariant-loop-mark l = record {
  place : l.place ≡ position l.text l.byte;
  notes : l.notes ≡ map (note_at l.text l.tokens) (take l.mark-index l.marks);
}
