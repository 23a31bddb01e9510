use Rattle.std.proofs.Common.{take}
use Rattle.std.specs.List.{AllZip}
use Rattle.sq_check.specs.Modules.{AreMarks}
use Rattle.sq_check.proofs.module.all_marks.Given as goal

abbrev pub invariant-loop-text : goal.invariant-loop-text
invariant-loop-text l = AllZip (AreMarks l.catalog l.program) (take l.text-index l.modules) l.marks.items
