-- Left open for all_marks: that the loop keeps its invariant; answered by Places.
use Rattle.sq_check.specs.Modules.{AreMarks}
use Rattle.sq_check.proofs.Places.{zip_next}
use Rattle.sq_check.proofs.module.all_marks.Goals as goal

pub loop-text-preserved : goal.loop-text-preserved
loop-text-preserved c =
    rw c.in_ok-push.ensures.items
    (zip_next (AreMarks c.args.catalog.now c.args.program.now) c.args.modules.now c.loop-text.text-index c.text-item.result c.loop-text.marks.items c.in_ok-module_marks.field-0
    c.loop-text-test.true c.text-item.is c.loop-text.invariant c.in_ok-module_marks.ensures)
