-- Left open for with_bad_status: its result; answered by Places.
use Rattle.std.proofs.Common.{◌∙◌, arith, sym}
use Rattle.sq_meaning.specs.ModuleRefusal.{has_status_fault}
use Rattle.sq_module.proofs.Places.{none_found, place_found}
use Rattle.sq_module.proofs.admission.with_bad_status.Goals as goal

pub returns-then-branch : goal.returns-then-branch
returns-then-branch c =
    place_found has_status_fault c.args.items.now c.loop-place.place c.index-items-place.result c.loop-place-test.true c.index-items-place.is c.loop-place.invariant
    (sym c.in_ok-is_of_bad_status.ensures ∙ c.if-branch.true)

pub returns : goal.returns
returns c = none_found has_status_fault c.args.items.now c.loop-place.place (omega (arith, c.loop-place-test.false)) c.loop-place.invariant
