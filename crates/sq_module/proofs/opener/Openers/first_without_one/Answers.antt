-- Left open for Openers::first_without_one: its result; answered by Places.
use Rattle.std.proofs.Common.{arith, sym}
use Rattle.sq_module.specs.Refusal.{has_open_count}
use Rattle.sq_module.proofs.Places.{none_found, place_found}
use Rattle.sq_module.proofs.opener.Openers.first_without_one.Goals as goal

pub returns-then-is_without_one : goal.returns-then-is_without_one
returns-then-is_without_one c =
    place_found (has_open_count c.args.items.now) c.args.items.now c.loop-place.place c.index-items-place.result c.loop-place-test.true c.index-items-place.is c.loop-place.invariant
    (sym (c.if-is_without_one.ensures c.args.items.now c.requires))

pub returns : goal.returns
returns c = none_found (has_open_count c.args.items.now) c.args.items.now c.loop-place.place (omega (arith, c.loop-place-test.false)) c.loop-place.invariant
