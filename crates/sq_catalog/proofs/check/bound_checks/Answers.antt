-- Left open for bound_checks: its result, and that the loop keeps its invariant; answered by Turns.
use Rattle.std.proofs.Common.{map}
use Rattle.std.specs.Borrow.{Bor}
use Rattle.sq_tree.specs.declared.cond.Cond.{Cond}
use Rattle.sq_binding.specs.Seen.{cond_seen}
use Rattle.sq_binding.specs.Names.{descriptor_of}
use Rattle.sq_catalog.specs.Checks.{check_over}
use Rattle.sq_catalog.specs.Exact.{name_in}
use Rattle.sq_catalog.proofs.OneByOne.Turns.{made_stops, seen_next}
use Rattle.sq_catalog.proofs.check.bound_checks.Goals as goal

pub returns-in-Err : goal.returns-in-Err
returns-in-Err c =
    let table = c.args.table.now in
    made_stops (check_over table.user (name_in table.name.now) (map descriptor_of table.columns.now)) (λ (k : Bor Cond). k.now) c.args.checks.now c.loop-check.check-index c.check-item.result
    (map cond_seen c.loop-check.bound) c.in-Err.fault c.loop-check-test.true c.check-item.is c.loop-check.invariant c.in-Err.ensures

pub loop-check-preserved : goal.loop-check-preserved
loop-check-preserved c =
    let table = c.args.table.now in
    seen_next (check_over table.user (name_in table.name.now) (map descriptor_of table.columns.now)) (λ (k : Bor Cond). k.now) cond_seen c.args.checks.now c.loop-check.check-index c.check-item.result
    c.loop-check.bound c.push.new.self c.in-Ok.condition c.loop-check-test.true c.check-item.is c.in_ok-push-in-Ok.ensures.ok c.loop-check.invariant c.in-Ok.ensures
