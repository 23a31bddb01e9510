-- Left open: the result, and that the loop keeps its invariant; answered by Distinct and NamesAdded.
use Rattle.std.proofs.Common.{ap}
use Rattle.sq_meaning.specs.declared.refusal.SchemaFault.TheVariants.{NameTwice}
use Rattle.sq_binding.specs.ElementOutcome.{refused_if}
use Rattle.sq_catalog.proofs.OneByOne.Distinct.{begun, seen_again, seen_all, seen_once}
use Rattle.sq_catalog.proofs.OneByOne.NamesAdded.{once_added, twice_added}
use Rattle.sq_catalog.proofs.view_names.check_distinct.Goals as goal

pub loop-name-init : goal.loop-name-init
loop-name-init c = begun c.new-seen.result.keys c.args.names.now c.new-seen.ensures.empty

pub loop-name-preserved : goal.loop-name-preserved
loop-name-preserved c =
    let added = once_added c.loop-name.seen.keys c.add_name.new.names.keys c.name-item.result c.in-Ok.ensures.exact in
    seen_once c.args.names.now c.loop-name.name-index c.name-item.result c.loop-name.seen.keys c.loop-name-test.true c.name-item.is c.loop-name.invariant c.add_name.new.names.keys added.0 added.1

pub returns-in-Err : goal.returns-in-Err
returns-in-Err c =
    twice_added c.loop-name.seen.keys c.name-item.result c.args.names.now c.in-Err.fault c.in-Err.ensures.exact
    (seen_again c.args.names.now c.loop-name.name-index c.name-item.result c.loop-name.seen.keys c.loop-name-test.true c.name-item.is c.loop-name.invariant)

pub returns : goal.returns
returns c = ap (refused_if NameTwice) (seen_all c.args.names.now c.loop-name.name-index c.loop-name.seen.keys c.loop-name-test.false c.loop-name.invariant)
