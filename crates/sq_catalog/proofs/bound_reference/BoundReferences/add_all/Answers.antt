-- Left open: the clause exact, and that the loop keeps its invariant; answered by ReferencesBound and others.
use Rattle.std.proofs.Common.{[], subst, sym}
use Rattle.std.specs.List.{AllZip}
use Rattle.sq_binding.specs.Reference.{bound_reference}
use Rattle.sq_catalog.specs.Exact.{declared}
use Rattle.sq_catalog.specs.Reference.{IsBound, own_seen}
use Rattle.sq_catalog.proofs.CreateTable.ReferencesBound.{bound_all, bound_next, bound_none, bound_stops}
use Rattle.sq_catalog.proofs.OneByOne.Turns.{handed_on}
use Rattle.sq_catalog.proofs.CreateTable.WrittenParts.{zip_read}
use Rattle.sq_catalog.proofs.bound_reference.BoundReferences.add_all.Goals as goal

pub returns-in_err-add-clause-exact : goal.returns-in_err-add-clause-exact
returns-in_err-add-clause-exact c =
    let fault = c.in_err-add.field-0.0 in
    handed_on _ _ c.from_residual.result fault c.from_residual.ensures.1
    (bound_stops (bound_reference (declared c.args.catalog.now) c.args.user (own_seen c.args.own)) c.args.found.now c.loop-reference.reference-index c.reference-item.result c.loop-reference.self fault
    c.loop-reference-test.true c.reference-item.is c.loop-reference.invariant.exact c.in_err-add.ensures.stops)

pub loop-reference-init : goal.loop-reference-init
loop-reference-init c = record {
  refer = c.requires.bound;
  found = subst (AllZip (IsBound c.args.own.before.now c.args.own.keys.now.columns c.args.own.keys.now.primary) []) (sym c.requires.none) tt;
  exact = bound_none (bound_reference (declared c.args.catalog.now) c.args.user (own_seen c.args.own)) c.args.found.now c.args.self.now c.requires.none c.requires.permitted;
}

pub loop-reference-preserved : goal.loop-reference-preserved
loop-reference-preserved c =
    let own = c.args.own in
    let added = c.in_ok-add.ensures.found in
    record {
      refer = c.in_ok-add.ensures.refer;
      found = zip_read (IsBound own.before.now own.keys.now.columns own.keys.now.primary) c.args.found.now c.loop-reference.reference-index c.reference-item.result
          c.loop-reference.self.references c.add.new.self.references added.0 c.loop-reference-test.true c.reference-item.is added.1 c.loop-reference.invariant.found added.2;
      exact = bound_next (bound_reference (declared c.args.catalog.now) c.args.user (own_seen own)) c.args.found.now c.loop-reference.reference-index c.reference-item.result c.loop-reference.self c.add.new.self
          c.loop-reference-test.true c.reference-item.is c.loop-reference.invariant.exact c.in_ok-add.ensures.made;
    }

pub returns-clause-exact : goal.returns-clause-exact
returns-clause-exact c =
    bound_all (bound_reference (declared c.args.catalog.now) c.args.user (own_seen c.args.own)) c.args.found.now c.loop-reference.reference-index c.loop-reference.self c.loop-reference-test.false c.loop-reference.invariant.exact
