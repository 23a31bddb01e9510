use Rattle.std.proofs.Common.{◌≡◌, true, length, take}
use Rattle.std.specs.List.{AllZip, list_all}
use Rattle.sq_binding.specs.Reference.{bound_reference}
use Rattle.sq_catalog.specs.Exact.{declared}
use Rattle.sq_catalog.specs.Reference.{IsBound, is_to, keys_with, own_seen}
use Rattle.sq_catalog.proofs.CreateTable.ReferencesBound.{AreBoundTo}
use Rattle.sq_catalog.proofs.bound_reference.BoundReferences.add_all.Given as goal

abbrev pub invariant-loop-reference : goal.invariant-loop-reference
invariant-loop-reference l = record {
  refer : list_all (is_to (keys_with l.own.before.now l.own.keys.now.columns) (length l.own.columns.now)) l.self.references ≡ true;
  found : AllZip (IsBound l.own.before.now l.own.keys.now.columns l.own.keys.now.primary) (take l.reference-index l.found) l.self.references;
  exact : AreBoundTo (bound_reference (declared l.catalog) l.user (own_seen l.own)) l.found l.reference-index l.self;
}
