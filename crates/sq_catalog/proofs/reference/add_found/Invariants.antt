use Rattle.std.proofs.Common.{take}
use Rattle.std.specs.List.{All, AllZip}
use Rattle.sq_binding.specs.Reference.{found_reference}
use Rattle.sq_catalog.specs.Exact.{declared, name_in}
use Rattle.sq_catalog.specs.Reference.{IsFound, IsFoundAs, constraint_lent, found_seen, reference_seen}
use Rattle.sq_catalog.specs.Written.{column_count, names_at}
use Rattle.sq_catalog.proofs.OneByOne.Turns.{IsSeenTo}
use Rattle.sq_catalog.proofs.reference.add_found.Given as goal

abbrev pub invariant-loop-reference : goal.invariant-loop-reference
invariant-loop-reference l = record {
  found : All (IsFound l.catalog.bases (column_count l.own.columns.now)) l.references.items;
  named : AllZip (λ w. IsFoundAs l.catalog l.own.user l.own.full_name (names_at l.own.columns.now) (constraint_lent w)) (take l.reference-index l.written) l.references.items;
  exact : IsSeenTo (found_reference (declared l.catalog) l.own.user (name_in l.own.full_name) (names_at l.own.columns.now)) reference_seen found_seen l.written l.reference-index l.references.items;
}
