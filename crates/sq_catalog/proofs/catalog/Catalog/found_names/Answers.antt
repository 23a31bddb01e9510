-- Left open for Catalog::found_names: the clause exact; answered by Turns.
use Rattle.std.proofs.Common.{List, map, subst}
use Rattle.sq_binding.specs.ElementOutcome.{each}
use Rattle.sq_binding.specs.Position.{positions_of}
use Rattle.sq_binding.specs.Reference.{found_reference}
use Rattle.sq_catalog.specs.Exact.{declared, name_in}
use Rattle.sq_catalog.specs.Fault.{Makes}
use Rattle.sq_catalog.specs.Reference.{found_seen, reference_seen}
use Rattle.sq_catalog.specs.Written.{names_at}
use Rattle.sq_catalog.specs.declared.written.WrittenKey.{WrittenKey}
use Rattle.sq_catalog.specs.declared.written.WrittenReference.{WrittenReference}
use Rattle.sq_catalog.proofs.OneByOne.Turns.{both_makes}
use Rattle.sq_catalog.proofs.catalog.Catalog.found_names.Goals as goal

pub returns-clause-exact : goal.returns-clause-exact
returns-clause-exact c =
    let names = names_at c.args.columns.now in
    let found = found_reference (declared c.args.self.now) c.args.user (name_in c.args.full_name.now) names in
    both_makes (λ keys. keys.columns) (λ references. map found_seen references.items) (each (positions_of names) (map (λ (key : WrittenKey). key.columns) c.args.written.now.keys.items))
    (each found (map reference_seen c.args.written.now.references.items)) c.keys_by_position-keys.result c.references_of-references.result
    (subst (λ (ws : List WrittenKey). Makes (λ keys. keys.columns) (each (positions_of names) (map (λ (key : WrittenKey). key.columns) ws)) c.keys_by_position-keys.result) c.as_slice.ensures.value c.keys_by_position-keys.ensures.exact)
    (subst (λ (ws : List WrittenReference). Makes (λ references. map found_seen references.items) (each found (map reference_seen ws)) c.references_of-references.result) c.as_slice-2.ensures.value c.references_of-references.ensures.exact)
    c.pair_of.result c.pair_of.ensures.values c.pair_of.ensures.fault
