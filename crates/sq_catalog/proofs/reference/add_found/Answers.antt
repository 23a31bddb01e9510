-- Left open: the clause exact, and that the loop keeps its invariant; answered by Listed, Turns and others.
use Rattle.std.proofs.Common.{◌≡◌, ◌∷◌, ◌++◌, [], List, if◌then◌else◌, ap, map, subst, sym, ◌∙◌}
use Rattle.std.specs.List.{All}
use Rattle.sq_binding.specs.Reference.{found_reference}
use Rattle.sq_catalog.specs.Exact.{declared, name_in}
use Rattle.sq_catalog.specs.Reference.{IsFound, IsFoundAs, constraint_lent, found_seen, reference_seen}
use Rattle.sq_catalog.specs.Written.{column_count, names_at}
use Rattle.sq_catalog.specs.declared.reference.FoundReference.{FoundReference}
use Rattle.sq_catalog.specs.declared.written.WrittenReference.{WrittenReference}
use Rattle.sq_catalog.proofs.OneByOne.Listed.{all_with}
use Rattle.sq_catalog.proofs.OneByOne.Turns.{handed_on, made_stops, no_memory, seen_next}
use Rattle.sq_catalog.proofs.CreateTable.WrittenParts.{zip_read}
use Rattle.sq_catalog.proofs.reference.add_found.Goals as goal

pub returns-in_err-found-clause-exact : goal.returns-in_err-found-clause-exact
returns-in_err-found-clause-exact c =
    let own = c.args.own.now in
    let fault = c.in_err-found.field-0.0 in
    handed_on _ _ c.from_residual.result fault c.from_residual.ensures.1
    (made_stops (found_reference (declared c.args.catalog.now) own.user (name_in own.full_name) (names_at own.columns.now)) reference_seen c.args.written.now c.loop-reference.reference-index c.reference-item.result
    (map found_seen c.loop-reference.references.items) fault c.loop-reference-test.true c.reference-item.is c.loop-reference.invariant.exact c.in_err-found.ensures.exact)

pub returns-in_err-require_room-clause-exact : goal.returns-in_err-require_room-clause-exact
returns-in_err-require_room-clause-exact c = handed_on _ _ c.from_residual-in_err-require_room.result c.in_err-require_room.field-0.0 c.from_residual-in_err-require_room.ensures.1 (no_memory _ c.in_err-require_room.field-0.0 c.in_err-require_room.ensures.memory)

pub loop-reference-preserved : goal.loop-reference-preserved
loop-reference-preserved c =
    let own = c.args.own.now in
    let found = c.in_ok-found.found in
    let before : List FoundReference = c.loop-reference.references.items in
    let added : c.push.new.self.items ≡ before ++ found ∷ [] =
    c.push.ensures.items ∙ ap (λ b. if b then before ++ found ∷ [] else before) (sym c.is_ok.ensures.value ∙ c.in_ok-require_room.ensures.room) in
    let IsHere = IsFound c.args.catalog.now.bases (column_count own.columns.now) in
    record {
      found = subst (All IsHere) (sym added) (all_with IsHere before found c.loop-reference.invariant.found c.in_ok-found.ensures.found);
      named =
          zip_read (λ (w : WrittenReference). IsFoundAs c.args.catalog.now own.user own.full_name (names_at own.columns.now) (constraint_lent w)) c.args.written.now c.loop-reference.reference-index c.reference-item.result before
          c.push.new.self.items found c.loop-reference-test.true c.reference-item.is added c.loop-reference.invariant.named c.in_ok-found.ensures.named;
      exact =
          seen_next (found_reference (declared c.args.catalog.now) own.user (name_in own.full_name) (names_at own.columns.now)) reference_seen found_seen c.args.written.now c.loop-reference.reference-index c.reference-item.result
          before c.push.new.self.items found c.loop-reference-test.true c.reference-item.is added c.loop-reference.invariant.exact c.in_ok-found.ensures.exact;
    }
