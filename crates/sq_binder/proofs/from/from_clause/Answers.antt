-- Left open for from_clause: its result; answered by FromClauses, Behind and Steps.
use Rattle.std.proofs.Common.{Ok, map, refl, sym, ap, ◌∙◌, arith}
use Rattle.std.specs.Prelude.{is_some}
use Rattle.sq_meaning.specs.Spelled.{listed, reference_of}
use Rattle.sq_meaning.specs.Binding.{has_item_twice}
use Rattle.sq_binder.specs.From.{exposed, from_split, named_item_of}
use Rattle.sq_binder.specs.Found.{counts_of, found_of}
use Rattle.sq_binder.proofs.Clauses.FromClauses.{are_exposed, clause_seen, few_items, from_found, from_twice}
use Rattle.sq_binder.proofs.OneByOne.Behind.{with_part}
use Rattle.sq_binder.proofs.OneByOne.Steps.{stops_by}
use Rattle.sq_binder.proofs.from.from_clause.Goals as goal

pub returns-in-Some : goal.returns-in-Some
returns-in-Some g c =
    let names = g.T.Tables.named c.args.at.now.tables.now in
    let own = reference_of c.args.at.now.environment.now.user in
    let from = map own (listed c.args.list.now) in
    let counts = counts_of c.args.before in
    let x = found_of (map named_item_of) c.in_ok-part.field-0 in
    stops_by (from_split names from counts) c.about.result _ c.about.ensures
    (from_twice names from counts (few_items own c.args.list.now.first c.args.list.now.rest c.len.result c.len.ensures (omega (arith, c.if-len-ge-MOST_ITEMS.false))) x c.in_ok-part.ensures.0
    (ap has_item_twice (sym (are_exposed names from counts c.in_ok-part.field-0.part x c.in_ok-part.ensures.0 refl) ∙ ap (map exposed) (sym c.as_slice.ensures)) ∙ sym c.exposed_twice.ensures ∙ ap is_some c.in-Some.is))

pub returns-in-Ok : goal.returns-in-Ok
returns-in-Ok g c =
    let names = g.T.Tables.named c.args.at.now.tables.now in
    let own = reference_of c.args.at.now.environment.now.user in
    let from = map own (listed c.args.list.now) in
    let counts = counts_of c.args.before in
    let items = c.in_ok-part.field-0.part in
    let x = found_of (map named_item_of) c.in_ok-part.field-0 in (
      from_found names from counts (few_items own c.args.list.now.first c.args.list.now.rest c.len.result c.len.ensures (omega (arith, c.if-len-ge-MOST_ITEMS.false))) x c.in_ok-part.ensures.0
          (ap has_item_twice (sym (are_exposed names from counts items x c.in_ok-part.ensures.0 refl) ∙ ap (map exposed) (sym c.as_slice.ensures)) ∙ sym c.exposed_twice.ensures ∙ ap is_some c.in_default.is)
          ∙ (λ i. Ok (with_part (clause_seen items c.in-Ok.tables (c.in-Ok.ensures ∙ ap (map (λ i. i.place)) c.as_slice-2.ensures) i) x)),
      c.in_ok-part.ensures.1,
    )
