-- Left open: the clause places, and that the loop keeps its invariant; answered by Columns and others.
use Rattle.std.proofs.Common.{◌≡◌, ap, length, map, refl, sym, ◌∙◌}
use Rattle.std.proofs.lemmas.List.{length-map, take_all}
use Rattle.sq_value.specs.Domain.{kind_of}
use Rattle.sq_meaning.specs.Target.{places_of}
use Rattle.sq_binding.specs.Table.{typed_descriptor}
use Rattle.sq_binding.specs.Names.{descriptor_of}
use Rattle.sq_catalog.specs.Table.{typed_kinds, typed_seen}
use Rattle.sq_catalog.proofs.CreateTable.Columns.{column_made, place_next}
use Rattle.sq_catalog.proofs.OneByOne.Listed.{copied_next}
use Rattle.sq_catalog.proofs.Meaning.Seen.{column_next, own_kind}
use Rattle.sq_catalog.proofs.Growth.Stored.{places_counted}
use Rattle.sq_catalog.proofs.column.columns_of.Goals as goal

pub loop-position-preserved : goal.loop-position-preserved
loop-position-preserved c =
    let typed = c.args.typed.now in
    let i = c.loop-position.position in
    let here = c.index-typed-position.result in
    record {
      over =
          column_next (λ t. kind_of t.domain) c.args.typed.now (typed_kinds c.args.typed.now) c.loop-position.columns c.push.new.self c.loop-position.position c.index-typed-position.result _
          c.loop-position-test.true c.index-typed-position.is c.in_ok-push.ensures.ok c.kind.ensures
          (own_kind (λ t. kind_of t.domain) c.args.typed.now c.loop-position.position c.index-typed-position.result c.loop-position-test.true c.index-typed-position.is)
          c.loop-position.invariant.over;
      written =
          column_made c.args.typed.now c.loop-position.columns c.push.new.self c.loop-position.position c.index-typed-position.result _
          c.loop-position-test.true c.index-typed-position.is c.in_ok-push.ensures.ok refl c.kind.ensures refl c.loop-position.invariant.written;
      exact =
          ap (map descriptor_of) c.in_ok-push.ensures.ok
          ∙ copied_next descriptor_of (λ t. typed_descriptor (typed_seen t)) c.loop-position.columns _ typed i here c.loop-position-test.true c.index-typed-position.is c.loop-position.invariant.exact
          (λ j. record { name = here.definition.now.name; kind = c.kind.ensures j });
      places = place_next typed i here c.loop-position.columns c.push.new.self _ c.loop-position-test.true c.index-typed-position.is c.in_ok-push.ensures.ok refl c.loop-position.invariant.places;
    }

pub returns-clause-places : goal.returns-clause-places
returns-clause-places c =
    let typed = c.args.typed.now in
    let columns = c.loop-position.columns in
    let past = c.loop-position-test.false in
    let all = c.loop-position.invariant.places ∙ ap places_of (take_all c.loop-position.position typed past) in
    let seen = c.loop-position.invariant.exact ∙ ap (map (λ t. typed_descriptor (typed_seen t))) (take_all c.loop-position.position typed past) in
    let long : length columns ≡ length typed = sym (length-map columns descriptor_of) ∙ ap length seen ∙ length-map typed (λ t. typed_descriptor (typed_seen t)) in
    all ∙ sym (places_counted columns typed 0 long)
