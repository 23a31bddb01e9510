-- Left open: the clauses key and exact, and the loop's invariant; answered by References and ReferencesBound.
use Rattle.std.proofs.Common.{◌||◌, Some, Ok, ap, refl, sym, ◌∙◌}
use Rattle.std.proofs.lemmas.List.Folds.{list_any_more}
use Rattle.std.proofs.lemmas.Option.{slice_get-get_or}
use Rattle.std.specs.Option.{option_map}
use Rattle.sq_meaning.specs.declared.refusal.SchemaFault.TheVariants as refusal
use Rattle.sq_binding.specs.ElementOutcome.{or_fault}
use Rattle.sq_binding.specs.Reference.{key_at}
use Rattle.sq_catalog.specs.References.{is_key_of}
use Rattle.sq_catalog.proofs.CreateTable.References.{position_first}
use Rattle.sq_catalog.proofs.CreateTable.ReferencesBound.{key_here, key_past}
use Rattle.sq_catalog.proofs.referenced.listed_key.Goals as goal

pub returns-then-are_the_same-clause-key : goal.returns-then-are_the_same-clause-key
returns-then-are_the_same-clause-key c =
    let keys = c.args.target.keys.now in
    let here = sym c.key-item.is ∙ sym c.as_slice-columns.ensures in
    record {
      chosen = position_first (is_key_of c.args.listed.now) keys c.loop-place.place c.key-item.result c.loop-place-test.true c.loop-place.invariant.passed
          (ap (is_key_of c.args.listed.now) here ∙ sym c.are_the_same.ensures.same ∙ c.if-are_the_same.true);
      there = slice_get-get_or keys c.loop-place.place c.key-item.result c.loop-place-test.true ∙ ap Some here;
      order = refl;
    }

pub returns-then-are_the_same-clause-exact : goal.returns-then-are_the_same-clause-exact
returns-then-are_the_same-clause-exact c =
    let keys = c.args.target.keys.now in
    let listed = c.args.listed.now in
    let same = ap (is_key_of listed) (sym c.as_slice-columns.ensures) ∙ sym c.are_the_same.ensures.same ∙ c.if-are_the_same.true in
    ap (λ o. or_fault refusal.BadReference (option_map (key_at listed) o)) (c.loop-place.invariant.exact ∙ key_here listed keys c.loop-place.place c.key-item.result c.loop-place-test.true c.key-item.is same)
    ∙ (λ i. Ok (record { place = c.loop-place.place; columns = sym c.as_slice-columns.ensures i; columns_listed = listed }))

pub loop-place-preserved : goal.loop-place-preserved
loop-place-preserved c =
    let keys = c.args.target.keys.now in
    let listed = c.args.listed.now in
    let other = ap (is_key_of listed) (sym c.as_slice-columns.ensures) ∙ sym c.are_the_same.ensures.same ∙ c.if-are_the_same.false in
    record {
      passed =
          list_any_more (is_key_of listed) keys c.loop-place.place c.key-item.result c.loop-place-test.true
          ∙ (λ i. c.loop-place.invariant.passed i || (ap (is_key_of listed) (sym c.key-item.is) ∙ other) i);
      exact = c.loop-place.invariant.exact ∙ key_past listed keys c.loop-place.place c.key-item.result c.loop-place-test.true c.key-item.is other;
    }
