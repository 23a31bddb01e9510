-- Left open: the clauses rows and none, and that the loop keeps its invariant; answered by Bases.
use Rattle.std.proofs.Common.{◌≡◌, ◌<◌, ℕ, List, [], arith, length, slice_index, map, refl, sym, ap, ◌∙◌}
use Rattle.std.proofs.lemmas.List.{get_or_default}
use Rattle.sq_meaning.specs.Status.{each}
use Rattle.sq_expression.specs.Group.{rows_of_line}
use Rattle.sq_expression.specs.Frame.{lent}
use Rattle.sq_query.specs.Table.{table_there, stored_rows, stored_base, base_seen, bases_in}
use Rattle.sq_query.proofs.Needs.Bases.{all_same, with_its_place, no_place, base_more}
use Rattle.sq_expression.proofs.Each.{after, after_start, each_done, each_failed, each_ends}
use Rattle.sq_expression.proofs.Views.{handed_on_as, failed_as}
use Rattle.sq_query.proofs.table.base_tables.Goals as goal

-- none of no places is read
none_there : {P : Type 0} (places : List ℕ) (i : ℕ) → i < length places → places ≡ [] → P
none_there places i within none = let size : length places ≡ 0 = ap length none in absurd (omega (arith, within, size))

pub loop-place-init : goal.loop-place-init
loop-place-init g c =
    let f = stored_base (g.S.Store.content_now c.args.store.now) in (
      after_start _ (each f c.args.places.now) (ap (map base_seen) c.new-tables.ensures.items)
          ∙ ap (λ (xs : List ℕ). after (bases_in c.new-tables.result) (each f xs)) (sym (all_same c.args.places.now)),
      λ none. refl,
    )

pub loop-place-preserved : goal.loop-place-preserved
loop-place-preserved g c =
    let content = g.S.Store.content_now c.args.store.now in
    let f = stored_base content in
    let place = slice_index c.args.places.now c.loop-place.place-index in (
      each_done f (λ p. p) (each f c.args.places.now) (bases_in c.loop-place.tables) (bases_in c.push.new.self) c.args.places.now c.loop-place.place-index place (place, lent c.in_ok-rows.rows.items)
          c.loop-place-test.true (get_or_default c.args.places.now c.loop-place.place-index 0 place c.loop-place-test.true) c.loop-place.invariant.0
          (with_its_place (table_there content place) place (lent c.in_ok-rows.rows.items) c.in_ok-rows.ensures)
          (base_more c.loop-place.tables.items c.push.new.self.items _ c.in_ok-push.ensures.items),
      none_there c.args.places.now c.loop-place.place-index c.loop-place-test.true,
    )

pub returns-in_err-rows-clause-rows : goal.returns-in_err-rows-clause-rows
returns-in_err-rows-clause-rows g c =
    let content = g.S.Store.content_now c.args.store.now in
    let f = stored_base content in
    let place = slice_index c.args.places.now c.loop-place.place-index in
    let e = c.in_err-rows.field-0.0 in
    let whole = each f c.args.places.now in
    handed_on_as bases_in c.from_residual.result e whole c.from_residual.ensures.1
    (each_failed f (λ p. p) whole (bases_in c.loop-place.tables) c.args.places.now c.loop-place.place-index place e
    c.loop-place-test.true (get_or_default c.args.places.now c.loop-place.place-index 0 place c.loop-place-test.true) c.loop-place.invariant.0
    (no_place e (table_there content place) place (failed_as rows_of_line e (stored_rows content place) c.in_err-rows.ensures)))

pub returns-clause-rows : goal.returns-clause-rows
returns-clause-rows g c =
    let f = stored_base (g.S.Store.content_now c.args.store.now) in
    each_ends f (λ p. p) (each f c.args.places.now) (bases_in c.loop-place.tables) c.args.places.now c.loop-place.place-index c.loop-place-test.false c.loop-place.invariant.0

pub returns-clause-none : goal.returns-clause-none
returns-clause-none g c = c.loop-place.invariant.1

pub returns-in_err-rows-clause-none : goal.returns-in_err-rows-clause-none
returns-in_err-rows-clause-none g c = none_there c.args.places.now c.loop-place.place-index c.loop-place-test.true

pub returns-in_err-push-clause-none : goal.returns-in_err-push-clause-none
returns-in_err-push-clause-none g c = none_there c.args.places.now c.loop-place.place-index c.loop-place-test.true
