-- Left open for placed_columns: that the loop keeps its invariant; answered by Listed and Seen.
use Rattle.std.proofs.Common.{◌<◌, map, refl, ap, subst, sym, ◌∙◌}
use Rattle.sq_bound.specs.declared.names.Column.{Column}
use Rattle.sq_catalog.proofs.OneByOne.Listed.{copied_next}
use Rattle.sq_catalog.proofs.Meaning.Seen.{column_next, kind_read, kinds_zipped, places_next}
use Rattle.sq_catalog.proofs.view_table.placed_columns.Goals as goal

pub loop-position-preserved : goal.loop-position-preserved
loop-position-preserved c = record {
  columns = λ base over.
      column_next (λ x. x.kind) c.args.columns.now base c.loop-position.placed c.push.new.self c.loop-position.position c.index-columns-position.result _
      c.loop-position-test.true c.index-columns-position.is c.in_ok-push.ensures.ok refl
      (kind_read base _ c.index-columns-position.result.kind (kinds_zipped (λ x. x.kind) base c.args.below.now c.args.columns.now c.loop-position.position c.index-columns-position.result 0 over c.loop-position-test.true c.index-columns-position.is))
      (c.loop-position.invariant.columns base over);
  places =
      places_next c.args.below.now c.loop-position.placed c.push.new.self c.loop-position.position _
      (subst (λ n. c.loop-position.position < n) (sym c.requires) c.loop-position-test.true) refl c.in_ok-push.ensures.ok c.loop-position.invariant.places;
  names =
      ap (map (λ (x : Column). x.name)) c.in_ok-push.ensures.ok
      ∙ copied_next (λ (x : Column). x.name) (λ (x : Column). x.name) c.loop-position.placed _ c.args.columns.now c.loop-position.position c.index-columns-position.result
      c.loop-position-test.true c.index-columns-position.is c.loop-position.invariant.names refl;
}
