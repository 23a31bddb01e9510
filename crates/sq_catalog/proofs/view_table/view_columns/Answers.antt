-- Left open for view_columns: that the loop keeps its invariant; answered by Listed.
use Rattle.std.proofs.Common.{◌<◌, length, map, refl, ap, sym, subst, ◌∙◌}
use Rattle.sq_bound.specs.WellFormed.{kinds_of_columns}
use Rattle.sq_bound.specs.declared.names.Column.{Column}
use Rattle.sq_catalog.proofs.OneByOne.Listed.{copied_next, items_next}
use Rattle.sq_catalog.proofs.view_table.view_columns.Goals as goal

pub loop-position-preserved : goal.loop-position-preserved
loop-position-preserved c =
    let position = c.loop-position.position in
    let named : position < length c.args.names.now = subst (λ n. position < n) (sym c.requires) c.loop-position-test.true in
    record {
      kinds =
          ap kinds_of_columns c.in_ok-push.ensures.ok
          ∙ copied_next (λ (x : Column). x.kind) (λ x. x.kind) c.loop-position.described _ c.args.columns.now position c.index-columns-position.result
          c.loop-position-test.true c.index-columns-position.is c.loop-position.invariant.kinds refl;
      names =
          ap (map (λ (x : Column). x.name)) c.in_ok-push.ensures.ok
          ∙ items_next (λ (x : Column). x.name) c.loop-position.described _ c.args.names.now position c.index-names-position.result
          named c.index-names-position.is c.loop-position.invariant.names refl;
    }
