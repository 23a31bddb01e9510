-- Left open for Catalog::named_view: the clauses written and exact; answered by ViewMade and ViewNames.
use Rattle.std.proofs.Common.{List, map, ap, ◌∙◌}
use Rattle.sq_bound.specs.declared.condition.ResultColumn.{ResultColumn}
use Rattle.sq_catalog.specs.Catalog.{known}
use Rattle.sq_catalog.specs.Exact.{declared}
use Rattle.sq_catalog.specs.View.{names_or}
use Rattle.sq_catalog.specs.declared.view.NewView.{NewView}
use Rattle.sq_catalog.proofs.CreateView.ViewMade.{named_made, named_stops}
use Rattle.sq_catalog.proofs.CreateView.ViewNames.{views_written}
use Rattle.sq_catalog.proofs.catalog.Catalog.named_view.Goals as goal

pub returns-in-Ok-clause-written : goal.returns-in-Ok-clause-written
returns-in-Ok-clause-written c =
    let bound = c.requires.bound in
    views_written (known c.args.self.now) (record { user = c.args.user; view = c.args.definition.now }) c.args.listed c.in-Ok.names c.args.bound.query (λ (x : NewView). x.table) c.placed_view.result c.requires.listed bound.names bound.is_written
    (c.in-Ok.ensures.names ∙ ap (λ (columns : List ResultColumn). names_or c.args.listed (map (λ (x : ResultColumn). x.name) columns)) c.as_slice.ensures)
    c.args.bound.updatable bound.over c.placed_view.ensures.made c.placed_view.ensures.over

pub returns-in-Ok-clause-exact : goal.returns-in-Ok-clause-exact
returns-in-Ok-clause-exact c =
    named_made (declared c.args.self.now) c.args.user c.args.definition.now c.args.bound c.args.listed c.as_slice.result.now c.requires.listed c.as_slice.ensures
    c.args.name.now c.in-Ok.names c.placed_view.result c.in-Ok.ensures.exact c.placed_view.ensures.exact

pub returns-in-Err-clause-exact : goal.returns-in-Err-clause-exact
returns-in-Err-clause-exact c =
    named_stops (declared c.args.self.now) c.args.user c.args.definition.now c.args.bound c.args.listed c.as_slice.result.now c.requires.listed c.as_slice.ensures c.in-Err.fault c.in-Err.ensures.exact
