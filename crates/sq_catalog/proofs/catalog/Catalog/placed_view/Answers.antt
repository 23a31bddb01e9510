-- Left open for Catalog::placed_view: the clause exact; answered by ViewMade.
use Rattle.std.proofs.Common.{ap}
use Rattle.sq_catalog.specs.Exact.{declared, name_in}
use Rattle.sq_catalog.specs.ViewMade.{view_found}
use Rattle.sq_catalog.proofs.CreateView.ViewMade.{is_made, placed_made, placed_stops}
use Rattle.sq_catalog.proofs.catalog.Catalog.placed_view.Goals as goal

pub returns-in_ok-new_view-in-Ok-clause-exact : goal.returns-in_ok-new_view-in-Ok-clause-exact
returns-in_ok-new_view-in-Ok-clause-exact c =
    let v = c.args.definition.now in
    let named = ap name_in c.requires.name in
    let new = c.in_ok-new_view-in-Ok in
    placed_made (declared c.args.self.now) c.args.user v c.args.name.now named (view_found c.args.bound) c.args.names new.field-0 c.in-Ok.ensures.exact
    (is_made c.args.self.now c.args.user v c.args.name.now named c.args.bound c.args.names new.field-0 new.ensures.next new.ensures.placed new.ensures.made new.ensures.over c.requires.bound.under new.ensures.grants)

pub returns-in-Err-clause-exact : goal.returns-in-Err-clause-exact
returns-in-Err-clause-exact c =
    placed_stops (declared c.args.self.now) c.args.user c.args.definition.now c.args.name.now (ap name_in c.requires.name) (view_found c.args.bound) c.args.names c.in-Err.fault c.in-Err.ensures.exact
