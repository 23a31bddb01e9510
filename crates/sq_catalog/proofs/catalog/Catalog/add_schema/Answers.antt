-- Left open: the clause exact, and that the loop keeps its invariant; answered by Building, Gains and others.
use Rattle.std.proofs.Common.{[], sym, subst}
use Rattle.sq_meaning.specs.SchemaRefusal.{parts_of_schema}
use Rattle.sq_binding.specs.Declaring.{with_parts}
use Rattle.sq_catalog.specs.Catalog.{definition_in, table_in}
use Rattle.sq_catalog.specs.Exact.{StopsAt, declared}
use Rattle.sq_catalog.specs.Views.{view_in}
use Rattle.sq_catalog.proofs.Growth.Building.{element_made, element_stops, user_made, user_stops}
use Rattle.sq_catalog.proofs.Growth.Gains.{gains_next}
use Rattle.sq_catalog.proofs.Growth.GainsViews.{views_next}
use Rattle.sq_catalog.proofs.catalog.Catalog.add_schema.Goals as goal

pub loop-number-init : goal.loop-number-init
loop-number-init c = (c.add_user.ensures.tables, c.add_user.ensures.views, user_made c.args.text c.args.schema c.args.definition.now (declared c.args.self.now) (declared c.add_user.new.self) c.in_default.ensures.exact)

pub loop-number-preserved : goal.loop-number-preserved
loop-number-preserved c =
    let d = c.args.definition.now in
    let elements = d.elements in
    let user = d.authorization in
    let lt = rw c.as_slice-element-items.ensures at c.loop-number-test.true in
    let is = rw c.as_slice-element-items.ensures at c.element-item.is in (
      gains_next (table_in user) definition_in [] [] elements c.loop-number.number c.element-item.result c.args.self.now c.loop-number.self c.add_element.new.self lt is
          c.loop-number.invariant.0 c.in_default-add_element.ensures.tables,
      views_next (view_in user) [] elements c.loop-number.number c.element-item.result c.args.self.now c.loop-number.self c.add_element.new.self lt is
          c.loop-number.invariant.1 c.in_default-add_element.ensures.views,
      element_made c.args.text c.args.schema d (with_parts (parts_of_schema c.args.text (c.args.schema, d)) (declared c.args.self.now)) c.loop-number.number c.element-item.result (declared c.loop-number.self) (declared c.add_element.new.self) lt is
          c.loop-number.invariant.2 c.in_default-add_element.ensures.exact,
    )

pub returns-in-Err-clause-exact : goal.returns-in-Err-clause-exact
returns-in-Err-clause-exact c =
    let d = c.args.definition.now in
    subst (StopsAt (with_parts (parts_of_schema c.args.text (c.args.schema, d)) (declared c.args.self.now))) (sym c.place_fault.ensures.fault)
    (user_stops c.args.text c.args.schema d (declared c.args.self.now) c.in-Err.fault c.in-Err.ensures.exact)

pub returns-in-Err-add_element-clause-exact : goal.returns-in-Err-add_element-clause-exact
returns-in-Err-add_element-clause-exact c =
    let d = c.args.definition.now in
    let lt = rw c.as_slice-element-items.ensures at c.loop-number-test.true in
    let is = rw c.as_slice-element-items.ensures at c.element-item.is in
    let whole = with_parts (parts_of_schema c.args.text (c.args.schema, d)) (declared c.args.self.now) in
    subst (StopsAt whole) (sym c.place_fault-in-Err-add_element.ensures.fault)
    (element_stops c.args.text c.args.schema d whole c.loop-number.number c.element-item.result (declared c.loop-number.self) c.in-Err-add_element.fault lt is c.loop-number.invariant.2 c.in-Err-add_element.ensures.exact)
