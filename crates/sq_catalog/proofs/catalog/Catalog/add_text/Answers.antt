-- Left open: the clause exact, and that the loop keeps its invariant; answered by Building, Gains and others.
use Rattle.std.proofs.Common.{◌+◌}
use Rattle.sq_meaning.specs.SchemaRefusal.{parts_of_schema, parts_of_text}
use Rattle.sq_binding.specs.Declaring.{with_parts}
use Rattle.sq_catalog.specs.Catalog.{schema_definitions, schema_tables}
use Rattle.sq_catalog.specs.Exact.{declared}
use Rattle.sq_catalog.specs.Views.{schema_views}
use Rattle.sq_catalog.proofs.Growth.Building.{left, left_made, left_stops, parts_made, parts_stop}
use Rattle.sq_catalog.proofs.Growth.Gains.{gains_first, gains_next}
use Rattle.sq_catalog.proofs.Growth.GainsViews.{views_first, views_next}
use Rattle.sq_catalog.proofs.catalog.Catalog.add_text.Goals as goal

pub loop-number-init : goal.loop-number-init
loop-number-init c = (
  gains_first c.args.self.now c.add_schema.new.self (schema_tables c.args.tree.now.first) (schema_definitions c.args.tree.now.first) c.in_default.ensures.tables,
  views_first c.args.self.now c.add_schema.new.self (schema_views c.args.tree.now.first) c.in_default.ensures.views,
  parts_made (parts_of_schema c.args.text (0, c.args.tree.now.first)) (left (parts_of_schema c.args.text) 1 c.args.tree.now.rest) (declared c.args.self.now) (declared c.add_schema.new.self) c.in_default.ensures.exact,
)

pub loop-number-preserved : goal.loop-number-preserved
loop-number-preserved c =
    let first = c.args.tree.now.first in
    let rest = c.args.tree.now.rest in
    let lt = rw c.as_slice-schema-items.ensures at c.loop-number-test.true in
    let is = rw c.as_slice-schema-items.ensures at c.schema-item.is in (
      gains_next schema_tables schema_definitions (schema_tables first) (schema_definitions first) rest c.loop-number.number c.schema-item.result c.args.self.now c.loop-number.self c.add_schema-in-loop-number.new.self lt is
          c.loop-number.invariant.0 c.in_default-add_schema.ensures.tables,
      views_next schema_views (schema_views first) rest c.loop-number.number c.schema-item.result c.args.self.now c.loop-number.self c.add_schema-in-loop-number.new.self lt is
          c.loop-number.invariant.1 c.in_default-add_schema.ensures.views,
      left_made (parts_of_schema c.args.text) (with_parts (parts_of_text (c.args.text, c.args.tree.now)) (declared c.args.self.now)) (c.loop-number.number + 1) c.loop-number.number rest c.schema-item.result (declared c.loop-number.self)
          (declared c.add_schema-in-loop-number.new.self) lt is c.loop-number.invariant.2 c.in_default-add_schema.ensures.exact,
    )

pub returns-in-Err-clause-exact : goal.returns-in-Err-clause-exact
returns-in-Err-clause-exact c = parts_stop (parts_of_schema c.args.text (0, c.args.tree.now.first)) (left (parts_of_schema c.args.text) 1 c.args.tree.now.rest) (declared c.args.self.now) c.in-Err.fault c.in-Err.ensures.exact

pub returns-in-Err-add_schema-clause-exact : goal.returns-in-Err-add_schema-clause-exact
returns-in-Err-add_schema-clause-exact c =
    let lt = rw c.as_slice-schema-items.ensures at c.loop-number-test.true in
    let is = rw c.as_slice-schema-items.ensures at c.schema-item.is in
    left_stops (parts_of_schema c.args.text) (with_parts (parts_of_text (c.args.text, c.args.tree.now)) (declared c.args.self.now)) (c.loop-number.number + 1) c.loop-number.number c.args.tree.now.rest c.schema-item.result (declared c.loop-number.self)
    c.in-Err-add_schema.fault lt is c.loop-number.invariant.2 c.in-Err-add_schema.ensures.exact
