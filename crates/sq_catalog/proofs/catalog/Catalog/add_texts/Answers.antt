-- Left open: the clause exact, and that the loop keeps its invariant; answered by Building, Gains and others.
use Rattle.std.proofs.Common.{[], refl}
use Rattle.sq_meaning.specs.SchemaRefusal.{parts_of_text, schema_parts}
use Rattle.sq_binding.specs.Declaring.{with_parts}
use Rattle.sq_catalog.specs.Catalog.{text_definitions, text_tables}
use Rattle.sq_catalog.specs.Exact.{declared}
use Rattle.sq_catalog.specs.Views.{text_views}
use Rattle.sq_catalog.proofs.Growth.Building.{left_made, left_stops}
use Rattle.sq_catalog.proofs.Growth.Gains.{gains_next, gains_none}
use Rattle.sq_catalog.proofs.Growth.GainsViews.{views_next, views_none}
use Rattle.sq_catalog.proofs.catalog.Catalog.add_texts.Goals as goal

pub loop-number-init : goal.loop-number-init
loop-number-init c = (gains_none c.args.self.now, views_none c.args.self.now, refl)

pub loop-number-preserved : goal.loop-number-preserved
loop-number-preserved c = (
  gains_next text_tables text_definitions [] [] c.args.texts.now c.loop-number.number c.index-texts-number.result
      c.args.self.now c.loop-number.self c.add_text.new.self c.loop-number-test.true c.index-texts-number.is c.loop-number.invariant.0 c.in_default.ensures.tables,
  views_next text_views [] c.args.texts.now c.loop-number.number c.index-texts-number.result
      c.args.self.now c.loop-number.self c.add_text.new.self c.loop-number-test.true c.index-texts-number.is c.loop-number.invariant.1 c.in_default.ensures.views,
  left_made parts_of_text (with_parts (schema_parts c.args.texts.now) (declared c.args.self.now)) c.loop-number.number c.loop-number.number c.args.texts.now c.index-texts-number.result (declared c.loop-number.self) (declared c.add_text.new.self)
      c.loop-number-test.true c.index-texts-number.is c.loop-number.invariant.2 c.in_default.ensures.exact,
)

pub returns-in-Err-clause-exact : goal.returns-in-Err-clause-exact
returns-in-Err-clause-exact c =
    left_stops parts_of_text (with_parts (schema_parts c.args.texts.now) (declared c.args.self.now)) c.loop-number.number c.loop-number.number c.args.texts.now c.index-texts-number.result (declared c.loop-number.self) c.in-Err.fault
    c.loop-number-test.true c.index-texts-number.is c.loop-number.invariant.2 c.in-Err.ensures.exact
