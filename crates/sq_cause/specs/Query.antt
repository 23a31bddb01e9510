-- The rows of a query that stands in no other (ISO/IEC 9075:1992, 7.9).
use Rattle.std.specs.Prelude.{◌≡◌, List}
use Rattle.sq_lex.specs.declared.name.Name.{Name}
use Rattle.sq_value.specs.declared.value.Value.{Value}
use Rattle.sq_store.specs.Content.{Content}
use Rattle.sq_meaning.specs.Environment.{Row, outermost}
use Rattle.sq_meaning.specs.Placed.{by_place}
use Rattle.sq_meaning.specs.Query.{rows}
use Rattle.sq_meaning.specs.Status.{Outcome}
use Rattle.sq_bound.specs.Condition.{select_of}
use Rattle.sq_bound.specs.declared.condition.BoundSpecification.{BoundSpecification}
use Rattle.sq_change.specs.Made.{Shown}
use Rattle.sq_expression.specs.Frame.{inputs_of}
use Rattle.sq_query.specs.Table.{AreMeant}
use Rattle.sq_session.specs.Schemas.{Schemas}

-- the rows of the query, or the status of finding them, over the tables that the stored rows and the views' queries make for the user
abbrev pub HasRows : Schemas → Name → List Value → Content → BoundSpecification → Outcome (List Row) → Type 0
HasRows s user values tables q found =
    (shown : Shown) → AreMeant s.views tables user shown
    → found ≡ rows (by_place shown) (select_of q) (outermost (inputs_of values) user)
