-- Trees whose columns, parameters and tables are placed. The place of a column is the number of scopes further
-- out, the item there and the column of it. The place of a parameter is its position. Names that are looked up
-- once become such trees.
use Rattle.std.specs.Prelude.{ℕ, List, Option, slice_get, Ok}
use Rattle.std.specs.Option.{option_map}
use Rattle.sq_value.specs.declared.value.Value.{Value}
use Rattle.sq_meaning.specs.Status.{Outcome, ◌>>=◌, well_formed}
use Rattle.sq_meaning.specs.Syntax.{Naming}
use Rattle.sq_meaning.specs.Environment.{Row, Input, Place, with_indicator}
use Rattle.sq_meaning.specs.Expression.{Reading}

-- a parameter and its indicator parameter, each by its position among the parameters of the procedure, from 0
pub record PlacedParameter : Type 0 where
  pub position : ℕ
  pub indicator : Option ℕ

abbrev pub Placed : Type 0 → Naming
Placed Table = record { Column = Place; Parameter = PlacedParameter; Table = Table; Item = Unit {0} }

abbrev pub input_at : List Input → ℕ → Outcome Value
input_at inputs position = well_formed (option_map (λ i. i.value) (slice_get inputs position))

abbrev pub placed_value : PlacedParameter → List Input → Outcome Value
placed_value p inputs = input_at inputs p.position >>= with_indicator (input_at inputs) p.indicator

-- nothing is looked up by name
abbrev pub by_place : {Table : Type 0} → (Table → Outcome (List Row)) → Reading (Placed Table)
by_place rows_of = record {
  place = λ p items. Ok p;
  input = placed_value;
  item = λ t. Ok tt;
  rows = rows_of;
}
