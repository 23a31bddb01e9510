-- Fetch orientations (ISO/IEC 9075:1992, 13.3).
use Rattle.std.specs.Prelude.{Bool, true, false, ◌||◌, if◌then◌else◌, List, Option, Some, None, Ok, Err}
use Rattle.sq_tree.specs.declared.statement.Orientation.{Orientation}
use Rattle.sq_tree.specs.declared.statement.Orientation.TheVariants as written
use Rattle.sq_tree.specs.declared.statement.Position.{Position}
use Rattle.sq_tree.specs.declared.statement.Position.TheVariants as position
use Rattle.sq_meaning.specs.Spelled.{has_point, number_with_sign}
use Rattle.sq_meaning.specs.Tables.{Declared}
use Rattle.sq_meaning.specs.Binding.{is_whole_domain}
use Rattle.sq_meaning.specs.declared.fault.BindingFault.TheVariants as fault
use Rattle.sq_bound.specs.declared.statement.Distance.{Distance}
use Rattle.sq_bound.specs.declared.statement.Distance.TheVariants as distance
use Rattle.sq_bound.specs.declared.statement.FetchOrientation.{FetchOrientation}
use Rattle.sq_bound.specs.declared.statement.FetchOrientation.TheVariants as orientation
use Rattle.sq_binding.specs.Expression.{parameter_named}
use Rattle.sq_binding.specs.Outcome.{Outcome, ◌>>=◌}
use Rattle.sq_binding.specs.Whole.{must_hold}

-- a number that is written without a point, or a parameter of scale 0
abbrev pub distance_bound : List Declared → Position → Outcome Distance
distance_bound parameters (position.Number n) =
    if has_point n.number then Err fault.BadOrientation
    else Ok (distance.Number (number_with_sign n).unscaled)
distance_bound parameters (position.Parameter name) = do
  at ← parameter_named parameters name
  _ ← must_hold (is_whole_domain at.1) fault.BadOrientation
  Ok (distance.Parameter at.0)

abbrev pub written_bound : List Declared → Orientation → Outcome FetchOrientation
written_bound parameters written.Next = Ok orientation.Next
written_bound parameters written.Prior = Ok orientation.Prior
written_bound parameters written.First = Ok orientation.First
written_bound parameters written.Last = Ok orientation.Last
written_bound parameters (written.Absolute p) =
    distance_bound parameters p >>= λ d. Ok (orientation.Absolute d)
written_bound parameters (written.Relative p) =
    distance_bound parameters p >>= λ d. Ok (orientation.Relative d)

-- if no orientation is written, NEXT is implicit
abbrev pub orientation_bound : List Declared → Option Orientation → Outcome FetchOrientation
orientation_bound parameters None = Ok orientation.Next
orientation_bound parameters (Some o) = written_bound parameters o

abbrev pub is_next : FetchOrientation → Bool
is_next orientation.Next = true
is_next _ = false

-- any other needs a cursor with SCROLL
abbrev pub fetched : List Declared → (scrolls : Bool) → Option Orientation → Outcome FetchOrientation
fetched parameters scrolls o = do
  found ← orientation_bound parameters o
  _ ← must_hold (scrolls || is_next found) fault.BadOrientation
  Ok found
