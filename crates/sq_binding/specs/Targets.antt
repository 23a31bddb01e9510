-- The targets of INTO: the parameters that get the values of a row, and their indicator parameters (ISO/IEC 9075:1992, 6.2, 13.3 and
-- 13.5).
use Rattle.std.specs.Prelude.{ℕ, nat_eq, not, ◌==◌, List, [], ◌∷◌, ◌++◌, length, option_to_list, Ok}
use Rattle.std.specs.List.{zip}
use Rattle.sq_value.specs.Domain.{kind_of}
use Rattle.sq_value.specs.declared.domain.Kind.{Kind}
use Rattle.sq_tree.specs.declared.names.Parameter.{Parameter}
use Rattle.sq_meaning.specs.Placed.{PlacedParameter}
use Rattle.sq_meaning.specs.Tables.{Declared}
use Rattle.sq_meaning.specs.WellFormed.{is_comparable}
use Rattle.sq_meaning.specs.Words.{has_twice}
use Rattle.sq_meaning.specs.declared.fault.BindingFault.TheVariants as fault
use Rattle.sq_binding.specs.Expression.{indicator_bound, parameter_named}
use Rattle.sq_binding.specs.Outcome.{Outcome, ◌>>=◌}
use Rattle.sq_binding.specs.Whole.{must_hold}

-- a parameter whose kind agrees with the kind of its column
abbrev pub target_bound : List Declared → Parameter × Kind → Outcome PlacedParameter
target_bound parameters t = do
  at ← parameter_named parameters t.0.name
  indicator ← indicator_bound parameters t.0.indicator
  _ ← must_hold (is_comparable (kind_of at.1) t.1) fault.KindMismatch
  Ok (record { position = at.0; indicator = indicator })

-- the parameters that a target sets
abbrev pub set_by : PlacedParameter → List ℕ
set_by t = t.position ∷ option_to_list t.indicator

-- each in turn, if the targets before it set these parameters: no parameter is set twice
abbrev pub targets_in_turn : List Declared → (before : List ℕ) → List (Parameter × Kind)
    → Outcome (List PlacedParameter)
targets_in_turn parameters before [] = Ok []
targets_in_turn parameters before (t ∷ ts) = do
  target ← target_bound parameters t
  _ ← must_hold (not (has_twice nat_eq (before ++ set_by target))) fault.TargetTwice
  targets ← targets_in_turn parameters (before ++ set_by target) ts
  Ok (target ∷ targets)

-- there are as many targets as columns
abbrev pub targets_bound : List Declared → List Parameter → List Kind → Outcome (List PlacedParameter)
targets_bound parameters targets kinds = do
  _ ← must_hold (length targets == length kinds) fault.CountMismatch
  targets_in_turn parameters [] (zip targets kinds)
