-- Targets of INTO that are bound in turn (ISO/IEC 9075:1992, 6.2, 13.3 and 13.5).
use Rattle.std.specs.Prelude.{ℕ, nat_eq, Bool, false, not, ◌||◌, List, [], ◌∷◌, ◌++◌, map, Option, None, Some, Ok}
use Rattle.std.specs.List.{flat_map, list_any}
use Rattle.sq_value.specs.declared.domain.Kind.{Kind}
use Rattle.sq_tree.specs.declared.names.Parameter.{Parameter}
use Rattle.sq_meaning.specs.Placed.{PlacedParameter}
use Rattle.sq_meaning.specs.Tables.{Declared}
use Rattle.sq_bound.specs.declared.condition.ResultColumn.{ResultColumn}
use Rattle.sq_bound.specs.declared.statement.Output.{Output}
use Rattle.sq_meaning.specs.Words.{has_twice}
use Rattle.sq_meaning.specs.declared.fault.BindingFault.TheVariants as fault
use Rattle.sq_binding.specs.Outcome.{Outcome, ◌>>=◌}
use Rattle.sq_binding.specs.Seen.{column_of}
use Rattle.sq_binding.specs.Targets.{set_by, target_bound}
use Rattle.sq_binding.specs.Whole.{must_hold}
use Rattle.sq_binding.specs.SeenQuery.{output_seen}

abbrev pub kinds_shown : List ResultColumn → List Kind
kinds_shown columns = map (λ c. c.kind) (map column_of columns)

-- the parameters that targets set
abbrev pub all_set : List PlacedParameter → List ℕ
all_set targets = flat_map set_by targets

-- a further target, if it sets no parameter again
abbrev pub set_unless : (again : Bool) → List PlacedParameter → PlacedParameter
    → Outcome (List PlacedParameter)
set_unless again targets t = must_hold (not again) fault.TargetTwice >>= λ _. Ok (targets ++ t ∷ [])

abbrev pub set_once : List PlacedParameter → PlacedParameter → Outcome (List PlacedParameter)
set_once targets t = set_unless (has_twice nat_eq (all_set targets ++ set_by t)) targets t

-- the targets that are bound so far, and the next one
abbrev pub target_step : List Declared → List PlacedParameter → Parameter × Kind
    → Outcome (List PlacedParameter)
target_step parameters targets t = target_bound parameters t >>= set_once targets

-- ---- a target that sets a parameter again

-- a target sets this one
abbrev pub sets : ℕ → Output → Bool
sets p o = list_any (λ set. nat_eq set p) (set_by (output_seen o))

abbrev pub is_set_in : List Output → ℕ → Bool
is_set_in outputs p = list_any (sets p) outputs

-- an indicator is set already, or is the parameter itself
abbrev pub indicator_again : List Output → ℕ → Option ℕ → Bool
indicator_again outputs p None = false
indicator_again outputs p (Some i) = nat_eq p i || is_set_in outputs i

abbrev pub is_set_again : List Output → Output → Bool
is_set_again outputs o = is_set_in outputs o.parameter || indicator_again outputs o.parameter o.indicator
