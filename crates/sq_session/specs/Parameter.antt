-- The parameters of a call (ISO/IEC 9075:1992, 12.3).
use Rattle.std.specs.Prelude.{◌≡◌, List, map}
use Rattle.std.specs.List.{AllZip, zip}
use Rattle.sq_value.specs.Domain.{IsOfKind}
use Rattle.sq_value.specs.declared.domain.Kind.{Kind}
use Rattle.sq_value.specs.declared.value.Value.{Value}
use Rattle.sq_value.specs.declared.value.Value.TheVariants.{Null}
use Rattle.sq_bound.specs.declared.names.ParameterDesc.{ParameterDesc}
use Rattle.sq_meaning.specs.Tables.{Declared}
use Rattle.sq_meaning.specs.Parameter.{started}

-- The declaration of a parameter: its name and its domain.
abbrev pub declared : ParameterDesc → Declared
declared p = record { name = p.name; domain = p.domain }

-- The values with which parameters start, from the values that are handed in.
abbrev pub started_values : List ParameterDesc → List Value → List Value
started_values parameters values = map (λ p. started p.0.domain p.1) (zip parameters values)

-- While a call runs, each parameter has a value of its kind that is not null.
abbrev pub IsGiven : Kind → Value → Type 0
IsGiven k v = IsOfKind k v × ¬ (v ≡ Null)

abbrev pub AreGiven : List Kind → List Value → Type 0
AreGiven = AllZip IsGiven
