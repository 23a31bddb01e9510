-- A call starts the parameters of its procedure at the values that are handed in, under their names
-- (ISO/IEC 9075:1992, 6.2 and 12.4).
use Rattle.std.proofs.Common.{◌≡◌, List, [], ◌∷◌, length, map, refl, ap, arith}
use Rattle.sq_value.specs.declared.value.Value.{Value}
use Rattle.sq_meaning.specs.Parameter.{inputs_of, started_parameters}
use Rattle.sq_bound.specs.declared.names.ParameterDesc.{ParameterDesc}
use Rattle.sq_binding.specs.Names.{declared}
use Rattle.sq_run.proofs.Places.Parameters.{AreNamed}

names_started : (parameters : List ParameterDesc) (values : List Value) → length values ≡ length parameters
    → map (λ p. p.name) parameters ≡ map (λ i. i.name) (inputs_of (started_parameters (declared parameters) values))
names_started [] values e = refl
names_started (p ∷ parameters) [] e = absurd (omega arith)
names_started (p ∷ parameters) (v ∷ values) e =
    let fewer : length values ≡ length parameters = omega arith in ap (λ names. p.name ∷ names) (names_started parameters values fewer)

-- So the inputs of a statement have the names of the parameters.
pub call_named : (parameters : List ParameterDesc) (values : List Value) → length values ≡ length parameters
    → AreNamed parameters (inputs_of (started_parameters (declared parameters) values))
call_named [] values e = tt
call_named (p ∷ parameters) values e = names_started (p ∷ parameters) values e
