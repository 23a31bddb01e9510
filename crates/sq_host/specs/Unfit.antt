-- Which of the values for a call does not fit (12.4 of ISO/IEC 9075:1992).
use Rattle.std.specs.Prelude.{ℕ, ◌+◌, Bool, true, false, if◌then◌else◌, List, [], ◌∷◌, length, Option, None, Some, option_map, Result, Ok, Err}
use Rattle.std.specs.Option.{option_map_or}
use Rattle.sq_value.specs.declared.value.Value.{Value}
use Rattle.sq_meaning.specs.Machine.{Program}
use Rattle.sq_meaning.specs.Module.{declared_parameters}
use Rattle.sq_meaning.specs.Script.{fits_in}
use Rattle.sq_meaning.specs.Tables.{Declared}
use Rattle.sq_run.specs.Processor.{Machine, procedure_at}
use Rattle.sq_exchange.specs.declared.answer.Answer.{Answer}

-- the place of the first value that its parameter can't store
abbrev pub unfit_from : List Declared → List Value → Option ℕ
unfit_from [] values = None
unfit_from (d ∷ ds) [] = None
unfit_from (d ∷ ds) (v ∷ values) =
    if fits_in d.domain v then option_map (λ place. place + 1) (unfit_from ds values) else Some 0

abbrev pub are_as_many : List Declared → List Value → Bool
are_as_many [] [] = true
are_as_many [] (v ∷ values) = false
are_as_many (d ∷ ds) [] = false
are_as_many (d ∷ ds) (v ∷ values) = are_as_many ds values

-- if the values are more or fewer than the parameters, how many values they are
abbrev pub unfit : List Declared → List Value → Option ℕ
unfit ds values = if are_as_many ds values then unfit_from ds values else Some (length values)

-- the parameters of the procedure with this number
abbrev pub parameters_at : Program → ℕ → Option (List Declared)
parameters_at p number = option_map (λ e. declared_parameters e.1) (procedure_at p number)

-- if no such procedure exists, how many values they are
abbrev pub unfit_at : Program → ℕ → List Value → Option ℕ
unfit_at p number values =
    option_map_or (λ ds. unfit ds values) (parameters_at p number) (Some (length values))

abbrev pub unfit_in : ℕ → List Value → Machine → Result (Option ℕ) Answer
unfit_in number values m = Ok (unfit_at m.program number values)

-- a place that is set to the place of a value, if one does not fit
abbrev pub set_place : Result (Option ℕ) Answer → ℕ → ℕ
set_place (Ok (Some place)) old = place
set_place (Ok None) old = old
set_place (Err why) old = old
