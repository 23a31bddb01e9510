-- The parameters of a call: their values at its start, and the values retrieved into them (ISO/IEC 9075:1992, 6.2, 9.1 and 12.4).
use Rattle.std.specs.List.{list_any, zip}
use Rattle.std.specs.Prelude.{Bool, false, List, [], ◌∷◌, map, ℤ, pos, negsuc, is_some, if◌then◌else◌, find, filter_map, flat_map, Option, unwrap_or, option_map, Some, None, Ok, Err}
use Rattle.std.specs.Result.{result_ok}
use Rattle.sq_lex.specs.declared.name.Name.{Name}
use Rattle.sq_value.specs.Domain.{start_value}
use Rattle.sq_value.specs.declared.domain.Domain.{Domain}
use Rattle.sq_value.specs.declared.domain.Domain.TheVariants as domain
use Rattle.sq_value.specs.declared.retrieving.Retrieved.{Retrieved}
use Rattle.sq_value.specs.declared.value.Value.{Value}
use Rattle.sq_value.specs.declared.value.Value.TheVariants as value
use Rattle.sq_tree.specs.declared.names.Indicator.{Indicator}
use Rattle.sq_tree.specs.declared.names.Parameter.{Parameter}
use Rattle.sq_meaning.specs.Assignment.{assigned, retrieved_into}
use Rattle.sq_meaning.specs.Environment.{Input, same_name}
use Rattle.sq_meaning.specs.Status.{Outcome, and_then, or_status}
use Rattle.sq_meaning.specs.Tables.{Declared}
use Rattle.sq_meaning.specs.declared.status.Status.{Status}
use Rattle.sq_meaning.specs.declared.status.Status.TheVariants as status

-- a named parameter with its value
pub record ParameterValue : Type 0 where
  pub name : Name
  pub domain : Domain
  pub value : Value

abbrev pub Parameters : Type 0
Parameters = List ParameterValue

-- the first value of a parameter: the value handed in, stored. If null is handed in, it is zero, blanks or the empty
-- text (own rule)
abbrev pub started : Domain → Value → Value
started d value.Null = start_value d
started d v = unwrap_or (result_ok (assigned d v)) (start_value d)

abbrev pub started_parameters : List Declared → List Value → Parameters
started_parameters declared values =
    map (λ p. record { name = p.0.name; domain = p.0.domain; value = started p.0.domain p.1 })
    (zip declared values)

-- parameters as expressions read them
abbrev pub inputs_of : Parameters → List Input
inputs_of parameters = map (λ p. record { name = p.name; value = p.value }) parameters

-- ---- targets (9.1)

-- a parameter's new value
pub record Assignment : Type 0 where
  pub name : Name
  pub value : Value

-- the assignments to a target and its indicator, and whether a text was cut
pub record Retrieval : Type 0 where
  pub assignments : List Assignment
  pub cut : Bool

abbrev pub integer_value : ℤ → Value
integer_value n = value.Num (record { unscaled = n; scale = 0 })

-- an indicator is set to -1 beside null, to the length before a cut, and otherwise to 0
abbrev pub indicated : Option Indicator → ℤ → List Assignment
indicated None n = []
indicated (Some indicator) n = record { name = indicator.name; value = integer_value n } ∷ []

-- null is retrieved beside an indicator alone
abbrev pub null_retrieved : Parameter → Outcome Retrieval
null_retrieved target = and_then (or_status status.NullWithoutIndicator target.indicator) (λ indicator.
    Ok (record {
      assignments = record {
        name = target.name;
        value = value.Null;
      } ∷ indicated (Some indicator) (negsuc 0);
      cut = false;
    }))

abbrev pub length_before_cut : Retrieved → ℤ
length_before_cut r = pos (unwrap_or r.uncut 0)

abbrev pub value_retrieved : Parameter → Retrieved → Retrieval
value_retrieved target r = record {
  assignments = record {
    name = target.name;
    value = r.value;
  } ∷ indicated target.indicator (length_before_cut r);
  cut = is_some r.uncut;
}

abbrev pub target_set : Domain → Parameter → Value → Outcome Retrieval
target_set d target value.Null = null_retrieved target
target_set d target v = and_then (retrieved_into d v) (λ r. Ok (value_retrieved target r))

abbrev pub parameter_named : Parameters → Name → Option ParameterValue
parameter_named parameters name = find (λ p. same_name p.name name) parameters

-- the domain of a declared parameter
abbrev pub domain_of_parameter : Parameters → Name → Domain
domain_of_parameter parameters name =
    unwrap_or (option_map (λ p. p.domain) (parameter_named parameters name)) domain.Int

-- a row into as many targets, from left to right
abbrev pub row_retrieved : Parameters → List Parameter → List Value → Outcome (List Retrieval)
row_retrieved parameters [] row = Ok []
row_retrieved parameters (target ∷ targets) [] = Ok []
row_retrieved parameters (target ∷ targets) (v ∷ vs) =
    and_then (target_set (domain_of_parameter parameters target.name) target v)
    (λ r. and_then (row_retrieved parameters targets vs) (λ rs. Ok (r ∷ rs)))

-- ---- the answer of a call

-- a status, and the targets and their indicators with the values assigned to them
pub record Reply : Type 0 where
  pub status : Status
  pub outputs : List Assignment

abbrev pub replied_with : Status → Reply
replied_with s = record { status = s; outputs = [] }

-- the assignment to a parameter, if there is one
abbrev pub assigned_to : List Assignment → ParameterValue → Option Assignment
assigned_to assignments p = find (λ a. same_name a.name p.name) assignments

-- in the order in which the parameters are declared
abbrev pub outputs_of : Parameters → List Retrieval → List Assignment
outputs_of parameters retrievals =
    filter_map (assigned_to (flat_map (λ r. r.assignments) retrievals)) parameters

abbrev pub is_cut : List Retrieval → Bool
is_cut retrievals = list_any (λ r. r.cut) retrievals

-- done, with the warning if a text was cut
abbrev pub replied_done : Parameters → List Retrieval → Reply
replied_done parameters retrievals = record {
  status = if is_cut retrievals then status.TextTruncated else status.SuccessfulCompletion;
  outputs = outputs_of parameters retrievals;
}

-- a failure sets no target
abbrev pub reply_of : Parameters → Outcome (List Retrieval) → Reply
reply_of parameters (Err s) = replied_with s
reply_of parameters (Ok retrievals) = replied_done parameters retrievals

-- the targets are set from a row
abbrev pub replied_row : Parameters → List Parameter → List Value → Reply
replied_row parameters targets row = reply_of parameters (row_retrieved parameters targets row)
