-- Targets: the parameters that get the values of a row (ISO/IEC 9075:1992, 9.1, 13.3 and 13.5).
use Rattle.std.specs.Prelude.{◌≡◌, ◌≤◌, ⊤, Result, ℕ, suc, ℤ, negsuc, Bool, true, false, not, ◌||◌, ◌++◌, List, [], ◌∷◌, find, is_some, length, nat_eq, slice_get, if◌then◌else◌, Option, None, Some, Ok, Err}
use Rattle.std.specs.List.{AllByRecursion}
use Rattle.std.specs.Option.{option_map_or}
use Rattle.sq_value.specs.Domain.{is_of_numbers}
use Rattle.sq_value.specs.declared.domain.Domain.{Domain}
use Rattle.sq_value.specs.declared.domain.Domain.TheVariants as domain
use Rattle.sq_value.specs.declared.domain.Kind.{Kind}
use Rattle.sq_value.specs.declared.retrieving.Retrieved.{Retrieved}
use Rattle.sq_value.specs.declared.value.Value.{Value}
use Rattle.sq_value.specs.declared.value.Value.TheVariants as value
use Rattle.sq_lex.specs.declared.name.Name.{Name}
use Rattle.sq_meaning.specs.Assignment.{retrieved_into}
use Rattle.sq_meaning.specs.Status.{Outcome, and_then, not_well_formed, or_status, well_formed_if}
use Rattle.sq_meaning.specs.declared.status.Status.{Status}
use Rattle.sq_meaning.specs.declared.status.Status.TheVariants as status
use Rattle.sq_meaning.specs.WellFormed.{IsRowOf}
use Rattle.sq_meaning.specs.Parameter.{length_before_cut, integer_value}
use Rattle.sq_expression.specs.Fault.{status_of}
use Rattle.sq_expression.specs.declared.fault.Fault.{Fault}
use Rattle.sq_expression.specs.declared.fault.Fault.TheVariants as fault
use Rattle.sq_bound.specs.WellFormed.{TakeKinds, kinds_of_parameters}
use Rattle.sq_bound.specs.declared.names.ParameterDesc.{ParameterDesc}
use Rattle.sq_bound.specs.declared.statement.Output.{Output as Target}
use Rattle.sq_session.specs.declared.reply.Done.{Done}
use Rattle.sq_session.specs.declared.reply.Output.{Output}
use Rattle.sq_session.specs.declared.target.Assignment.{Assignment}
use Rattle.sq_session.specs.declared.target.Assignments.{Assignments}

-- ---- one target

-- What an indicator is set to, if there is one.
abbrev pub indicated : Option ℕ → ℤ → List Assignment
indicated None n = []
indicated (Some indicator) n = record { parameter = indicator; value = integer_value n } ∷ []

abbrev pub with_indicator : Target → Value → ℤ → Bool → Assignments
with_indicator t v n cut =
    record { list = record { parameter = t.parameter; value = v } ∷ indicated t.indicator n; is_cut = cut }

-- Null sets a target only if it has an indicator, which is set to -1.
abbrev pub null_set : Target → Outcome Assignments
null_set t =
    and_then (or_status status.NullWithoutIndicator t.indicator)
    (λ indicator. Ok (with_indicator t value.Null (negsuc 0) false))

abbrev pub value_set : Target → Retrieved → Assignments
value_set t r = with_indicator t r.value (length_before_cut r) (is_some r.uncut)

-- a number goes into a parameter of numbers, a text into one of texts
abbrev pub fits : Domain → Value → Bool
fits d value.Null = true
fits d (value.Num n) = is_of_numbers d
fits d (value.Chars t) = not (is_of_numbers d)

abbrev pub set_in : Domain → Target → Value → Outcome Assignments
set_in d t v =
    and_then (well_formed_if (fits d v))
    (λ fitting. and_then (retrieved_into d v) (λ r. Ok (value_set t r)))

abbrev pub target_set_in : Domain → Target → Value → Outcome Assignments
target_set_in d t value.Null = null_set t
target_set_in d t (value.Num n) = set_in d t (value.Num n)
target_set_in d t (value.Chars c) = set_in d t (value.Chars c)

-- The domain of the parameter at a place.
abbrev pub domain_at : List ParameterDesc → ℕ → Domain
domain_at parameters place = option_map_or (λ p. p.domain) (slice_get parameters place) domain.Int

abbrev pub target_set : List ParameterDesc → Target → Value → Outcome Assignments
target_set parameters t v = target_set_in (domain_at parameters t.parameter) t v

-- ---- a row into as many targets, from left to right

abbrev pub none_set : Assignments
none_set = record { list = []; is_cut = false }

abbrev pub joined : Assignments → Assignments → Assignments
joined a b = record { list = a.list ++ b.list; is_cut = b.is_cut || a.is_cut }

abbrev pub set_behind : Assignments → Outcome Assignments → Outcome Assignments
set_behind a others = and_then others (λ b. Ok (joined a b))

abbrev pub each_set : List ParameterDesc → List Target → List Value → Outcome Assignments
each_set parameters [] row = Ok none_set
each_set parameters (t ∷ ts) [] = Ok none_set
each_set parameters (t ∷ ts) (v ∷ vs) =
    and_then (target_set parameters t v) (λ a. set_behind a (each_set parameters ts vs))

abbrev pub row_set : List ParameterDesc → List Target → List Value → Outcome Assignments
row_set parameters targets row =
    and_then (well_formed_if (nat_eq (length targets) (length row)))
    (λ as_many. each_set parameters targets row)

-- ---- what parameters are set to

-- the first assignment to the parameter at a place
abbrev pub set_to : List Assignment → ℕ → Option Assignment
set_to set place = find (λ a. nat_eq a.parameter place) set

-- Two lists of assignments set the parameters from a place on to the same values.
abbrev pub AreSetAlike : ℕ → List Assignment → List Assignment → Type 0
AreSetAlike from set other = (place : ℕ) → from ≤ place → set_to set place ≡ set_to other place

-- ---- rows that targets take

-- A row has one value for each target, of a kind that the target takes.
pub record MayTake (parameters : List ParameterDesc) (targets : List Target) (row : List Value) : Type 0 where
  pub kinds : List Kind
  pub taken : TakeKinds (kinds_of_parameters parameters) targets kinds
  pub of_kinds : IsRowOf kinds row

abbrev pub MayTakeRows : List ParameterDesc → List Target → List (List Value) → Type 0
MayTakeRows parameters targets = AllByRecursion (MayTake parameters targets)

-- ---- the reply

abbrev pub ended : Status → Done
ended st = record { status = st; outputs = [] }

abbrev pub is_refused : Status → Bool
is_refused status.SyntaxErrorOrAccessRuleViolation = true
is_refused _ = false

abbrev pub output_first : Name → Option Assignment → List Output → List Output
output_first name None others = others
output_first name (Some a) others = record { name = name; value = a.value } ∷ others

-- The parameters that are set, in the order of their declaration; `first` is the place of the first parameter
-- of the list.
abbrev pub outputs_from : ℕ → List Assignment → List ParameterDesc → List Output
outputs_from first set [] = []
outputs_from first set (p ∷ ps) =
    output_first p.name (find (λ a. nat_eq a.parameter first) set) (outputs_from (suc first) set ps)

-- The reply to a row that was retrieved: success, or the warning that a text was cut.
abbrev pub set_reply : List ParameterDesc → Assignments → Done
set_reply parameters a = record {
  status = if a.is_cut then status.TextTruncated else status.SuccessfulCompletion;
  outputs = outputs_from 0 a.list parameters;
}

-- The reply to a row: if retrieving fails, no target is set.
abbrev pub reply_of : List ParameterDesc → Outcome Assignments → Outcome Done
reply_of parameters (Ok a) = Ok (set_reply parameters a)
reply_of parameters (Err st) = if is_refused st then not_well_formed else Ok (ended st)

-- The reply where targets are set from a row.
abbrev pub row_reply : List ParameterDesc → List Target → List Value → Outcome Done
row_reply parameters targets row = reply_of parameters (row_set parameters targets row)

-- ---- while the targets are set one after the other

-- The code has set one target more, or ends with the status that is wanted; a definition says nothing of
-- running out of memory.
abbrev pub IsSet : Result (Unit {0}) Fault → Outcome Assignments → Assignments → Type 0
IsSet (Ok done) wanted now = wanted ≡ Ok now
IsSet (Err (fault.Status f)) wanted now = wanted ≡ Err (status_of f)
IsSet (Err fault.NoMemory) wanted now = ⊤
