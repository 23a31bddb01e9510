-- Script items, and the items that are refused (own form: a script represents the calls of a host program).
use Rattle.std.specs.List.{enumerate_from}
use Rattle.std.specs.Prelude.{ℕ, Bool, true, false, ◌&&◌, List, [], ◌∷◌, map, is_some, is_ok, if◌then◌else◌, Option, option_map, option_and_then, Some, None}
use Rattle.sq_lex.specs.declared.name.Name.{Name}
use Rattle.sq_value.specs.Storing.{stored}
use Rattle.sq_value.specs.declared.domain.Domain.{Domain}
use Rattle.sq_value.specs.declared.value.Value.{Value}
use Rattle.sq_value.specs.declared.value.Value.TheVariants as value
use Rattle.sq_tree.specs.declared.module.ModuleText.{ModuleText}
use Rattle.sq_tree.specs.declared.module.Procedure.{Procedure}
use Rattle.sq_tree.specs.declared.script.Argument.{Argument}
use Rattle.sq_tree.specs.declared.script.Argument.TheVariants as argument
use Rattle.sq_tree.specs.declared.script.Arguments.{Arguments}
use Rattle.sq_tree.specs.declared.script.Arguments.TheVariants as arguments
use Rattle.sq_tree.specs.declared.script.ScriptItem.{ScriptItem}
use Rattle.sq_tree.specs.declared.script.ScriptItem.TheVariants as script
use Rattle.sq_tree.specs.declared.script.ScriptText.{ScriptText}
use Rattle.sq_meaning.specs.Spelled.{listed, number_with_sign}
use Rattle.sq_meaning.specs.Tables.{Declared}
use Rattle.sq_meaning.specs.Module.{declared_parameters, module_named, procedure_named}
use Rattle.sq_meaning.specs.Schema.{Elements, base_place}
use Rattle.sq_meaning.specs.Words.{first_some}
use Rattle.sq_meaning.specs.declared.refusal.ScriptFault.{ScriptFault}
use Rattle.sq_meaning.specs.declared.refusal.ScriptFault.TheVariants as script_fault

-- ---- the values that are handed in

abbrev pub argument_value : Argument → Value
argument_value (argument.Number n) = value.Num (number_with_sign n)
argument_value (argument.Text characters) = value.Chars characters
argument_value argument.Null = value.Null

abbrev pub argument_values : Arguments → List Value
argument_values arguments.Unwritten = []
argument_values arguments.Empty = []
argument_values (arguments.Listed list) = map argument_value (listed list)

-- ---- values that fit a procedure

-- null, or a value that the domain can store
abbrev pub fits_in : Domain → Value → Bool
fits_in d v = is_ok (stored d v)

-- there are as many values as named parameters, and each parameter can store its value
abbrev pub fit : List Declared → List Value → Bool
fit [] [] = true
fit [] (v ∷ values) = false
fit (d ∷ ds) [] = false
fit (d ∷ ds) (v ∷ values) = fits_in d.domain v && fit ds values

abbrev pub procedure_called : List ModuleText → Name → Name → Option Procedure
procedure_called modules «module» procedure =
    option_and_then (λ m. procedure_named m procedure) (module_named modules «module»)

-- ---- refusals

abbrev pub arguments_fault : List Value → Procedure → Option ScriptFault
arguments_fault values p = if fit (declared_parameters p) values then None else Some script_fault.BadArguments

abbrev pub call_fault : List Value → Option Procedure → Option ScriptFault
call_fault values None = Some script_fault.UnknownProcedure
call_fault values (Some p) = arguments_fault values p

abbrev pub script_fault_of : Elements → List ModuleText → ScriptItem → Option ScriptFault
script_fault_of elements modules (script.Call «module» procedure arguments) =
    call_fault (argument_values arguments) (procedure_called modules «module» procedure)
script_fault_of elements modules (script.Table user table) =
    if is_some (base_place elements (record { user = user; name = table })) then None
    else Some script_fault.UnknownTable

-- the item's number, and why
pub record ScriptRefusal : Type 0 where
  pub item : ℕ
  pub fault : ScriptFault

abbrev pub item_refusal : Elements → List ModuleText → ℕ × ScriptItem → Option ScriptRefusal
item_refusal elements modules i =
    option_map (λ fault. record { item = i.0; fault = fault }) (script_fault_of elements modules i.1)

-- the first refusal of a script
abbrev pub first_script_refusal : Elements → List ModuleText → ScriptText → Option ScriptRefusal
first_script_refusal elements modules text =
    first_some (map (item_refusal elements modules) (enumerate_from 0 text.items))
