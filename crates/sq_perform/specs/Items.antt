-- The items of a script: for what one is refused (own form: a script stands for the calls of a host program).
use Rattle.std.specs.Prelude.{◌≡◌, ℕ, List, if◌then◌else◌, Option, Some, None}
use Rattle.sq_value.specs.declared.value.Value.{Value}
use Rattle.sq_tree.specs.declared.script.ScriptItem.{ScriptItem}
use Rattle.sq_tree.specs.declared.script.ScriptItem.TheVariants as script
use Rattle.sq_meaning.specs.Script.{argument_values}
use Rattle.sq_catalog.specs.Catalog.{table_number}
use Rattle.sq_session.specs.Kind.{Procedure, fits_at}
use Rattle.sq_session.specs.Session.{Session, procedure_number}
use Rattle.sq_perform.specs.declared.refusal.RefusalName.{RefusalName}
use Rattle.sq_perform.specs.declared.refusal.RefusalName.TheVariants.{BadArguments, UnknownProcedure, UnknownTable}

-- Why a session does not take a call: it has no such procedure, or the values are more or fewer than the
-- parameters, or a parameter cannot store its value.
abbrev pub call_fault : List Procedure → List Value → Option ℕ → Option RefusalName
call_fault procedures values None = Some UnknownProcedure
call_fault procedures values (Some number) =
    if fits_at procedures number values then None else Some BadArguments

-- Why a session does not show a table: it has no such base table.
abbrev pub table_fault : Option ℕ → Option RefusalName
table_fault None = Some UnknownTable
table_fault (Some place) = None

-- Why a session does not take a script item, if it does not.
abbrev pub item_fault : Session → ScriptItem → Option RefusalName
item_fault s (script.Call «module» name arguments) =
    call_fault s.procedures (argument_values arguments) (procedure_number s.procedures «module» name)
item_fault s (script.Table user name) = table_fault (table_number s.tables user name)

abbrev pub IsTaken : Session → ScriptItem → Type 0
IsTaken s item = item_fault s item ≡ None
