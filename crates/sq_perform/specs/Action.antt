-- What a script asks a session for.
use Rattle.std.specs.Prelude.{[], List, slice_get, unwrap_or}
use Rattle.sq_value.specs.declared.value.Value.{Value}
use Rattle.sq_meaning.specs.Environment.{TableName}
use Rattle.sq_meaning.specs.Machine.{Call as MachineCall}
use Rattle.sq_meaning.specs.Run.{RunItem}
use Rattle.sq_catalog.specs.Exact.{name_in}
use Rattle.sq_catalog.specs.declared.catalog.FullName.{FullName}
use Rattle.sq_module.specs.declared.program.ProcedureName.{ProcedureName}
use Rattle.sq_session.specs.Kind.{Procedure}
use Rattle.sq_session.specs.Session.{name_at}
use Rattle.sq_perform.specs.declared.action.Action.{Action}
use Rattle.sq_perform.specs.declared.action.Action.TheVariants.{Call, Show}
use Rattle.sq_perform.specs.declared.action.CallAction.{CallAction}
use Rattle.sq_perform.specs.declared.action.ShowAction.{ShowAction}

-- the name of the procedure that is called, of a session's procedures; it is among them where the session takes the call
abbrev pub name_of : List Procedure → CallAction → ProcedureName
name_of procedures c = unwrap_or (name_at procedures c.procedure) (record { «module» = []; name = [] })

abbrev pub named_call : ProcedureName → List Value → MachineCall
named_call p values = record { in_module = p.«module»; procedure = p.name; values = values }

-- The call, as the report names it.
abbrev pub call_of : List Procedure → CallAction → MachineCall
call_of procedures c = named_call (name_of procedures c) c.values

-- the name of the base table that is shown, of a session's base tables; it is among them where the session takes the request
abbrev pub shown_name : List FullName → ShowAction → FullName
shown_name tables x = unwrap_or (slice_get tables x.table) (record { user = []; name = [] })

-- The table, as the report names it.
abbrev pub table_of : List FullName → ShowAction → TableName
table_of tables x = name_in (shown_name tables x)

-- The item of the script that an action performs, where a session has these procedures and base tables.
abbrev pub item_of : List Procedure → List FullName → Action → RunItem
item_of procedures tables (Call c) = RunItem.call (call_of procedures c)
item_of procedures tables (Show x) = RunItem.show (table_of tables x)
