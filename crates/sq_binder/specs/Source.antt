-- The source of inserted values, as the definitions see it (ISO/IEC 9075:1992, 13.8).
use Rattle.std.specs.Prelude.{◌≡◌, ◌==◌, Bool, List, length, Option, None, Some, Result, Ok, Err, if◌then◌else◌}
use Rattle.std.specs.List.{list_all, zip}
use Rattle.sq_meaning.specs.WellFormed.{is_comparable}
use Rattle.sq_meaning.specs.declared.fault.BindingFault.{BindingFault}
use Rattle.sq_meaning.specs.declared.fault.BindingFault.TheVariants as fault
use Rattle.sq_bound.specs.declared.condition.BoundSpecification.{BoundSpecification, out-BoundSpecification}
use Rattle.sq_bound.specs.declared.condition.ResultColumn.{ResultColumn}
use Rattle.sq_bound.specs.declared.statement.InsertedRows.{InsertedRows}
use Rattle.sq_bound.specs.declared.statement.InsertedRows.TheVariants as inserted
use Rattle.sq_binder.specs.Binds.{broken}
use Rattle.sq_binder.specs.declared.found.Found.{Found}
use Rattle.sq_binder.specs.declared.stop.Stop.{Stop}
use Rattle.sq_binder.specs.declared.receiver.Receiver.{Receiver}

-- columns of a query, each beside the column that gets its values
abbrev pub columns_beside : List ResultColumn → List Receiver → List (ResultColumn × Receiver)
columns_beside columns receivers = zip columns receivers

abbrev pub agrees : ResultColumn × Receiver → Bool
agrees p = is_comparable p.0.kind p.1.kind

-- why columns may not get the values of a query with these columns
abbrev pub column_fault : List ResultColumn → List Receiver → Option BindingFault
column_fault columns receivers =
    if length receivers == length columns
    then (if list_all agrees (columns_beside columns receivers) then None else Some fault.KindMismatch)
    else Some fault.CountMismatch

abbrev pub unless : {A : Type 0} → Option BindingFault → A → Result A Stop
unless None x = Ok x
unless (Some f) x = Err (broken f)

-- the rows of a query are inserted, if its columns fit the columns that get values
abbrev pub Inserts : List Receiver → Result (Found BoundSpecification) Stop → Result (Found InsertedRows) Stop
    → Type 0
Inserts receivers (Ok query) rows =
    rows ≡ unless (column_fault (out-BoundSpecification query.part).columns receivers)
    (record { part = inserted.Query query.part; brought = query.brought })
Inserts receivers (Err stop) rows = rows ≡ Err stop
