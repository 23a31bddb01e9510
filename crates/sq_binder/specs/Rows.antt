-- The rows that UPDATE and DELETE change, as the definitions see them (ISO/IEC 9075:1992, 13.6, 13.7, 13.9 and 13.10).
use Rattle.std.specs.Prelude.{Bool, Result, Ok, Err}
use Rattle.sq_meaning.specs.Environment.{TableName, same_table}
use Rattle.sq_meaning.specs.Words.{is_some_and}
use Rattle.sq_bound.specs.declared.query.Target.{Target}
use Rattle.sq_bound.specs.declared.statement.ChangeTarget.{ChangeTarget}
use Rattle.sq_bound.specs.declared.statement.ChangeTarget.TheVariants as rows
use Rattle.sq_binding.specs.Change.{NamedCursor}
use Rattle.sq_binder.specs.declared.found.Found.{Found}
use Rattle.sq_binder.specs.declared.stop.Stop.{Stop}

abbrev pub searched : Result (Found Target) Stop → Result (Found ChangeTarget) Stop
searched (Ok x) = Ok (record { part = rows.Searched x.part; brought = x.brought })
searched (Err stop) = Err stop

-- the cursor is updatable, and over this table
abbrev pub is_over : TableName → NamedCursor → Bool
is_over t c = is_some_and (same_table t) c.table
