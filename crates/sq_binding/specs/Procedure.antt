-- The bound forms of procedures, in a module whose cursors are bound for the parameters of the procedures that open them (ISO/IEC
-- 9075:1992, 12.1, 12.3 and 13.1).
use Rattle.std.specs.Prelude.{ℕ, Option}
use Rattle.std.specs.Option.{option_and_then, option_map}
use Rattle.std.specs.Result.{result_ok}
use Rattle.sq_lex.specs.declared.name.Name.{Name}
use Rattle.sq_tree.specs.declared.«module».Cursor.{Cursor}
use Rattle.sq_tree.specs.declared.«module».ModuleText.{ModuleText}
use Rattle.sq_tree.specs.declared.«module».Procedure.{Procedure}
use Rattle.sq_meaning.specs.Module.{cursor_named, declared_parameters}
use Rattle.sq_meaning.specs.WellFormedStatement.{opener_parameters}
use Rattle.sq_binding.specs.Change.{NamedCursor, NamedCursors}
use Rattle.sq_binding.specs.Changeable.{UserNames}
use Rattle.sq_binding.specs.Cursor.{NumberedCursor, cursor_bound}
use Rattle.sq_binding.specs.Outcome.{Outcome}
use Rattle.sq_binding.specs.Statement.{NumberedStatement, statement_bound}

abbrev pub numbered : ℕ → NumberedCursor → NamedCursor
numbered n c = record { number = n; scroll = c.scroll; columns = c.columns; table = c.table }

-- a cursor, if its query has no fault
abbrev pub cursor_if_sound : UserNames → ℕ → ModuleText → Cursor → Option NamedCursor
cursor_if_sound names n m c =
    option_map (numbered n) (result_ok (cursor_bound names (opener_parameters m c.name) c))

-- the cursors of a module, with the numbers that their names have among the cursors of all modules
abbrev pub module_cursors : UserNames → (Name → ℕ) → ModuleText → NamedCursors
module_cursors names number m name =
    option_and_then (cursor_if_sound names (number name) m) (cursor_named m name)

abbrev pub procedure_bound : UserNames → (Name → ℕ) → ModuleText → Procedure → Outcome NumberedStatement
procedure_bound names number m p =
    statement_bound names (declared_parameters p) (module_cursors names number m) p.statement
