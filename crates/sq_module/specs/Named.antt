-- The cursors that the names in a module mean, by their numbers among the cursors of all modules (ISO/IEC 9075:1992, 13.1).
use Rattle.std.specs.Prelude.{◌≡◌, ℕ, List, map, slice_get, Option, None, if◌then◌else◌, unwrap_or}
use Rattle.std.specs.List.{list_any}
use Rattle.std.specs.Map.{lookup}
use Rattle.std.specs.Option.{option_and_then, option_map}
use Rattle.sq_lex.specs.declared.name.Name.{Name}
use Rattle.sq_tree.specs.declared.module.ModuleText.{ModuleText}
use Rattle.sq_meaning.specs.Environment.{same_name}
use Rattle.sq_meaning.specs.Module.{cursor_named}
use Rattle.sq_binding.specs.Change.{NamedCursor, NamedCursors}
use Rattle.sq_binding.specs.Changeable.{UserNames}
use Rattle.sq_binding.specs.Procedure.{cursor_if_sound, module_cursors}
use Rattle.sq_binding.specs.Seen.{column_of}
use Rattle.sq_binding.specs.SeenQuery.{table_named}
use Rattle.sq_module.specs.Admitted.{openings}
use Rattle.sq_module.specs.Refusal.{is_some_name}
use Rattle.sq_module.specs.declared.admission.AdmittedProcedure.{AdmittedProcedure}
use Rattle.sq_module.specs.declared.program.DeclaredCursor.{DeclaredCursor}

abbrev pub numbered_as : ℕ → DeclaredCursor → NamedCursor
numbered_as n d = record {
  number = n;
  scroll = d.cursor.scroll;
  columns = map column_of d.cursor.columns;
  table = option_map table_named d.cursor.table;
}

-- the cursor with this number
abbrev pub cursor_at : List DeclaredCursor → ℕ → Option NamedCursor
cursor_at cursors n = option_map (numbered_as n) (slice_get cursors n)

-- the cursors whose names have these numbers
abbrev pub cursors_named : List DeclaredCursor → List (Name × ℕ) → NamedCursors
cursors_named cursors numbers name = option_and_then (cursor_at cursors) (lookup (same_name name) numbers)

-- ---- while a module is bound

-- the number that a name has so far
abbrev pub number_in : List (Name × ℕ) → Name → ℕ
number_in numbers name = unwrap_or (lookup (same_name name) numbers) 0

-- a cursor that these procedures open, if its query has no fault; of the others none is known yet
abbrev pub opened_so_far : UserNames → ModuleText → List AdmittedProcedure → List (Name × ℕ) → NamedCursors
opened_so_far names m procedures numbers name =
    if list_any (is_some_name name) (openings procedures)
    then option_and_then (cursor_if_sound names (number_in numbers name) m) (cursor_named m name) else None

-- the cursors that names mean are those that the procedures so far open
abbrev pub AreNamed : UserNames → ModuleText → List AdmittedProcedure → List DeclaredCursor → List (Name × ℕ)
    → Type 0
AreNamed names m procedures cursors numbers =
    (name : Name) → cursors_named cursors numbers name ≡ opened_so_far names m procedures numbers name

-- the cursors that names mean are those of the module
abbrev pub AreNamedAs : UserNames → ModuleText → List DeclaredCursor → List (Name × ℕ) → Type 0
AreNamedAs names m cursors numbers =
    cursors_named cursors numbers ≡ module_cursors names (number_in numbers) m
