-- What a program is while modules are added to it (ISO/IEC 9075:1992, 12.1 and 13.1).
use Rattle.std.specs.Prelude.{◌≡◌, ◌<◌, ℕ, false, length, List, [], ◌∷◌, ◌++◌, Option, None, Some, Result, get_or}
use Rattle.std.specs.List.{IsAmong}
use Rattle.std.specs.Map.{keys_of}
use Rattle.indexmap.specs.IndexMap.{insert_entry}
use Rattle.sq_lex.specs.declared.name.Name.{Name}
use Rattle.sq_tree.specs.declared.module.ModuleText.{ModuleText}
use Rattle.sq_meaning.specs.Environment.{same_name}
use Rattle.sq_binder.specs.declared.stop.Stop.{Stop}
use Rattle.sq_bound.specs.declared.query.BoundCursor.{BoundCursor}
use Rattle.sq_catalog.specs.Catalog.{Catalog, column_kinds, known}
use Rattle.sq_catalog.specs.UserTables.{names_in}
use Rattle.sq_module.specs.Admitted.{module_keys}
use Rattle.sq_module.specs.Computed.{AreComputedCursors, IsPart, IsProgramOf}
use Rattle.sq_module.specs.Named.{AreNamed}
use Rattle.sq_module.specs.Opened.{AreOfOthers, AreOpenable, AreThere, Grow, OpenedBy}
use Rattle.sq_module.specs.Program.{FitsProgram, ProgramIsWellFormed, with_procedures}
use Rattle.sq_module.specs.Written.{AreApart, AreFrom, AreNumbers, IsOfText}
use Rattle.sq_module.specs.declared.admission.AdmittedModule.{AdmittedModule}
use Rattle.sq_module.specs.declared.admission.AdmittedProcedure.{AdmittedProcedure}
use Rattle.sq_module.specs.declared.program.DeclaredCursor.{DeclaredCursor}
use Rattle.sq_module.specs.declared.program.Program.{Program}

-- a program fits the base tables of a catalog and is well formed, and no two of its cursors have the same module and name
pub record IsInOrder (c : Catalog) (p : Program) : Type 0 where
  pub fits : FitsProgram c.bases p
  pub well_formed : ProgramIsWellFormed (column_kinds c) p
  pub apart : AreApart [] p.cursors.items

-- A module is added to a program: its procedures stand behind the others, and what is bound so far is what the texts say and what is
-- computed of them, if one of them is the module's. No cursor of another module is added.
pub record AddsModule (c : Catalog) (m : AdmittedModule) (old new : Program) : Type 0 where
  pub in_order : IsInOrder c new
  pub procedures : keys_of new.procedures.entries
      ≡ with_procedures (keys_of old.procedures.entries) (module_keys m)
  pub others : (name : Name) → same_name name m.name ≡ false
      → AreOfOthers name old.cursors.items → AreOfOthers name new.cursors.items
  pub written : (texts : List ModuleText) (t : ModuleText) → IsAmong texts t → IsOfText t m
      → AreFrom (known c) texts old → AreFrom (known c) texts new
  pub computed : (texts : List ModuleText) (t : ModuleText) → IsAmong texts t → IsOfText t m
      → IsProgramOf (names_in c) texts old → IsProgramOf (names_in c) texts new

-- ---- the cursors of a module (13.1)

-- the cursor of this name of a module, as it is bound
abbrev pub declared_as : AdmittedModule → Name → BoundCursor → DeclaredCursor
declared_as m name cursor = record { «module» = m.name; name = name; user = m.user; cursor = cursor }

-- a cursor without a fault comes behind those that are there
abbrev pub with_cursor : AdmittedModule → Name → List DeclaredCursor → Option BoundCursor
    → List DeclaredCursor
with_cursor m name cursors None = cursors
with_cursor m name cursors (Some c) = cursors ++ declared_as m name c ∷ []

-- and its name has this number
abbrev pub with_number : Name → ℕ → List (Name × ℕ) → Option BoundCursor → List (Name × ℕ)
with_number name number numbers None = numbers
with_number name number numbers (Some c) = insert_entry same_name numbers name number

-- A cursor of a module is added, as it is bound, if it has no fault, and its name gets its number among all cursors.
pub record AddsCursor (m : AdmittedModule) (name : Name) (bound : Result BoundCursor Stop)
    (old : List DeclaredCursor) (numbers : List (Name × ℕ)) (new : List DeclaredCursor)
    (after : List (Name × ℕ)) : Type 0 where
  pub part : Option BoundCursor
  pub is_part : IsPart bound part
  pub cursors : new ≡ with_cursor m name old part
  pub entered : after ≡ with_number name (length old) numbers part

-- the procedure at a place of a module
abbrev pub IsProcedureAt : AdmittedModule → ℕ → AdmittedProcedure → Type 0
IsProcedureAt m place p = (place < length m.procedures.items) × (p ≡ get_or m.procedures.items place p)

-- The cursors that these procedures of a module open are bound, behind those of other modules, and have these numbers: the program is in
-- order, each cursor may be opened by the procedures of the module, and is what the text says, and what is computed of it.
pub record HasCursors (c : Catalog) (m : AdmittedModule) (others : List DeclaredCursor)
    (opened : List AdmittedProcedure) (p : Program) (numbers : List (Name × ℕ)) : Type 0 where
  pub in_order : IsInOrder c p
  pub grows : Grow others p.cursors.items
  pub there : AreThere (length p.cursors.items) numbers
  pub apart : (name : Name) → same_name name m.name ≡ false
      → AreOfOthers name others → AreOfOthers name p.cursors.items
  pub opened_by : OpenedBy m.name opened p.cursors.items
  pub openable : AreOpenable (column_kinds c) p.cursors.items numbers m.procedures.items
  pub written : (t : ModuleText) → IsOfText t m → AreNumbers (known c) t p.cursors.items numbers
  pub named : (t : ModuleText) → IsOfText t m
      → AreNamed (names_in c t.authorization) t opened p.cursors.items numbers
  pub computed : (texts : List ModuleText) (t : ModuleText) → IsAmong texts t → IsOfText t m
      → AreComputedCursors (names_in c) texts others
      → AreComputedCursors (names_in c) texts p.cursors.items
