-- The remarks on modules.
use Rattle.std.proofs.Common.{◌≡◌, List}
use Rattle.std.specs.List.{AllZip}
use Rattle.std.specs.Map.{keys_of}
use Rattle.sq_tree.specs.declared.module.ModuleText.{ModuleText}
use Rattle.sq_catalog.specs.Catalog.{Catalog, column_kinds, known}
use Rattle.sq_module.specs.Program.{ProgramIsWellFormed, declared_procedures}
use Rattle.sq_module.specs.Written.{IsOfTexts}
use Rattle.sq_module.specs.declared.program.Program.{Program}
use Rattle.sq_check.specs.Modules.{AreChecked, AreMarks}
use Rattle.sq_check.specs.declared.mark.Mark.{Mark}

pub are_checked : (catalog : Catalog) (modules : List ModuleText) (p : Program) (marks : List (List Mark)) → keys_of p.procedures.entries ≡ declared_procedures modules
    → IsOfTexts (known catalog) modules p → ProgramIsWellFormed (column_kinds catalog) p → AllZip (AreMarks catalog p) modules marks → AreChecked catalog modules marks
are_checked catalog modules p marks procedures written stands are = record {
  program = p;
  procedures = procedures;
  written = written;
  well_formed = stands;
  are = are;
}
