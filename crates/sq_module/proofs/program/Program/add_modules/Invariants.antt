use Rattle.std.proofs.Common.{◌≡◌, List, map, take}
use Rattle.std.specs.Map.{keys_of}
use Rattle.sq_catalog.specs.Catalog.{known}
use Rattle.sq_catalog.specs.UserTables.{names_in}
use Rattle.sq_module.specs.Added.{IsInOrder}
use Rattle.sq_module.specs.Admitted.{admitted_procedures}
use Rattle.sq_module.specs.Computed.{IsProgramOf}
use Rattle.sq_module.specs.Program.{with_procedures}
use Rattle.sq_tree.specs.declared.module.ModuleText.{ModuleText}
use Rattle.sq_module.specs.Written.{AreFrom, AreOfTexts}
use Rattle.sq_module.proofs.Apart.{AreOfSome}
use Rattle.sq_module.proofs.program.Program.add_modules.Given as goal

abbrev pub invariant-loop-module : goal.invariant-loop-module
invariant-loop-module l = record {
  procedures : keys_of l.self.procedures.entries ≡ with_procedures (keys_of l.fn.self.procedures.entries) (admitted_procedures (take l.module-index l.modules));
  in_order : IsInOrder l.catalog l.self;
  of_some : AreOfSome (map (λ a. a.name) (take l.module-index l.modules)) l.self.cursors.items;
  written : (texts : List ModuleText) → AreOfTexts texts l.modules → AreFrom (known l.catalog) texts l.fn.self → AreFrom (known l.catalog) texts l.self;
  computed : (texts : List ModuleText) → AreOfTexts texts l.modules → IsProgramOf (names_in l.catalog) texts l.fn.self → IsProgramOf (names_in l.catalog) texts l.self;
}
