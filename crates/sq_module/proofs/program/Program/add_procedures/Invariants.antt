use Rattle.std.proofs.Common.{◌≡◌, List, map, take}
use Rattle.std.specs.Map.{keys_of}
use Rattle.std.specs.List.{IsAmong}
use Rattle.sq_tree.specs.declared.module.ModuleText.{ModuleText}
use Rattle.sq_catalog.specs.Catalog.{known}
use Rattle.sq_catalog.specs.UserTables.{names_in}
use Rattle.sq_module.specs.Added.{IsInOrder}
use Rattle.sq_module.specs.Admitted.{name_of}
use Rattle.sq_module.specs.Computed.{AreComputedProcedures}
use Rattle.sq_module.specs.Named.{AreNamedAs}
use Rattle.sq_module.specs.Program.{with_procedures}
use Rattle.sq_module.specs.Written.{AreFrom, AreNumbers, IsOfText}
use Rattle.sq_module.proofs.program.Program.add_procedures.Given as goal

abbrev pub invariant-loop-admitted : goal.invariant-loop-admitted
invariant-loop-admitted l = record {
  procedures : keys_of l.self.procedures.entries ≡ with_procedures (keys_of l.fn.self.procedures.entries) (map (name_of l.«module».name) (take l.admitted-index l.«module».procedures.items));
  cursors : l.self.cursors ≡ l.fn.self.cursors;
  in_order : IsInOrder l.catalog l.self;
  written : (texts : List ModuleText) (m : ModuleText) → IsAmong texts m → IsOfText m l.«module» → AreNumbers (known l.catalog) m l.fn.self.cursors.items l.numbers.entries
      → AreFrom (known l.catalog) texts l.fn.self → AreFrom (known l.catalog) texts l.self;
  computed : (texts : List ModuleText) (m : ModuleText) → IsAmong texts m → IsOfText m l.«module»
      → AreNamedAs (names_in l.catalog m.authorization) m l.fn.self.cursors.items l.numbers.entries
      → AreComputedProcedures (names_in l.catalog) texts l.fn.self.procedures.entries → AreComputedProcedures (names_in l.catalog) texts l.self.procedures.entries;
}
