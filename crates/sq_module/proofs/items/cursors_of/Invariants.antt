use Rattle.std.proofs.Common.{◌≡◌, map, take}
use Rattle.std.specs.List.{AllByRecursion}
use Rattle.std.specs.Map.{keys_of}
use Rattle.std.specs.Prelude.{filter_map}
use Rattle.sq_meaning.specs.Module.{cursor_in}
use Rattle.sq_meaning.specs.ModuleRefusal.{cursor_name, names_before}
use Rattle.sq_module.specs.Admitted.{cursors_written}
use Rattle.sq_module.specs.Written.{IsCursorIn}
use Rattle.sq_module.proofs.Repeats.{AreNotUsed}
use Rattle.sq_module.proofs.items.cursors_of.Given as goal

abbrev pub invariant-loop-place : goal.invariant-loop-place
invariant-loop-place l = record {
  written : AllByRecursion (IsCursorIn l.items) l.cursors.entries;
  listed : cursors_written l.cursors.entries ≡ filter_map cursor_in (take l.place l.items);
  before : keys_of l.cursors.entries ≡ names_before (map cursor_name l.items) l.place;
  unused : AreNotUsed cursor_name l.items l.place;
}
