use Rattle.std.proofs.Common.{◌≡◌, [], map, take}
use Rattle.sq_meaning.specs.ModuleRefusal.{names_before, procedure_name}
use Rattle.sq_module.specs.Program.{AreNew, names_in}
use Rattle.sq_module.proofs.Repeats.{AreNotUsed}
use Rattle.sq_module.proofs.admission.second_procedure.Given as goal

abbrev pub invariant-loop-place : goal.invariant-loop-place
invariant-loop-place l = record {
  keys : l.names.keys ≡ names_in (take l.place l.items);
  new : AreNew [] (names_in (take l.place l.items));
  before : l.names.keys ≡ names_before (map procedure_name l.items) l.place;
  unused : AreNotUsed procedure_name l.items l.place;
}
