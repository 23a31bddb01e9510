use Rattle.std.proofs.Common.{◌≡◌, false, flat_map, take}
use Rattle.sq_meaning.specs.ModuleRefusal.{has_bad_parameter}
use Rattle.std.specs.Prelude.{filter_map}
use Rattle.sq_meaning.specs.Module.{procedure_in}
use Rattle.sq_module.specs.Admitted.{admitted_written, opening_in, openings, procedure_names}
use Rattle.sq_module.specs.Program.{names_in}
use Rattle.sq_module.specs.Written.{IsProcedureOf}
use Rattle.std.specs.List.{AllByRecursion, list_any}
use Rattle.sq_module.proofs.items.procedures_of.Given as goal

abbrev pub invariant-loop-place : goal.invariant-loop-place
invariant-loop-place l = record {
  names : procedure_names l.procedures.items ≡ names_in (take l.place l.items);
  openings : openings l.procedures.items ≡ flat_map opening_in (take l.place l.items);
  written : AllByRecursion (IsProcedureOf l.items) l.procedures.items;
  listed : admitted_written l.procedures.items ≡ filter_map procedure_in (take l.place l.items);
  good : list_any has_bad_parameter (take l.place l.items) ≡ false;
}
