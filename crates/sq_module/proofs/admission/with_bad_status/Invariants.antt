use Rattle.std.proofs.Common.{◌≡◌, false, take}
use Rattle.std.specs.List.{list_any}
use Rattle.sq_meaning.specs.ModuleRefusal.{has_status_fault}
use Rattle.sq_module.proofs.admission.with_bad_status.Given as goal

abbrev pub invariant-loop-place : goal.invariant-loop-place
invariant-loop-place l = list_any has_status_fault (take l.place l.items) ≡ false
