use Rattle.std.proofs.Common.{◌≡◌, false, take}
use Rattle.std.specs.List.{list_any}
use Rattle.sq_module.specs.Refusal.{has_open_count}
use Rattle.sq_module.proofs.opener.Openers.first_without_one.Given as goal

abbrev pub invariant-loop-place : goal.invariant-loop-place
invariant-loop-place l = list_any (has_open_count l.items) (take l.place l.items) ≡ false
