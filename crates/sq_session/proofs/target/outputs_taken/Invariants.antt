use Rattle.std.proofs.Common.{◌≡◌, ◌++◌, drop}
use Rattle.sq_session.specs.Target.{AreSetAlike, outputs_from}
use Rattle.sq_session.proofs.target.outputs_taken.Given as goal

-- the outputs so far are those of the parameters before the place, and the others are set as at the start
abbrev pub invariant-loop-place : goal.invariant-loop-place
invariant-loop-place l =
    (l.outputs ++ outputs_from l.place l.initial.assignments (drop l.place l.parameters) ≡ outputs_from 0 l.initial.assignments l.parameters)
    × AreSetAlike l.place l.initial.assignments l.assignments
