use Rattle.std.proofs.Common.{◌-◌, ◌<◌, ◌≤◌, All, length, take}
use Rattle.sq_perform.specs.Asked.{AreAsked}
use Rattle.sq_perform.specs.Lines.{AreLines}
use Rattle.sq_perform.specs.Steps.{IsPrepared}
use Rattle.sq_perform.proofs.long_script.actions_by_parts.Given as goal

-- the parts so far ask for these actions
abbrev pub invariant-loop-at : goal.invariant-loop-at
invariant-loop-at g l = record {
  asked : AreAsked l.session (take l.at l.script) l.actions.items;
  prepared : All (IsPrepared l.session) l.actions.items;
  lines : l.at < length l.script → AreLines (take l.at l.script);
  within : l.at ≤ length l.script;
}

abbrev pub decreases-loop-at : goal.decreases-loop-at
decreases-loop-at g l = length l.script - l.at
