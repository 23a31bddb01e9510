use Rattle.std.proofs.Common.{take, All}
use Rattle.sq_perform.specs.Asked.{AreActions}
use Rattle.sq_perform.specs.Items.{IsTaken}
use Rattle.sq_perform.specs.Steps.{IsPrepared}
use Rattle.sq_perform.proofs.prepare.actions_in.Given as goal

abbrev pub invariant-loop-place : goal.invariant-loop-place
invariant-loop-place g l = record {
  are : AreActions l.session (take l.place l.items) l.actions.items;
  prepared : All (IsPrepared l.session) l.actions.items;
  taken : All (IsTaken l.session) (take l.place l.items);
}
