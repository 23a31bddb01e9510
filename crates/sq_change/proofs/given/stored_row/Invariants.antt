use Rattle.std.proofs.Common.{length, take}
use Rattle.std.specs.List.{zip}
use Rattle.sq_change.specs.Given.{AreStored}
use Rattle.sq_change.specs.Made.{stored_in}
use Rattle.sq_change.proofs.OneByOne.InTurn.{MadeTo}
use Rattle.sq_change.proofs.given.stored_row.Given as goal

abbrev pub invariant-loop-column : goal.invariant-loop-column
invariant-loop-column l = record {
  fit : AreStored (take (length l.yielded) l.columns) l.stored;
  meant : MadeTo stored_in (zip l.columns l.row) (length l.yielded) l.stored;
}
