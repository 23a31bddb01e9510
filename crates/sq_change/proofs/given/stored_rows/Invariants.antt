use Rattle.std.proofs.Common.{◌≡◌, vec_len}
use Rattle.std.specs.List.{AllByRecursion}
use Rattle.sq_change.specs.Given.{AreStored}
use Rattle.sq_change.specs.Made.{row_stored}
use Rattle.sq_change.proofs.OneByOne.InTurn.{MadeTo}
use Rattle.sq_change.proofs.given.stored_rows.Given as goal

abbrev pub invariant-loop-row : goal.invariant-loop-row
invariant-loop-row l = record {
  count : vec_len l.stored ≡ l.row-index;
  meant : MadeTo (row_stored l.columns) l.rows l.row-index l.stored.items;
  stored : AllByRecursion (AreStored l.columns) l.stored.items;
}
