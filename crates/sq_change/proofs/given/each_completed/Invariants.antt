use Rattle.std.proofs.Common.{◌≡◌, true, vec_len}
use Rattle.sq_change.specs.Changed.{FitTable, are_insertions, new_rows_in}
use Rattle.sq_change.specs.Made.{row_completed}
use Rattle.sq_change.proofs.OneByOne.InTurn.{MadeTo}
use Rattle.sq_change.proofs.given.each_completed.Given as goal

abbrev pub invariant-loop-values : goal.invariant-loop-values
invariant-loop-values g l = record {
  insertions : are_insertions l.changes.items ≡ true;
  fit : FitTable l.table l.changes.items;
  meant : MadeTo (row_completed l.setting.user l.table l.columns) l.given l.values-index (new_rows_in l.changes);
  length : vec_len l.changes ≡ l.values-index;
}
