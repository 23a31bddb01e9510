use Rattle.std.proofs.Common.{◌≡◌, length, take}
use Rattle.sq_bound.specs.Fits.{IsRowIn}
use Rattle.std.specs.List.{enumerate_from}
use Rattle.sq_change.specs.Made.{value_completed}
use Rattle.sq_change.proofs.OneByOne.InTurn.{MadeTo}
use Rattle.sq_change.proofs.given.new_row.Given as goal

abbrev pub invariant-loop-place : goal.invariant-loop-place
invariant-loop-place g l = record {
  wide : length l.row ≡ l.place;
  meant : MadeTo (value_completed l.setting.user l.columns l.given) (enumerate_from 0 l.table.columns) l.place l.row;
  in_domains : IsRowIn (take l.place l.table.columns) l.row;
}
