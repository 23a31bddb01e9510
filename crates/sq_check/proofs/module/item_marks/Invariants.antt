use Rattle.std.proofs.Common.{◌≡◌, take}
use Rattle.sq_tree.specs.Starts.{module_item_start}
use Rattle.sq_check.specs.Modules.{AllAt, IsMark, counted}
use Rattle.sq_check.proofs.module.item_marks.Given as goal

abbrev pub invariant-loop-item : goal.invariant-loop-item
invariant-loop-item l = record {
  token : l.token ≡ counted (module_item_start l.«module» l.item-index);
  marks : AllAt (IsMark l.catalog l.program l.«module») 0 (take l.item-index l.«module».items) l.marks;
}
