use Rattle.std.proofs.Common.{◌≡◌, ◌++◌, take}
use Rattle.std.specs.List.{flat_map}
use Rattle.sq_show.specs.View.{view_line}
use Rattle.sq_show.proofs.view.write_rows.Given as goal

abbrev pub invariant-loop-row : goal.invariant-loop-row
invariant-loop-row l = l.lines.items ≡ l.initial.lines.items ++ flat_map view_line (take l.row-index l.rows)
