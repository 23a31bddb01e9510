use Rattle.std.proofs.Common.{◌≡◌, ◌++◌, take}
use Rattle.std.specs.List.{flat_map}
use Rattle.sq_meaning.specs.Report.{blank_value}
use Rattle.sq_show.proofs.view.write_row.Given as goal

abbrev pub invariant-loop-value : goal.invariant-loop-value
invariant-loop-value l = l.lines.items ≡ l.initial.lines.items ++ flat_map blank_value (take l.value-index l.row)
