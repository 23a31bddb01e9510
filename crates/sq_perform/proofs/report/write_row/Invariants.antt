use Rattle.std.proofs.Common.{◌≡◌, ◌++◌, take}
use Rattle.std.specs.List.{flat_map}
use Rattle.sq_meaning.specs.Report.{blank_value}
use Rattle.sq_perform.proofs.report.write_row.Given as goal

abbrev pub invariant-loop-value : goal.invariant-loop-value
invariant-loop-value l = l.line.items ≡ l.initial.line.items ++ flat_map blank_value (take l.value-index l.row)
