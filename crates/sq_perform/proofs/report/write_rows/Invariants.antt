use Rattle.std.proofs.Common.{◌≡◌, ◌++◌, length}
use Rattle.std.specs.List.{flat_map}
use Rattle.sq_meaning.specs.Report.{row_line}
use Rattle.sq_perform.proofs.report.write_rows.Given as goal

-- the lines so far, and those of the rows that are still to come, are all
abbrev pub invariant-loop-row : goal.invariant-loop-row
invariant-loop-row g l = l.lines.items ++ flat_map row_line l.rows ≡ l.initial.lines.items ++ flat_map row_line l.initial.rows

abbrev pub decreases-loop-row : goal.decreases-loop-row
decreases-loop-row g l = length l.rows
