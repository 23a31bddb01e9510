use Rattle.std.proofs.Common.{◌≡◌, ◌++◌, map, take}
use Rattle.std.specs.List.{flat_map}
use Rattle.sq_meaning.specs.Report.{output_codes}
use Rattle.sq_perform.specs.Steps.{told_output}
use Rattle.sq_perform.proofs.report.write_outputs.Given as goal

abbrev pub invariant-loop-output : goal.invariant-loop-output
invariant-loop-output l = l.line.items ≡ l.initial.line.items ++ flat_map output_codes (map told_output (take l.output-index l.outputs))
