use Rattle.std.proofs.Common.{◌≡◌, ◌++◌, take}
use Rattle.std.specs.List.{flat_map}
use Rattle.sq_meaning.specs.Report.{quoted_code}
use Rattle.sq_perform.proofs.report.write_text.Given as goal

abbrev pub invariant-loop-code : goal.invariant-loop-code
invariant-loop-code l = l.line.items ≡ l.initial.line.items ++ flat_map quoted_code (take l.code-index l.text)
