-- Left open for as_lines: its result; answered by WholeLines.
use Rattle.std.proofs.Common.{Ok, Option, ap, subst, sym, ◌∙◌}
use Rattle.std.specs.Borrow.{Bor}
use Rattle.sq_meaning.specs.Environment.{Row}
use Rattle.sq_expression.specs.Fault.{MeetsAs}
use Rattle.sq_expression.specs.Lines.{lines_in}
use Rattle.sq_expression.proofs.WholeLines.{lines_none}
use Rattle.sq_query.specs.SingleRow.{lines_of_row}
use Rattle.sq_query.proofs.single_row.as_lines.Goals as goal

pub returns-in-Some : goal.returns-in-Some
returns-in-Some c = subst (λ (k : Option (Bor Row)). MeetsAs lines_in c.only_line.result (Ok (lines_of_row k))) (sym c.in-Some.is) c.only_line.ensures

pub returns-in-None : goal.returns-in-None
returns-in-None c = ap (λ (k : Option (Bor Row)). Ok (lines_of_row k)) c.in-None.is ∙ ap Ok (sym (lines_none c.new.result c.new.ensures.rows))
