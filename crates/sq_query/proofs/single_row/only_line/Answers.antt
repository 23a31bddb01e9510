-- Left open for only_line: its result; answered by WholeLines and Views.
use Rattle.std.proofs.Common.{List, [], ◌∷◌, ◌++◌, ◌∙◌, Ok, ap, sym, refl, true}
use Rattle.sq_meaning.specs.Environment.{Line}
use Rattle.sq_expression.specs.Lines.{lines_in}
use Rattle.sq_expression.proofs.Views.{answered_fails, handed_on_as}
use Rattle.sq_expression.proofs.WholeLines.{lines_none, whole_none}
use Rattle.sq_query.proofs.single_row.only_line.Goals as goal

pub returns : goal.returns
returns c =
    ap (λ (before : List Line). Ok (before ++ (c.args.row.now ∷ []) ∷ [])) (sym (lines_none c.new-lines.result c.new-lines.ensures.rows))
    ∙ c.in_ok-push_if.ensures.lines (Ok true) refl (whole_none c.new-lines.result c.new-lines.ensures.rows) (sym c.new-lines.ensures.width)

pub returns-in_err-push_if : goal.returns-in_err-push_if
returns-in_err-push_if c =
    let row = c.args.row.now in
    let before = lines_in c.new-lines.result in
    let f = c.in_err-push_if.field-0.0 in
    handed_on_as lines_in c.from_residual.result f (Ok ((row ∷ []) ∷ [])) c.from_residual.ensures.1
    (answered_fails {A = Unit {0}} (λ done. lines_in c.push_if.new.self) f (before ++ (row ∷ []) ∷ []) (Ok ((row ∷ []) ∷ [])) (c.in_err-push_if.ensures.lines (Ok true) refl (whole_none c.new-lines.result c.new-lines.ensures.rows) (sym c.new-lines.ensures.width)))
