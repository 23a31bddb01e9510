-- Left open for are_in_columns: its result; answered by Keys.
use Rattle.std.proofs.Common.{◌&&◌, sym, ap, ◌∙◌}
use Rattle.std.specs.Cmp.Lexicographic.{pointwise}
use Rattle.sq_value.specs.Comparison.{is_same}
use Rattle.sq_value.specs.Key.{in_columns}
use Rattle.sq_value.proofs.Keys.{first_column}
use Rattle.sq_value.proofs.key.+are_in_columns.Goals as goal

pub returns-then-is_at : goal.returns-then-is_at
returns-then-is_at t c =
    let rest = pointwise is_same c.in-Some-Some.parts.now (in_columns c.args.row.now c.in-Some-Some.columns.now) in
    c.are_in_columns.ensures
    ∙ sym (first_column c.args.row.now c.args.parts.now c.in-Some-Some.parts.now c.in-Some-Some.part.now c.args.columns.now c.in-Some-Some.columns.now c.in-Some-Some.column.now (c.in-Some-Some.ensures.cases.0) (c.in-Some-Some.ensures'.cases.0)
    ∙ ap (λ b. b && rest) (sym c.is_at.ensures ∙ c.if-is_at.true))

pub returns-else-is_at : goal.returns-else-is_at
returns-else-is_at t c =
    let rest = pointwise is_same c.in-Some-Some.parts.now (in_columns c.args.row.now c.in-Some-Some.columns.now) in
    c.if-is_at.false
    ∙ sym (first_column c.args.row.now c.args.parts.now c.in-Some-Some.parts.now c.in-Some-Some.part.now c.args.columns.now c.in-Some-Some.columns.now c.in-Some-Some.column.now (c.in-Some-Some.ensures.cases.0) (c.in-Some-Some.ensures'.cases.0)
    ∙ ap (λ b. b && rest) (sym c.is_at.ensures ∙ c.if-is_at.false))
