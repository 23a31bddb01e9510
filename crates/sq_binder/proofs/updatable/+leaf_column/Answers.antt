-- Left open for leaf_column: its result; answered by Images and Updatables.
use Rattle.std.proofs.Common.{◌≡◌, true, false, sym, ap, ◌∙◌}
use Rattle.sq_bound.specs.declared.expression.BoundExpr.{BoundExpr}
use Rattle.sq_binding.specs.Changeable.{leaf_column}
use Rattle.sq_binding.specs.Seen.{numbered_of}
use Rattle.sq_binder.proofs.Expressions.Images.{numbered_of-Column}
use Rattle.sq_binder.specs.Names.{beneath_of, under_table}
use Rattle.sq_binder.proofs.Changes.Updatables.{operation_none, operations_alone}
use Rattle.sq_binder.proofs.updatable.+leaf_column.Goals as goal

pub returns-in-Column : goal.returns-in-Column
returns-in-Column t c =
    let u = under_table (beneath_of c.args.under.now) in
    c.column_beneath.ensures ∙ sym (ap (leaf_column u) (ap numbered_of c.in-Column.is ∙ numbered_of-Column c.in-Column.place))

pub returns-then-is_empty : goal.returns-then-is_empty
returns-then-is_empty t c =
    let u = under_table (beneath_of c.args.under.now) in
    c.leaf_column.ensures ∙ ap (λ (e : BoundExpr). leaf_column u (numbered_of e)) c.get.ensures
    ∙ ap (leaf_column u) (sym (ap numbered_of c.in-Operations.is ∙ operations_alone u c.in-Operations.first c.in-Operations.rest (c.is_empty.ensures.0 c.if-is_empty.true)))

pub returns-else-is_empty : goal.returns-else-is_empty
returns-else-is_empty t c =
    let u = under_table (beneath_of c.args.under.now) in
    sym (ap (λ (e : BoundExpr). leaf_column u (numbered_of e)) c.in-Operations.is
    ∙ operation_none u c.in-Operations.first c.in-Operations.rest (λ none. let no : true ≡ false = sym (c.is_empty.ensures.1 none) ∙ c.if-is_empty.false in cc))
