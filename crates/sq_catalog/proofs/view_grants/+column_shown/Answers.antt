-- Left open for column_shown: its result; answered by ViewHeld.
use Rattle.std.proofs.Common.{◌≡◌, true, false, sym, ap, ◌∙◌}
use Rattle.sq_bound.specs.declared.expression.BoundExpr.{BoundExpr}
use Rattle.sq_binding.specs.Seen.{numbered_of}
use Rattle.sq_binding.specs.CreateView.{column_shown}
use Rattle.sq_catalog.proofs.CreateView.ViewHeld.{operation_none, operations_alone}
use Rattle.sq_catalog.proofs.view_grants.+column_shown.Goals as goal

pub returns-then-is_empty : goal.returns-then-is_empty
returns-then-is_empty t c =
    c.column_shown.ensures ∙ ap (λ (e : BoundExpr). column_shown (numbered_of e)) c.get.ensures
    ∙ ap column_shown (sym (ap numbered_of c.in-Operations.is ∙ operations_alone c.in-Operations.first c.in-Operations.rest (c.is_empty.ensures.0 c.if-is_empty.true)))

pub returns-else-is_empty : goal.returns-else-is_empty
returns-else-is_empty t c =
    sym (ap (λ (e : BoundExpr). column_shown (numbered_of e)) c.in-Operations.is
    ∙ operation_none c.in-Operations.first c.in-Operations.rest (λ none. let no : true ≡ false = sym (c.is_empty.ensures.1 none) ∙ c.if-is_empty.false in cc))
