-- Bound expressions with a further operation after them.
use Rattle.std.proofs.Common.{◌≡◌, List, [], ◌∷◌, ◌++◌, refl, ap, sym, ◌∙◌}
use Rattle.std.specs.Prelude.{fold}
use Rattle.sq_bound.specs.declared.expression.BoundExpr.{BoundExpr}
use Rattle.sq_bound.specs.declared.expression.BoundExpr.TheVariants as bound
use Rattle.sq_bound.specs.declared.expression.Operation.{Operation}
use Rattle.sq_bound.specs.declared.expression.Operator.{Operator}
use Rattle.sq_binding.specs.Numbered.{Numbered}
use Rattle.sq_binding.specs.Seen.{numbered_of, operation_of}
use Rattle.sq_binder.proofs.Expressions.Images.{numbered_of-Operations, operation_of-out}

fold_behind : {A B : Type 0} (f : A → B → A) (a : A) (bs : List B) (b : B) → fold f a (bs ++ b ∷ []) ≡ f (fold f a bs) b
fold_behind f a [] b = refl
fold_behind f a (c ∷ cs) b = fold_behind f (f a c) cs b

-- behind others
pub operation_behind : (left first : BoundExpr) (rest more : List Operation) (operator : Operator) (operand : BoundExpr) → left ≡ bound.Operations first rest → more ≡ rest ++ record { operator = operator; operand = operand } ∷ []
    → numbered_of (bound.Operations first more) ≡ Numbered.operation operator (numbered_of left) (numbered_of operand)
operation_behind left first rest more operator operand is e =
    let step = λ (l : Numbered) (p : Operation). operation_of p l in
    numbered_of-Operations first more ∙ ap (fold step (numbered_of first)) e ∙ fold_behind step (numbered_of first) rest (record { operator = operator; operand = operand })
    ∙ operation_of-out (record { operator = operator; operand = operand }) (fold step (numbered_of first) rest)
    ∙ ap (λ l. Numbered.operation operator l (numbered_of operand)) (sym (ap numbered_of is ∙ numbered_of-Operations first rest))

-- the first one
pub operation_first : (left first : BoundExpr) (rest : List Operation) (o : Operation) → first ≡ left → rest ≡ [] ++ o ∷ []
    → numbered_of (bound.Operations first rest) ≡ Numbered.operation o.operator (numbered_of left) (numbered_of o.operand)
operation_first left first rest o is e =
    numbered_of-Operations first rest ∙ ap (fold (λ (l : Numbered) (p : Operation). operation_of p l) (numbered_of first)) e
    ∙ operation_of-out o (numbered_of first) ∙ ap (λ x. Numbered.operation o.operator (numbered_of x) (numbered_of o.operand)) is
