-- An expression without an operation, whose set functions have these trees: it is a column as it was without them, and what holds of each leaf
-- and goes through a sign holds of it.
use Rattle.std.proofs.Common.{◌≡◌, ◌∙◌, ℕ, true, false, List, [], ◌∷◌, Some, None, map, refl, sym, ap, subst}
use Rattle.std.specs.Prelude.{fold, slice_index_or}
use Rattle.std.proofs.lemmas.Bool.{false≢true}
use Rattle.sq_value.specs.declared.value.Value.{Value}
use Rattle.sq_tree.specs.declared.expr.Sign.{Sign}
use Rattle.sq_meaning.specs.Environment.{Place}
use Rattle.sq_meaning.specs.Placed.{PlacedParameter}
use Rattle.sq_meaning.specs.Quiet.{is_quiet_expr}
use Rattle.sq_meaning.specs.Syntax.{column, literal, parameter, signed, user}
use Rattle.sq_bound.specs.Expression.{PlacedExpr, expr_of, missing, operated, operation_of}
use Rattle.sq_bound.specs.Keyed.{own_column}
use Rattle.sq_bound.specs.declared.expression.BoundExpr.{BoundExpr, BoundExpr-F, fold-roll-BoundExpr, ind-BoundExpr, map-BoundExpr, roll-BoundExpr}
use Rattle.sq_bound.specs.declared.expression.BoundExpr.TheOpen as layer
use Rattle.sq_bound.specs.declared.expression.Operation.{Operation, Operation-F, fold-roll-Operation, map-Operation, roll-Operation}
use Rattle.sq_bound.specs.declared.expression.Operator.{Operator}
use Rattle.sq_bound.specs.declared.expression.Operator.TheVariants.{Minus, Over, Plus, Times}

-- neither quiet nor a column
abbrev IsOperated : PlacedExpr → Type 0
IsOperated e = (is_quiet_expr e ≡ false) × (own_column e ≡ None)

is_operated : (o : Operator) (a b : PlacedExpr) → IsOperated (operated o a b)
is_operated Plus a b = (refl, refl)
is_operated Minus a b = (refl, refl)
is_operated Times a b = (refl, refl)
is_operated Over a b = (refl, refl)

module _ (functions : List PlacedExpr) (L : PlacedExpr → Type 0) (literals : (v : Value) → L (literal v)) (parameters : (p : PlacedParameter) → L (parameter p)) (users : L user) (columns : (p : Place) → L (column p))
    (set_functions : (n : ℕ) → L (slice_index_or functions n missing)) (signs : (sign : Sign) (e : PlacedExpr) → L e → L (signed sign e)) where
  -- of the tree without set functions, and of that with these
  record IsLeaf (bare full : PlacedExpr) : Type 0 where
    is_column : (c : ℕ) → own_column bare ≡ Some c → full ≡ bare
    holds : is_quiet_expr bare ≡ true → L full

  abbrev IsSeen : BoundExpr → Type 0
  IsSeen e = IsLeaf (expr_of [] e) (expr_of functions e)

  abbrev GoesOn : Operation → Type 0
  GoesOn o = (a : PlacedExpr) → IsOperated (operation_of [] o a)

  abbrev E : Type 0
  E = (e : BoundExpr) × IsSeen e

  abbrev O : Type 0
  O = (o : Operation) × GoesOn o

  seen-is : (a b c d : PlacedExpr) → a ≡ c → b ≡ d → IsLeaf c d → IsLeaf a b
  seen-is a b c d p q h = subst (λ x. IsLeaf x b) (sym p) (subst (IsLeaf c) (sym q) h)

  alone : (e : PlacedExpr) → L e → IsLeaf e e
  alone e h = record { is_column = λ c is. refl; holds = λ quiet. h }

  after_operation : (os : List O) (a : PlacedExpr) → IsOperated a → IsOperated (fold (λ left operation. operation left) a (map (operation_of []) (map (λ e. e.0) os)))
  after_operation [] a h = h
  after_operation (o ∷ os) a h = after_operation os (operation_of [] o.0 a) (o.1 a)

  operations_seen : (os : List O) (a b : PlacedExpr) → IsLeaf a b
      → IsLeaf (fold (λ left operation. operation left) a (map (operation_of []) (map (λ e. e.0) os))) (fold (λ left operation. operation left) b (map (operation_of functions) (map (λ e. e.0) os)))
  operations_seen [] a b h = h
  operations_seen (o ∷ os) a b h =
      let operated_so = after_operation os (operation_of [] o.0 a) (o.1 a) in record {
        is_column = λ c is. let none : Some c ≡ None = sym is ∙ operated_so.1 in cc;
        holds = λ quiet. absurd (false≢true (sym operated_so.0 ∙ quiet));
      }

  expr_step : (y : BoundExpr-F E O) → IsSeen (roll-BoundExpr (map-BoundExpr E O BoundExpr Operation (λ e. e.0) (λ e. e.0) y))
  unfolding expr_of operation_of
  expr_step (layer.Literal v) = seen-is _ _ _ _ (fold-roll-BoundExpr _ _ _ _ _) (fold-roll-BoundExpr _ _ _ _ _) (alone (literal v) (literals v))
  expr_step (layer.Parameter p) = seen-is _ _ _ _ (fold-roll-BoundExpr _ _ _ _ _) (fold-roll-BoundExpr _ _ _ _ _) (record { is_column = λ c is. refl; holds = λ quiet. parameters _ })
  expr_step layer.User = seen-is _ _ _ _ (fold-roll-BoundExpr _ _ _ _ _) (fold-roll-BoundExpr _ _ _ _ _) (alone user users)
  expr_step (layer.Column p) = seen-is _ _ _ _ (fold-roll-BoundExpr _ _ _ _ _) (fold-roll-BoundExpr _ _ _ _ _) (record { is_column = λ c is. refl; holds = λ quiet. columns _ })
  expr_step (layer.SetFunction n) =
      seen-is _ _ _ _ (fold-roll-BoundExpr _ _ _ _ _) (fold-roll-BoundExpr _ _ _ _ _) (record { is_column = λ c is. let no : None ≡ Some c = is in cc; holds = λ quiet. set_functions n })
  expr_step (layer.Signed sign e) =
      seen-is _ _ _ _ (fold-roll-BoundExpr _ _ _ _ _) (fold-roll-BoundExpr _ _ _ _ _)
      (record { is_column = λ c is. let no : None ≡ Some c = is in cc; holds = λ quiet. signs sign (expr_of functions e.0) (e.1.holds quiet) })
  expr_step (layer.Operations first rest) =
      seen-is _ _ _ _ (fold-roll-BoundExpr _ _ _ _ _) (fold-roll-BoundExpr _ _ _ _ _) (operations_seen rest (expr_of [] first.0) (expr_of functions first.0) first.1)

  operation_step : (y : Operation-F E O) → GoesOn (roll-Operation (map-Operation E O BoundExpr Operation (λ e. e.0) (λ e. e.0) y))
  unfolding expr_of operation_of
  operation_step y a =
      subst IsOperated (sym (ap (λ (f : PlacedExpr → PlacedExpr). f a) (fold-roll-Operation _ _ _ _ _))) (is_operated y.operator a (expr_of [] y.operand.0))

  seen : (e : BoundExpr) → IsSeen e
  seen e = ind-BoundExpr IsSeen GoesOn
      (λ x y is. subst (λ z. IsSeen (roll-BoundExpr z)) is (expr_step y))
      (λ x y is. subst (λ z. GoesOn (roll-Operation z)) is (operation_step y))
      e

  pub quiet_holds : (e : BoundExpr) → is_quiet_expr (expr_of [] e) ≡ true → L (expr_of functions e)
  quiet_holds e quiet = (seen e).holds quiet

  pub column_stays : (e : BoundExpr) (c : ℕ) → own_column (expr_of [] e) ≡ Some c → expr_of functions e ≡ expr_of [] e
  column_stays e c is = (seen e).is_column c is
