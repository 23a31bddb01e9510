-- Expressions and conditions on one row (ISO/IEC 9075:1992, 11.9 and 13.8).
use Rattle.std.specs.Prelude.{◌≡◌, ℕ, false, List, [], ◌∷◌, Option, Some, None, Result}
use Rattle.sq_lex.specs.declared.name.Name.{Name}
use Rattle.sq_value.specs.declared.domain.Kind.{Kind}
use Rattle.sq_value.specs.declared.truth.Truth.{Truth}
use Rattle.sq_value.specs.declared.value.Value.{Value}
use Rattle.sq_meaning.specs.Status.{Outcome}
use Rattle.sq_meaning.specs.Environment.{Row, Line, Env, alone, outermost, within}
use Rattle.sq_meaning.specs.Expression as meaning
use Rattle.sq_meaning.specs.Placed.{by_place}
use Rattle.sq_meaning.specs.Query.{truth}
use Rattle.sq_meaning.specs.Target.{has_subquery}
use Rattle.sq_meaning.specs.WellFormed.{Has, IsRowOf}
use Rattle.sq_bound.specs.Condition.{cond_of}
use Rattle.sq_bound.specs.Expression.{expr_of}
use Rattle.sq_bound.specs.WellFormed.{TableKinds, IsCond, of_base_at}
use Rattle.sq_bound.specs.declared.condition.BoundCond.{BoundCond}
use Rattle.sq_bound.specs.declared.condition.TablePlace.{TablePlace}
use Rattle.sq_bound.specs.declared.condition.TablePlace.TheVariants.{Base}
use Rattle.sq_bound.specs.declared.expression.BoundExpr.{BoundExpr}
use Rattle.sq_expression.specs.Fault.{Meets}
use Rattle.sq_expression.specs.Frame.{inputs_of}
use Rattle.sq_expression.specs.declared.fault.Fault.{Fault}

-- where a line is seen outside every query, in a call by this user with these values of parameters
abbrev pub outside : Line → List Value → Name → Env (Unit {0})
outside line parameters user = within (alone [] line) (outermost (inputs_of parameters) user)

-- the line of one row, or of none
abbrev pub line_of : Option Row → Line
line_of None = []
line_of (Some row) = row ∷ []

-- the value of an expression on a line, or the status that it ends with; it reads no table, so they may be any
abbrev pub HasValueOn : Result Value Fault → BoundExpr → Line → List Value → Name → Type 0
HasValueOn result e line parameters user =
    (tables : TablePlace → Outcome (List Row))
    → Meets result (meaning.value (by_place tables) (expr_of [] e) (outside line parameters user))

-- a condition without a subquery: the result is its truth on a line, or the status that it ends with
abbrev pub HasTruthOn : Result Truth Fault → BoundCond → Line → List Value → Name → Type 0
HasTruthOn result c line parameters user =
    has_subquery (cond_of [] c) ≡ false
    → (tables : TablePlace → Outcome (List Row))
    → Meets result (truth (by_place tables) (cond_of [] c) (outside line parameters user))

-- the truth of a condition on a row, where the tables have these rows
abbrev pub truth_on_row : (TablePlace → Outcome (List Row)) → List Value → Name → Row → BoundCond
    → Outcome Truth
truth_on_row tables parameters user row c =
    truth (by_place tables) (cond_of [] c) (outside (row ∷ []) parameters user)

-- a well-formed condition on a row of a base table, which has values of the kinds of the table's columns
pub record IsOnRow (columns : TableKinds) (parameters : List Kind) (row : Row) (c : BoundCond) : Type 0 where
  pub place : ℕ
  pub well : IsCond columns parameters (of_base_at place) [] c
  pub fits : Has (λ kinds. IsRowOf kinds row) (columns (Base place))
