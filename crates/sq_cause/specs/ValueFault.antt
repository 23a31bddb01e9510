-- What is wrong with a value for a column: its expression ends with a status, or the column can't store it (ISO/IEC 9075:1992, 9.2).
use Rattle.std.specs.Prelude.{◌≡◌, List, [], Ok, Err}
use Rattle.sq_lex.specs.declared.name.Name.{Name}
use Rattle.sq_value.specs.declared.domain.Domain.{Domain}
use Rattle.sq_value.specs.declared.value.Value.{Value}
use Rattle.sq_meaning.specs.Assignment.{assigned}
use Rattle.sq_meaning.specs.Environment.{Line, Row}
use Rattle.sq_meaning.specs.Expression as meaning
use Rattle.sq_meaning.specs.Placed.{by_place}
use Rattle.sq_meaning.specs.Status.{Outcome}
use Rattle.sq_meaning.specs.declared.status.Status.{Status}
use Rattle.sq_bound.specs.Expression.{expr_of}
use Rattle.sq_bound.specs.declared.condition.TablePlace.{TablePlace}
use Rattle.sq_bound.specs.declared.expression.BoundExpr.{BoundExpr}
use Rattle.sq_query.specs.Row.{outside}
use Rattle.sq_cause.specs.declared.cause.ValueFault.{ValueFault}
use Rattle.sq_cause.specs.declared.cause.ValueFault.TheVariants as fault

abbrev pub status_of_value : ValueFault → Status
status_of_value (fault.Ends st) = st
status_of_value (fault.Unfit st) = st

-- what an expression comes to on a line, for this user and with these values of the parameters; it reads no table, so they may be any
abbrev pub ComesTo : Outcome Value → BoundExpr → Line → List Value → Name → Type 0
ComesTo o e line parameters user =
    (tables : TablePlace → Outcome (List Row))
    → meaning.value (by_place tables) (expr_of [] e) (outside line parameters user) ≡ o

-- the expression has this value, and a column of the domain can't store it
pub record IsUnfit (d : Domain) (e : BoundExpr) (line : Line) (parameters : List Value) (user : Name) (st : Status) : Type 0 where
  pub value : Value
  pub comes : ComesTo (Ok value) e line parameters user
  pub unfit : assigned d value ≡ Err st

abbrev pub IsValueFault : Domain → BoundExpr → Line → List Value → Name → ValueFault → Type 0
IsValueFault d e line parameters user (fault.Ends st) = ComesTo (Err st) e line parameters user
IsValueFault d e line parameters user (fault.Unfit st) = IsUnfit d e line parameters user st
