-- What is around a query specification, and which expressions have one value on all its lines for that reason (ISO/IEC 9075:1992, 6.2, 6.4
-- and 7.11; own rule).
use Rattle.std.specs.Prelude.{⊤, ◌≡◌, false, List, [], ◌∷◌, Result, Ok}
use Rattle.std.specs.List.{AllZip}
use Rattle.sq_lex.specs.declared.name.Name.{Name}
use Rattle.sq_value.specs.SetFunctions.{is_null}
use Rattle.sq_value.specs.declared.domain.Kind.{Kind}
use Rattle.sq_value.specs.declared.value.Value.{Value}
use Rattle.sq_meaning.specs.Environment.{Env, Line, Row, Scope, alone}
use Rattle.sq_meaning.specs.Expression as meaning
use Rattle.sq_meaning.specs.Placed.{by_place}
use Rattle.sq_meaning.specs.Status.{Outcome}
use Rattle.sq_meaning.specs.WellFormed.{HasRowsOf, IsDeclaredAt, kinds_by_place}
use Rattle.sq_bound.specs.Expression.{expr_of}
use Rattle.sq_bound.specs.WellFormed.{Levels, TableKinds}
use Rattle.sq_bound.specs.declared.condition.TablePlace.{TablePlace}
use Rattle.sq_bound.specs.declared.expression.BoundExpr.{BoundExpr}
use Rattle.sq_expression.specs.Fault.{Meets}
use Rattle.sq_expression.specs.declared.fault.Fault.{Fault}
use Rattle.sq_expression.specs.Frame.{inputs_of, scopes_beyond}
use Rattle.sq_query.specs.declared.around.Around.{Around}
use Rattle.sq_query.specs.declared.around.Standing.{Standing}
use Rattle.sq_query.specs.declared.around.Standing.TheVariants.{OnNoLine, OnSomeLine, Within}

-- these are the scopes around it, if the known ones are these
abbrev pub IsStanding : Standing → List (Scope (Unit {0})) → List (Scope (Unit {0})) → Type 0
IsStanding Within known scopes = scopes ≡ known
IsStanding OnSomeLine known scopes = ⊤
IsStanding OnNoLine known scopes = ⊥

abbrev pub IsAround : Around → List (Scope (Unit {0})) → Type 0
IsAround a = IsStanding a.standing (scopes_beyond a.lines)

-- that is around the groups of a query specification, if this is around it
abbrev pub IsAroundGroups : Around → Around → Type 0
IsAroundGroups a groups =
    (scopes : List (Scope (Unit {0}))) (group : Scope (Unit {0})) → IsAround a scopes
    → IsAround groups (group ∷ scopes)

-- scopes have the rows of these levels
abbrev pub AreRowsAround : TableKinds → List Kind → Levels → List (Scope (Unit {0})) → Type 0
AreRowsAround columns parameters levels scopes =
    (now : TablePlace → Outcome (List Row))
    → AllZip (HasRowsOf (by_place now) (kinds_by_place columns parameters) (IsDeclaredAt parameters)) levels
    scopes

-- a line is seen within them, in a call by this user with these values of parameters
abbrev pub beneath : List (Scope (Unit {0})) → Line → List Value → Name → Env (Unit {0})
beneath scopes line parameters user =
    record { scopes = alone [] line ∷ scopes; inputs = inputs_of parameters; user = user }

-- whatever line it is, an expression has this value there, not null
abbrev pub IsSameAround : Around → List Value → Name → BoundExpr → Value → Type 0
IsSameAround a parameters user e v =
    ((tables : TablePlace → Outcome (List Row)) (scopes : List (Scope (Unit {0}))) (line : Line)
    → IsAround a scopes
    → meaning.value (by_place tables) (expr_of [] e) (beneath scopes line parameters user) ≡ Ok v)
    × (is_null v ≡ false)

-- it has it within these scopes, on no line
abbrev pub IsSameBeneath : List (Scope (Unit {0})) → List Value → Name → BoundExpr → Value → Type 0
IsSameBeneath scopes parameters user e v =
    ((tables : TablePlace → Outcome (List Row))
    → meaning.value (by_place tables) (expr_of [] e) (beneath scopes [] parameters user) ≡ Ok v)
    × (is_null v ≡ false)

-- the value that it has there, or the status that it ends with
abbrev pub HasValueBeneath : Result Value Fault → BoundExpr → List (Scope (Unit {0})) → List Value → Name
    → Type 0
HasValueBeneath result e scopes parameters user =
    (tables : TablePlace → Outcome (List Row))
    → Meets result (meaning.value (by_place tables) (expr_of [] e) (beneath scopes [] parameters user))
