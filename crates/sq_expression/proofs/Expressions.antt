-- The value of an expression, part by part.
use Rattle.std.proofs.Common.{◌≡◌, ℕ, zero, suc, ◌+◌, ◌<◌, List, [], ◌∷◌, length, drop, map, get_or, refl, sym, ◌∙◌, ap, subst, Result, Ok, Err}
use Rattle.std.specs.Prelude.{fold, slice_get, slice_index_or}
use Rattle.std.specs.Result.{IsErrAnd}
use Rattle.std.proofs.lemmas.List.{drop_more}
use Rattle.sq_value.specs.declared.value.Value.{Value}
use Rattle.sq_meaning.specs.Status.{Outcome, ◌>>=◌, well_formed}
use Rattle.sq_tree.specs.declared.expr.Sign.{Sign}
use Rattle.sq_meaning.specs.Syntax.{literal, parameter, user, column, signed}
use Rattle.sq_meaning.specs.Environment.{Env, items_in, value_at}
use Rattle.sq_meaning.specs.Expression.{Reading, value, user_value, with_sign}
use Rattle.sq_meaning.specs.Placed.{Placed}
use Rattle.sq_bound.specs.Expression.{PlacedExpr, expr_of, operation_of, operated, missing, place_meant, parameter_meant}
use Rattle.sq_bound.specs.declared.condition.TablePlace.{TablePlace}
use Rattle.sq_bound.specs.declared.expression.Place.{Place}
use Rattle.sq_bound.specs.declared.expression.Input.{Input}
use Rattle.sq_bound.specs.declared.expression.BoundExpr.{BoundExpr}
use Rattle.sq_bound.specs.declared.expression.BoundExpr.TheVariants as bound
use Rattle.sq_bound.specs.declared.expression.Operator.{Operator}
use Rattle.sq_bound.specs.declared.expression.Operator.TheVariants.{Plus, Minus, Times, Over}
use Rattle.sq_bound.specs.declared.expression.Operation.{Operation}
use Rattle.sq_bound.proofs.ExpressionLaws.{expr_of-Literal, expr_of-Parameter, expr_of-User, expr_of-Column, expr_of-SetFunction, expr_of-Signed, expr_of-Operations, operation_of-out}
use Rattle.sq_expression.specs.Arithmetic.{operation}
use Rattle.sq_expression.specs.Fault.{Meets}
use Rattle.sq_expression.specs.declared.fault.Fault.{Fault}
use Rattle.sq_expression.specs.declared.fault.Fault.TheVariants as fault

pub meets_by : {A : Type 0} (r : Result A Fault) (o p : Outcome A) → o ≡ p → Meets r p → Meets r o
meets_by {A} r o p same h = subst (λ (x : Outcome A). Meets r x) (sym same) h

-- `?` hands the fault on
pub handed_on : {A : Type 0} (r : Result A Fault) (f : Fault) (o : Outcome A) → IsErrAnd r (λ g. g ≡ f) → Meets {A = A} (Err f) o → Meets r o
handed_on (Ok v) f o is failed = absurd is
handed_on {A} (Err g) f o is failed = subst (λ (x : Fault). Meets {A = A} (Err x) o) (sym is) failed

-- ---- one level of an expression

level : (m : Reading (Placed TablePlace)) (env : Env (Unit {0})) (functions : List PlacedExpr) (e opened : BoundExpr) (tree : PlacedExpr)
    → e ≡ opened → expr_of functions opened ≡ tree → value m (expr_of functions e) env ≡ value m tree env
level m env functions e opened tree is means = ap (λ (x : BoundExpr). value m (expr_of functions x) env) is ∙ ap (λ (x : PlacedExpr). value m x env) means

pub literal_value : (m : Reading (Placed TablePlace)) (env : Env (Unit {0})) (functions : List PlacedExpr) (e : BoundExpr) (v : Value)
    → e ≡ bound.Literal v → value m (expr_of functions e) env ≡ Ok v
literal_value m env functions e v is = level m env functions e (bound.Literal v) (literal v) is (expr_of-Literal functions v)

pub parameter_value : (m : Reading (Placed TablePlace)) (env : Env (Unit {0})) (functions : List PlacedExpr) (e : BoundExpr) (p : Input)
    → e ≡ bound.Parameter p → value m (expr_of functions e) env ≡ m.input (parameter_meant p) env.inputs
parameter_value m env functions e p is = level m env functions e (bound.Parameter p) (parameter (parameter_meant p)) is (expr_of-Parameter functions p)

pub name_value : (m : Reading (Placed TablePlace)) (env : Env (Unit {0})) (functions : List PlacedExpr) (e : BoundExpr)
    → e ≡ bound.User → value m (expr_of functions e) env ≡ Ok (user_value env.user)
name_value m env functions e is = level m env functions e bound.User user is (expr_of-User functions)

pub placed_column : (m : Reading (Placed TablePlace)) (env : Env (Unit {0})) (functions : List PlacedExpr) (e : BoundExpr) (p : Place)
    → e ≡ bound.Column p → value m (expr_of functions e) env ≡ (m.place (place_meant p) (items_in env) >>= value_at env)
placed_column m env functions e p is = level m env functions e (bound.Column p) (column (place_meant p)) is (expr_of-Column functions p)

-- a set function of the group that isn't there has no value
function_meant : (m : Reading (Placed TablePlace)) (env : Env (Unit {0})) (values : List Value) (n : ℕ)
    → value m (slice_index_or (map literal values) n missing) env ≡ well_formed (slice_get values n)
function_meant m env [] n = refl
function_meant m env (v ∷ values) zero = refl
function_meant m env (v ∷ values) (suc n) = function_meant m env values n

pub group_function : (m : Reading (Placed TablePlace)) (env : Env (Unit {0})) (values : List Value) (e : BoundExpr) (n : ℕ)
    → e ≡ bound.SetFunction n → value m (expr_of (map literal values) e) env ≡ well_formed (slice_get values n)
group_function m env values e n is =
    level m env (map literal values) e (bound.SetFunction n) (slice_index_or (map literal values) n missing) is (expr_of-SetFunction (map literal values) n)
    ∙ function_meant m env values n

pub signed_value : (m : Reading (Placed TablePlace)) (env : Env (Unit {0})) (functions : List PlacedExpr) (e : BoundExpr) (sign : Sign) (operand : BoundExpr)
    → e ≡ bound.Signed sign operand → value m (expr_of functions e) env ≡ (value m (expr_of functions operand) env >>= with_sign sign)
signed_value m env functions e sign operand is = level m env functions e (bound.Signed sign operand) (signed sign (expr_of functions operand)) is (expr_of-Signed functions sign operand)

-- ---- operators from left to right

-- an operator behind an expression
abbrev pub operations : List PlacedExpr → PlacedExpr → List Operation → PlacedExpr
operations functions = fold (λ left o. operation_of functions o left)

operated_value : (m : Reading (Placed TablePlace)) (env : Env (Unit {0})) (operator : Operator) (a b : PlacedExpr)
    → value m (operated operator a b) env ≡ (value m a env >>= λ x. value m b env >>= operation operator x)
operated_value m env Plus a b = refl
operated_value m env Minus a b = refl
operated_value m env Times a b = refl
operated_value m env Over a b = refl

operation_value : (m : Reading (Placed TablePlace)) (env : Env (Unit {0})) (functions : List PlacedExpr) (o : Operation) (left : PlacedExpr)
    → value m (operation_of functions o left) env ≡ (value m left env >>= λ x. value m (expr_of functions o.operand) env >>= operation o.operator x)
operation_value m env functions o left =
    ap (λ (e : PlacedExpr). value m e env) (operation_of-out functions o left) ∙ operated_value m env o.operator left (expr_of functions o.operand)

-- only the value of what stands on the left counts
same_behind : (m : Reading (Placed TablePlace)) (env : Env (Unit {0})) (functions : List PlacedExpr) (a b : PlacedExpr) (os : List Operation)
    → value m a env ≡ value m b env → value m (operations functions a os) env ≡ value m (operations functions b os) env
same_behind m env functions a b [] same = same
same_behind m env functions a b (o ∷ os) same =
    same_behind m env functions (operation_of functions o a) (operation_of functions o b) os
    (operation_value m env functions o a
    ∙ ap (λ (r : Outcome Value). r >>= λ x. value m (expr_of functions o.operand) env >>= operation o.operator x) same
    ∙ sym (operation_value m env functions o b))

-- a status of the first operand is the outcome
stops_behind : (m : Reading (Placed TablePlace)) (env : Env (Unit {0})) (functions : List PlacedExpr) (a : PlacedExpr) (os : List Operation) (f : Fault)
    → Meets {A = Value} (Err f) (value m a env) → Meets {A = Value} (Err f) (value m (operations functions a os) env)
stops_behind m env functions a os fault.NoMemory h = tt
stops_behind m env functions a [] (fault.Status f) h = h
stops_behind m env functions a (o ∷ os) (fault.Status f) h =
    stops_behind m env functions (operation_of functions o a) os (fault.Status f)
    (operation_value m env functions o a
    ∙ ap (λ (r : Outcome Value). r >>= λ x. value m (expr_of functions o.operand) env >>= operation o.operator x) h)

-- the first operator of those that are left
first_left : (m : Reading (Placed TablePlace)) (env : Env (Unit {0})) (functions : List PlacedExpr) (whole : Outcome Value) (left : Value) (os : List Operation) (i : ℕ) (o : Operation)
    → i < length os → o ≡ get_or os i o → whole ≡ value m (operations functions (literal left) (drop i os)) env
    → whole ≡ value m (operations functions (operation_of functions o (literal left)) (drop (i + 1) os)) env
first_left m env functions whole left os i o within is so_far =
    so_far ∙ ap (λ (rest : List Operation). value m (operations functions (literal left) rest) env) (drop_more os i o within ∙ ap (λ (p : Operation). p ∷ drop (i + 1) os) (sym is))

pub operation_done : (m : Reading (Placed TablePlace)) (env : Env (Unit {0})) (functions : List PlacedExpr) (whole : Outcome Value) (left next : Value) (os : List Operation) (i : ℕ) (o : Operation)
    → i < length os → o ≡ get_or os i o → whole ≡ value m (operations functions (literal left) (drop i os)) env
    → (value m (expr_of functions o.operand) env >>= operation o.operator left) ≡ Ok next
    → whole ≡ value m (operations functions (literal next) (drop (i + 1) os)) env
operation_done m env functions whole left next os i o within is so_far done =
    first_left m env functions whole left os i o within is so_far
    ∙ same_behind m env functions (operation_of functions o (literal left)) (literal next) (drop (i + 1) os) (operation_value m env functions o (literal left) ∙ done)

pub operation_failed : (m : Reading (Placed TablePlace)) (env : Env (Unit {0})) (functions : List PlacedExpr) (whole : Outcome Value) (left : Value) (os : List Operation) (i : ℕ) (o : Operation) (f : Fault)
    → i < length os → o ≡ get_or os i o → whole ≡ value m (operations functions (literal left) (drop i os)) env
    → Meets {A = Value} (Err f) (value m (expr_of functions o.operand) env >>= operation o.operator left)
    → Meets {A = Value} (Err f) whole
operation_failed m env functions whole left os i o fault.NoMemory within is so_far failed = tt
operation_failed m env functions whole left os i o (fault.Status f) within is so_far failed =
    first_left m env functions whole left os i o within is so_far
    ∙ stops_behind m env functions (operation_of functions o (literal left)) (drop (i + 1) os) (fault.Status f) (operation_value m env functions o (literal left) ∙ failed)

operations_value : (m : Reading (Placed TablePlace)) (env : Env (Unit {0})) (functions : List PlacedExpr) (e first : BoundExpr) (os : List Operation)
    → e ≡ bound.Operations first os → value m (expr_of functions e) env ≡ value m (operations functions (expr_of functions first) os) env
operations_value m env functions e first os is = level m env functions e (bound.Operations first os) (operations functions (expr_of functions first) os) is (expr_of-Operations functions first os)

pub first_failed : (m : Reading (Placed TablePlace)) (env : Env (Unit {0})) (functions : List PlacedExpr) (e first : BoundExpr) (os : List Operation) (f : Fault)
    → e ≡ bound.Operations first os → Meets {A = Value} (Err f) (value m (expr_of functions first) env) → Meets {A = Value} (Err f) (value m (expr_of functions e) env)
first_failed m env functions e first os f is failed =
    meets_by (Err f) (value m (expr_of functions e) env) (value m (operations functions (expr_of functions first) os) env) (operations_value m env functions e first os is)
    (stops_behind m env functions (expr_of functions first) os f failed)

pub first_done : (m : Reading (Placed TablePlace)) (env : Env (Unit {0})) (functions : List PlacedExpr) (e first : BoundExpr) (os : List Operation) (left : Value)
    → e ≡ bound.Operations first os → value m (expr_of functions first) env ≡ Ok left
    → value m (expr_of functions e) env ≡ value m (operations functions (literal left) os) env
first_done m env functions e first os left is done =
    operations_value m env functions e first os is ∙ same_behind m env functions (expr_of functions first) (literal left) os done
