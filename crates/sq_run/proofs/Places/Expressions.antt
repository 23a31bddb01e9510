-- An expression has by its places the value that it has by its names (ISO/IEC 9075:1992, 6.2 to 6.5 and 6.11 to 6.13).
use Rattle.std.proofs.Common.{◌≡◌, Bool, List, [], ◌∷◌, refl, ap, Ok, Err}
use Rattle.std.specs.Prelude.{pos, IfOk}
use Rattle.std.specs.List.{AllZip}
use Rattle.sq_tree.specs.declared.expr.SetFunction.{SetFunction}
use Rattle.sq_value.specs.Arithmetic.{in_range}
use Rattle.sq_value.specs.declared.value.Value.{Value}
use Rattle.sq_meaning.specs.Status.{Outcome, and_then}
use Rattle.sq_meaning.specs.Syntax.{Expr, literal, parameter, user, column, count_rows, set_function, signed, added, scaled, bracketed}
use Rattle.sq_meaning.specs.Environment.{Item, Scope, Env, within, alone}
use Rattle.sq_meaning.specs.Expression.{value, set_functions, over_group, with_sign, sum_of, product_of, function_value, distinct_values, number_outcome, user_value}
use Rattle.sq_meaning.specs.Spelled.{Named}
use Rattle.sq_bound.specs.Expression.{PlacedExpr}
use Rattle.sq_binding.specs.Placed.{placed, placed_column, placed_parameter}
use Rattle.sq_binding.specs.Scope.{FromItem}
use Rattle.sq_binding.specs.Names.{declared}
use Rattle.sq_run.proofs.Places.Outcomes.{append_zip, each_zip, if_one, if_two, same_length}
use Rattle.sq_run.proofs.Places.Parameters.{SameInputs, SameParameter, parameter_same}
use Rattle.sq_run.proofs.Places.Seen.{SameColumn, SeenEnv, SeenLine, SeenScopes, column_same}
use Rattle.sq_run.proofs.Places.Setting.{Setting, at_places, named, scopes_with}

-- wherever the items of the queries around are seen, the values are one
abbrev pub SameValue : Setting → List (List FromItem) → Expr Named → PlacedExpr → Type 0
SameValue s scopes e t = (env : Env Item) (other : Env (Unit {0})) → SeenEnv s.parameters scopes env other
    → value (named s) e env ≡ value (at_places s) t other

-- Expressions in two readings mean the same, and so do the set functions in them, one by one.
pub record SameExpr (s : Setting) (scopes : List (List FromItem)) (e : Expr Named) (t : PlacedExpr) : Type 0 where
  pub value : SameValue s scopes e t
  pub functions : AllZip (SameValue s scopes) (set_functions e) (set_functions t)

-- ---- set functions

count_same : (s : Setting) (scopes : List (List FromItem)) (ss : List (Scope Item)) (ts : List (Scope (Unit {0})))
    (env : Env Item) (other : Env (Unit {0}))
    → SeenScopes scopes ss ts
    → value (named s) count_rows (record env { scopes = ss }) ≡ value (at_places s) count_rows (record other { scopes = ts })
count_same s [] [] [] env other h = refl
count_same s (items ∷ outer) (x ∷ ss) (y ∷ ts) env other h =
    ap (λ n. number_outcome (in_range 0 (pos n))) (same_length (SeenLine items) x.group y.group h.0.group)
count_same s _ _ _ env other h = absurd h

group_same : (s : Setting) (scopes : List (List FromItem)) (e : Expr Named) (t : PlacedExpr) → SameValue s scopes e t
    → (ss : List (Scope Item)) (ts : List (Scope (Unit {0}))) (env : Env Item)
    (other : Env (Unit {0})) → SeenScopes scopes ss ts → SameInputs s.parameters env.inputs other.inputs → env.user ≡ other.user
    → over_group (record env { scopes = ss }) (value (named s) e) ≡ over_group (record other { scopes = ts }) (value (at_places s) t)
group_same s [] e t same [] [] env other h inputs by_user = refl
group_same s (items ∷ outer) e t same (x ∷ ss) (y ∷ ts) env other h inputs by_user =
    each_zip (SeenLine items)
    (λ line. value (named s) e (within (alone x.items line) (record env { scopes = ss })))
    (λ line. value (at_places s) t (within (alone y.items line) (record other { scopes = ts })))
    (λ line row seen. same (within (alone x.items line) (record env { scopes = ss })) (within (alone y.items row) (record other { scopes = ts }))
    (record { scopes_are = (record { items_are = h.0.items_are; line = seen; group = tt }, h.1); inputs_are = inputs; user_is = by_user }))
    x.group y.group h.0.group
group_same s _ e t same _ _ env other h inputs by_user = absurd h

function_same : (s : Setting) (scopes : List (List FromItem)) (f : SetFunction) (distinct : Bool) (e : Expr Named)
    (t : PlacedExpr)
    → SameValue s scopes e t
    → SameValue s scopes (set_function f distinct e) (set_function f distinct t)
function_same s scopes f distinct e t same env other h =
    ap (λ (o : Outcome (List Value)). and_then o (λ values. function_value f (distinct_values distinct values)))
    (group_same s scopes e t same env.scopes other.scopes env other h.scopes_are h.inputs_are h.user_is)

-- ---- expressions

-- Brackets change nothing; all else stays as it is, with columns and parameters placed.
pub expr_same : (s : Setting) (scopes : List (List FromItem)) (e : Expr Named)
    → IfOk (placed (scopes_with scopes) (declared s.parameters) e) (SameExpr s scopes e)
expr_same s scopes (literal v) = record { value = λ env other h. refl; functions = tt }
expr_same s scopes (parameter p) =
    if_one (placed_parameter (declared s.parameters) p) (λ q. parameter q) (SameParameter s.parameters p) (SameExpr s scopes (parameter p))
    (parameter_same s.parameters p)
    (λ q same. record { value = λ env other h. same env.inputs other.inputs h.inputs_are; functions = tt })
expr_same s scopes user = record { value = λ env other h. ap (λ name. Ok (user_value name)) h.user_is; functions = tt }
expr_same s scopes (column c) =
    if_one (placed_column (scopes_with scopes) c) (λ p. column p) (SameColumn scopes c) (SameExpr s scopes (column c)) (column_same scopes c)
    (λ p same. record { value = λ env other h. same env other h.scopes_are; functions = tt })
expr_same s scopes count_rows =
    let same : SameValue s scopes count_rows count_rows
    = λ env other h. count_same s scopes env.scopes other.scopes env other h.scopes_are in
    record { value = same; functions = (same, tt) }
expr_same s scopes (set_function f distinct e) =
    if_one (placed (scopes_with scopes) (declared s.parameters) e) (λ x. set_function f distinct x) (SameExpr s scopes e)
    (SameExpr s scopes (set_function f distinct e)) (expr_same s scopes e)
    (λ x same. record { value = function_same s scopes f distinct e x same.value; functions = (function_same s scopes f distinct e x same.value, tt) })
expr_same s scopes (signed sign e) =
    if_one (placed (scopes_with scopes) (declared s.parameters) e) (λ x. signed sign x) (SameExpr s scopes e) (SameExpr s scopes (signed sign e))
    (expr_same s scopes e)
    (λ x same. record { value = λ env other h. (λ i. and_then (same.value env other h i) (with_sign sign)); functions = same.functions })
expr_same s scopes (added sign a b) =
    if_two (placed (scopes_with scopes) (declared s.parameters) a) (placed (scopes_with scopes) (declared s.parameters) b) (λ x y. added sign x y) (SameExpr s scopes a)
    (SameExpr s scopes b) (SameExpr s scopes (added sign a b)) (expr_same s scopes a) (expr_same s scopes b)
    (λ x y left right. record {
      value = λ env other h. (λ i. and_then (left.value env other h i) (λ v. and_then (right.value env other h i) (λ w. sum_of sign v w)));
      functions = append_zip (SameValue s scopes) (set_functions a) (set_functions b) (set_functions x) (set_functions y) left.functions right.functions;
    })
expr_same s scopes (scaled sign a b) =
    if_two (placed (scopes_with scopes) (declared s.parameters) a) (placed (scopes_with scopes) (declared s.parameters) b) (λ x y. scaled sign x y) (SameExpr s scopes a)
    (SameExpr s scopes b) (SameExpr s scopes (scaled sign a b)) (expr_same s scopes a) (expr_same s scopes b)
    (λ x y left right. record {
      value = λ env other h. (λ i. and_then (left.value env other h i) (λ v. and_then (right.value env other h i) (λ w. product_of sign v w)));
      functions = append_zip (SameValue s scopes) (set_functions a) (set_functions b) (set_functions x) (set_functions y) left.functions right.functions;
    })
expr_same s scopes (bracketed e) =
    if_bracketed (placed (scopes_with scopes) (declared s.parameters) e) (expr_same s scopes e)
  where
    if_bracketed : (o : Outcome PlacedExpr) → IfOk o (SameExpr s scopes e) → IfOk o (SameExpr s scopes (bracketed e))
    if_bracketed (Ok x) same = record { value = same.value; functions = same.functions }
    if_bracketed (Err status) same = tt
