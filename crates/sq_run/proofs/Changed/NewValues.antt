-- A new value is the same by its places and by its names (ISO/IEC 9075:1992, 9.2, 13.8 to 13.10). A value of INSERT stands in no query,
-- so it has no column and no set function, and is the same in all scopes.
use Rattle.std.proofs.Common.{◌≡◌, List, [], ◌∷◌, ◌++◌, refl, ap, Ok}
use Rattle.std.specs.Prelude.{⊤, IfOk}
use Rattle.sq_value.specs.declared.domain.Domain.{Domain}
use Rattle.sq_value.specs.declared.value.Value.TheVariants as constant
use Rattle.sq_tree.specs.declared.statement.NewValue.{NewValue}
use Rattle.sq_tree.specs.declared.statement.NewValue.TheVariants as new_value
use Rattle.sq_meaning.specs.Assignment.{assigned}
use Rattle.sq_meaning.specs.Environment.{Env, Item, Line}
use Rattle.sq_meaning.specs.Expression.{product_of, set_functions, sum_of, user_value, value, with_sign}
use Rattle.sq_meaning.specs.Spelled.{Named, expr_of}
use Rattle.sq_meaning.specs.Status.{Outcome, and_then}
use Rattle.sq_meaning.specs.Syntax.{Expr, literal, parameter, user, column, count_rows, set_function, signed, added, scaled, bracketed}
use Rattle.sq_meaning.specs.Change as by_name
use Rattle.sq_meaning.specs.Change.{outer_env, stored_value}
use Rattle.sq_bound.specs.Expression as bound
use Rattle.sq_bound.specs.Expression.{PlacedExpr}
use Rattle.sq_bound.specs.Known.{KnownTables}
use Rattle.sq_bound.specs.declared.condition.BoundSpecification.{BoundSpecification}
use Rattle.sq_bound.specs.declared.expression.BoundExpr.{BoundExpr}
use Rattle.sq_bound.specs.declared.names.ParameterDesc.{ParameterDesc}
use Rattle.sq_binding.specs.Placed.{placed, placed_parameter}
use Rattle.sq_binding.specs.Scope.{FromItem}
use Rattle.sq_binding.specs.Names.{declared}
use Rattle.sq_binding.specs.Written.{value_placed}
use Rattle.sq_query.specs.Row.{outside}
use Rattle.sq_change.specs.Made.{Shown, value_stored}
use Rattle.sq_run.proofs.Places.Expressions.{SameExpr, expr_same}
use Rattle.sq_run.proofs.Places.Outcomes.{if_one, if_two, known_of}
use Rattle.sq_run.proofs.Places.Parameters.{AreNamed, SameInputs, SameParameter, parameter_same}
use Rattle.sq_run.proofs.Places.Seen.{SeenEnv}
use Rattle.sq_run.proofs.Places.Setting.{Setting, around, at_places, named, scopes_with}
use Rattle.sq_run.proofs.Changed.Statements.{call_seen, read_in, seen_in}

-- ---- expressions outside every query

-- whatever scopes there are
abbrev pub SameAnywhere : Setting → Expr Named → PlacedExpr → Type 0
SameAnywhere s e t =
    (env : Env Item) (other : Env (Unit {0})) → SameInputs s.parameters env.inputs other.inputs → env.user ≡ other.user → value
    (named s) e env ≡ value (at_places s) t other

none_of_some : {A : Type 0} (x : A) (xs : List A) → x ∷ xs ≡ [] → ⊥
none_of_some x xs e = cc

none_of_both : {A : Type 0} (xs ys : List A) → xs ++ ys ≡ [] → (xs ≡ []) × (ys ≡ [])
none_of_both [] ys e = (refl, e)
none_of_both (x ∷ xs) ys e = absurd (none_of_some x (xs ++ ys) e)

pub outer_value_same : (s : Setting) (e : Expr Named) → set_functions e ≡ [] → IfOk (placed [] (declared s.parameters) e) (SameAnywhere s e)
outer_value_same s (literal v) none = λ env other inputs by_user. refl
outer_value_same s (parameter p) none =
    if_one (placed_parameter (declared s.parameters) p) (λ q. parameter q) (SameParameter s.parameters p) (SameAnywhere s (parameter p))
    (parameter_same s.parameters p)
    (λ q same env other inputs by_user. same env.inputs other.inputs inputs)
outer_value_same s user none = λ env other inputs by_user. ap (λ name. Ok (user_value name)) by_user
outer_value_same s (column c) none = tt
outer_value_same s count_rows none = absurd (none_of_some count_rows [] none)
outer_value_same s (set_function f distinct e) none = absurd (none_of_some (set_function f distinct e) [] none)
outer_value_same s (signed sign e) none =
    if_one (placed [] (declared s.parameters) e) (λ x. signed sign x) (SameAnywhere s e) (SameAnywhere s (signed sign e))
    (outer_value_same s e none)
    (λ x same env other inputs by_user. (λ i. and_then (same env other inputs by_user i) (with_sign sign)))
outer_value_same s (added sign a b) none =
    let parts = none_of_both (set_functions a) (set_functions b) none in
    if_two (placed [] (declared s.parameters) a) (placed [] (declared s.parameters) b) (λ x y. added sign x y) (SameAnywhere s a) (SameAnywhere s b)
    (SameAnywhere s (added sign a b))
    (outer_value_same s a parts.0) (outer_value_same s b parts.1)
    (λ x y left right env other inputs by_user. (λ i. and_then (left env other inputs by_user i) (λ v. and_then (right env other inputs by_user i) (λ w. sum_of sign v w))))
outer_value_same s (scaled sign a b) none =
    let parts = none_of_both (set_functions a) (set_functions b) none in
    if_two (placed [] (declared s.parameters) a) (placed [] (declared s.parameters) b) (λ x y. scaled sign x y) (SameAnywhere s a) (SameAnywhere s b)
    (SameAnywhere s (scaled sign a b))
    (outer_value_same s a parts.0) (outer_value_same s b parts.1)
    (λ x y left right env other inputs by_user. (λ i. and_then (left env other inputs by_user i) (λ v. and_then (right env other inputs by_user i) (λ w. product_of sign v w))))
outer_value_same s (bracketed e) none = outer_value_same s e none

-- ---- new values

-- a new value has no set function, as it stands in no query (6.5)
abbrev pub HasNoFunction : NewValue → Type 0
HasNoFunction (new_value.Expr e) = set_functions (expr_of e) ≡ []
HasNoFunction new_value.Null = ⊤

-- what a new value becomes is bound
abbrev pub NewValueIs : Setting → List (List FromItem) → NewValue → BoundExpr → Type 0
NewValueIs s scopes v b = value_placed (around s scopes) v ≡ Ok (bound.expr_of [] b)

-- a null is stored as it is
null_stored : (s : Setting) (scopes : List (List FromItem)) (b : BoundExpr) (d : Domain) (other : Env (Unit {0}))
    → NewValueIs s scopes new_value.Null b
    → assigned d constant.Null ≡ and_then (value (at_places s) (bound.expr_of [] b) other) (assigned d)
null_stored s scopes b d other h =
    ap (λ (o : Outcome PlacedExpr). and_then o (λ t. and_then (value (at_places s) t other) (assigned d))) h

module _ (m : by_name.Setting) (queries : List BoundSpecification) (known : KnownTables) (shown : Shown)
    (parameters : List ParameterDesc) (names : AreNamed parameters m.inputs) where
  -- a value of INSERT (13.8)
  pub inserted_value_same : (d : Domain) (v : NewValue) (b : BoundExpr) (line : Line) → HasNoFunction v
      → NewValueIs (read_in m known shown parameters) [] v b
      → stored_value m (outer_env m) d v ≡ value_stored shown (seen_in m queries) line d b
  inserted_value_same d (new_value.Expr e) b line none h =
      let s = read_in m known shown parameters in
      let values = (seen_in m queries).values in
      ap (λ o. and_then o (assigned d))
      (known_of (placed [] (declared parameters) (expr_of e)) (SameAnywhere s (expr_of e)) (bound.expr_of [] b) (outer_value_same s (expr_of e) none) h
      (outer_env m) (outside line values m.user) (call_seen m parameters names).inputs_are refl)
  inserted_value_same d new_value.Null b line none h =
      null_stored (read_in m known shown parameters) [] b d (outside line (seen_in m queries).values m.user) h

  -- a value of UPDATE, where the row of the base table is seen (13.9, 13.10)
  pub set_value_same : (scopes : List (List FromItem)) (d : Domain) (v : NewValue) (b : BoundExpr) (env : Env Item) (line : Line)
      → SeenEnv parameters scopes env (outside line (seen_in m queries).values m.user)
      → NewValueIs (read_in m known shown parameters) scopes v b
      → stored_value m env d v ≡ value_stored shown (seen_in m queries) line d b
  set_value_same scopes d (new_value.Expr e) b env line seen h =
      let s = read_in m known shown parameters in
      let same : SameExpr s scopes (expr_of e) (bound.expr_of [] b)
      = known_of (placed (scopes_with scopes) (declared parameters) (expr_of e)) (SameExpr s scopes (expr_of e)) (bound.expr_of [] b)
      (expr_same s scopes (expr_of e)) h in
      ap (λ o. and_then o (assigned d)) (same.value env (outside line (seen_in m queries).values m.user) seen)
  set_value_same scopes d new_value.Null b env line seen h =
      null_stored (read_in m known shown parameters) scopes b d (outside line (seen_in m queries).values m.user) h
