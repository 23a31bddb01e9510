-- The truth of a condition that is never a fault: if the condition is well formed, it has one.
use Rattle.std.proofs.Common.{◌≡◌, inl, inr, Bool, true, false, ◌&&◌, ◌||◌, List, [], ◌∷◌, refl, subst}
use Rattle.std.specs.Prelude.{⊤}
use Rattle.std.specs.List.{list_all}
pub use Rattle.sq_value.proofs.Truths.{both_left, both_right}
use Rattle.sq_meaning.specs.Status.{Outcome}
use Rattle.sq_meaning.specs.Syntax.{Naming, Expr, literal, parameter, user, column, count_rows, set_function, signed, added, scaled, bracketed, Cond, Conds, compare, compare_subquery, compare_quantified, between, in_subquery, in_list, like, is_null, exists, negated, conjunction, disjunction, no_cond, a_cond}
use Rattle.sq_meaning.specs.Environment.{Row, Env}
use Rattle.sq_meaning.specs.Kind.{Kinds}
use Rattle.sq_meaning.specs.Placed.{Placed, PlacedParameter, by_place}
use Rattle.sq_meaning.specs.Query.{truth}
use Rattle.sq_meaning.specs.Quiet.{has_no_escape, is_quiet, are_quiet, is_quiet_expr}
use Rattle.sq_meaning.specs.Sure.{IsSureOutcome, is_sure, are_sure, is_sure_expr}
use Rattle.sq_meaning.specs.Target.{has_subquery, have_subquery}
use Rattle.sq_meaning.specs.WellFormed.{Answers, HasValue, Level, Agrees, WellFormedCond, IsEnvOf}
use Rattle.sq_meaning.proofs.QueryKinds.{truth_of_kinds}
use Rattle.sq_meaning.proofs.SureLaws.{sure_truth}

-- ---- what is quiet is sure

expr_sure : {N : Naming} (e : Expr N) → is_quiet_expr e ≡ true → is_sure_expr e ≡ true
expr_sure (literal v) h = refl
expr_sure (parameter p) h = refl
expr_sure user h = refl
expr_sure (column c) h = refl
expr_sure count_rows h = h
expr_sure (set_function function distinct e) h = absurd cc
expr_sure (signed sign e) h = expr_sure e h
expr_sure (added sign a b) h = h
expr_sure (scaled sign a b) h = h
expr_sure (bracketed e) h = expr_sure e h

two_sure : {N : Naming} (a b : Expr N) → (is_quiet_expr a && is_quiet_expr b) ≡ true → (is_sure_expr a && is_sure_expr b) ≡ true
two_sure a b h = (λ i. expr_sure a (both_left (is_quiet_expr a) (is_quiet_expr b) h) i && expr_sure b (both_right (is_quiet_expr a) (is_quiet_expr b) h) i)

exprs_sure : {N : Naming} (es : List (Expr N)) → list_all is_quiet_expr es ≡ true → list_all is_sure_expr es ≡ true
exprs_sure [] h = refl
exprs_sure (e ∷ es) h = (λ i. expr_sure e (both_left (is_quiet_expr e) (list_all is_quiet_expr es) h) i && exprs_sure es (both_right (is_quiet_expr e) (list_all is_quiet_expr es) h) i)

module _ {N : Naming} (may_fail : N.Table → Bool) where
  mutual
    pub quiet_sure : (c : Cond N) → is_quiet c ≡ true → is_sure may_fail c ≡ true
    quiet_sure (compare op a b) h = two_sure a b h
    quiet_sure (compare_subquery op a q) h = h
    quiet_sure (compare_quantified op k a q) h = absurd cc
    quiet_sure (between a low high) h =
        (λ i. two_sure a low (both_left (is_quiet_expr a && is_quiet_expr low) (is_quiet_expr high) h) i && expr_sure high (both_right (is_quiet_expr a && is_quiet_expr low) (is_quiet_expr high) h) i)
    quiet_sure (in_subquery a q) h = absurd cc
    quiet_sure (in_list a es) h = (λ i. expr_sure a (both_left (is_quiet_expr a) (list_all is_quiet_expr es) h) i && exprs_sure es (both_right (is_quiet_expr a) (list_all is_quiet_expr es) h) i)
    quiet_sure (like text pattern escape) h =
        (λ i. two_sure text pattern (both_left (is_quiet_expr text && is_quiet_expr pattern) (has_no_escape escape) h) i && both_right (is_quiet_expr text && is_quiet_expr pattern) (has_no_escape escape) h i)
    quiet_sure (is_null a) h = expr_sure a h
    quiet_sure (exists q) h = absurd cc
    quiet_sure (negated c) h = quiet_sure c h
    quiet_sure (conjunction cs) h = all_sure cs h
    quiet_sure (disjunction cs) h = all_sure cs h

    all_sure : (cs : Conds N) → are_quiet cs ≡ true → are_sure may_fail cs ≡ true
    all_sure no_cond h = refl
    all_sure (a_cond c cs) h = (λ i. quiet_sure c (both_left (is_quiet c) (are_quiet cs) h) i && all_sure cs (both_right (is_quiet c) (are_quiet cs) h) i)

-- ---- a well-formed condition that is quiet has a truth

-- what ends with a value or with 42000, and not with 42000, has a value
pub valued_so : {A : Type 0} (o : Outcome A) → IsSureOutcome o → Answers (λ x. ⊤) o → HasValue o
valued_so o (inl h) answers = h
valued_so o (inr e) answers = absurd (subst (Answers (λ x. ⊤)) e answers)

module _ {T : Type 0} (rows_of : T → Outcome (List Row)) where
  no_reading : (t : T) → true ≡ false → IsSureOutcome (rows_of t)
  no_reading t e = absurd cc

  pub has_truth : (k : Kinds (Placed T)) (IsDeclared : PlacedParameter → Type 0) → Agrees (by_place rows_of) k → (c : Cond (Placed T)) (levels : List (Level (Placed T))) (env : Env (Unit {0}))
      → WellFormedCond (by_place rows_of) k IsDeclared levels c → IsEnvOf (by_place rows_of) k IsDeclared levels env → is_quiet c ≡ true → HasValue (truth (by_place rows_of) c env)
  has_truth k IsDeclared agrees c levels env w e quiet =
      valued_so (truth (by_place rows_of) c env) (sure_truth (λ t. true) rows_of no_reading c (quiet_sure (λ t. true) c quiet) env) (truth_of_kinds (by_place rows_of) k IsDeclared agrees c levels env w e)

-- ---- no subquery

mutual
  pub quiet_plain : {N : Naming} (c : Cond N) → is_quiet c ≡ true → has_subquery c ≡ false
  quiet_plain (compare op a b) h = refl
  quiet_plain (compare_subquery op a q) h = absurd cc
  quiet_plain (compare_quantified op k a q) h = absurd cc
  quiet_plain (between a low high) h = refl
  quiet_plain (in_subquery a q) h = absurd cc
  quiet_plain (in_list a es) h = refl
  quiet_plain (like text pattern escape) h = refl
  quiet_plain (is_null a) h = refl
  quiet_plain (exists q) h = absurd cc
  quiet_plain (negated c) h = quiet_plain c h
  quiet_plain (conjunction cs) h = all_plain cs h
  quiet_plain (disjunction cs) h = all_plain cs h

  all_plain : {N : Naming} (cs : Conds N) → are_quiet cs ≡ true → have_subquery cs ≡ false
  all_plain no_cond h = refl
  all_plain (a_cond c cs) h =
      (λ i. quiet_plain c (both_left (is_quiet c) (are_quiet cs) h) i || all_plain cs (both_right (is_quiet c) (are_quiet cs) h) i)
