-- A condition is one whose truth is never a fault by its places exactly where it is by its names: columns, parameters and tables are
-- placed, and all else stays as it is.
use Rattle.std.proofs.Common.{◌≡◌, false, ◌&&◌, List, [], ◌∷◌, Option, Some, None, refl}
use Rattle.std.specs.Prelude.{⊤, IfOk}
use Rattle.std.specs.List.{AllZip, list_all}
use Rattle.sq_tree.specs.declared.cond.Comparison.{Comparison}
use Rattle.sq_tree.specs.declared.cond.Quantifier.{Quantifier}
use Rattle.sq_tree.specs.declared.cond.Quantifier.TheVariants as quantifier
use Rattle.sq_meaning.specs.Placed.{Placed}
use Rattle.sq_meaning.specs.Quiet.{are_quiet, has_no_escape, is_quiet, is_quiet_clause, is_quiet_expr}
use Rattle.sq_meaning.specs.Spelled.{Named}
use Rattle.sq_meaning.specs.Status.{each}
use Rattle.sq_meaning.specs.Syntax.{Expr, Cond, Conds, Clause, literal, parameter, user, column, count_rows, set_function, signed, added, scaled, bracketed, compare, compare_subquery, compare_quantified, between, in_subquery, in_list, like, is_null, exists, negated, conjunction, disjunction, no_cond, a_cond, absent, present}
use Rattle.sq_bound.specs.Condition.{PlacedClause, PlacedCond, PlacedSelect, compared_with}
use Rattle.sq_bound.specs.Expression.{PlacedExpr}
use Rattle.sq_bound.specs.declared.condition.Compared.TheVariants.{Scalar}
use Rattle.sq_bound.specs.declared.condition.TablePlace.{TablePlace}
use Rattle.sq_binding.specs.Condition.{compared_as}
use Rattle.sq_binding.specs.Placed.{placed_column, placed_parameter}
use Rattle.sq_binding.specs.PlacedQuery.{clause_placed, cond_placed, conds_placed, escape_placed, expr_placed, select_placed}
use Rattle.sq_binding.specs.Select.{Surroundings}
use Rattle.sq_run.proofs.Places.Outcomes.{if_any, if_each, if_one, if_three, if_two}

abbrev IsExprAs : Expr Named → PlacedExpr → Type 0
IsExprAs e t = is_quiet_expr e ≡ is_quiet_expr t

abbrev IsEscapeAs : Option (Expr Named) → Option PlacedExpr → Type 0
IsEscapeAs e t = has_no_escape e ≡ has_no_escape t

abbrev IsCondAs : Cond Named → PlacedCond → Type 0
IsCondAs c t = is_quiet c ≡ is_quiet t

abbrev AreCondsAs : Conds Named → Conds (Placed TablePlace) → Type 0
AreCondsAs cs ts = are_quiet cs ≡ are_quiet ts

abbrev pub IsClauseAs : Clause Named → PlacedClause → Type 0
IsClauseAs c t = is_quiet_clause c ≡ is_quiet_clause t

-- ---- expressions

expr_as : (a : Surroundings) (e : Expr Named) → IfOk (expr_placed a e) (IsExprAs e)
expr_as a (literal v) = refl
expr_as a (parameter p) =
    if_one (placed_parameter a.parameters p) (λ q. parameter q) (λ q. ⊤) (IsExprAs (parameter p))
    (if_any (placed_parameter a.parameters p)) (λ q h. refl)
expr_as a user = refl
expr_as a (column c) =
    if_one (placed_column a.scopes c) (λ p. column p) (λ p. ⊤) (IsExprAs (column c)) (if_any (placed_column a.scopes c)) (λ p h. refl)
expr_as a count_rows = refl
expr_as a (set_function f distinct e) =
    if_one (expr_placed a e) (λ x. set_function f distinct x) (λ x. ⊤) (IsExprAs (set_function f distinct e))
    (if_any (expr_placed a e)) (λ x h. refl)
expr_as a (signed sign e) =
    if_one (expr_placed a e) (λ x. signed sign x) (IsExprAs e) (IsExprAs (signed sign e)) (expr_as a e) (λ x h. h)
expr_as a (added sign e f) =
    if_two (expr_placed a e) (expr_placed a f) (λ x y. added sign x y) (λ x. ⊤) (λ y. ⊤) (IsExprAs (added sign e f))
    (if_any (expr_placed a e)) (if_any (expr_placed a f)) (λ x y h k. refl)
expr_as a (scaled sign e f) =
    if_two (expr_placed a e) (expr_placed a f) (λ x y. scaled sign x y) (λ x. ⊤) (λ y. ⊤) (IsExprAs (scaled sign e f))
    (if_any (expr_placed a e)) (if_any (expr_placed a f)) (λ x y h k. refl)
expr_as a (bracketed e) = expr_as a e

exprs_as : (es : List (Expr Named)) (ts : List PlacedExpr) → AllZip IsExprAs es ts → list_all is_quiet_expr es ≡ list_all is_quiet_expr ts
exprs_as [] [] h = refl
exprs_as [] (t ∷ ts) h = absurd h
exprs_as (e ∷ es) [] h = absurd h
exprs_as (e ∷ es) (t ∷ ts) h = (λ i. h.0 i && exprs_as es ts h.1 i)

escape_as : (a : Surroundings) (e : Option (Expr Named)) → IfOk (escape_placed a e) (IsEscapeAs e)
escape_as a None = refl
escape_as a (Some e) =
    if_one (expr_placed a e) (λ x. Some x) (λ x. ⊤) (IsEscapeAs (Some e)) (if_any (expr_placed a e)) (λ x h. refl)

-- ---- conditions

quantified_not : (k : Quantifier) (op : Comparison) (x : PlacedExpr) (q : PlacedSelect)
    → false ≡ is_quiet (compared_with (compared_as k) op x q)
quantified_not quantifier.All op x q = refl
quantified_not quantifier.Any op x q = refl
quantified_not quantifier.Some op x q = refl

mutual
  cond_as : (a : Surroundings) (c : Cond Named) → IfOk (cond_placed a c) (IsCondAs c)
  cond_as a (compare op e f) =
      if_two (expr_placed a e) (expr_placed a f) (λ x y. compare op x y) (IsExprAs e) (IsExprAs f) (IsCondAs (compare op e f))
      (expr_as a e) (expr_as a f) (λ x y h k. (λ i. h i && k i))
  cond_as a (compare_subquery op e q) =
      if_two (expr_placed a e) (select_placed a q) (λ x s. compared_with Scalar op x s) (λ x. ⊤) (λ s. ⊤)
      (IsCondAs (compare_subquery op e q)) (if_any (expr_placed a e)) (if_any (select_placed a q)) (λ x s h k. refl)
  cond_as a (compare_quantified op k e q) =
      if_two (expr_placed a e) (select_placed a q) (λ x s. compared_with (compared_as k) op x s) (λ x. ⊤) (λ s. ⊤)
      (IsCondAs (compare_quantified op k e q)) (if_any (expr_placed a e)) (if_any (select_placed a q))
      (λ x s h m. quantified_not k op x s)
  cond_as a (between e low high) =
      if_three (expr_placed a e) (expr_placed a low) (expr_placed a high) (λ x y z. between x y z) (IsExprAs e) (IsExprAs low)
      (IsExprAs high) (IsCondAs (between e low high)) (expr_as a e) (expr_as a low) (expr_as a high)
      (λ x y z h k m. (λ i. h i && k i && m i))
  cond_as a (in_subquery e q) =
      if_two (expr_placed a e) (select_placed a q) (λ x s. in_subquery x s) (λ x. ⊤) (λ s. ⊤) (IsCondAs (in_subquery e q))
      (if_any (expr_placed a e)) (if_any (select_placed a q)) (λ x s h k. refl)
  cond_as a (in_list e es) =
      if_two (expr_placed a e) (each (expr_placed a) es) (λ x xs. in_list x xs) (IsExprAs e) (AllZip IsExprAs es)
      (IsCondAs (in_list e es)) (expr_as a e) (if_each (expr_placed a) IsExprAs (expr_as a) es)
      (λ x xs h k. (λ i. h i && exprs_as es xs k i))
  cond_as a (like e pattern escape) =
      if_three (expr_placed a e) (expr_placed a pattern) (escape_placed a escape) (λ x y z. like x y z) (IsExprAs e)
      (IsExprAs pattern) (IsEscapeAs escape) (IsCondAs (like e pattern escape)) (expr_as a e) (expr_as a pattern)
      (escape_as a escape) (λ x y z h k m. (λ i. h i && k i && m i))
  cond_as a (is_null e) = if_one (expr_placed a e) (λ x. is_null x) (IsExprAs e) (IsCondAs (is_null e)) (expr_as a e) (λ x h. h)
  cond_as a (exists q) =
      if_one (select_placed a q) (λ s. exists s) (λ s. ⊤) (IsCondAs (exists q)) (if_any (select_placed a q)) (λ s h. refl)
  cond_as a (negated c) = if_one (cond_placed a c) (λ t. negated t) (IsCondAs c) (IsCondAs (negated c)) (cond_as a c) (λ t h. h)
  cond_as a (conjunction cs) =
      if_one (conds_placed a cs) (λ ts. conjunction ts) (AreCondsAs cs) (IsCondAs (conjunction cs)) (conds_as a cs) (λ ts h. h)
  cond_as a (disjunction cs) =
      if_one (conds_placed a cs) (λ ts. disjunction ts) (AreCondsAs cs) (IsCondAs (disjunction cs)) (conds_as a cs) (λ ts h. h)

  conds_as : (a : Surroundings) (cs : Conds Named) → IfOk (conds_placed a cs) (AreCondsAs cs)
  conds_as a no_cond = refl
  conds_as a (a_cond c cs) =
      if_two (cond_placed a c) (conds_placed a cs) (λ t ts. a_cond t ts) (IsCondAs c) (AreCondsAs cs) (AreCondsAs (a_cond c cs))
      (cond_as a c) (conds_as a cs) (λ t ts h k. (λ i. h i && k i))

pub clause_as : (a : Surroundings) (c : Clause Named) → IfOk (clause_placed a c) (IsClauseAs c)
clause_as a absent = refl
clause_as a (present c) = if_one (cond_placed a c) (λ t. present t) (IsCondAs c) (IsClauseAs (present c)) (cond_as a c) (λ t h. h)
