-- A condition has a subquery by its places exactly where it has one by its names.
use Rattle.std.proofs.Common.{◌≡◌, true, ◌||◌, refl}
use Rattle.std.specs.Prelude.{⊤, IfOk}
use Rattle.sq_tree.specs.declared.cond.Comparison.{Comparison}
use Rattle.sq_tree.specs.declared.cond.Quantifier.{Quantifier}
use Rattle.sq_tree.specs.declared.cond.Quantifier.TheVariants as quantifier
use Rattle.sq_meaning.specs.Placed.{Placed}
use Rattle.sq_meaning.specs.Spelled.{Named}
use Rattle.sq_meaning.specs.Status.{each}
use Rattle.sq_meaning.specs.Syntax.{Clause, Cond, Conds, absent, present, compare, compare_subquery, compare_quantified, between, in_subquery, in_list, like, is_null, exists, negated, conjunction, disjunction, no_cond, a_cond}
use Rattle.sq_meaning.specs.Target.{clause_has_subquery, has_subquery, have_subquery}
use Rattle.sq_bound.specs.Condition.{PlacedClause, PlacedCond, PlacedSelect, compared_with}
use Rattle.sq_bound.specs.Expression.{PlacedExpr}
use Rattle.sq_bound.specs.declared.condition.Compared.TheVariants.{Scalar}
use Rattle.sq_bound.specs.declared.condition.TablePlace.{TablePlace}
use Rattle.sq_binding.specs.Condition.{compared_as}
use Rattle.sq_binding.specs.PlacedQuery.{clause_placed, cond_placed, conds_placed, escape_placed, expr_placed, select_placed}
use Rattle.sq_binding.specs.Select.{Surroundings}
use Rattle.sq_run.proofs.Places.Outcomes.{if_any, if_one, if_three, if_two}

abbrev pub IsAs : Cond Named → PlacedCond → Type 0
IsAs c t = has_subquery c ≡ has_subquery t

abbrev AreAs : Conds Named → Conds (Placed TablePlace) → Type 0
AreAs cs ts = have_subquery cs ≡ have_subquery ts

abbrev pub IsClauseAs : Clause Named → PlacedClause → Type 0
IsClauseAs c t = clause_has_subquery c ≡ clause_has_subquery t

quantified_has : (k : Quantifier) (op : Comparison) (x : PlacedExpr) (q : PlacedSelect)
    → true ≡ has_subquery (compared_with (compared_as k) op x q)
quantified_has quantifier.All op x q = refl
quantified_has quantifier.Any op x q = refl
quantified_has quantifier.Some op x q = refl

mutual
  pub subquery_same : (a : Surroundings) (c : Cond Named) → IfOk (cond_placed a c) (IsAs c)
  subquery_same a (compare op e f) =
      if_two (expr_placed a e) (expr_placed a f) (λ x y. compare op x y) (λ x. ⊤) (λ y. ⊤) (IsAs (compare op e f))
      (if_any (expr_placed a e)) (if_any (expr_placed a f)) (λ x y h k. refl)
  subquery_same a (compare_subquery op e q) =
      if_two (expr_placed a e) (select_placed a q) (λ x s. compared_with Scalar op x s) (λ x. ⊤) (λ s. ⊤)
      (IsAs (compare_subquery op e q)) (if_any (expr_placed a e)) (if_any (select_placed a q)) (λ x s h k. refl)
  subquery_same a (compare_quantified op k e q) =
      if_two (expr_placed a e) (select_placed a q) (λ x s. compared_with (compared_as k) op x s) (λ x. ⊤) (λ s. ⊤)
      (IsAs (compare_quantified op k e q)) (if_any (expr_placed a e)) (if_any (select_placed a q))
      (λ x s h m. quantified_has k op x s)
  subquery_same a (between e low high) =
      if_three (expr_placed a e) (expr_placed a low) (expr_placed a high) (λ x y z. between x y z) (λ x. ⊤) (λ y. ⊤) (λ z. ⊤)
      (IsAs (between e low high)) (if_any (expr_placed a e)) (if_any (expr_placed a low)) (if_any (expr_placed a high))
      (λ x y z h k m. refl)
  subquery_same a (in_subquery e q) =
      if_two (expr_placed a e) (select_placed a q) (λ x s. in_subquery x s) (λ x. ⊤) (λ s. ⊤) (IsAs (in_subquery e q))
      (if_any (expr_placed a e)) (if_any (select_placed a q)) (λ x s h k. refl)
  subquery_same a (in_list e es) =
      if_two (expr_placed a e) (each (expr_placed a) es) (λ x xs. in_list x xs) (λ x. ⊤) (λ xs. ⊤) (IsAs (in_list e es))
      (if_any (expr_placed a e)) (if_any (each (expr_placed a) es)) (λ x xs h k. refl)
  subquery_same a (like e pattern escape) =
      if_three (expr_placed a e) (expr_placed a pattern) (escape_placed a escape) (λ x y z. like x y z) (λ x. ⊤) (λ y. ⊤)
      (λ z. ⊤) (IsAs (like e pattern escape)) (if_any (expr_placed a e)) (if_any (expr_placed a pattern))
      (if_any (escape_placed a escape)) (λ x y z h k m. refl)
  subquery_same a (is_null e) =
      if_one (expr_placed a e) (λ x. is_null x) (λ x. ⊤) (IsAs (is_null e)) (if_any (expr_placed a e)) (λ x h. refl)
  subquery_same a (exists q) =
      if_one (select_placed a q) (λ s. exists s) (λ s. ⊤) (IsAs (exists q)) (if_any (select_placed a q)) (λ s h. refl)
  subquery_same a (negated c) =
      if_one (cond_placed a c) (λ t. negated t) (IsAs c) (IsAs (negated c)) (subquery_same a c) (λ t h. h)
  subquery_same a (conjunction cs) =
      if_one (conds_placed a cs) (λ ts. conjunction ts) (AreAs cs) (IsAs (conjunction cs)) (subqueries_same a cs) (λ ts h. h)
  subquery_same a (disjunction cs) =
      if_one (conds_placed a cs) (λ ts. disjunction ts) (AreAs cs) (IsAs (disjunction cs)) (subqueries_same a cs) (λ ts h. h)

  subqueries_same : (a : Surroundings) (cs : Conds Named) → IfOk (conds_placed a cs) (AreAs cs)
  subqueries_same a no_cond = refl
  subqueries_same a (a_cond c cs) =
      if_two (cond_placed a c) (conds_placed a cs) (λ t ts. a_cond t ts) (IsAs c) (AreAs cs) (AreAs (a_cond c cs))
      (subquery_same a c) (subqueries_same a cs) (λ t ts h k. (λ i. h i || k i))

pub clause_subquery_same : (a : Surroundings) (c : Clause Named) → IfOk (clause_placed a c) (IsClauseAs c)
clause_subquery_same a absent = refl
clause_subquery_same a (present c) = if_one (cond_placed a c) (λ t. present t) (IsAs c) (IsClauseAs (present c)) (subquery_same a c) (λ t h. h)
