-- What meets the equations of `Spelling` reads each search condition and query specification as the definitions do, by induction over
-- the tree.
use Rattle.std.proofs.Common.{◌≡◌, Bool, true, false, List, ◌∷◌, Option, None, Some, refl, sym, ◌∙◌, ap, map, subst}
use mathlib.Core.Path.{fun_ext}
use Rattle.std.specs.Option.{option_map}
use Rattle.sq_lex.specs.declared.name.Name.{Name}
use Rattle.sq_tree.specs.declared.list.CommaList.{CommaList}
use Rattle.sq_tree.specs.declared.names.ColumnReference.{ColumnReference}
use Rattle.sq_tree.specs.declared.expr.SetQuantifier.{SetQuantifier}
use Rattle.sq_tree.specs.declared.expr.Expr.{Expr as SpelledExpr}
use Rattle.sq_tree.specs.declared.cond.Comparison.{Comparison}
use Rattle.sq_tree.specs.declared.cond.Quantifier.{Quantifier}
use Rattle.sq_tree.specs.declared.cond.TableReference.{TableReference as SpelledReference}
use Rattle.sq_tree.specs.declared.cond.SelectList.{SelectList as SpelledList}
use Rattle.sq_tree.specs.declared.cond.SelectList.TheVariants as list
use Rattle.sq_tree.specs.declared.cond.Cond.{Cond as SpelledCond, Cond-F, roll-Cond, map-Cond}
use Rattle.sq_tree.specs.declared.cond.Conj.{Conj, Conj-F, roll-Conj, out-Conj, roll-out-Conj, map-Conj}
use Rattle.sq_tree.specs.declared.cond.Test.{Test, Test-F, roll-Test, map-Test}
use Rattle.sq_tree.specs.declared.cond.Body.{Body, Body-F, roll-Body, map-Body, ind-Body}
use Rattle.sq_tree.specs.declared.cond.Body.TheVariants as body
use Rattle.sq_tree.specs.declared.cond.Body.TheOpen as layer
use Rattle.sq_tree.specs.declared.cond.Tail.{Tail, Tail-F, roll-Tail, map-Tail}
use Rattle.sq_tree.specs.declared.cond.Tail.TheVariants as tail
use Rattle.sq_tree.specs.declared.cond.TableExpression.{TableExpression, TableExpression-F, roll-TableExpression, map-TableExpression, ind-TableExpression}
use Rattle.sq_tree.specs.declared.cond.QuerySpecification.{QuerySpecification, QuerySpecification-F, roll-QuerySpecification, out-QuerySpecification, roll-out-QuerySpecification, map-QuerySpecification}
use Rattle.sq_meaning.specs.Syntax.{compare, compare_subquery, compare_quantified, between, in_subquery, in_list, like, is_null, exists, negated, conjunction, disjunction, select, conds, expressions}
use Rattle.sq_meaning.specs.Spelled.{is_distinct_word, reference_of, listed, listed_if_any, not_if, clause, expr_of, list_of, cond_of, conj_of, test_of, body_of, tail_of, select_of, select_of_parts}
use Rattle.sq_meaning.proofs.SpelledLevels.{cond_of-roll, conj_of-roll, test_of-out, body_of-Predicate, body_of-Exists, body_of-Bracketed, tail_of-Compare, tail_of-CompareQuery, tail_of-Between, tail_of-InQuery, tail_of-InList, tail_of-Like, tail_of-Null, table_expression_of-roll, select_of-roll}
use Rattle.sq_run.specs.Spelling.{Reading, table_expression, Reads}
use Rattle.sq_run.proofs.Texts.SpelledExpressions.{seen_alike, expression_is}

module _ (own : Name) (r : Reading) (m : Reads own r) where
  -- ---- value expressions and select lists

  same : r.expression ≡ expr_of
  same = fun_ext (expression_is r m.expressions)

  pub list_is : (l : SpelledList) → r.select_list l ≡ list_of l
  list_is list.Star = m.queries.stars
  list_is (list.Items l) = m.queries.items l ∙ ap (λ f. expressions (map f (listed l))) same

  -- ---- the parts of search conditions

  abbrev BodyIs : Body → Type 0
  BodyIs b = r.boolean_primary b ≡ body_of own b

  abbrev TailIs : Tail → Type 0
  TailIs t = (left : SpelledExpr) → r.boolean_primary (body.Predicate left t) ≡ tail_of own t (expr_of left)

  abbrev CondIs : SpelledCond → Type 0
  CondIs c = r.condition c ≡ cond_of own c

  abbrev ConjIs : Conj → Type 0
  ConjIs c = r.boolean_term c ≡ conj_of own c

  abbrev SpecIs : QuerySpecification → Type 0
  SpecIs s = r.query_specification s ≡ select_of own s

  abbrev TableIs : TableExpression → Type 0
  TableIs t = (q : Option SetQuantifier) (l : SpelledList) → r.selection q l t ≡ select_of_parts own q l t

  abbrev TestIs : Test → Type 0
  TestIs t = r.boolean_factor t ≡ test_of own t

  -- each part with a proof beside it
  abbrev B : Type 0
  B = (b : Body) × BodyIs b

  abbrev T : Type 0
  T = (t : Tail) × TailIs t

  abbrev C : Type 0
  C = (c : SpelledCond) × CondIs c

  abbrev J : Type 0
  J = (c : Conj) × ConjIs c

  abbrev Q : Type 0
  Q = (s : QuerySpecification) × SpecIs s

  abbrev X : Type 0
  X = (t : TableExpression) × TableIs t

  abbrev S : Type 0
  S = (t : Test) × TestIs t

  body_step : (y : Body-F B T C J Q X S) → BodyIs (roll-Body (map-Body B T C J Q X S Body Tail SpelledCond Conj QuerySpecification TableExpression Test (λ e. e.0) (λ e. e.0) (λ e. e.0) (λ e. e.0) (λ e. e.0) (λ e. e.0) (λ e. e.0) y))
  body_step (layer.Predicate e t) = subst BodyIs (sym (body.rolls-Predicate e t.0)) (t.1 e ∙ sym (body_of-Predicate own e t.0))
  body_step (layer.Exists q) = subst BodyIs (sym (body.rolls-Exists q.0)) (m.predicates.existence q.0 ∙ ap exists q.1 ∙ sym (body_of-Exists own q.0))
  body_step (layer.Bracketed c) = subst BodyIs (sym (body.rolls-Bracketed c.0)) (m.conditions.brackets c.0 ∙ c.1 ∙ sym (body_of-Bracketed own c.0))

  compared : (op : Comparison) (k : Option Quantifier) (q : Q) → TailIs (tail.CompareQuery op k q.0)
  compared op None q = λ left. m.predicates.subqueries left op q.0 ∙ (λ i. compare_subquery op (same i left) (q.1 i)) ∙ sym (tail_of-CompareQuery own op None q.0 (expr_of left))
  compared op (Some k) q = λ left. m.predicates.quantified left op k q.0 ∙ (λ i. compare_quantified op k (same i left) (q.1 i)) ∙ sym (tail_of-CompareQuery own op (Some k) q.0 (expr_of left))

  tail_step : (y : Tail-F B T C J Q X S) → TailIs (roll-Tail (map-Tail B T C J Q X S Body Tail SpelledCond Conj QuerySpecification TableExpression Test (λ e. e.0) (λ e. e.0) (λ e. e.0) (λ e. e.0) (λ e. e.0) (λ e. e.0) (λ e. e.0) y))
  tail_step (layer.Compare op right) = subst TailIs (sym (tail.rolls-Compare op right)) (λ left. m.predicates.comparisons left op right ∙ (λ i. compare op (same i left) (same i right)) ∙ sym (tail_of-Compare own op right (expr_of left)))
  tail_step (layer.CompareQuery op k q) = subst TailIs (sym (tail.rolls-CompareQuery op k q.0)) (compared op k q)
  tail_step (layer.Between n low high) = subst TailIs (sym (tail.rolls-Between n low high)) (λ left. m.predicates.betweens left n low high ∙ (λ i. not_if n (between (same i left) (same i low) (same i high))) ∙ sym (tail_of-Between own n low high (expr_of left)))
  tail_step (layer.InQuery n q) = subst TailIs (sym (tail.rolls-InQuery n q.0)) (λ left. m.predicates.in_subqueries left n q.0 ∙ (λ i. not_if n (in_subquery (same i left) (q.1 i))) ∙ sym (tail_of-InQuery own n q.0 (expr_of left)))
  tail_step (layer.InList n values) = subst TailIs (sym (tail.rolls-InList n values)) (λ left. m.predicates.in_lists left n values ∙ (λ i. not_if n (in_list (same i left) (map (same i) (listed values)))) ∙ sym (tail_of-InList own n values (expr_of left)))
  tail_step (layer.Like n pattern escape) = subst TailIs (sym (tail.rolls-Like n pattern escape)) (λ left. m.predicates.likes left n pattern escape ∙ (λ i. not_if n (like (same i left) (same i pattern) (option_map (same i) escape))) ∙ sym (tail_of-Like own n pattern escape (expr_of left)))
  tail_step (layer.Null n) = subst TailIs (sym (tail.rolls-Null n)) (λ left. m.predicates.nulls left n ∙ (λ i. not_if n (is_null (same i left))) ∙ sym (tail_of-Null own n (expr_of left)))

  cond_step : (y : Cond-F B T C J Q X S) → CondIs (roll-Cond (map-Cond B T C J Q X S Body Tail SpelledCond Conj QuerySpecification TableExpression Test (λ e. e.0) (λ e. e.0) (λ e. e.0) (λ e. e.0) (λ e. e.0) (λ e. e.0) (λ e. e.0) y))
  cond_step y =
      m.conditions.ors y.first.0 (map (λ e. e.0) y.rest)
      ∙ (λ i. disjunction (conds (y.first.1 i ∷ seen_alike r.boolean_term (conj_of own) y.rest i)))
      ∙ sym (cond_of-roll own y.first.0 (map (λ e. e.0) y.rest))

  conj_step : (y : Conj-F B T C J Q X S) → ConjIs (roll-Conj (map-Conj B T C J Q X S Body Tail SpelledCond Conj QuerySpecification TableExpression Test (λ e. e.0) (λ e. e.0) (λ e. e.0) (λ e. e.0) (λ e. e.0) (λ e. e.0) (λ e. e.0) y))
  conj_step y =
      m.conditions.ands y.first.0 (map (λ e. e.0) y.rest)
      ∙ (λ i. conjunction (conds (y.first.1 i ∷ seen_alike r.boolean_factor (test_of own) y.rest i)))
      ∙ sym (conj_of-roll own y.first.0 (map (λ e. e.0) y.rest))

  spec_step : (y : QuerySpecification-F B T C J Q X S) → SpecIs (roll-QuerySpecification (map-QuerySpecification B T C J Q X S Body Tail SpelledCond Conj QuerySpecification TableExpression Test (λ e. e.0) (λ e. e.0) (λ e. e.0) (λ e. e.0) (λ e. e.0) (λ e. e.0) (λ e. e.0) y))
  spec_step y = m.queries.specifications y.quantifier y.list y.table.0 ∙ y.table.1 y.quantifier y.list ∙ sym (select_of-roll own y.quantifier y.list y.table.0)

  -- a table expression, of whose conditions this is known
  from_clauses : (from : CommaList SpelledReference) (w : Option SpelledCond) (by : Option (CommaList ColumnReference)) (h : Option SpelledCond) → clause (option_map r.condition w) ≡ clause (option_map (cond_of own) w) → clause (option_map r.condition h) ≡ clause (option_map (cond_of own) h) → TableIs (table_expression from w by h)
  from_clauses from w by h ew eh = λ q l.
      m.queries.selections q l from w by h
      ∙ (λ i. select (is_distinct_word q) (list_is l i) (map (reference_of own) (listed from)) (ew i) (listed_if_any by) (eh i))
      ∙ sym (table_expression_of-roll own from w by h (is_distinct_word q) (list_of l))

  table_step : (y : TableExpression-F B T C J Q X S) → TableIs (roll-TableExpression (map-TableExpression B T C J Q X S Body Tail SpelledCond Conj QuerySpecification TableExpression Test (λ e. e.0) (λ e. e.0) (λ e. e.0) (λ e. e.0) (λ e. e.0) (λ e. e.0) (λ e. e.0) y))
  table_step y = by y.from y.where_clause y.group_by y.having
    where
      by : (f : CommaList SpelledReference) (w : Option C) (g : Option (CommaList ColumnReference)) (h : Option C) → TableIs (roll-TableExpression (map-TableExpression B T C J Q X S Body Tail SpelledCond Conj QuerySpecification TableExpression Test (λ e. e.0) (λ e. e.0) (λ e. e.0) (λ e. e.0) (λ e. e.0) (λ e. e.0) (λ e. e.0) (record { from = f; where_clause = w; group_by = g; having = h })))
      by f None g None = from_clauses f None g None refl refl
      by f None g (Some h) = from_clauses f None g (Some h.0) refl (ap (λ c. clause (Some c)) h.1)
      by f (Some w) g None = from_clauses f (Some w.0) g None (ap (λ c. clause (Some c)) w.1) refl
      by f (Some w) g (Some h) = from_clauses f (Some w.0) g (Some h.0) (ap (λ c. clause (Some c)) w.1) (ap (λ c. clause (Some c)) h.1)

  factor_is : (written : Bool) (b : Body) → BodyIs b → TestIs (record { negated = written; body = b })
  factor_is false b e = m.conditions.without_not b ∙ e ∙ sym (test_of-out own (record { negated = false; body = b }))
  factor_is true b e = m.conditions.with_not b ∙ ap negated e ∙ sym (test_of-out own (record { negated = true; body = b }))

  test_step : (y : Test-F B T C J Q X S) → TestIs (roll-Test (map-Test B T C J Q X S Body Tail SpelledCond Conj QuerySpecification TableExpression Test (λ e. e.0) (λ e. e.0) (λ e. e.0) (λ e. e.0) (λ e. e.0) (λ e. e.0) (λ e. e.0) y))
  test_step y = factor_is y.negated y.body.0 y.body.1

  -- ---- what each part means

  pub boolean_primary_is : (b : Body) → BodyIs b
  boolean_primary_is b = ind-Body BodyIs TailIs CondIs ConjIs SpecIs TableIs TestIs
      (λ x y is. subst (λ z. BodyIs (roll-Body z)) is (body_step y))
      (λ x y is. subst (λ z. TailIs (roll-Tail z)) is (tail_step y))
      (λ x y is. subst (λ z. CondIs (roll-Cond z)) is (cond_step y))
      (λ x y is. subst (λ z. ConjIs (roll-Conj z)) is (conj_step y))
      (λ x y is. subst (λ z. SpecIs (roll-QuerySpecification z)) is (spec_step y))
      (λ x y is. subst (λ z. TableIs (roll-TableExpression z)) is (table_step y))
      (λ x y is. subst (λ z. TestIs (roll-Test z)) is (test_step y))
      b

  pub boolean_factor_is : (t : Test) → TestIs t
  boolean_factor_is t = factor_is t.negated t.body (boolean_primary_is t.body)

  pub boolean_term_is : (c : Conj) → ConjIs c
  boolean_term_is c = subst ConjIs (roll-out-Conj c) (of (out-Conj c).first (out-Conj c).rest)
    where
      of : (first : Test) (rest : List Test) → ConjIs (roll-Conj (record { first = first; rest = rest }))
      of first rest = m.conditions.ands first rest ∙ ap (λ f. conjunction (conds (map f (first ∷ rest)))) (fun_ext boolean_factor_is) ∙ sym (conj_of-roll own first rest)

  pub condition_is : (c : SpelledCond) → CondIs c
  condition_is c = sym (m.conditions.brackets c) ∙ boolean_primary_is (body.Bracketed c) ∙ body_of-Bracketed own c

  pub selection_is : (q : Option SetQuantifier) (l : SpelledList) (t : TableExpression) → r.selection q l t ≡ select_of_parts own q l t
  selection_is q l t = ind-TableExpression BodyIs TailIs CondIs ConjIs SpecIs TableIs TestIs
      (λ x y is. subst (λ z. BodyIs (roll-Body z)) is (body_step y))
      (λ x y is. subst (λ z. TailIs (roll-Tail z)) is (tail_step y))
      (λ x y is. subst (λ z. CondIs (roll-Cond z)) is (cond_step y))
      (λ x y is. subst (λ z. ConjIs (roll-Conj z)) is (conj_step y))
      (λ x y is. subst (λ z. SpecIs (roll-QuerySpecification z)) is (spec_step y))
      (λ x y is. subst (λ z. TableIs (roll-TableExpression z)) is (table_step y))
      (λ x y is. subst (λ z. TestIs (roll-Test z)) is (test_step y))
      t q l

  pub query_specification_is : (s : QuerySpecification) → SpecIs s
  query_specification_is s = subst SpecIs (roll-out-QuerySpecification s) (of (out-QuerySpecification s).quantifier (out-QuerySpecification s).list (out-QuerySpecification s).table)
    where
      of : (q : Option SetQuantifier) (l : SpelledList) (t : TableExpression) → SpecIs (roll-QuerySpecification (record { quantifier = q; list = l; table = t }))
      of q l t = m.queries.specifications q l t ∙ selection_is q l t ∙ sym (select_of-roll own q l t)
