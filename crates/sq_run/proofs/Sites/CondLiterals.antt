-- No literal of a search condition or of a query specification that a text spells is the null value (ISO/IEC 9075:1992, 5.3).
use Rattle.std.proofs.Common.{Bool, true, false, List, [], ◌∷◌, Option, Some, None, map, subst, sym}
use Rattle.std.specs.Prelude.{option_map}
use Rattle.sq_lex.specs.declared.name.Name.{Name}
use Rattle.sq_tree.specs.declared.cond.Body.{Body, Body-F, map-Body, roll-Body}
use Rattle.sq_tree.specs.declared.cond.Body.TheOpen as layer
use Rattle.sq_tree.specs.declared.cond.Body.TheVariants as body
use Rattle.sq_tree.specs.declared.cond.Comparison.{Comparison}
use Rattle.sq_tree.specs.declared.cond.Cond.{Cond as SpelledCond, Cond-F, ind-Cond, map-Cond, roll-Cond}
use Rattle.sq_tree.specs.declared.cond.Conj.{Conj, Conj-F, map-Conj, roll-Conj}
use Rattle.sq_tree.specs.declared.cond.Quantifier.{Quantifier}
use Rattle.sq_tree.specs.declared.cond.QuerySpecification.{QuerySpecification, QuerySpecification-F, ind-QuerySpecification, map-QuerySpecification, roll-QuerySpecification}
use Rattle.sq_tree.specs.declared.cond.SelectList.{SelectList as SpelledList}
use Rattle.sq_tree.specs.declared.cond.SelectList.TheVariants.{Items, Star}
use Rattle.sq_tree.specs.declared.cond.TableExpression.{TableExpression, TableExpression-F, ind-TableExpression, map-TableExpression, roll-TableExpression}
use Rattle.sq_tree.specs.declared.cond.TableReference.{TableReference as SpelledReference}
use Rattle.sq_tree.specs.declared.cond.Tail.{Tail, Tail-F, map-Tail, roll-Tail}
use Rattle.sq_tree.specs.declared.cond.Tail.TheVariants as tail
use Rattle.sq_tree.specs.declared.cond.Test.{Test, Test-F, map-Test, roll-Test}
use Rattle.sq_tree.specs.declared.expr.Expr.{Expr as SpelledExpr}
use Rattle.sq_tree.specs.declared.list.CommaList.{CommaList}
use Rattle.sq_tree.specs.declared.names.ColumnReference.{ColumnReference}
use Rattle.sq_meaning.specs.Spelled.{Named, body_of, compared_with, cond_of, conj_of, expr_of, is_distinct_word, list_of, listed, not_if, select_of, table_expression_of, tail_of, test_of}
use Rattle.sq_meaning.specs.Syntax.{Cond, Expr, Select, SelectList, between, conds, in_list, in_subquery, is_null, like}
use Rattle.sq_meaning.proofs.SpelledLevels.{body_of-Bracketed, body_of-Exists, body_of-Predicate, cond_of-roll, conj_of-roll, select_of-roll, table_expression_of-roll, tail_of-Between, tail_of-Compare, tail_of-CompareQuery, tail_of-InList, tail_of-InQuery, tail_of-Like, tail_of-Null, test_of-out}
use Rattle.sq_run.proofs.Sites.ConditionSites.{CondSpellsNoNull, CondsSpellNoNull, EscapeSpellsNoNull, ListSpellsNoNull, SelectSpellsNoNull, SpellNoNull}
use Rattle.sq_run.proofs.Sites.ExprLiterals.{expr_spells}
use Rattle.sq_run.proofs.Sites.ExpressionSites.{SpellsNoNull}

exprs_spell : (es : List SpelledExpr) → SpellNoNull (map expr_of es)
exprs_spell [] = tt
exprs_spell (e ∷ es) = (expr_spells e, exprs_spell es)

escape_spells : (e : Option SpelledExpr) → EscapeSpellsNoNull (option_map expr_of e)
escape_spells None = tt
escape_spells (Some e) = expr_spells e

pub list_spells : (list : SpelledList) → ListSpellsNoNull (list_of list)
list_spells Star = tt
list_spells (Items list) = exprs_spell (listed list)

negated_spells : (written : Bool) (c : Cond Named) → CondSpellsNoNull c → CondSpellsNoNull (not_if written c)
negated_spells true c h = h
negated_spells false c h = h

beside_spells : (k : Option Quantifier) (op : Comparison) (left : Expr Named) (q : Select Named) → SpellsNoNull left → SelectSpellsNoNull q → CondSpellsNoNull (compared_with k op left q)
beside_spells None op left q h g = (h, g)
beside_spells (Some k) op left q h g = (h, g)

module _ (own : Name) where
  abbrev OfBody : Body → Type 0
  OfBody b = CondSpellsNoNull (body_of own b)

  -- whatever stands before it
  abbrev OfTail : Tail → Type 0
  OfTail t = (left : Expr Named) → SpellsNoNull left → CondSpellsNoNull (tail_of own t left)

  abbrev OfCond : SpelledCond → Type 0
  OfCond c = CondSpellsNoNull (cond_of own c)

  abbrev OfConj : Conj → Type 0
  OfConj c = CondSpellsNoNull (conj_of own c)

  abbrev OfSelect : QuerySpecification → Type 0
  OfSelect q = SelectSpellsNoNull (select_of own q)

  abbrev OfTable : TableExpression → Type 0
  OfTable t = (distinct : Bool) (list : SelectList Named) → ListSpellsNoNull list → SelectSpellsNoNull (table_expression_of own t distinct list)

  abbrev OfTest : Test → Type 0
  OfTest t = CondSpellsNoNull (test_of own t)

  -- each part with a proof beside it
  abbrev B : Type 0
  B = (b : Body) × OfBody b

  abbrev T : Type 0
  T = (t : Tail) × OfTail t

  abbrev C : Type 0
  C = (c : SpelledCond) × OfCond c

  abbrev J : Type 0
  J = (c : Conj) × OfConj c

  abbrev Q : Type 0
  Q = (q : QuerySpecification) × OfSelect q

  abbrev X : Type 0
  X = (t : TableExpression) × OfTable t

  abbrev S : Type 0
  S = (t : Test) × OfTest t

  body_step : (y : Body-F B T C J Q X S) → OfBody (roll-Body (map-Body B T C J Q X S Body Tail SpelledCond Conj QuerySpecification TableExpression Test (λ e. e.0) (λ e. e.0) (λ e. e.0) (λ e. e.0) (λ e. e.0) (λ e. e.0) (λ e. e.0) y))
  body_step (layer.Predicate e t) = subst OfBody (sym (body.rolls-Predicate e t.0)) (subst CondSpellsNoNull (sym (body_of-Predicate own e t.0)) (t.1 (expr_of e) (expr_spells e)))
  body_step (layer.Exists q) = subst OfBody (sym (body.rolls-Exists q.0)) (subst CondSpellsNoNull (sym (body_of-Exists own q.0)) q.1)
  body_step (layer.Bracketed c) = subst OfBody (sym (body.rolls-Bracketed c.0)) (subst CondSpellsNoNull (sym (body_of-Bracketed own c.0)) c.1)

  tail_step : (y : Tail-F B T C J Q X S) → OfTail (roll-Tail (map-Tail B T C J Q X S Body Tail SpelledCond Conj QuerySpecification TableExpression Test (λ e. e.0) (λ e. e.0) (λ e. e.0) (λ e. e.0) (λ e. e.0) (λ e. e.0) (λ e. e.0) y))
  tail_step (layer.Compare op right) = subst OfTail (sym (tail.rolls-Compare op right)) (λ left h. subst CondSpellsNoNull (sym (tail_of-Compare own op right left)) (h, expr_spells right))
  tail_step (layer.CompareQuery op k q) =
      subst OfTail (sym (tail.rolls-CompareQuery op k q.0)) (λ left h. subst CondSpellsNoNull (sym (tail_of-CompareQuery own op k q.0 left)) (beside_spells k op left (select_of own q.0) h q.1))
  tail_step (layer.Between n low high) =
      subst OfTail (sym (tail.rolls-Between n low high)) (λ left h. subst CondSpellsNoNull (sym (tail_of-Between own n low high left)) (negated_spells n (between left (expr_of low) (expr_of high)) (h, expr_spells low, expr_spells high)))
  tail_step (layer.InQuery n q) =
      subst OfTail (sym (tail.rolls-InQuery n q.0)) (λ left h. subst CondSpellsNoNull (sym (tail_of-InQuery own n q.0 left)) (negated_spells n (in_subquery left (select_of own q.0)) (h, q.1)))
  tail_step (layer.InList n values) =
      subst OfTail (sym (tail.rolls-InList n values)) (λ left h. subst CondSpellsNoNull (sym (tail_of-InList own n values left)) (negated_spells n (in_list left (map expr_of (listed values))) (h, exprs_spell (listed values))))
  tail_step (layer.Like n pattern escape) =
      subst OfTail (sym (tail.rolls-Like n pattern escape))
      (λ left h. subst CondSpellsNoNull (sym (tail_of-Like own n pattern escape left)) (negated_spells n (like left (expr_of pattern) (option_map expr_of escape)) (h, expr_spells pattern, escape_spells escape)))
  tail_step (layer.Null n) = subst OfTail (sym (tail.rolls-Null n)) (λ left h. subst CondSpellsNoNull (sym (tail_of-Null own n left)) (negated_spells n (is_null left) h))

  conjs_spell : (cs : List J) → CondsSpellNoNull (conds (map (conj_of own) (map (λ e. e.0) cs)))
  conjs_spell [] = tt
  conjs_spell (c ∷ cs) = (c.1, conjs_spell cs)

  tests_spell : (ts : List S) → CondsSpellNoNull (conds (map (test_of own) (map (λ e. e.0) ts)))
  tests_spell [] = tt
  tests_spell (t ∷ ts) = (t.1, tests_spell ts)

  cond_step : (y : Cond-F B T C J Q X S) → OfCond (roll-Cond (map-Cond B T C J Q X S Body Tail SpelledCond Conj QuerySpecification TableExpression Test (λ e. e.0) (λ e. e.0) (λ e. e.0) (λ e. e.0) (λ e. e.0) (λ e. e.0) (λ e. e.0) y))
  cond_step y = subst CondSpellsNoNull (sym (cond_of-roll own y.first.0 (map (λ e. e.0) y.rest))) (y.first.1, conjs_spell y.rest)

  conj_step : (y : Conj-F B T C J Q X S) → OfConj (roll-Conj (map-Conj B T C J Q X S Body Tail SpelledCond Conj QuerySpecification TableExpression Test (λ e. e.0) (λ e. e.0) (λ e. e.0) (λ e. e.0) (λ e. e.0) (λ e. e.0) (λ e. e.0) y))
  conj_step y = subst CondSpellsNoNull (sym (conj_of-roll own y.first.0 (map (λ e. e.0) y.rest))) (y.first.1, tests_spell y.rest)

  select_step : (y : QuerySpecification-F B T C J Q X S) → OfSelect (roll-QuerySpecification (map-QuerySpecification B T C J Q X S Body Tail SpelledCond Conj QuerySpecification TableExpression Test (λ e. e.0) (λ e. e.0) (λ e. e.0) (λ e. e.0) (λ e. e.0) (λ e. e.0) (λ e. e.0) y))
  select_step y = subst SelectSpellsNoNull (sym (select_of-roll own y.quantifier y.list y.table.0)) (y.table.1 (is_distinct_word y.quantifier) (list_of y.list) (list_spells y.list))

  table_step : (y : TableExpression-F B T C J Q X S) → OfTable (roll-TableExpression (map-TableExpression B T C J Q X S Body Tail SpelledCond Conj QuerySpecification TableExpression Test (λ e. e.0) (λ e. e.0) (λ e. e.0) (λ e. e.0) (λ e. e.0) (λ e. e.0) (λ e. e.0) y))
  table_step y = by y.from y.where_clause y.group_by y.having
    where
      by : (f : CommaList SpelledReference) (w : Option C) (g : Option (CommaList ColumnReference)) (h : Option C) → OfTable (roll-TableExpression (map-TableExpression B T C J Q X S Body Tail SpelledCond Conj QuerySpecification TableExpression Test (λ e. e.0) (λ e. e.0) (λ e. e.0) (λ e. e.0) (λ e. e.0) (λ e. e.0) (λ e. e.0) (record { from = f; where_clause = w; group_by = g; having = h })))
      by f None g None = λ distinct list n. subst SelectSpellsNoNull (sym (table_expression_of-roll own f None g None distinct list)) (n, tt, tt)
      by f None g (Some h) = λ distinct list n. subst SelectSpellsNoNull (sym (table_expression_of-roll own f None g (Some h.0) distinct list)) (n, tt, h.1)
      by f (Some w) g None = λ distinct list n. subst SelectSpellsNoNull (sym (table_expression_of-roll own f (Some w.0) g None distinct list)) (n, w.1, tt)
      by f (Some w) g (Some h) = λ distinct list n. subst SelectSpellsNoNull (sym (table_expression_of-roll own f (Some w.0) g (Some h.0) distinct list)) (n, w.1, h.1)

  test_step : (y : Test-F B T C J Q X S) → OfTest (roll-Test (map-Test B T C J Q X S Body Tail SpelledCond Conj QuerySpecification TableExpression Test (λ e. e.0) (λ e. e.0) (λ e. e.0) (λ e. e.0) (λ e. e.0) (λ e. e.0) (λ e. e.0) y))
  test_step y = subst CondSpellsNoNull (sym (test_of-out own (record { negated = y.negated; body = y.body.0 }))) (negated_spells y.negated (body_of own y.body.0) y.body.1)

  -- no literal of a spelled search condition is the null value
  pub cond_spells : (x : SpelledCond) → OfCond x
  cond_spells c = ind-Cond OfBody OfTail OfCond OfConj OfSelect OfTable OfTest
      (λ x y is. subst (λ z. OfBody (roll-Body z)) is (body_step y))
      (λ x y is. subst (λ z. OfTail (roll-Tail z)) is (tail_step y))
      (λ x y is. subst (λ z. OfCond (roll-Cond z)) is (cond_step y))
      (λ x y is. subst (λ z. OfConj (roll-Conj z)) is (conj_step y))
      (λ x y is. subst (λ z. OfSelect (roll-QuerySpecification z)) is (select_step y))
      (λ x y is. subst (λ z. OfTable (roll-TableExpression z)) is (table_step y))
      (λ x y is. subst (λ z. OfTest (roll-Test z)) is (test_step y))
      c

  -- no literal of a spelled query specification is the null value
  pub select_spells : (x : QuerySpecification) → OfSelect x
  select_spells c = ind-QuerySpecification OfBody OfTail OfCond OfConj OfSelect OfTable OfTest
      (λ x y is. subst (λ z. OfBody (roll-Body z)) is (body_step y))
      (λ x y is. subst (λ z. OfTail (roll-Tail z)) is (tail_step y))
      (λ x y is. subst (λ z. OfCond (roll-Cond z)) is (cond_step y))
      (λ x y is. subst (λ z. OfConj (roll-Conj z)) is (conj_step y))
      (λ x y is. subst (λ z. OfSelect (roll-QuerySpecification z)) is (select_step y))
      (λ x y is. subst (λ z. OfTable (roll-TableExpression z)) is (table_step y))
      (λ x y is. subst (λ z. OfTest (roll-Test z)) is (test_step y))
      c

  -- no literal of a spelled table expression is the null value
  pub table_spells : (x : TableExpression) → OfTable x
  table_spells c = ind-TableExpression OfBody OfTail OfCond OfConj OfSelect OfTable OfTest
      (λ x y is. subst (λ z. OfBody (roll-Body z)) is (body_step y))
      (λ x y is. subst (λ z. OfTail (roll-Tail z)) is (tail_step y))
      (λ x y is. subst (λ z. OfCond (roll-Cond z)) is (cond_step y))
      (λ x y is. subst (λ z. OfConj (roll-Conj z)) is (conj_step y))
      (λ x y is. subst (λ z. OfSelect (roll-QuerySpecification z)) is (select_step y))
      (λ x y is. subst (λ z. OfTable (roll-TableExpression z)) is (table_step y))
      (λ x y is. subst (λ z. OfTest (roll-Test z)) is (test_step y))
      c
