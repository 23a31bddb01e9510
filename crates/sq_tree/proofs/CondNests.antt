-- Search conditions and query specifications close the brackets that they open, and are as deep as their parts say.
use Rattle.std.proofs.Common.{Bool, Option, Some, None, refl, ◌∙◌, subst, arith}
use Rattle.sq_tree.specs.Tree.{optional}
use Rattle.sq_tree.specs.List.{comma_tokens}
use Rattle.sq_tree.specs.Names.{column_reference_tokens}
use Rattle.sq_tree.specs.Expr.{expr_tokens}
use Rattle.sq_tree.specs.Cond.{comparison_token, compared_token, compared_tokens, not_tokens, escape_tokens, correlation_tokens, table_reference_tokens, select_list_tokens, group_by_tokens, or_tokens, and_tokens, body_tokens, tail_tokens, test_tokens, conj_tokens, cond_tokens, table_expression_tokens, query_specification_tokens}
use Rattle.sq_tree.proofs.TreeDepth.{optional_depth}
use Rattle.sq_tree.proofs.ExprDepth.{expr_depth}
use Rattle.sq_tree.proofs.CondDepth.{select_list_depth, body_depth, tail_depth, test_depth, conj_depth, cond_depth, table_expression_depth, query_specification_depth}
use Rattle.sq_tree.proofs.Nests.{Nests, IsPlain, nests-is, nests-plain, nests-append, nests-bracketed, nests-if_written, nests-none, nests-proved, nests-optional, nests-optional0, nests-comma, nests-comma0}
use Rattle.sq_tree.proofs.ExprNests.{expr_nests, quantifier_nests, table_name_nests, column_reference_nests}
use Rattle.sq_tree.specs.declared.list.CommaList.{CommaList}
use Rattle.sq_tree.specs.declared.expr.Expr.{Expr}
use Rattle.sq_tree.specs.declared.names.ColumnReference.{ColumnReference}
use Rattle.sq_tree.specs.declared.cond.Comparison.{Comparison}
use Rattle.sq_tree.specs.declared.cond.Comparison.TheVariants as comparison
use Rattle.sq_tree.specs.declared.cond.Quantifier.{Quantifier}
use Rattle.sq_tree.specs.declared.cond.Quantifier.TheVariants as quantifier
use Rattle.sq_tree.specs.declared.cond.Correlation.{Correlation}
use Rattle.sq_tree.specs.declared.cond.TableReference.{TableReference}
use Rattle.sq_tree.specs.declared.cond.SelectList.{SelectList}
use Rattle.sq_tree.specs.declared.cond.SelectList.TheVariants.{Star, Items}
use Rattle.sq_tree.specs.declared.cond.Cond.{Cond, Cond-F, roll-Cond, fold-roll-Cond, map-Cond, ind-Cond}
use Rattle.sq_tree.specs.declared.cond.Conj.{Conj, Conj-F, roll-Conj, fold-roll-Conj, map-Conj}
use Rattle.sq_tree.specs.declared.cond.Test.{Test, Test-F, roll-Test, fold-roll-Test, map-Test}
use Rattle.sq_tree.specs.declared.cond.Body.{Body, Body-F, roll-Body, fold-roll-Body, map-Body}
use Rattle.sq_tree.specs.declared.cond.Body.TheOpen as layer
use Rattle.sq_tree.specs.declared.cond.Tail.{Tail, Tail-F, roll-Tail, fold-roll-Tail, map-Tail}
use Rattle.sq_tree.specs.declared.cond.TableExpression.{TableExpression, TableExpression-F, roll-TableExpression, fold-roll-TableExpression, map-TableExpression, ind-TableExpression}
use Rattle.sq_tree.specs.declared.cond.QuerySpecification.{QuerySpecification, QuerySpecification-F, roll-QuerySpecification, fold-roll-QuerySpecification, map-QuerySpecification, ind-QuerySpecification}

comparison_plain : (c : Comparison) → IsPlain (comparison_token c)
comparison_plain comparison.Equal n = refl
comparison_plain comparison.NotEqual n = refl
comparison_plain comparison.Less n = refl
comparison_plain comparison.Greater n = refl
comparison_plain comparison.LessOrEqual n = refl
comparison_plain comparison.GreaterOrEqual n = refl

compared_plain : (q : Quantifier) → IsPlain (compared_token q)
compared_plain quantifier.All n = refl
compared_plain quantifier.Any n = refl
compared_plain quantifier.Some n = refl

compared_nests : (q : Option Quantifier) → Nests (optional compared_tokens q) 0
compared_nests q = nests-optional0 compared_tokens (λ x. nests-plain _ (compared_plain x) nests-none) q

not_nests : (negated : Bool) → Nests (not_tokens negated) 0
not_nests negated = nests-if_written negated (nests-plain _ (λ n. refl) nests-none)

correlation_nests : (c : Correlation) → Nests (correlation_tokens c) 0
correlation_nests c = nests-append (nests-if_written c.as_word (nests-plain _ (λ n. refl) nests-none)) (nests-plain _ (λ n. refl) nests-none)

table_reference_nests : (t : TableReference) → Nests (table_reference_tokens t) 0
table_reference_nests t = nests-append (table_name_nests t.table) (nests-optional0 correlation_tokens correlation_nests t.correlation)

pub select_list_nests : (s : SelectList) → Nests (select_list_tokens s) (select_list_depth s)
select_list_nests Star = nests-plain _ (λ n. refl) nests-none
select_list_nests (Items items) = nests-comma expr_tokens expr_depth expr_nests items

group_by_nests : (g : Option (CommaList ColumnReference)) → Nests (optional group_by_tokens g) 0
group_by_nests g = nests-optional0 group_by_tokens (λ columns. nests-plain _ (λ n. refl) (nests-plain _ (λ n. refl) (nests-comma0 column_reference_tokens column_reference_nests columns))) g

escape_nests : (e : Option Expr) → Nests (optional escape_tokens e) (optional_depth expr_depth e)
escape_nests e = nests-optional escape_tokens expr_depth (λ x. nests-plain _ (λ n. refl) (expr_nests x)) e

abbrev BodyNests : Body → Type 0
BodyNests b = Nests (body_tokens b) (body_depth b)

abbrev TailNests : Tail → Type 0
TailNests t = Nests (tail_tokens t) (tail_depth t)

abbrev CondNests : Cond → Type 0
CondNests c = Nests (cond_tokens c) (cond_depth c)

abbrev ConjNests : Conj → Type 0
ConjNests c = Nests (conj_tokens c) (conj_depth c)

abbrev SpecNests : QuerySpecification → Type 0
SpecNests s = Nests (query_specification_tokens s) (query_specification_depth s)

abbrev TableNests : TableExpression → Type 0
TableNests t = Nests (table_expression_tokens t) (table_expression_depth t)

abbrev TestNests : Test → Type 0
TestNests t = Nests (test_tokens t) (test_depth t)

-- each part with a proof beside it
abbrev B : Type 0
B = (b : Body) × BodyNests b

abbrev T : Type 0
T = (t : Tail) × TailNests t

abbrev C : Type 0
C = (c : Cond) × CondNests c

abbrev J : Type 0
J = (c : Conj) × ConjNests c

abbrev Q : Type 0
Q = (s : QuerySpecification) × SpecNests s

abbrev X : Type 0
X = (t : TableExpression) × TableNests t

abbrev S : Type 0
S = (t : Test) × TestNests t

body_step : (y : Body-F B T C J Q X S) → BodyNests (roll-Body (map-Body B T C J Q X S Body Tail Cond Conj QuerySpecification TableExpression Test (λ e. e.0) (λ e. e.0) (λ e. e.0) (λ e. e.0) (λ e. e.0) (λ e. e.0) (λ e. e.0) y))
unfolding body_tokens body_depth tail_tokens tail_depth cond_tokens cond_depth query_specification_tokens query_specification_depth
body_step (layer.Predicate e t) = nests-is (nests-append (expr_nests e) t.1) (fold-roll-Body _ _ _ _ _ _ _ _ _ _ _ _ _ _ _) (fold-roll-Body _ _ _ _ _ _ _ _ _ _ _ _ _ _ _)
body_step (layer.Exists q) = nests-is (nests-plain _ (λ n. refl) (nests-bracketed q.1)) (fold-roll-Body _ _ _ _ _ _ _ _ _ _ _ _ _ _ _) (fold-roll-Body _ _ _ _ _ _ _ _ _ _ _ _ _ _ _)
body_step (layer.Bracketed c) = nests-is (nests-bracketed c.1) (fold-roll-Body _ _ _ _ _ _ _ _ _ _ _ _ _ _ _) (fold-roll-Body _ _ _ _ _ _ _ _ _ _ _ _ _ _ _)

tail_step : (y : Tail-F B T C J Q X S) → TailNests (roll-Tail (map-Tail B T C J Q X S Body Tail Cond Conj QuerySpecification TableExpression Test (λ e. e.0) (λ e. e.0) (λ e. e.0) (λ e. e.0) (λ e. e.0) (λ e. e.0) (λ e. e.0) y))
unfolding tail_tokens tail_depth query_specification_tokens query_specification_depth
tail_step (layer.Compare op right) = nests-is (nests-plain _ (comparison_plain op) (expr_nests right)) (fold-roll-Tail _ _ _ _ _ _ _ _ _ _ _ _ _ _ _) (fold-roll-Tail _ _ _ _ _ _ _ _ _ _ _ _ _ _ _)
tail_step (layer.CompareQuery op q s) = nests-is (nests-plain _ (comparison_plain op) (nests-append (compared_nests q) (nests-bracketed s.1))) (fold-roll-Tail _ _ _ _ _ _ _ _ _ _ _ _ _ _ _) (fold-roll-Tail _ _ _ _ _ _ _ _ _ _ _ _ _ _ _ ∙ omega arith)
tail_step (layer.Between n low high) = nests-is (nests-append (nests-append (not_nests n) (nests-plain _ (λ n. refl) (expr_nests low))) (nests-plain _ (λ n. refl) (expr_nests high))) (fold-roll-Tail _ _ _ _ _ _ _ _ _ _ _ _ _ _ _) (fold-roll-Tail _ _ _ _ _ _ _ _ _ _ _ _ _ _ _ ∙ omega arith)
tail_step (layer.InQuery n s) = nests-is (nests-append (not_nests n) (nests-plain _ (λ n. refl) (nests-bracketed s.1))) (fold-roll-Tail _ _ _ _ _ _ _ _ _ _ _ _ _ _ _) (fold-roll-Tail _ _ _ _ _ _ _ _ _ _ _ _ _ _ _ ∙ omega arith)
tail_step (layer.InList n es) = nests-is (nests-append (not_nests n) (nests-plain _ (λ n. refl) (nests-bracketed (nests-comma expr_tokens expr_depth expr_nests es)))) (fold-roll-Tail _ _ _ _ _ _ _ _ _ _ _ _ _ _ _) (fold-roll-Tail _ _ _ _ _ _ _ _ _ _ _ _ _ _ _ ∙ omega arith)
tail_step (layer.Like n p e) = nests-is (nests-append (nests-append (not_nests n) (nests-plain _ (λ n. refl) (expr_nests p))) (escape_nests e)) (fold-roll-Tail _ _ _ _ _ _ _ _ _ _ _ _ _ _ _) (fold-roll-Tail _ _ _ _ _ _ _ _ _ _ _ _ _ _ _ ∙ omega arith)
tail_step (layer.Null n) = nests-is (nests-plain _ (λ n. refl) (nests-append (not_nests n) (nests-plain _ (λ n. refl) nests-none))) (fold-roll-Tail _ _ _ _ _ _ _ _ _ _ _ _ _ _ _) (fold-roll-Tail _ _ _ _ _ _ _ _ _ _ _ _ _ _ _ ∙ omega arith)

cond_step : (y : Cond-F B T C J Q X S) → CondNests (roll-Cond (map-Cond B T C J Q X S Body Tail Cond Conj QuerySpecification TableExpression Test (λ e. e.0) (λ e. e.0) (λ e. e.0) (λ e. e.0) (λ e. e.0) (λ e. e.0) (λ e. e.0) y))
unfolding cond_tokens cond_depth conj_tokens conj_depth
cond_step y = nests-is (nests-append y.first.1 (nests-proved conj_tokens conj_depth or_tokens (λ ts d h. nests-plain _ (λ n. refl) h) y.rest)) (fold-roll-Cond _ _ _ _ _ _ _ _ _ _ _ _ _ _ _) (fold-roll-Cond _ _ _ _ _ _ _ _ _ _ _ _ _ _ _)

conj_step : (y : Conj-F B T C J Q X S) → ConjNests (roll-Conj (map-Conj B T C J Q X S Body Tail Cond Conj QuerySpecification TableExpression Test (λ e. e.0) (λ e. e.0) (λ e. e.0) (λ e. e.0) (λ e. e.0) (λ e. e.0) (λ e. e.0) y))
unfolding conj_tokens conj_depth test_tokens test_depth
conj_step y = nests-is (nests-append y.first.1 (nests-proved test_tokens test_depth and_tokens (λ ts d h. nests-plain _ (λ n. refl) h) y.rest)) (fold-roll-Conj _ _ _ _ _ _ _ _ _ _ _ _ _ _ _) (fold-roll-Conj _ _ _ _ _ _ _ _ _ _ _ _ _ _ _)

spec_step : (y : QuerySpecification-F B T C J Q X S) → SpecNests (roll-QuerySpecification (map-QuerySpecification B T C J Q X S Body Tail Cond Conj QuerySpecification TableExpression Test (λ e. e.0) (λ e. e.0) (λ e. e.0) (λ e. e.0) (λ e. e.0) (λ e. e.0) (λ e. e.0) y))
unfolding query_specification_tokens query_specification_depth table_expression_tokens table_expression_depth
spec_step y = nests-is (nests-plain _ (λ n. refl) (nests-append (nests-append (quantifier_nests y.quantifier) (select_list_nests y.list)) y.table.1)) (fold-roll-QuerySpecification _ _ _ _ _ _ _ _ _ _ _ _ _ _ _) (fold-roll-QuerySpecification _ _ _ _ _ _ _ _ _ _ _ _ _ _ _ ∙ omega arith)

from_nests : (f : CommaList TableReference) → Nests (comma_tokens table_reference_tokens f) 0
from_nests f = nests-comma0 table_reference_tokens table_reference_nests f

table_step : (y : TableExpression-F B T C J Q X S) → TableNests (roll-TableExpression (map-TableExpression B T C J Q X S Body Tail Cond Conj QuerySpecification TableExpression Test (λ e. e.0) (λ e. e.0) (λ e. e.0) (λ e. e.0) (λ e. e.0) (λ e. e.0) (λ e. e.0) y))
unfolding table_expression_tokens table_expression_depth cond_tokens cond_depth
table_step y = by y.from y.where_clause y.group_by y.having
  where
    by : (f : CommaList TableReference) (w : Option C) (g : Option (CommaList ColumnReference)) (h : Option C) → TableNests (roll-TableExpression (map-TableExpression B T C J Q X S Body Tail Cond Conj QuerySpecification TableExpression Test (λ e. e.0) (λ e. e.0) (λ e. e.0) (λ e. e.0) (λ e. e.0) (λ e. e.0) (λ e. e.0) (record { from = f; where_clause = w; group_by = g; having = h })))
    by f None g None = nests-is (nests-plain _ (λ n. refl) (nests-append (nests-append (nests-append (from_nests f) nests-none) (group_by_nests g)) nests-none)) (fold-roll-TableExpression _ _ _ _ _ _ _ _ _ _ _ _ _ _ _) (fold-roll-TableExpression _ _ _ _ _ _ _ _ _ _ _ _ _ _ _ ∙ omega arith)
    by f None g (Some h) = nests-is (nests-plain _ (λ n. refl) (nests-append (nests-append (nests-append (from_nests f) nests-none) (group_by_nests g)) (nests-plain _ (λ n. refl) h.1))) (fold-roll-TableExpression _ _ _ _ _ _ _ _ _ _ _ _ _ _ _) (fold-roll-TableExpression _ _ _ _ _ _ _ _ _ _ _ _ _ _ _ ∙ omega arith)
    by f (Some w) g None = nests-is (nests-plain _ (λ n. refl) (nests-append (nests-append (nests-append (from_nests f) (nests-plain _ (λ n. refl) w.1)) (group_by_nests g)) nests-none)) (fold-roll-TableExpression _ _ _ _ _ _ _ _ _ _ _ _ _ _ _) (fold-roll-TableExpression _ _ _ _ _ _ _ _ _ _ _ _ _ _ _ ∙ omega arith)
    by f (Some w) g (Some h) = nests-is (nests-plain _ (λ n. refl) (nests-append (nests-append (nests-append (from_nests f) (nests-plain _ (λ n. refl) w.1)) (group_by_nests g)) (nests-plain _ (λ n. refl) h.1))) (fold-roll-TableExpression _ _ _ _ _ _ _ _ _ _ _ _ _ _ _) (fold-roll-TableExpression _ _ _ _ _ _ _ _ _ _ _ _ _ _ _ ∙ omega arith)

test_step : (y : Test-F B T C J Q X S) → TestNests (roll-Test (map-Test B T C J Q X S Body Tail Cond Conj QuerySpecification TableExpression Test (λ e. e.0) (λ e. e.0) (λ e. e.0) (λ e. e.0) (λ e. e.0) (λ e. e.0) (λ e. e.0) y))
unfolding test_tokens test_depth body_tokens body_depth
test_step y = nests-is (nests-append (not_nests y.negated) y.body.1) (fold-roll-Test _ _ _ _ _ _ _ _ _ _ _ _ _ _ _) (fold-roll-Test _ _ _ _ _ _ _ _ _ _ _ _ _ _ _ ∙ omega arith)

pub cond_nests : (c : Cond) → CondNests c
cond_nests c = ind-Cond BodyNests TailNests CondNests ConjNests SpecNests TableNests TestNests
    (λ x y is. subst (λ z. BodyNests (roll-Body z)) is (body_step y))
    (λ x y is. subst (λ z. TailNests (roll-Tail z)) is (tail_step y))
    (λ x y is. subst (λ z. CondNests (roll-Cond z)) is (cond_step y))
    (λ x y is. subst (λ z. ConjNests (roll-Conj z)) is (conj_step y))
    (λ x y is. subst (λ z. SpecNests (roll-QuerySpecification z)) is (spec_step y))
    (λ x y is. subst (λ z. TableNests (roll-TableExpression z)) is (table_step y))
    (λ x y is. subst (λ z. TestNests (roll-Test z)) is (test_step y))
    c

pub query_specification_nests : (s : QuerySpecification) → SpecNests s
query_specification_nests s = ind-QuerySpecification BodyNests TailNests CondNests ConjNests SpecNests TableNests TestNests
    (λ x y is. subst (λ z. BodyNests (roll-Body z)) is (body_step y))
    (λ x y is. subst (λ z. TailNests (roll-Tail z)) is (tail_step y))
    (λ x y is. subst (λ z. CondNests (roll-Cond z)) is (cond_step y))
    (λ x y is. subst (λ z. ConjNests (roll-Conj z)) is (conj_step y))
    (λ x y is. subst (λ z. SpecNests (roll-QuerySpecification z)) is (spec_step y))
    (λ x y is. subst (λ z. TableNests (roll-TableExpression z)) is (table_step y))
    (λ x y is. subst (λ z. TestNests (roll-Test z)) is (test_step y))
    s

pub table_expression_nests : (t : TableExpression) → TableNests t
table_expression_nests t = ind-TableExpression BodyNests TailNests CondNests ConjNests SpecNests TableNests TestNests
    (λ x y is. subst (λ z. BodyNests (roll-Body z)) is (body_step y))
    (λ x y is. subst (λ z. TailNests (roll-Tail z)) is (tail_step y))
    (λ x y is. subst (λ z. CondNests (roll-Cond z)) is (cond_step y))
    (λ x y is. subst (λ z. ConjNests (roll-Conj z)) is (conj_step y))
    (λ x y is. subst (λ z. SpecNests (roll-QuerySpecification z)) is (spec_step y))
    (λ x y is. subst (λ z. TableNests (roll-TableExpression z)) is (table_step y))
    (λ x y is. subst (λ z. TestNests (roll-Test z)) is (test_step y))
    t
