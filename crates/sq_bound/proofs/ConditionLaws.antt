-- The meanings of bound conditions and query specifications, level by level.
use Rattle.sq_bound.specs.declared.condition.BoundFrom.{BoundFrom}
use Rattle.std.proofs.Common.{◌≡◌, ℕ, Bool, List, [], Option, Some, None, sym, ◌∙◌, ap, map}
use Rattle.std.specs.Option.{option_map}
use Rattle.std.proofs.lemmas.Simd.{map-map}
use Rattle.sq_tree.specs.declared.cond.Comparison.{Comparison}
use Rattle.sq_meaning.specs.Syntax.{compare, between, in_subquery, in_list, like, is_null, exists, conjunction, disjunction, conds}
use Rattle.sq_bound.specs.Expression.{PlacedExpr, expr_of}
use Rattle.sq_bound.specs.SetFunction.{call_of}
use Rattle.sq_bound.specs.Condition.{PlacedCond, cond_of, conj_of, test_of, predicate_of, select_of, groups_of, clause_of, not_if, compared_with, groups_if, groups_by, select_by}
use Rattle.sq_bound.specs.declared.condition.Compared.{Compared}
use Rattle.sq_bound.specs.declared.condition.ResultColumn.{ResultColumn}
use Rattle.sq_bound.specs.declared.condition.BoundCond.{BoundCond, out-BoundCond, fold_out-BoundCond}
use Rattle.sq_bound.specs.declared.condition.BoundConj.{BoundConj, out-BoundConj, fold_out-BoundConj}
use Rattle.sq_bound.specs.declared.condition.BoundTest.{BoundTest, fold_out-BoundTest}
use Rattle.sq_bound.specs.declared.condition.BoundSpecification.{BoundSpecification, out-BoundSpecification, fold-roll-BoundSpecification, roll-BoundSpecification, roll-out-BoundSpecification}
use Rattle.sq_bound.specs.declared.condition.Grouping.{Grouping, out-Grouping, fold-roll-Grouping, roll-Grouping, roll-out-Grouping}
use Rattle.sq_bound.specs.declared.condition.Predicate.{fold-roll-Predicate}
use Rattle.sq_bound.specs.declared.condition.Predicate.TheVariants as bound
use Rattle.sq_bound.specs.declared.condition.Predicate.TheOpen as layer
use Rattle.sq_bound.specs.declared.expression.BoundExpr.{BoundExpr}
use Rattle.sq_bound.specs.declared.expression.Place.{Place}
use Rattle.sq_bound.specs.declared.expression.SetFunctionCall.{SetFunctionCall}

-- a tree that waits for the set functions of its group
abbrev at : List PlacedExpr → (List PlacedExpr → PlacedCond) → PlacedCond
at functions c = c functions

pub cond_of-out : (functions : List PlacedExpr) (c : BoundCond) → cond_of functions c ≡ disjunction (conds (map (conj_of functions) (out-BoundCond c).terms))
unfolding cond_of conj_of
cond_of-out functions c = ap (at functions) (fold_out-BoundCond _ _ _ _ _ _ _ _ _ _ _ _ c) ∙ ap (λ (cs : List PlacedCond). disjunction (conds cs)) (map-map _ _ (out-BoundCond c).terms)

pub conj_of-out : (functions : List PlacedExpr) (c : BoundConj) → conj_of functions c ≡ conjunction (conds (map (test_of functions) (out-BoundConj c).tests))
unfolding conj_of test_of
conj_of-out functions c = ap (at functions) (fold_out-BoundConj _ _ _ _ _ _ _ _ _ _ _ _ c) ∙ ap (λ (cs : List PlacedCond). conjunction (conds cs)) (map-map _ _ (out-BoundConj c).tests)

pub test_of-out : (functions : List PlacedExpr) (t : BoundTest) → test_of functions t ≡ not_if t.negated (predicate_of functions t.predicate)
unfolding test_of predicate_of
test_of-out functions t = ap (at functions) (fold_out-BoundTest _ _ _ _ _ _ _ _ _ _ _ _ t)

pub predicate_of-Compare : (functions : List PlacedExpr) (op : Comparison) (a b : BoundExpr) → predicate_of functions (bound.Compare op a b) ≡ compare op (expr_of functions a) (expr_of functions b)
unfolding predicate_of
predicate_of-Compare functions op a b = ap (predicate_of functions) (sym (bound.rolls-Compare op a b)) ∙ ap (at functions) (fold-roll-Predicate _ _ _ _ _ _ _ _ _ _ _ _ (layer.Compare op a b))

pub predicate_of-CompareQuery : (functions : List PlacedExpr) (op : Comparison) (q : Compared) (a : BoundExpr) (s : BoundSpecification) → predicate_of functions (bound.CompareQuery op q a s) ≡ compared_with q op (expr_of functions a) (select_of s)
unfolding predicate_of select_of
predicate_of-CompareQuery functions op q a s = ap (predicate_of functions) (sym (bound.rolls-CompareQuery op q a s)) ∙ ap (at functions) (fold-roll-Predicate _ _ _ _ _ _ _ _ _ _ _ _ (layer.CompareQuery op q a s))

pub predicate_of-Between : (functions : List PlacedExpr) (n : Bool) (a low high : BoundExpr) → predicate_of functions (bound.Between n a low high) ≡ not_if n (between (expr_of functions a) (expr_of functions low) (expr_of functions high))
unfolding predicate_of
predicate_of-Between functions n a low high = ap (predicate_of functions) (sym (bound.rolls-Between n a low high)) ∙ ap (at functions) (fold-roll-Predicate _ _ _ _ _ _ _ _ _ _ _ _ (layer.Between n a low high))

pub predicate_of-InQuery : (functions : List PlacedExpr) (n : Bool) (a : BoundExpr) (s : BoundSpecification) → predicate_of functions (bound.InQuery n a s) ≡ not_if n (in_subquery (expr_of functions a) (select_of s))
unfolding predicate_of select_of
predicate_of-InQuery functions n a s = ap (predicate_of functions) (sym (bound.rolls-InQuery n a s)) ∙ ap (at functions) (fold-roll-Predicate _ _ _ _ _ _ _ _ _ _ _ _ (layer.InQuery n a s))

pub predicate_of-InList : (functions : List PlacedExpr) (n : Bool) (a : BoundExpr) (es : List BoundExpr) → predicate_of functions (bound.InList n a es) ≡ not_if n (in_list (expr_of functions a) (map (expr_of functions) es))
unfolding predicate_of
predicate_of-InList functions n a es = ap (predicate_of functions) (sym (bound.rolls-InList n a es)) ∙ ap (at functions) (fold-roll-Predicate _ _ _ _ _ _ _ _ _ _ _ _ (layer.InList n a es))

pub predicate_of-Like : (functions : List PlacedExpr) (n : Bool) (text pattern : BoundExpr) (escape : Option BoundExpr) → predicate_of functions (bound.Like n text pattern escape) ≡ not_if n (like (expr_of functions text) (expr_of functions pattern) (option_map (expr_of functions) escape))
unfolding predicate_of
predicate_of-Like functions n text pattern escape = ap (predicate_of functions) (sym (bound.rolls-Like n text pattern escape)) ∙ ap (at functions) (fold-roll-Predicate _ _ _ _ _ _ _ _ _ _ _ _ (layer.Like n text pattern escape))

pub predicate_of-Null : (functions : List PlacedExpr) (n : Bool) (a : BoundExpr) → predicate_of functions (bound.Null n a) ≡ not_if n (is_null (expr_of functions a))
unfolding predicate_of
predicate_of-Null functions n a = ap (predicate_of functions) (sym (bound.rolls-Null n a)) ∙ ap (at functions) (fold-roll-Predicate _ _ _ _ _ _ _ _ _ _ _ _ (layer.Null n a))

pub predicate_of-Exists : (functions : List PlacedExpr) (s : BoundSpecification) → predicate_of functions (bound.Exists s) ≡ exists (select_of s)
unfolding predicate_of select_of
predicate_of-Exists functions s = ap (predicate_of functions) (sym (bound.rolls-Exists s)) ∙ ap (at functions) (fold-roll-Predicate _ _ _ _ _ _ _ _ _ _ _ _ (layer.Exists s))

pub predicate_of-Bracketed : (functions : List PlacedExpr) (c : BoundCond) → predicate_of functions (bound.Bracketed c) ≡ cond_of functions c
unfolding predicate_of cond_of
predicate_of-Bracketed functions c = ap (predicate_of functions) (sym (bound.rolls-Bracketed c)) ∙ ap (at functions) (fold-roll-Predicate _ _ _ _ _ _ _ _ _ _ _ _ (layer.Bracketed c))

pub groups_of-roll : (columns : List Place) (set_functions : List SetFunctionCall) (having : Option BoundCond)
    → groups_of (roll-Grouping (record { columns = columns; set_functions = set_functions; having = having }))
    ≡ groups_by columns (map call_of set_functions) (clause_of (map call_of set_functions) having)
unfolding groups_of cond_of
groups_of-roll columns set_functions None = fold-roll-Grouping _ _ _ _ _ _ _ _ _ _ _ _ _
groups_of-roll columns set_functions (Some c) = fold-roll-Grouping _ _ _ _ _ _ _ _ _ _ _ _ _

pub groups_of-out : (g : Grouping)
    → groups_of g ≡ groups_by (out-Grouping g).columns (map call_of (out-Grouping g).set_functions) (clause_of (map call_of (out-Grouping g).set_functions) (out-Grouping g).having)
groups_of-out g = ap groups_of (sym (roll-out-Grouping g)) ∙ groups_of-roll (out-Grouping g).columns (out-Grouping g).set_functions (out-Grouping g).having

pub select_of-roll : (d : Bool) (list : List BoundExpr) (from : BoundFrom) (condition : Option BoundCond) (grouping : Option Grouping) (columns : List ResultColumn) (can_fail : Bool) (number : Option ℕ)
    → select_of (roll-BoundSpecification (record { distinct = d; list = list; from = from; condition = condition; grouping = grouping; columns = columns; can_fail = can_fail; number = number }))
    ≡ select_by d list from.tables (clause_of [] condition) (groups_if (option_map groups_of grouping))
unfolding select_of groups_of cond_of
select_of-roll d list from None None columns can_fail number = fold-roll-BoundSpecification _ _ _ _ _ _ _ _ _ _ _ _ _
select_of-roll d list from None (Some g) columns can_fail number = fold-roll-BoundSpecification _ _ _ _ _ _ _ _ _ _ _ _ _
select_of-roll d list from (Some c) None columns can_fail number = fold-roll-BoundSpecification _ _ _ _ _ _ _ _ _ _ _ _ _
select_of-roll d list from (Some c) (Some g) columns can_fail number = fold-roll-BoundSpecification _ _ _ _ _ _ _ _ _ _ _ _ _

pub select_of-out : (s : BoundSpecification)
    → select_of s ≡ select_by (out-BoundSpecification s).distinct (out-BoundSpecification s).list (out-BoundSpecification s).from.tables (clause_of [] (out-BoundSpecification s).condition) (groups_if (option_map groups_of (out-BoundSpecification s).grouping))
select_of-out s =
    let o = out-BoundSpecification s in
    ap select_of (sym (roll-out-BoundSpecification s)) ∙ select_of-roll o.distinct o.list o.from o.condition o.grouping o.columns o.can_fail o.number
