-- The parts of bound conditions and query specifications that the definitions see, level by level.
use Rattle.std.proofs.Common.{◌≡◌, ℕ, Bool, List, Option, Some, None, sym, ◌∙◌, ap, map}
use Rattle.std.specs.Option.{option_map}
use Rattle.sq_tree.specs.declared.cond.Comparison.{Comparison}
use Rattle.sq_bound.specs.Expression.{place_meant}
use Rattle.sq_bound.specs.declared.condition.BoundCond.{BoundCond, roll-BoundCond, fold-roll-BoundCond}
use Rattle.sq_bound.specs.declared.condition.BoundConj.{BoundConj, roll-BoundConj, fold-roll-BoundConj}
use Rattle.sq_bound.specs.declared.condition.BoundFrom.{BoundFrom}
use Rattle.sq_bound.specs.declared.condition.BoundSpecification.{BoundSpecification, out-BoundSpecification, fold-roll-BoundSpecification, roll-BoundSpecification, roll-out-BoundSpecification}
use Rattle.sq_bound.specs.declared.condition.BoundTest.{BoundTest, fold_out-BoundTest}
use Rattle.sq_bound.specs.declared.condition.Compared.{Compared}
use Rattle.sq_bound.specs.declared.condition.Grouping.{Grouping, fold-roll-Grouping, out-Grouping, roll-Grouping, roll-out-Grouping}
use Rattle.sq_bound.specs.declared.condition.Predicate.{fold-roll-Predicate}
use Rattle.sq_bound.specs.declared.condition.Predicate.TheOpen as layer
use Rattle.sq_bound.specs.declared.condition.Predicate.TheVariants as bound
use Rattle.sq_bound.specs.declared.condition.ResultColumn.{ResultColumn as BoundColumn}
use Rattle.sq_bound.specs.declared.expression.BoundExpr.{BoundExpr}
use Rattle.sq_bound.specs.declared.expression.Place.{Place}
use Rattle.sq_bound.specs.declared.expression.SetFunctionCall.{SetFunctionCall}
use Rattle.sq_binding.specs.NumberedCondition.{NumberedCond, NumberedGroups, NumberedSelect, columns_of, with_number}
use Rattle.sq_binding.specs.Seen.{call_of, clause_if, column_of, cond_seen, conds_in, conj_seen, grouping_seen, groups_if, not_if, numbered_of, predicate_seen, select_seen, test_seen}

pub cond_seen-roll : (terms : List BoundConj) → cond_seen (roll-BoundCond (record { terms = terms })) ≡ NumberedCond.disjunction (conds_in (map conj_seen terms))
unfolding cond_seen conj_seen
cond_seen-roll terms = fold-roll-BoundCond _ _ _ _ _ _ _ _ _ _ _ _ _

pub conj_seen-roll : (tests : List BoundTest) → conj_seen (roll-BoundConj (record { tests = tests })) ≡ NumberedCond.conjunction (conds_in (map test_seen tests))
unfolding conj_seen test_seen
conj_seen-roll tests = fold-roll-BoundConj _ _ _ _ _ _ _ _ _ _ _ _ _

pub test_seen-out : (t : BoundTest) → test_seen t ≡ NumberedCond.noted t.items t.can_fail (not_if t.negated (predicate_seen t.predicate))
unfolding test_seen predicate_seen
test_seen-out t = fold_out-BoundTest _ _ _ _ _ _ _ _ _ _ _ _ t

pub predicate_seen-Compare : (op : Comparison) (a b : BoundExpr) → predicate_seen (bound.Compare op a b) ≡ NumberedCond.compare op (numbered_of a) (numbered_of b)
unfolding predicate_seen
predicate_seen-Compare op a b = ap predicate_seen (sym (bound.rolls-Compare op a b)) ∙ fold-roll-Predicate _ _ _ _ _ _ _ _ _ _ _ _ (layer.Compare op a b)

pub predicate_seen-CompareQuery : (op : Comparison) (compared : Compared) (a : BoundExpr) (q : BoundSpecification)
    → predicate_seen (bound.CompareQuery op compared a q) ≡ NumberedCond.compare_query compared op (numbered_of a) (select_seen q)
unfolding predicate_seen select_seen
predicate_seen-CompareQuery op compared a q = ap predicate_seen (sym (bound.rolls-CompareQuery op compared a q)) ∙ fold-roll-Predicate _ _ _ _ _ _ _ _ _ _ _ _ (layer.CompareQuery op compared a q)

pub predicate_seen-Between : (n : Bool) (a low high : BoundExpr)
    → predicate_seen (bound.Between n a low high) ≡ not_if n (NumberedCond.between (numbered_of a) (numbered_of low) (numbered_of high))
unfolding predicate_seen
predicate_seen-Between n a low high = ap predicate_seen (sym (bound.rolls-Between n a low high)) ∙ fold-roll-Predicate _ _ _ _ _ _ _ _ _ _ _ _ (layer.Between n a low high)

pub predicate_seen-InQuery : (n : Bool) (a : BoundExpr) (q : BoundSpecification) → predicate_seen (bound.InQuery n a q) ≡ not_if n (NumberedCond.in_query (numbered_of a) (select_seen q))
unfolding predicate_seen select_seen
predicate_seen-InQuery n a q = ap predicate_seen (sym (bound.rolls-InQuery n a q)) ∙ fold-roll-Predicate _ _ _ _ _ _ _ _ _ _ _ _ (layer.InQuery n a q)

pub predicate_seen-InList : (n : Bool) (a : BoundExpr) (es : List BoundExpr) → predicate_seen (bound.InList n a es) ≡ not_if n (NumberedCond.in_list (numbered_of a) (map numbered_of es))
unfolding predicate_seen
predicate_seen-InList n a es = ap predicate_seen (sym (bound.rolls-InList n a es)) ∙ fold-roll-Predicate _ _ _ _ _ _ _ _ _ _ _ _ (layer.InList n a es)

pub predicate_seen-Like : (n : Bool) (text pattern : BoundExpr) (escape : Option BoundExpr)
    → predicate_seen (bound.Like n text pattern escape) ≡ not_if n (NumberedCond.like (numbered_of text) (numbered_of pattern) (option_map numbered_of escape))
unfolding predicate_seen
predicate_seen-Like n text pattern escape = ap predicate_seen (sym (bound.rolls-Like n text pattern escape)) ∙ fold-roll-Predicate _ _ _ _ _ _ _ _ _ _ _ _ (layer.Like n text pattern escape)

pub predicate_seen-Null : (n : Bool) (a : BoundExpr) → predicate_seen (bound.Null n a) ≡ not_if n (NumberedCond.is_null (numbered_of a))
unfolding predicate_seen
predicate_seen-Null n a = ap predicate_seen (sym (bound.rolls-Null n a)) ∙ fold-roll-Predicate _ _ _ _ _ _ _ _ _ _ _ _ (layer.Null n a)

pub predicate_seen-Exists : (q : BoundSpecification) → predicate_seen (bound.Exists q) ≡ NumberedCond.exists (select_seen q)
unfolding predicate_seen select_seen
predicate_seen-Exists q = ap predicate_seen (sym (bound.rolls-Exists q)) ∙ fold-roll-Predicate _ _ _ _ _ _ _ _ _ _ _ _ (layer.Exists q)

pub predicate_seen-Bracketed : (c : BoundCond) → predicate_seen (bound.Bracketed c) ≡ cond_seen c
unfolding predicate_seen cond_seen
predicate_seen-Bracketed c = ap predicate_seen (sym (bound.rolls-Bracketed c)) ∙ fold-roll-Predicate _ _ _ _ _ _ _ _ _ _ _ _ (layer.Bracketed c)

pub grouping_seen-roll : (columns : List Place) (set_functions : List SetFunctionCall) (having : Option BoundCond)
    → grouping_seen (roll-Grouping (record { columns = columns; set_functions = set_functions; having = having }))
    ≡ NumberedGroups.grouped (map place_meant columns) (map call_of set_functions) (clause_if (option_map cond_seen having))
unfolding grouping_seen cond_seen
grouping_seen-roll columns set_functions None = fold-roll-Grouping _ _ _ _ _ _ _ _ _ _ _ _ _
grouping_seen-roll columns set_functions (Some c) = fold-roll-Grouping _ _ _ _ _ _ _ _ _ _ _ _ _

pub grouping_seen-out : (g : Grouping) → let o = out-Grouping g in grouping_seen g ≡ NumberedGroups.grouped (map place_meant o.columns) (map call_of o.set_functions) (clause_if (option_map cond_seen o.having))
grouping_seen-out g = let o = out-Grouping g in ap grouping_seen (sym (roll-out-Grouping g)) ∙ grouping_seen-roll o.columns o.set_functions o.having

pub select_seen-roll : (d : Bool) (list : List BoundExpr) (from : BoundFrom) (condition : Option BoundCond) (grouping : Option Grouping) (columns : List BoundColumn) (can_fail : Bool) (number : Option ℕ)
    → select_seen (roll-BoundSpecification (record { distinct = d; list = list; from = from; condition = condition; grouping = grouping; columns = columns; can_fail = can_fail; number = number }))
    ≡ NumberedSelect.select d (map numbered_of list) from.tables (clause_if (option_map cond_seen condition)) (groups_if (option_map grouping_seen grouping)) (map column_of columns) can_fail number
unfolding select_seen grouping_seen cond_seen
select_seen-roll d list from None None columns can_fail number = fold-roll-BoundSpecification _ _ _ _ _ _ _ _ _ _ _ _ _
select_seen-roll d list from None (Some g) columns can_fail number = fold-roll-BoundSpecification _ _ _ _ _ _ _ _ _ _ _ _ _
select_seen-roll d list from (Some c) None columns can_fail number = fold-roll-BoundSpecification _ _ _ _ _ _ _ _ _ _ _ _ _
select_seen-roll d list from (Some c) (Some g) columns can_fail number = fold-roll-BoundSpecification _ _ _ _ _ _ _ _ _ _ _ _ _

pub select_seen-out : (s : BoundSpecification) → let o = out-BoundSpecification s in
    select_seen s ≡ NumberedSelect.select o.distinct (map numbered_of o.list) o.from.tables (clause_if (option_map cond_seen o.condition)) (groups_if (option_map grouping_seen o.grouping)) (map column_of o.columns) o.can_fail o.number
select_seen-out s =
    let o = out-BoundSpecification s in
    ap select_seen (sym (roll-out-BoundSpecification s)) ∙ select_seen-roll o.distinct o.list o.from o.condition o.grouping o.columns o.can_fail o.number

-- a query specification with another number is seen the same but for it
pub renumbered_seen : (s : BoundSpecification) (number : Option ℕ) → let o = out-BoundSpecification s in
    select_seen (roll-BoundSpecification (record { distinct = o.distinct; list = o.list; from = o.from; condition = o.condition; grouping = o.grouping; columns = o.columns; can_fail = o.can_fail; number = number }))
    ≡ with_number number (select_seen s)
renumbered_seen s number =
    let o = out-BoundSpecification s in
    select_seen-roll o.distinct o.list o.from o.condition o.grouping o.columns o.can_fail number ∙ ap (with_number number) (sym (select_seen-out s))

pub columns_seen : (s : BoundSpecification) → columns_of (select_seen s) ≡ map column_of (out-BoundSpecification s).columns
columns_seen s = ap columns_of (select_seen-out s)
