-- The tree by place of a bound search condition or query specification is the tree of the part that the definitions see (ISO/IEC
-- 9075:1992, 7.9 and 8.12).
use Rattle.std.proofs.Common.{◌≡◌, ℕ, Bool, true, false, List, [], ◌∷◌, map, Option, Some, None, refl, sym, ap, ◌∙◌}
use Rattle.std.specs.Option.{option_map}
use Rattle.std.specs.Prelude.{IfSome}
use Rattle.std.specs.List.{AllByRecursion}
use Rattle.sq_meaning.specs.Syntax.{compare, between, in_subquery, in_list, like, is_null, exists, conjunction, disjunction, conds, present, expressions, select, absent}
use Rattle.sq_meaning.specs.Syntax as tree
use Rattle.sq_bound.proofs.ConditionLaws.{cond_of-out, conj_of-out, test_of-out, predicate_of-Compare, predicate_of-CompareQuery, predicate_of-Between, predicate_of-InQuery, predicate_of-InList, predicate_of-Like, predicate_of-Null, predicate_of-Exists, predicate_of-Bracketed, groups_of-out, select_of-out}
use Rattle.sq_bound.specs.Condition.{Groups, PlacedCond, compared_with, conj_of, groups_of, predicate_of, select_by, test_of}
use Rattle.sq_bound.specs.Condition.{clause_of as clause_meant, cond_of as cond_meant, groups_if as groups_meant_if, not_if as not_meant_if, select_of as select_meant}
use Rattle.sq_bound.specs.Expression.{PlacedExpr, expr_of, place_meant}
use Rattle.sq_bound.specs.declared.condition.BoundCond.{BoundCond, out-BoundCond, roll-out-BoundCond}
use Rattle.sq_bound.specs.declared.condition.BoundConj.{BoundConj, out-BoundConj, roll-out-BoundConj}
use Rattle.sq_bound.specs.declared.condition.BoundSpecification.{BoundSpecification, out-BoundSpecification}
use Rattle.sq_bound.specs.declared.condition.BoundTest.{BoundTest}
use Rattle.sq_bound.specs.declared.condition.Grouping.{Grouping, out-Grouping, roll-out-Grouping}
use Rattle.sq_bound.specs.declared.condition.Predicate.{Predicate}
use Rattle.sq_bound.specs.declared.condition.Predicate.TheVariants as bound
use Rattle.sq_bound.specs.declared.condition.TablePlace.{TablePlace}
use Rattle.sq_bound.specs.declared.expression.BoundExpr.{BoundExpr}
use Rattle.sq_binding.specs.NumberedCondition.{NumberedCond, NumberedGroups, NumberedSelect, ResultColumn, clause_of, cond_of, conds_of, grouping_columns, having_of, select_of, set_functions}
use Rattle.sq_binding.specs.Seen.{call_of, clause_if, column_of, cond_seen, conds_in, conj_seen, grouping_seen, groups_if, not_if, numbered_of, predicate_seen, select_seen, test_seen}
use Rattle.sq_binding.proofs.Inductions.BoundCases.{BoundCases, cond_all, predicate_all, select_all}
use Rattle.sq_binding.proofs.Standing.SeenExprs.{calls_seen, escape_seen, expr_seen, exprs_seen}
use Rattle.sq_binding.proofs.Standing.SeenLevels.{cond_seen-roll, conj_seen-roll, grouping_seen-roll, predicate_seen-Between, predicate_seen-Bracketed, predicate_seen-Compare, predicate_seen-CompareQuery, predicate_seen-Exists, predicate_seen-InList, predicate_seen-InQuery, predicate_seen-Like, predicate_seen-Null, select_seen-out, test_seen-out}

-- ---- level by level

pub cond_seen_out : (c : BoundCond) → cond_seen c ≡ NumberedCond.disjunction (conds_in (map conj_seen (out-BoundCond c).terms))
cond_seen_out c = ap cond_seen (sym (roll-out-BoundCond c)) ∙ cond_seen-roll (out-BoundCond c).terms

pub conj_seen_out : (c : BoundConj) → conj_seen c ≡ NumberedCond.conjunction (conds_in (map test_seen (out-BoundConj c).tests))
conj_seen_out c = ap conj_seen (sym (roll-out-BoundConj c)) ∙ conj_seen-roll (out-BoundConj c).tests

pub grouping_seen_out : (g : Grouping)
    → grouping_seen g ≡ NumberedGroups.grouped (map place_meant (out-Grouping g).columns) (map call_of (out-Grouping g).set_functions) (clause_if (option_map cond_seen (out-Grouping g).having))
grouping_seen_out g = ap grouping_seen (sym (roll-out-Grouping g)) ∙ grouping_seen-roll (out-Grouping g).columns (out-Grouping g).set_functions (out-Grouping g).having

-- ---- each part

abbrev PredicateSeen : Predicate → Type 0
PredicateSeen p = (functions : List PlacedExpr) → predicate_of functions p ≡ cond_of functions (predicate_seen p)

abbrev CondSeen : BoundCond → Type 0
CondSeen c = (functions : List PlacedExpr) → cond_meant functions c ≡ cond_of functions (cond_seen c)

abbrev ConjSeen : BoundConj → Type 0
ConjSeen c = (functions : List PlacedExpr) → conj_of functions c ≡ cond_of functions (conj_seen c)

abbrev TestSeen : BoundTest → Type 0
TestSeen t = (functions : List PlacedExpr) → test_of functions t ≡ cond_of functions (test_seen t)

abbrev groups_meant : NumberedGroups → Groups
groups_meant g = record { functions = set_functions g; columns = grouping_columns g; having = having_of g }

abbrev GroupingSeen : Grouping → Type 0
GroupingSeen g = groups_of g ≡ groups_meant (grouping_seen g)

abbrev SelectSeen : BoundSpecification → Type 0
SelectSeen q = select_meant q ≡ select_of (select_seen q)

not_seen : (functions : List PlacedExpr) (n : Bool) (c : NumberedCond) → not_meant_if n (cond_of functions c) ≡ cond_of functions (not_if n c)
not_seen functions true c = refl
not_seen functions false c = refl

-- where NOT may be written
maybe_not : (functions : List PlacedExpr) (p : Predicate) (n : Bool) (t : PlacedCond) (c : NumberedCond) → predicate_of functions p ≡ not_meant_if n t → t ≡ cond_of functions c → predicate_seen p ≡ not_if n c
    → predicate_of functions p ≡ cond_of functions (predicate_seen p)
maybe_not functions p n t c e same f = e ∙ ap (not_meant_if n) same ∙ not_seen functions n c ∙ sym (ap (cond_of functions) f)

each_seen : {A : Type 0} (functions : List PlacedExpr) (meant : A → PlacedCond) (seen : A → NumberedCond) (xs : List A) → AllByRecursion (λ x. meant x ≡ cond_of functions (seen x)) xs
    → conds (map meant xs) ≡ conds_of functions (conds_in (map seen xs))
each_seen functions meant seen [] h = refl
each_seen functions meant seen (x ∷ xs) h = λ i. tree.a_cond (h.0 i) (each_seen functions meant seen xs h.1 i)

at_functions : {A : Type 0} (functions : List PlacedExpr) (meant : List PlacedExpr → A → PlacedCond) (seen : A → NumberedCond) (xs : List A)
    → AllByRecursion (λ x. (functions : List PlacedExpr) → meant functions x ≡ cond_of functions (seen x)) xs → AllByRecursion (λ x. meant functions x ≡ cond_of functions (seen x)) xs
at_functions functions meant seen [] h = tt
at_functions functions meant seen (x ∷ xs) h = (h.0 functions, at_functions functions meant seen xs h.1)

clause_seen : (functions : List PlacedExpr) (clause : Option BoundCond) → IfSome clause CondSeen → clause_meant functions clause ≡ clause_of functions (clause_if (option_map cond_seen clause))
clause_seen functions None h = refl
clause_seen functions (Some c) h = ap (λ (t : PlacedCond). present t) (h functions)

groups_seen : (g : Grouping) → IfSome (out-Grouping g).having CondSeen → GroupingSeen g
groups_seen g h =
    let o = out-Grouping g in
    groups_of-out g
    ∙ (λ i. record { functions = calls_seen o.set_functions i; columns = map place_meant o.columns; having = clause_meant (calls_seen o.set_functions i) o.having })
    ∙ (λ i. record { functions = map call_of o.set_functions; columns = map place_meant o.columns; having = clause_seen (map call_of o.set_functions) o.having h i })
    ∙ sym (ap groups_meant (grouping_seen_out g))

-- a query specification by its parts
parts_seen : (d : Bool) (list : List BoundExpr) (tables : List TablePlace) (condition : Option BoundCond) (grouping : Option Grouping) (columns : List ResultColumn) (can_fail : Bool) (number : Option ℕ)
    → IfSome condition CondSeen → IfSome grouping GroupingSeen
    → select_by d list tables (clause_meant [] condition) (groups_meant_if (option_map groups_of grouping))
    ≡ select_of (NumberedSelect.select d (map numbered_of list) tables (clause_if (option_map cond_seen condition)) (groups_if (option_map grouping_seen grouping)) columns can_fail number)
parts_seen d list tables condition None columns can_fail number h g = λ i. select d (expressions (exprs_seen [] list i)) tables (clause_seen [] condition h i) [] absent
parts_seen d list tables condition (Some grouping) columns can_fail number h g =
    ap (select_by d list tables (clause_meant [] condition)) g
    ∙ (λ i. select d (expressions (exprs_seen (set_functions (grouping_seen grouping)) list i)) tables (clause_seen [] condition h i) (grouping_columns (grouping_seen grouping)) (having_of (grouping_seen grouping)))

cases : BoundCases PredicateSeen CondSeen ConjSeen SelectSeen TestSeen GroupingSeen
cases = record {
  of_compare = λ op a b functions. predicate_of-Compare functions op a b ∙ (λ i. compare op (expr_seen functions a i) (expr_seen functions b i)) ∙ sym (ap (cond_of functions) (predicate_seen-Compare op a b));
  of_compare_query = λ op k a q h functions.
      predicate_of-CompareQuery functions op k a q ∙ (λ i. compared_with k op (expr_seen functions a i) (h i)) ∙ sym (ap (cond_of functions) (predicate_seen-CompareQuery op k a q));
  of_between = λ n a low high functions.
      maybe_not functions (bound.Between n a low high) n (between (expr_of functions a) (expr_of functions low) (expr_of functions high)) (NumberedCond.between (numbered_of a) (numbered_of low) (numbered_of high))
      (predicate_of-Between functions n a low high) (λ i. between (expr_seen functions a i) (expr_seen functions low i) (expr_seen functions high i)) (predicate_seen-Between n a low high);
  of_in_query = λ n a q h functions.
      maybe_not functions (bound.InQuery n a q) n (in_subquery (expr_of functions a) (select_meant q)) (NumberedCond.in_query (numbered_of a) (select_seen q)) (predicate_of-InQuery functions n a q)
      (λ i. in_subquery (expr_seen functions a i) (h i)) (predicate_seen-InQuery n a q);
  of_in_list = λ n a es functions.
      maybe_not functions (bound.InList n a es) n (in_list (expr_of functions a) (map (expr_of functions) es)) (NumberedCond.in_list (numbered_of a) (map numbered_of es)) (predicate_of-InList functions n a es)
      (λ i. in_list (expr_seen functions a i) (exprs_seen functions es i)) (predicate_seen-InList n a es);
  of_like = λ n text pattern escape functions.
      maybe_not functions (bound.Like n text pattern escape) n (like (expr_of functions text) (expr_of functions pattern) (option_map (expr_of functions) escape))
      (NumberedCond.like (numbered_of text) (numbered_of pattern) (option_map numbered_of escape)) (predicate_of-Like functions n text pattern escape)
      (λ i. like (expr_seen functions text i) (expr_seen functions pattern i) (escape_seen functions escape i)) (predicate_seen-Like n text pattern escape);
  of_null = λ n a functions.
      maybe_not functions (bound.Null n a) n (is_null (expr_of functions a)) (NumberedCond.is_null (numbered_of a)) (predicate_of-Null functions n a) (ap is_null (expr_seen functions a)) (predicate_seen-Null n a);
  of_exists = λ q h functions. predicate_of-Exists functions q ∙ ap exists h ∙ sym (ap (cond_of functions) (predicate_seen-Exists q));
  of_bracketed = λ c h functions. predicate_of-Bracketed functions c ∙ h functions ∙ sym (ap (cond_of functions) (predicate_seen-Bracketed c));
  of_test = λ t h functions. test_of-out functions t ∙ ap (not_meant_if t.negated) (h functions) ∙ not_seen functions t.negated (predicate_seen t.predicate) ∙ sym (ap (cond_of functions) (test_seen-out t));
  of_conj = λ c h functions.
      conj_of-out functions c ∙ ap conjunction (each_seen functions (test_of functions) test_seen (out-BoundConj c).tests (at_functions functions test_of test_seen (out-BoundConj c).tests h))
      ∙ sym (ap (cond_of functions) (conj_seen_out c));
  of_cond = λ c h functions.
      cond_of-out functions c ∙ ap disjunction (each_seen functions (conj_of functions) conj_seen (out-BoundCond c).terms (at_functions functions conj_of conj_seen (out-BoundCond c).terms h))
      ∙ sym (ap (cond_of functions) (cond_seen_out c));
  of_grouping = groups_seen;
  of_select = λ q h g.
      let o = out-BoundSpecification q in
      select_of-out q ∙ parts_seen o.distinct o.list o.from.tables o.condition o.grouping (map column_of o.columns) o.can_fail o.number h g ∙ sym (ap select_of (select_seen-out q));
}

-- the trees are the same
pub predicate_tree : (functions : List PlacedExpr) (p : Predicate) → predicate_of functions p ≡ cond_of functions (predicate_seen p)
predicate_tree functions p = predicate_all PredicateSeen CondSeen ConjSeen SelectSeen TestSeen GroupingSeen cases p functions

pub cond_tree : (functions : List PlacedExpr) (c : BoundCond) → cond_meant functions c ≡ cond_of functions (cond_seen c)
cond_tree functions c = cond_all PredicateSeen CondSeen ConjSeen SelectSeen TestSeen GroupingSeen cases c functions

pub test_tree : (functions : List PlacedExpr) (t : BoundTest) → test_of functions t ≡ cond_of functions (test_seen t)
test_tree functions t = cases.of_test t (λ functions. predicate_tree functions t.predicate) functions

pub clause_tree : (functions : List PlacedExpr) (clause : Option BoundCond) → clause_meant functions clause ≡ clause_of functions (clause_if (option_map cond_seen clause))
clause_tree functions None = refl
clause_tree functions (Some c) = ap (λ (t : PlacedCond). present t) (cond_tree functions c)

pub select_tree : (q : BoundSpecification) → select_meant q ≡ select_of (select_seen q)
select_tree q = select_all PredicateSeen CondSeen ConjSeen SelectSeen TestSeen GroupingSeen cases q
