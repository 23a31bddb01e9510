-- The notes on bound trees are true if they are true of the parts that the definitions see. They are on each test of a condition, and on
-- each query specification in one, at any depth (ISO/IEC 9075:1992, 6.5, 7.3 to 7.9, 7.11 and 8.12).
use Rattle.std.proofs.Common.{◌≡◌, ℕ, Bool, true, false, List, [], ◌∷◌, ◌++◌, map, Option, Some, None, sym, ap, subst, ◌∙◌}
use Rattle.std.specs.Option.{option_map}
use Rattle.std.specs.Prelude.{IfSome}
use Rattle.std.specs.List.{AllByRecursion}
use Rattle.sq_meaning.specs.Query.{clause_functions, is_grouped, list_functions}
use Rattle.sq_meaning.specs.Sure.{is_sure, is_sure_select}
use Rattle.sq_meaning.specs.Syntax.{expressions}
use Rattle.sq_bound.proofs.Nested.{cond_made, conj_made, grouping_made, predicate_made, select_made, test_made}
use Rattle.sq_bound.specs.Columns.{ReadsItems}
use Rattle.sq_bound.specs.Condition.{test_of}
use Rattle.sq_bound.specs.Condition.{clause_of as clause_meant}
use Rattle.sq_bound.specs.Expression.{PlacedExpr, expr_of, place_meant}
use Rattle.sq_bound.specs.Groups as meant_groups
use Rattle.sq_bound.specs.Noted.{AreNotedTests, AreSure, HasNotes, IsNoted, SelectIsNoted, CondIsNoted, may_fail}
use Rattle.sq_bound.specs.Noted as meant_notes
use Rattle.sq_bound.specs.Numbered.{ClauseWith, CondWith, ConjWith, GroupingWith, GroupsWith, PredicateWith, SelectWith, TestWith}
use Rattle.sq_bound.specs.declared.condition.BoundCond.{BoundCond, out-BoundCond}
use Rattle.sq_bound.specs.declared.condition.BoundConj.{BoundConj, out-BoundConj}
use Rattle.sq_bound.specs.declared.condition.BoundSpecification.{BoundSpecification, out-BoundSpecification}
use Rattle.sq_bound.specs.declared.condition.BoundTest.{BoundTest}
use Rattle.sq_bound.specs.declared.condition.Grouping.{Grouping, out-Grouping}
use Rattle.sq_bound.specs.declared.condition.Predicate.{Predicate}
use Rattle.sq_bound.specs.declared.condition.Predicate.TheOpen as layer
use Rattle.sq_bound.specs.declared.condition.Predicate.TheVariants as bound
use Rattle.sq_bound.specs.declared.expression.BoundExpr.{BoundExpr}
use Rattle.sq_binding.specs.NumberedCondition.{NumberedCond, NumberedSelect, cond_of}
use Rattle.sq_binding.specs.Seen.{call_of, clause_if, cond_seen, conds_in, conj_seen, grouping_seen, groups_if, not_if, numbered_of, predicate_seen, select_seen, test_seen}
use Rattle.sq_binding.proofs.Inductions.AnyDepth.{ClauseHas, CondHas, CondsHave, GroupsHave, SelectHas}
use Rattle.sq_binding.proofs.Inductions.BoundCases.{BoundCases, cond_all, select_all}
use Rattle.sq_binding.proofs.Notes.GroupsNoted.{AreGroupsIfAny, HasGroups}
use Rattle.sq_binding.proofs.Notes.NotedParts.{can_fail_of}
use Rattle.sq_binding.proofs.Standing.SeenExprs.{calls_seen, exprs_seen}
use Rattle.sq_binding.proofs.Standing.SeenLevels.{predicate_seen-Bracketed, predicate_seen-CompareQuery, predicate_seen-Exists, predicate_seen-InQuery, select_seen-out, test_seen-out}
use Rattle.sq_binding.proofs.Standing.SeenTrees.{clause_tree, cond_seen_out, conj_seen_out, grouping_seen_out, select_tree, test_tree}
use Rattle.sq_binding.proofs.Notes.TestsNoted.{IsNotedSelect, IsNotedTest}

-- NOT has no bearing on it
pub not_has : (T : ℕ → Bool → NumberedCond → Type 0) (P : NumberedSelect → Type 0) (n : Bool) (c : NumberedCond) → CondHas T P (not_if n c) → CondHas T P c
not_has T P true c h = h
not_has T P false c h = h

-- what is seen of each part of a list
pub each_part : (T : ℕ → Bool → NumberedCond → Type 0) (P : NumberedSelect → Type 0) {A : Type 0} (seen : A → NumberedCond) (With : A → Type 0) (xs : List A) → AllByRecursion (λ x. CondHas T P (seen x) → With x) xs
    → CondsHave T P (conds_in (map seen xs)) → AllByRecursion With xs
each_part T P seen With [] s h = tt
each_part T P seen With (x ∷ xs) s h = (s.0 h.0, each_part T P seen With xs s.1 h.1)

-- ---- what holds of each query specification that is seen, with those in it, and implies something of the bound one

module _ (T : ℕ → Bool → NumberedCond → Type 0) (P : NumberedSelect → Type 0) (Q : BoundSpecification → Type 0) (self : (q : BoundSpecification) → SelectHas T P (select_seen q) → Q q) where
  abbrev PredicateGoes : Predicate → Type 0
  PredicateGoes p = CondHas T P (predicate_seen p) → PredicateWith Q p

  abbrev CondGoes : BoundCond → Type 0
  CondGoes c = CondHas T P (cond_seen c) → CondWith Q c

  abbrev ConjGoes : BoundConj → Type 0
  ConjGoes c = CondHas T P (conj_seen c) → ConjWith Q c

  abbrev TestGoes : BoundTest → Type 0
  TestGoes t = CondHas T P (test_seen t) → TestWith Q t

  abbrev SelectGoes : BoundSpecification → Type 0
  SelectGoes q = SelectHas T P (select_seen q) → SelectWith Q q

  abbrev GroupingGoes : Grouping → Type 0
  GroupingGoes g = GroupsHave T P (grouping_seen g) → GroupingWith Q g

  clause_goes : (clause : Option BoundCond) → IfSome clause CondGoes → ClauseHas T P (clause_if (option_map cond_seen clause)) → ClauseWith Q clause
  clause_goes None s h = tt
  clause_goes (Some c) s h = s h

  groups_go : (groups : Option Grouping) → IfSome groups GroupingGoes → GroupsHave T P (groups_if (option_map grouping_seen groups)) → GroupsWith Q groups
  groups_go None s h = tt
  groups_go (Some g) s h = s h

  cases : BoundCases PredicateGoes CondGoes ConjGoes SelectGoes TestGoes GroupingGoes
  cases = record {
    of_compare = λ op a b h. subst (PredicateWith Q) (bound.rolls-Compare op a b) (predicate_made Q (layer.Compare op a b) tt);
    of_compare_query = λ op k a q s h.
        subst (PredicateWith Q) (bound.rolls-CompareQuery op k a q) (predicate_made Q (layer.CompareQuery op k a q) (s (subst (CondHas T P) (predicate_seen-CompareQuery op k a q) h)));
    of_between = λ n a low high h. subst (PredicateWith Q) (bound.rolls-Between n a low high) (predicate_made Q (layer.Between n a low high) tt);
    of_in_query = λ n a q s h.
        subst (PredicateWith Q) (bound.rolls-InQuery n a q)
        (predicate_made Q (layer.InQuery n a q) (s (not_has T P n (NumberedCond.in_query (numbered_of a) (select_seen q)) (subst (CondHas T P) (predicate_seen-InQuery n a q) h))));
    of_in_list = λ n a es h. subst (PredicateWith Q) (bound.rolls-InList n a es) (predicate_made Q (layer.InList n a es) tt);
    of_like = λ n text pattern escape h. subst (PredicateWith Q) (bound.rolls-Like n text pattern escape) (predicate_made Q (layer.Like n text pattern escape) tt);
    of_null = λ n a h. subst (PredicateWith Q) (bound.rolls-Null n a) (predicate_made Q (layer.Null n a) tt);
    of_exists = λ q s h. subst (PredicateWith Q) (bound.rolls-Exists q) (predicate_made Q (layer.Exists q) (s (subst (CondHas T P) (predicate_seen-Exists q) h)));
    of_bracketed = λ c s h. subst (PredicateWith Q) (bound.rolls-Bracketed c) (predicate_made Q (layer.Bracketed c) (s (subst (CondHas T P) (predicate_seen-Bracketed c) h)));
    of_test = λ t s h. test_made Q t (s (not_has T P t.negated (predicate_seen t.predicate) (subst (CondHas T P) (test_seen-out t) h).1));
    of_conj = λ c s h. conj_made Q c (each_part T P test_seen (TestWith Q) (out-BoundConj c).tests s (subst (CondHas T P) (conj_seen_out c) h));
    of_cond = λ c s h. cond_made Q c (each_part T P conj_seen (ConjWith Q) (out-BoundCond c).terms s (subst (CondHas T P) (cond_seen_out c) h));
    of_grouping = λ g s h. grouping_made Q g (clause_goes (out-Grouping g).having s (subst (GroupsHave T P) (grouping_seen_out g) h));
    of_select = λ q s g h.
        let parts = subst (SelectHas T P) (select_seen-out q) h in
        select_made Q q (self q h) (clause_goes (out-BoundSpecification q).condition s parts.1) (groups_go (out-BoundSpecification q).grouping g parts.2);
  }

  pub cond_goes : (c : BoundCond) → CondHas T P (cond_seen c) → CondWith Q c
  cond_goes = cond_all PredicateGoes CondGoes ConjGoes SelectGoes TestGoes GroupingGoes cases

  pub select_goes : (q : BoundSpecification) → SelectHas T P (select_seen q) → SelectWith Q q
  select_goes = select_all PredicateGoes CondGoes ConjGoes SelectGoes TestGoes GroupingGoes cases

-- ---- tests

test_noted : (t : BoundTest) → CondHas IsNotedTest IsNotedSelect (test_seen t) → meant_notes.IsNotedTest t
test_noted t h =
    let seen : (functions : List PlacedExpr) → test_of functions t ≡ cond_of functions (not_if t.negated (predicate_seen t.predicate)) = λ functions. test_tree functions t ∙ ap (cond_of functions) (test_seen-out t) in
    let noted = (subst (CondHas IsNotedTest IsNotedSelect) (test_seen-out t) h).0 in
    record {
      sure = λ none functions all. ap (is_sure may_fail) (seen functions) ∙ noted.sure none functions all;
      items = subst (ReadsItems t.items) (sym (seen [])) noted.reads;
    }

each_of : {A : Type 0} (P : A → Type 0) → ((x : A) → P x) → (xs : List A) → AllByRecursion P xs
each_of P h [] = tt
each_of P h (x ∷ xs) = (h x, each_of P h xs)

conj_noted : (c : BoundConj) → CondHas IsNotedTest IsNotedSelect (conj_seen c) → AreNotedTests c
conj_noted c h =
    let tests = (out-BoundConj c).tests in
    each_part IsNotedTest IsNotedSelect test_seen meant_notes.IsNotedTest tests (each_of (λ t. CondHas IsNotedTest IsNotedSelect (test_seen t) → meant_notes.IsNotedTest t) test_noted tests)
    (subst (CondHas IsNotedTest IsNotedSelect) (conj_seen_out c) h)

-- the tests of each term are noted as they are
pub has_notes : (c : BoundCond) → CondHas IsNotedTest IsNotedSelect (cond_seen c) → HasNotes c
has_notes c h =
    let terms = (out-BoundCond c).terms in
    each_part IsNotedTest IsNotedSelect conj_seen AreNotedTests terms (each_of (λ c. CondHas IsNotedTest IsNotedSelect (conj_seen c) → AreNotedTests c) conj_noted terms)
    (subst (CondHas IsNotedTest IsNotedSelect) (cond_seen_out c) h)

-- ---- query specifications

clause_noted : (clause : Option BoundCond) → ClauseHas IsNotedTest IsNotedSelect (clause_if (option_map cond_seen clause)) → IfSome clause HasNotes
clause_noted None h = tt
clause_noted (Some c) h = has_notes c h

pub itself : (q : NumberedSelect) → SelectHas IsNotedTest IsNotedSelect q → IsNotedSelect q
itself (NumberedSelect.select distinct list from filter groups columns can_fail number) h = h.0

grouping_noted : (list : List BoundExpr) (g : Grouping) → AreGroupsIfAny (map numbered_of list) (grouping_seen g) → meant_groups.AreGroupsOf list g
grouping_noted list g h =
    let o = out-Grouping g in
    let all = map call_of o.set_functions in
    let groups = subst (AreGroupsIfAny (map numbered_of list)) (grouping_seen_out g) h in
    record {
      functions =
          (λ i. list_functions (expressions (map (expr_of (calls_seen o.set_functions i)) list)) ++ clause_functions (clause_meant (calls_seen o.set_functions i) o.having))
          ∙ (λ i. list_functions (expressions (exprs_seen all list i)) ++ clause_functions (clause_tree all o.having i)) ∙ groups.in_order ∙ sym (calls_seen o.set_functions);
      grouped =
          (λ i. is_grouped (expressions (map (expr_of (calls_seen o.set_functions i)) list)) (map place_meant o.columns) (clause_meant (calls_seen o.set_functions i) o.having))
          ∙ (λ i. is_grouped (expressions (exprs_seen all list i)) (map place_meant o.columns) (clause_tree all o.having i)) ∙ groups.is_grouped_by;
    }

groups_noted : (list : List BoundExpr) (groups : Option Grouping) → AreGroupsIfAny (map numbered_of list) (groups_if (option_map grouping_seen groups)) → meant_groups.AreGroupsIfAny list groups
groups_noted list None h = tt
groups_noted list (Some g) h = grouping_noted list g h

select_noted : (q : BoundSpecification) → SelectHas IsNotedTest IsNotedSelect (select_seen q) → IsNoted q
select_noted q h =
    let o = out-BoundSpecification q in
    let parts = subst (SelectHas IsNotedTest IsNotedSelect) (select_seen-out q) h in
    let noted = itself (select_seen q) h in
    record {
      tests = clause_noted o.condition parts.1;
      sure = λ none. ap (is_sure_select may_fail) (select_tree q) ∙ noted.sure (ap can_fail_of (select_seen-out q) ∙ none);
      groups = groups_noted o.list o.grouping (subst HasGroups (select_seen-out q) noted.groups);
    }

-- all that are nested in a condition
pub cond_is_noted : (c : BoundCond) → CondHas IsNotedTest IsNotedSelect (cond_seen c) → CondIsNoted c
cond_is_noted = cond_goes IsNotedTest IsNotedSelect IsNoted select_noted

-- the query specifications in one, itself included, are noted as they are
pub select_is_noted : (q : BoundSpecification) → SelectHas IsNotedTest IsNotedSelect (select_seen q) → SelectIsNoted q
select_is_noted = select_goes IsNotedTest IsNotedSelect IsNoted select_noted
