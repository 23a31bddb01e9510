-- The notes on the tests and query specifications in a bound one are true, at any depth (ISO/IEC 9075:1992, 6.5, 7.3 to 7.9, 7.11 and
-- 8.12). No test and no query specification ends with a status unless that is noted. A test reads no more items of FROM than are noted,
-- and the grouping of a query specification is noted. A query specification with a number reads no column of a query around it.
use Rattle.std.proofs.Common.{◌≡◌, ℕ, ◌+◌, Bool, true, false, List, [], Option, Some, Ok, refl, sym, ap, subst, ◌∙◌}
use Rattle.std.proofs.lemmas.Bool.{eqb-true}
use Rattle.std.specs.Prelude.{IfSome, nat_eq, if◌then◌else◌}
use Rattle.sq_meaning.specs.Environment.{Place, TableReference}
use Rattle.sq_meaning.specs.Spelled.{Named}
use Rattle.sq_meaning.specs.Status.{not_well_formed}
use Rattle.sq_meaning.specs.Sure.{is_sure, is_sure_select}
use Rattle.sq_meaning.specs.Syntax.{Cond, Select}
use Rattle.sq_bound.specs.Columns.{IsClosed, ReadsItems}
use Rattle.sq_bound.specs.Expression.{PlacedExpr}
use Rattle.sq_bound.specs.Noted.{AreSure, may_fail}
use Rattle.sq_bound.specs.WellFormed.{TableKinds}
use Rattle.sq_binding.specs.Condition.{as_subquery, cond_bound, select_bound}
use Rattle.sq_binding.specs.Found.{Counts, Found}
use Rattle.sq_binding.specs.From.{NamedItem, from_bound, items_of}
use Rattle.sq_binding.specs.NumberedCondition.{NumberedCond, NumberedSelect, cond_of, select_of, with_number}
use Rattle.sq_binding.specs.QueryFindings.{of_subquery}
use Rattle.sq_binding.specs.Select.{Surroundings, of_groups, of_lines}
use Rattle.sq_binding.proofs.Inductions.AnyDepth.{CondHas, SelectHas, number_of}
use Rattle.sq_binding.proofs.Inductions.EachPart as each_part
use Rattle.sq_binding.proofs.Notes.GroupsNoted.{HasGroups}
use Rattle.sq_binding.proofs.Notes.NotedParts.{can_fail_of}
use Rattle.sq_binding.proofs.Notes.NotedQueries.{cond_noted, select_noted}
use Rattle.sq_binding.proofs.Notes.Outward.{AreSmall, closed_out, from_small}
use Rattle.sq_binding.proofs.Standing.QueriesStand.{select_stands}
use Rattle.sq_binding.proofs.Notes.SubqueryNumbers.{select_counted}

-- A test that is not noted to be one that may end with a status never does, and it reads no more items of FROM, from the left, than are
-- noted.
pub record IsNotedTest (items : ℕ) (can_fail : Bool) (c : NumberedCond) : Type 0 where
  pub sure : can_fail ≡ false → (functions : List PlacedExpr) → AreSure functions → is_sure may_fail (cond_of functions c) ≡ true
  pub reads : ReadsItems items (cond_of [] c)

-- A query specification never ends with a status unless that is noted, what groups it is noted, and it has a number only if it reads no
-- column of a query around it.
pub record IsNotedSelect (q : NumberedSelect) : Type 0 where
  pub sure : can_fail_of q ≡ false → is_sure_select may_fail (select_of q) ≡ true
  pub groups : HasGroups q
  pub closed : IfSome (number_of q) (λ n. IsClosed (select_of q))

abbrev IsSmall : Surroundings → Type 0
IsSmall a = AreSmall a.scopes

lines_small : (a : Surroundings) (from : List TableReference) (counts : Counts) (items : Found (List NamedItem)) → from_bound a.names from counts ≡ Ok items → IsSmall a → IsSmall (of_lines (items_of items.part) a)
lines_small a from counts items is small = (from_small a.names from counts items is, small)

groups_small : (a : Surroundings) (from : List TableReference) (counts : Counts) (items : Found (List NamedItem)) (places : List Place) → from_bound a.names from counts ≡ Ok items → IsSmall a → IsSmall (of_groups (items_of items.part) places a)
groups_small a from counts items places is small = (from_small a.names from counts items is, small)

test_noted : (c : Cond Named) (a : Surroundings) (counts : Counts) (x : Found NumberedCond) → cond_bound a c counts ≡ Ok x → IsSmall a → IsNotedTest x.findings.values.items x.findings.values.can_fail x.part
test_noted c a counts x is small = let h = cond_noted c a counts x is in record { sure = h.sure; reads = h.read small }

-- ---- a query specification with or without a number

numbered_groups : (number : Option ℕ) (q : NumberedSelect) → HasGroups q → HasGroups (with_number number q)
numbered_groups number (NumberedSelect.select distinct list from filter groups columns can_fail unnumbered) h = h

numbered_fail : (number : Option ℕ) (q : NumberedSelect) → can_fail_of (with_number number q) ≡ can_fail_of q
numbered_fail number (NumberedSelect.select distinct list from filter groups columns can_fail unnumbered) = refl

numbered_closed : (n : ℕ) (q : NumberedSelect) → IsClosed (select_of q) → IfSome (number_of (with_number (Some n) q)) (λ m. IsClosed (select_of (with_number (Some n) q)))
numbered_closed n (NumberedSelect.select distinct list from filter groups columns can_fail unnumbered) h = h

none_known : TableKinds
none_known t = not_well_formed

module _ (s : Select Named) (a : Surroundings) (counts : Counts) (q : Found NumberedSelect) (is : select_bound a s counts ≡ Ok q) (small : IsSmall a) where
  pub alone_noted : IsNotedSelect q.part
  alone_noted =
      let h = select_noted s a counts q is in
      record {
        sure = λ none. h.sure (sym h.is_noted ∙ none);
        groups = (select_stands none_known s a counts q is).groups;
        closed = subst (λ o. IfSome o (λ n. IsClosed (select_of q.part))) (sym (select_counted s a counts q is).unnumbered) tt;
      }

  numbered_noted : q.findings.values.reach ≡ 0 → IsNotedSelect (with_number (Some q.subqueries) q.part)
  numbered_noted here =
      let h = alone_noted in
      record {
        sure = λ none. ap (is_sure_select may_fail) (tree_same q.part) ∙ h.sure (sym (numbered_fail (Some q.subqueries) q.part) ∙ none);
        groups = numbered_groups (Some q.subqueries) q.part h.groups;
        closed = numbered_closed q.subqueries q.part (closed_out q.findings.values here (select_of q.part) ((select_noted s a counts q is).out small));
      }
    where
      tree_same : (p : NumberedSelect) → select_of (with_number (Some q.subqueries) p) ≡ select_of p
      tree_same (NumberedSelect.select distinct list from filter groups columns can_fail unnumbered) = refl

  subquery_noted : IsNotedSelect (as_subquery q).part
  subquery_noted = if_closed (nat_eq q.findings.values.reach 0) (λ t. eqb-true q.findings.values.reach 0 t)
    where
      if_closed : (closed : Bool) → (closed ≡ true → q.findings.values.reach ≡ 0) → IsNotedSelect
          (if closed then record q { part = with_number (Some q.subqueries) q.part; findings = of_subquery q.findings; subqueries = q.subqueries + 1 } else record q { findings = of_subquery q.findings }).part
      if_closed true here = numbered_noted (here refl)
      if_closed false here = alone_noted

-- ---- at any depth

-- in a search condition
pub cond_notes : (c : Cond Named) (a : Surroundings) (counts : Counts) (x : Found NumberedCond) → cond_bound a c counts ≡ Ok x → AreSmall a.scopes → CondHas IsNotedTest IsNotedSelect x.part
cond_notes = each_part.cond_has IsNotedTest IsNotedSelect IsSmall lines_small groups_small test_noted subquery_noted

-- the tests of a query specification and of those in it are noted as they are
pub select_notes : (s : Select Named) (a : Surroundings) (counts : Counts) (x : Found NumberedSelect) → select_bound a s counts ≡ Ok x → AreSmall a.scopes → SelectHas IsNotedTest IsNotedSelect x.part
select_notes s a counts x is small =
    each_part.whole_has IsNotedTest IsNotedSelect x.part (alone_noted s a counts x is small)
    (each_part.select_has IsNotedTest IsNotedSelect IsSmall lines_small groups_small test_noted subquery_noted s a counts x is small)
