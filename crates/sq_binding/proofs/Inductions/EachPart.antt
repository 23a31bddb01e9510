-- A property of each bound test and query specification holds for all of them in a bound one, at any depth (ISO/IEC 9075:1992, 7.9, 7.11
-- and 8.12).
use Rattle.std.proofs.Common.{◌≡◌, ℕ, ◌+◌, Bool, true, false, List, [], ◌∷◌, ◌++◌, Option, Some, Ok}
use Rattle.std.specs.Prelude.{nat_eq, if◌then◌else◌}
use Rattle.sq_meaning.specs.Environment.{Place, TableReference}
use Rattle.sq_meaning.specs.Spelled.{Named}
use Rattle.sq_meaning.specs.Syntax.{Cond, Conds, Clause, Select}
use Rattle.sq_bound.specs.Expression.{PlacedExpr}
use Rattle.sq_binding.specs.Condition.{as_subquery, cond_bound, select_bound}
use Rattle.sq_binding.specs.Found.{Counts, Found, after}
use Rattle.sq_binding.specs.From.{NamedItem, from_bound, items_of}
use Rattle.sq_binding.specs.NumberedCondition.{NumberedClause, NumberedCond, NumberedConds, NumberedSelect, with_number}
use Rattle.sq_binding.specs.QueryFindings.{of_subquery}
use Rattle.sq_binding.specs.Select.{Surroundings, groups_by, of_groups, of_lines}
use Rattle.sq_binding.proofs.Inductions.AnyDepth.{ClauseHas, CondHas, CondsHave, GroupsHave, SelectHas, SelectInner}
use Rattle.sq_binding.proofs.Inductions.QueryCases.{Known, QueryCases, at_first, cond_is, select_is}

module _ (T : ℕ → Bool → NumberedCond → Type 0) (P : NumberedSelect → Type 0) where
  inner_same : (number : Option ℕ) (q : NumberedSelect) → SelectInner T P q → SelectInner T P (with_number number q)
  inner_same number (NumberedSelect.select distinct list from filter groups columns can_fail unnumbered) h = h

  pub whole_has : (q : NumberedSelect) → P q → SelectInner T P q → SelectHas T P q
  whole_has (NumberedSelect.select distinct list from filter groups columns can_fail number) p h = (p, h.0, h.1)

  subquery_inner : (q : Found NumberedSelect) → SelectInner T P q.part → SelectInner T P (as_subquery q).part
  subquery_inner q h = if_closed (nat_eq q.findings.values.reach 0)
    where
      if_closed : (closed : Bool) → SelectInner T P
          (if closed then record q { part = with_number (Some q.subqueries) q.part; findings = of_subquery q.findings; subqueries = q.subqueries + 1 } else record q { findings = of_subquery q.findings }).part
      if_closed true = inner_same (Some q.subqueries) q.part h
      if_closed false = h

  groups_have : (by : List Place) (having : NumberedClause) (functions : List PlacedExpr) → ClauseHas T P having → GroupsHave T P (groups_by by having functions)
  groups_have [] NumberedClause.absent [] h = tt
  groups_have [] NumberedClause.absent (f ∷ functions) h = h
  groups_have [] (NumberedClause.present c) functions h = h
  groups_have (p ∷ by) having functions h = h

  -- where something is known of the surroundings, and so of what surrounds the parts of a query
  module _ (W : Surroundings → Type 0)
      (lines : (a : Surroundings) (from : List TableReference) (counts : Counts) (items : Found (List NamedItem)) → from_bound a.names from counts ≡ Ok items → W a → W (of_lines (items_of items.part) a))
      (groups : (a : Surroundings) (from : List TableReference) (counts : Counts) (items : Found (List NamedItem)) (places : List Place) → from_bound a.names from counts ≡ Ok items → W a → W (of_groups (items_of items.part) places a))
      (tests : (c : Cond Named) (a : Surroundings) (counts : Counts) (x : Found NumberedCond) → cond_bound a c counts ≡ Ok x → W a → T x.findings.values.items x.findings.values.can_fail x.part)
      (selects : (s : Select Named) (a : Surroundings) (counts : Counts) (q : Found NumberedSelect) → select_bound a s counts ≡ Ok q → W a → P (as_subquery q).part) where
    abbrev InCond : Surroundings → Counts → Cond Named → Found NumberedCond → Type 0
    InCond a counts c x = W a → CondHas T P x.part

    abbrev InConds : Surroundings → Counts → Conds Named → Found NumberedConds → Type 0
    InConds a counts cs x = W a → CondsHave T P x.part

    abbrev InClause : Surroundings → Counts → Clause Named → Found NumberedClause → Type 0
    InClause a counts c x = W a → ClauseHas T P x.part

    abbrev InSelect : Surroundings → Counts → Select Named → Found NumberedSelect → Type 0
    InSelect a counts s x = W a → SelectInner T P x.part

    subquery_has : (a : Surroundings) (counts : Counts) (s : Select Named) (q : Found NumberedSelect) → Known select_bound InSelect a counts s q → W a → SelectHas T P (as_subquery q).part
    subquery_has a counts s q h w = whole_has (as_subquery q).part (selects s a counts q h.0 w) (subquery_inner q (h.1 w))

    cases : QueryCases InCond InConds InClause InSelect
    cases = record {
      of_compare = λ a counts op e f x y is so alike w. tt;
      of_scalar = λ a counts op e s x q is h one w. subquery_has a (after counts x) s q h w;
      of_quantified = λ a counts op k e s x q is h one w. subquery_has a (after counts x) s q h w;
      of_between = λ a counts e low high x y z is so also alike same w. tt;
      of_among = λ a counts e s x q is h one w. subquery_has a (after counts x) s q h w;
      of_list = λ a counts e es x ys is so w. tt;
      of_like = λ a counts e pattern escape x y z is so one two also w. tt;
      of_null = λ a counts e x is w. tt;
      of_exists = λ a counts s q h w. subquery_has a counts s q h w;
      of_negated = λ a counts c x h w. h.1 w;
      of_conjunction = λ a counts cs xs h w. h w;
      of_disjunction = λ a counts cs xs h w. h w;
      of_none = λ a counts w. tt;
      of_test = λ a counts c cs x xs h g w. ((tests c a counts x h.0 w, h.1 w), g w);
      of_term = λ a counts c cs x xs h g w. (h.1 w, g w);
      of_absent = λ a counts w. tt;
      of_present = λ a counts c x h w. h.1 w;
      of_select = λ a counts distinct list from filter by having items kept places shown left parts right w. (
        parts.filter_is.1 (lines a from (at_first counts.subqueries) items parts.from_is w),
        groups_have places.part left.part (shown.calls ++ left.calls) (parts.having_is.1 (groups a from (at_first counts.subqueries) items places.part parts.from_is w)),
      );
    }

    pub cond_has : (c : Cond Named) (a : Surroundings) (counts : Counts) (x : Found NumberedCond) → cond_bound a c counts ≡ Ok x → W a → CondHas T P x.part
    cond_has = cond_is InCond InConds InClause InSelect cases

    pub select_has : (s : Select Named) (a : Surroundings) (counts : Counts) (x : Found NumberedSelect) → select_bound a s counts ≡ Ok x → W a → SelectInner T P x.part
    select_has = select_is InCond InConds InClause InSelect cases
