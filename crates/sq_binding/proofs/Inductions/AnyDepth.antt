-- A property of each test, with its notes, and of each query specification in a bound one, at any depth. And the numbers of these query
-- specifications (ISO/IEC 9075:1992, 7.9, 7.11 and 8.12).
use Rattle.std.proofs.Common.{◌≡◌, ℕ, suc, Bool, List, [], ◌∷◌, ◌++◌, Option, option_to_list, subst}
use Rattle.std.specs.Prelude.{⊤}
use Rattle.sq_binding.specs.NumberedCondition.{NumberedClause, NumberedCond, NumberedConds, NumberedGroups, NumberedSelect, absent, present, between, compare, compare_query, conjunction, disjunction, exists, grouped, in_list, in_query, is_null, like, negated, no_cond, a_cond, not_grouped, noted, select}

-- ---- T holds of each test with its notes, and P of each query specification

module _ (T : ℕ → Bool → NumberedCond → Type 0) (P : NumberedSelect → Type 0) where
  abbrev mutual
    pub CondHas : NumberedCond → Type 0
    CondHas (compare op a b) = ⊤
    CondHas (compare_query compared op a q) = SelectHas q
    CondHas (between a low high) = ⊤
    CondHas (in_query a q) = SelectHas q
    CondHas (in_list a es) = ⊤
    CondHas (like text pattern escape) = ⊤
    CondHas (is_null a) = ⊤
    CondHas (exists q) = SelectHas q
    CondHas (negated c) = CondHas c
    CondHas (noted items can_fail c) = T items can_fail c × CondHas c
    CondHas (conjunction cs) = CondsHave cs
    CondHas (disjunction cs) = CondsHave cs

    pub CondsHave : NumberedConds → Type 0
    CondsHave no_cond = ⊤
    CondsHave (a_cond c cs) = CondHas c × CondsHave cs

    pub ClauseHas : NumberedClause → Type 0
    ClauseHas absent = ⊤
    ClauseHas (present c) = CondHas c

    pub GroupsHave : NumberedGroups → Type 0
    GroupsHave not_grouped = ⊤
    GroupsHave (grouped columns functions having) = ClauseHas having

    -- the query specification itself is among them
    pub SelectHas : NumberedSelect → Type 0
    SelectHas (select distinct list from filter groups columns can_fail number) = P (select distinct list from filter groups columns can_fail number) × ClauseHas filter × GroupsHave groups

  -- the query specifications that stand in a query specification
  abbrev pub SelectInner : NumberedSelect → Type 0
  SelectInner (select distinct list from filter groups columns can_fail number) = ClauseHas filter × GroupsHave groups

-- ---- numbers

abbrev pub number_of : NumberedSelect → Option ℕ
number_of (select distinct list from filter groups columns can_fail number) = number

-- the numbers of the query specifications in a part, those inside of one before its own
abbrev mutual
  pub cond_numbers : NumberedCond → List ℕ
  cond_numbers (compare op a b) = []
  cond_numbers (compare_query compared op a q) = select_numbers q
  cond_numbers (between a low high) = []
  cond_numbers (in_query a q) = select_numbers q
  cond_numbers (in_list a es) = []
  cond_numbers (like text pattern escape) = []
  cond_numbers (is_null a) = []
  cond_numbers (exists q) = select_numbers q
  cond_numbers (negated c) = cond_numbers c
  cond_numbers (noted items can_fail c) = cond_numbers c
  cond_numbers (conjunction cs) = conds_numbers cs
  cond_numbers (disjunction cs) = conds_numbers cs

  pub conds_numbers : NumberedConds → List ℕ
  conds_numbers no_cond = []
  conds_numbers (a_cond c cs) = cond_numbers c ++ conds_numbers cs

  pub clause_numbers : NumberedClause → List ℕ
  clause_numbers absent = []
  clause_numbers (present c) = cond_numbers c

  pub groups_numbers : NumberedGroups → List ℕ
  groups_numbers not_grouped = []
  groups_numbers (grouped columns functions having) = clause_numbers having

  pub select_numbers : NumberedSelect → List ℕ
  select_numbers (select distinct list from filter groups columns can_fail number) = clause_numbers filter ++ (groups_numbers groups ++ option_to_list number)

-- each number from the first up to the next one, once, in this order
abbrev pub AreCounted : (first next : ℕ) → List ℕ → Type 0
AreCounted first next [] = next ≡ first
AreCounted first next (n ∷ numbers) = (n ≡ first) × AreCounted (suc first) next numbers

pub counted_append : (a b c : ℕ) (xs ys : List ℕ) → AreCounted a b xs → AreCounted b c ys → AreCounted a c (xs ++ ys)
counted_append a b c [] ys h g = subst (λ n. AreCounted n c ys) h g
counted_append a b c (x ∷ xs) ys h g = (h.0, counted_append (suc a) b c xs ys h.1 g)
