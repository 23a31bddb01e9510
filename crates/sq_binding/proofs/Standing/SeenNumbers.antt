-- The subqueries of a bound tree have numbers, each at most once, if the subqueries that the definitions see are counted. A subquery with
-- a number is closed (ISO/IEC 9075:1992, 7.9, 7.11 and 8.12).
use Rattle.std.proofs.Common.{◌≡◌, ℕ, suc, ◌+◌, Bool, true, false, List, [], ◌∷◌, ◌++◌, map, Option, Some, None, arith, option_to_list, refl, sym, ap, subst, ◌∙◌}
use Rattle.std.specs.Option.{option_map}
use Rattle.std.specs.Prelude.{IfSome}
use Rattle.std.specs.List.{AllByRecursion}
use Rattle.sq_bound.proofs.Nested.{conj_more, test_more}
use Rattle.sq_bound.proofs.Numbered.{Carries, between_numbered, both_numbered, bracketed_numbered, clauses_numbered, compare_numbered, compare_query_numbered, cond_numbered, conj_numbered, exists_numbered, grouping_numbered, in_list_numbered, in_query_numbered, like_numbered, newly_numbered, none_numbered, null_numbered, part_numbered, test_numbered}
use Rattle.sq_bound.proofs.Numbered as meant
use Rattle.sq_bound.specs.Columns.{IsClosed}
use Rattle.sq_bound.specs.Condition.{select_of as select_meant}
use Rattle.sq_bound.specs.Numbered.{AreNumbered, ClauseWith, CondWith, ConjWith, EachWith, GroupsWith, PredicateWith, SelectWith, TestWith, number_of as number_meant}
use Rattle.sq_bound.specs.declared.condition.BoundCond.{BoundCond, out-BoundCond}
use Rattle.sq_bound.specs.declared.condition.BoundConj.{BoundConj, out-BoundConj}
use Rattle.sq_bound.specs.declared.condition.BoundSpecification.{BoundSpecification, BoundSpecification-F, out-BoundSpecification, out-roll-BoundSpecification, roll-BoundSpecification}
use Rattle.sq_bound.specs.declared.condition.BoundTest.{BoundTest}
use Rattle.sq_bound.specs.declared.condition.Grouping.{Grouping, out-Grouping}
use Rattle.sq_bound.specs.declared.condition.Predicate.{Predicate}
use Rattle.sq_bound.specs.declared.condition.Predicate.TheVariants as bound
use Rattle.sq_binding.specs.NumberedCondition.{NumberedCond, select_of}
use Rattle.sq_binding.specs.Seen.{clause_if, cond_seen, conds_in, conj_seen, grouping_seen, groups_if, not_if, numbered_of, predicate_seen, select_seen, test_seen}
use Rattle.sq_binding.proofs.Inductions.AnyDepth.{AreCounted, ClauseHas, CondHas, CondsHave, GroupsHave, SelectHas, clause_numbers, cond_numbers, conds_numbers, groups_numbers, number_of, select_numbers}
use Rattle.sq_binding.proofs.Inductions.BoundCases.{BoundCases, cond_all, select_all}
use Rattle.sq_binding.proofs.Standing.SeenLevels.{predicate_seen-Between, predicate_seen-Bracketed, predicate_seen-Compare, predicate_seen-CompareQuery, predicate_seen-Exists, predicate_seen-InList, predicate_seen-InQuery, predicate_seen-Like, predicate_seen-Null, select_seen-out, test_seen-out}
use Rattle.sq_binding.proofs.Standing.SeenNotes.{itself, not_has}
use Rattle.sq_binding.proofs.Standing.SeenTrees.{cond_seen_out, conj_seen_out, grouping_seen_out, select_tree}
use Rattle.sq_binding.proofs.Notes.TestsNoted.{IsNotedSelect, IsNotedTest}

-- ---- numbers of two parts

pub counted_split : (a c : ℕ) (xs ys : List ℕ) → AreCounted a c (xs ++ ys) → (b : ℕ) × (AreCounted a b xs × AreCounted b c ys)
counted_split a c [] ys h = (a, (refl, h))
counted_split a c (x ∷ xs) ys h = let rest = counted_split (suc a) c xs ys h.1 in (rest.0, ((h.0, rest.1.0), rest.1.1))

not_counted : (n : Bool) (c : NumberedCond) → cond_numbers (not_if n c) ≡ cond_numbers c
not_counted true c = refl
not_counted false c = refl

abbrev Has : NumberedCond → Type 0
Has = CondHas IsNotedTest IsNotedSelect

-- the law of a part
abbrev Counts : {A : Type 0} → ((BoundSpecification → Type 0) → A → Type 0) → (A → NumberedCond) → A → Type 0
Counts With seen x = (a b : ℕ) → AreCounted a b (cond_numbers (seen x)) → Has (seen x) → AreNumbered With a b x

abbrev SelectCounts : BoundSpecification → Type 0
SelectCounts q = (a b : ℕ) → AreCounted a b (select_numbers (select_seen q)) → SelectHas IsNotedTest IsNotedSelect (select_seen q) → AreNumbered SelectWith a b q

abbrev GroupingCounts : Grouping → Type 0
GroupingCounts g = (a b : ℕ) → AreCounted a b (groups_numbers (grouping_seen g)) → GroupsHave IsNotedTest IsNotedSelect (grouping_seen g) → AreNumbered GroupsWith a b (Some g)

-- a predicate without a subquery
none_counted : (p : Predicate) (n : Bool) (c : NumberedCond) → predicate_seen p ≡ not_if n c → cond_numbers c ≡ [] → ((a : ℕ) → AreNumbered PredicateWith a a p) → Counts PredicateWith predicate_seen p
none_counted p n c seen none made a b h has =
    let same : b ≡ a = subst (AreCounted a b) (ap cond_numbers seen ∙ not_counted n c ∙ none) h in
    subst (λ m. AreNumbered PredicateWith a m p) (sym same) (made a)

each_carries : {A : Type 0} (With : (BoundSpecification → Type 0) → A → Type 0) → Carries With → Carries (EachWith With)
each_carries With carries P Q more [] h = tt
each_carries With carries P Q more (x ∷ xs) h = (carries P Q more x h.0, each_carries With carries P Q more xs h.1)

each_counts : {A : Type 0} (With : (BoundSpecification → Type 0) → A → Type 0) → Carries With → (seen : A → NumberedCond) (xs : List A) → AllByRecursion (Counts With seen) xs
    → (a b : ℕ) → AreCounted a b (conds_numbers (conds_in (map seen xs))) → CondsHave IsNotedTest IsNotedSelect (conds_in (map seen xs)) → AreNumbered (EachWith With) a b xs
each_counts With carries seen [] s a b h has = subst (λ m. AreNumbered (EachWith With) a m []) (sym h) (none_numbered (EachWith With) [] (λ P. tt) a)
each_counts With carries seen (x ∷ xs) s a b h has =
    let split = counted_split a b (cond_numbers (seen x)) (conds_numbers (conds_in (map seen xs))) h in
    part_numbered (meant.BothWith With (EachWith With)) (EachWith With) (x, xs) (x ∷ xs) (λ P g. g) a b
    (both_numbered With (EachWith With) carries (each_carries With carries) a split.0 b x xs (s.0 a split.0 split.1.0 has.0) (each_counts With carries seen xs s.1 split.0 b split.1.1 has.1))

clause_counts : (clause : Option BoundCond) → IfSome clause (Counts CondWith cond_seen) → (a b : ℕ) → AreCounted a b (clause_numbers (clause_if (option_map cond_seen clause)))
    → ClauseHas IsNotedTest IsNotedSelect (clause_if (option_map cond_seen clause)) → AreNumbered ClauseWith a b clause
clause_counts None s a b h has = subst (λ m. AreNumbered ClauseWith a m None) (sym h) (none_numbered ClauseWith None (λ P. tt) a)
clause_counts (Some c) s a b h has = let numbered = s a b h has in (numbered.0, (numbered.1.0, numbered.1.1))

groups_count : (groups : Option Grouping) → IfSome groups GroupingCounts → (a b : ℕ) → AreCounted a b (groups_numbers (groups_if (option_map grouping_seen groups)))
    → GroupsHave IsNotedTest IsNotedSelect (groups_if (option_map grouping_seen groups)) → AreNumbered GroupsWith a b groups
groups_count None s a b h has = subst (λ m. AreNumbered GroupsWith a m None) (sym h) (none_numbered GroupsWith None (λ P. tt) a)
groups_count (Some g) s a b h has = s a b h has

-- ---- a query specification, with a number or without

abbrev Layer : Type 0
Layer = BoundSpecification-F Predicate BoundCond BoundConj BoundSpecification BoundTest Grouping

module _ (q : BoundSpecification) where
  abbrev o : Layer
  o = out-BoundSpecification q

  abbrev unnumbered : Layer
  unnumbered = record { distinct = o.distinct; list = o.list; from = o.from; condition = o.condition; grouping = o.grouping; columns = o.columns; can_fail = o.can_fail; number = None }

  abbrev without_number : BoundSpecification
  without_number = roll-BoundSpecification unnumbered

  abbrev parts_are : out-BoundSpecification without_number ≡ unnumbered
  parts_are = out-roll-BoundSpecification unnumbered

  -- the number is the last
  last_counts : (number : Option ℕ) → number_meant q ≡ number → (a b c d : ℕ) → AreNumbered ClauseWith a b o.condition → AreNumbered GroupsWith b c o.grouping → AreCounted c d (option_to_list number)
      → IfSome number (λ n. IsClosed (select_meant q)) → AreNumbered SelectWith a d q
  last_counts None none a b c d h g same closed = subst (λ m. AreNumbered SelectWith a m q) (sym same) (clauses_numbered q a b c none h g)
  last_counts (Some n) number a b c d h g same closed =
      let inner : AreNumbered SelectWith a c without_number = clauses_numbered without_number a b c (ap (λ (l : Layer). l.number) parts_are) (subst (λ (l : Layer). AreNumbered ClauseWith a b l.condition) (sym parts_are) h)
      (subst (λ (l : Layer). AreNumbered GroupsWith b c l.grouping) (sym parts_are) g) in
      let next : c + 1 ≡ d = omega (arith, same.1) in
      subst (λ m. AreNumbered SelectWith a m q) next
      (newly_numbered without_number q (sym (ap (λ (l : Layer). l.condition) parts_are)) (sym (ap (λ (l : Layer). l.grouping) parts_are)) a c (number ∙ ap Some same.0) closed inner)

  closed_meant : (number : Option ℕ) → number_of (select_seen q) ≡ number → IfSome (number_of (select_seen q)) (λ n. IsClosed (select_of (select_seen q))) → IfSome number (λ n. IsClosed (select_meant q))
  closed_meant number same h = subst (λ t. IfSome number (λ n. IsClosed t)) (sym (select_tree q)) (subst (λ o. IfSome o (λ n. IsClosed (select_of (select_seen q)))) same h)

  select_counts : IfSome o.condition (Counts CondWith cond_seen) → IfSome o.grouping GroupingCounts → SelectCounts q
  select_counts s g a d h has =
      let parts = subst (SelectHas IsNotedTest IsNotedSelect) (select_seen-out q) has in
      let first = counted_split a d (clause_numbers (clause_if (option_map cond_seen o.condition))) (groups_numbers (groups_if (option_map grouping_seen o.grouping)) ++ option_to_list o.number)
      (subst (AreCounted a d) (ap select_numbers (select_seen-out q)) h) in
      let second = counted_split first.0 d (groups_numbers (groups_if (option_map grouping_seen o.grouping))) (option_to_list o.number) first.1.1 in
      last_counts o.number refl a first.0 second.0 d (clause_counts o.condition s a first.0 first.1.0 parts.1) (groups_count o.grouping g first.0 second.0 second.1.0 parts.2) second.1.1
      (closed_meant o.number (ap number_of (select_seen-out q)) (itself (select_seen q) has).closed)

-- ---- all of them

cases : BoundCases (Counts PredicateWith predicate_seen) (Counts CondWith cond_seen) (Counts ConjWith conj_seen) SelectCounts (Counts TestWith test_seen) GroupingCounts
cases = record {
  of_compare = λ op x y. none_counted (bound.Compare op x y) false (NumberedCond.compare op (numbered_of x) (numbered_of y)) (predicate_seen-Compare op x y) refl (compare_numbered op x y);
  of_compare_query = λ op k x q s a b h has.
      compare_query_numbered a b op k x q (s a b (subst (AreCounted a b) (ap cond_numbers (predicate_seen-CompareQuery op k x q)) h) (subst Has (predicate_seen-CompareQuery op k x q) has));
  of_between = λ n x low high.
      none_counted (bound.Between n x low high) n (NumberedCond.between (numbered_of x) (numbered_of low) (numbered_of high)) (predicate_seen-Between n x low high) refl (between_numbered n x low high);
  of_in_query = λ n x q s a b h has.
      let c = NumberedCond.in_query (numbered_of x) (select_seen q) in
      in_query_numbered a b n x q (s a b (subst (AreCounted a b) (ap cond_numbers (predicate_seen-InQuery n x q) ∙ not_counted n c) h) (not_has IsNotedTest IsNotedSelect n c (subst Has (predicate_seen-InQuery n x q) has)));
  of_in_list = λ n x es. none_counted (bound.InList n x es) n (NumberedCond.in_list (numbered_of x) (map numbered_of es)) (predicate_seen-InList n x es) refl (in_list_numbered n x es);
  of_like = λ n text pattern escape.
      none_counted (bound.Like n text pattern escape) n (NumberedCond.like (numbered_of text) (numbered_of pattern) (option_map numbered_of escape)) (predicate_seen-Like n text pattern escape) refl (like_numbered n text pattern escape);
  of_null = λ n x. none_counted (bound.Null n x) n (NumberedCond.is_null (numbered_of x)) (predicate_seen-Null n x) refl (null_numbered n x);
  of_exists = λ q s a b h has. exists_numbered a b q (s a b (subst (AreCounted a b) (ap cond_numbers (predicate_seen-Exists q)) h) (subst Has (predicate_seen-Exists q) has));
  of_bracketed = λ c s a b h has. bracketed_numbered a b c (s a b (subst (AreCounted a b) (ap cond_numbers (predicate_seen-Bracketed c)) h) (subst Has (predicate_seen-Bracketed c) has));
  of_test = λ t s a b h has.
      test_numbered a b t
      (s a b (subst (AreCounted a b) (ap cond_numbers (test_seen-out t) ∙ not_counted t.negated (predicate_seen t.predicate)) h)
      (not_has IsNotedTest IsNotedSelect t.negated (predicate_seen t.predicate) (subst Has (test_seen-out t) has).1));
  of_conj = λ c s a b h has.
      conj_numbered a b c
      (each_counts TestWith test_more test_seen (out-BoundConj c).tests s a b (subst (AreCounted a b) (ap cond_numbers (conj_seen_out c)) h) (subst Has (conj_seen_out c) has));
  of_cond = λ c s a b h has.
      cond_numbered a b c
      (each_counts ConjWith conj_more conj_seen (out-BoundCond c).terms s a b (subst (AreCounted a b) (ap cond_numbers (cond_seen_out c)) h) (subst Has (cond_seen_out c) has));
  of_grouping = λ g s a b h has.
      grouping_numbered a b g
      (clause_counts (out-Grouping g).having s a b (subst (AreCounted a b) (ap groups_numbers (grouping_seen_out g)) h) (subst (GroupsHave IsNotedTest IsNotedSelect) (grouping_seen_out g) has));
  of_select = select_counts;
}

-- the subqueries of a condition have the numbers from the first up to the next one
pub cond_is_numbered : (c : BoundCond) (a b : ℕ) → AreCounted a b (cond_numbers (cond_seen c)) → CondHas IsNotedTest IsNotedSelect (cond_seen c) → AreNumbered CondWith a b c
cond_is_numbered = cond_all (Counts PredicateWith predicate_seen) (Counts CondWith cond_seen) (Counts ConjWith conj_seen) SelectCounts (Counts TestWith test_seen) GroupingCounts cases

-- the query specifications in one have their numbers
pub select_is_numbered : (q : BoundSpecification) (a b : ℕ) → AreCounted a b (select_numbers (select_seen q)) → SelectHas IsNotedTest IsNotedSelect (select_seen q) → AreNumbered SelectWith a b q
select_is_numbered = select_all (Counts PredicateWith predicate_seen) (Counts CondWith cond_seen) (Counts ConjWith conj_seen) SelectCounts (Counts TestWith test_seen) GroupingCounts cases
