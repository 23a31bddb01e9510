-- A property of each bound search condition and query specification, case by case: one induction for all laws (ISO/IEC
-- 9075:1992, 7.3 to 7.9, 7.11 and clause 8).
use Rattle.std.proofs.Common.{◌≡◌, ℕ, ◌+◌, Bool, true, false, ◌||◌, List, [], ◌++◌, length, Option, Ok, Err, refl, sym, subst, ◌∙◌, zero-add}
use Rattle.std.specs.Prelude.{⊤, if◌then◌else◌}
use Rattle.sq_tree.specs.declared.cond.Comparison.{Comparison}
use Rattle.sq_tree.specs.declared.cond.Quantifier.{Quantifier}
use Rattle.sq_tree.specs.declared.names.ColumnReference.{ColumnReference}
use Rattle.sq_meaning.specs.Environment.{Place, TableReference}
use Rattle.sq_meaning.specs.Spelled.{Named}
use Rattle.sq_meaning.specs.Syntax.{Expr, SelectList, all_columns, expressions, Cond, Conds, Clause, Select, compare, compare_subquery, compare_quantified, between, in_subquery, in_list, like, is_null, exists, negated, conjunction, disjunction, no_cond, a_cond, absent, present, select}
use Rattle.sq_meaning.specs.WellFormed.{IsOnlyKind, is_comparable, is_text}
use Rattle.sq_bound.specs.declared.condition.Compared.TheVariants.{Scalar}
use Rattle.sq_meaning.specs.declared.fault.BindingFault.TheVariants as fault
use Rattle.sq_binding.specs.Condition.{agreeing, as_subquery, beside, clause_bound, compared_as, cond_bound, escape_bound, noted, scalar, select_bound, subquery, terms_bound, test, tests_bound, text}
use Rattle.sq_binding.specs.Found.{Binding, Counts, Found, ◌>>=◌, after, each, from_first, joined, pure}
use Rattle.sq_binding.specs.From.{NamedItem, NamedTables, from_bound, item_bound, items_of, tables_of}
use Rattle.sq_binding.specs.Numbered.{Numbered}
use Rattle.sq_binding.specs.NumberedCondition.{NumberedClause, NumberedCond, NumberedConds, NumberedGroups, NumberedSelect}
use Rattle.sq_binding.specs.Outcome.{Outcome, and_then}
use Rattle.sq_binding.specs.QueryFindings.{a_status, both, nothing}
use Rattle.sq_binding.specs.Scope.{FromItem}
use Rattle.sq_binding.specs.Select.{Parts, ShownColumn, Surroundings, Typed, grouping_column, groups_of, is_star, list_bound, of_groups, of_lines, rightly_grouped, select_found, shown_column, value}
use Rattle.sq_binding.proofs.Inductions.Parts.{IfFound}
use Rattle.sq_binding.proofs.Inductions.Pieces.{agreeing_holds, beside_holds, from_holds, grouping_holds, item_holds, kinds_of_part, list_holds, scalar_holds, shown_holds, star_holds, subquery_holds, text_holds, value_holds}
use Rattle.sq_binding.proofs.Placing.PlacedQuery.{clause_is_placed}
use Rattle.sq_binding.proofs.Inductions.Turns.{each_holds, found_too, it_is, made_holds, next_holds, only, put, two_hold}

-- a law of what a text of a kind is bound to
abbrev pub Law : Type 0 → Type 0 → Type 1
Law T U = Surroundings → Counts → T → Found U → Type 0

-- the law of what is bound
abbrev pub Known : {T U : Type 0} → (Surroundings → T → Binding U) → Law T U → Law T U
Known bound P a counts t x = (bound a t counts ≡ Ok x) × P a counts t x

-- where the numbers of set functions begin
abbrev pub at_first : ℕ → Counts
at_first next = record { functions = 0; subqueries = next }

-- what a query specification is made of: FROM and GROUP BY add no set functions and no numbers, and neither does WHERE add set
-- functions
abbrev pub whole_of : Bool → Found (List NamedItem) → Found NumberedClause → Found (List Place) → Found (List ShownColumn) → Found NumberedClause → Found Parts
whole_of distinct items kept columns shown groups = record {
  part = record { distinct = distinct; from = tables_of items.part; filter = kept.part; by = columns.part; shown = shown.part; having = groups.part };
  calls = shown.calls ++ groups.calls;
  calls_can_fail = kept.calls_can_fail || (shown.calls_can_fail || groups.calls_can_fail);
  findings = both items.findings (both kept.findings (both columns.findings (both shown.findings groups.findings)));
  subqueries = groups.subqueries;
}

-- a grouped query has no `*` and reads no column that is no grouping column
abbrev pub IsGroupedRightly : (star : Bool) → NumberedGroups → Found Parts → Type 0
IsGroupedRightly star NumberedGroups.not_grouped x = ⊤
IsGroupedRightly star (NumberedGroups.grouped by functions having) x = (star ≡ false) × (x.findings.values.has_ungrouped ≡ false)

-- the parts of a query specification, each bound behind those before it
pub record AreParts (W : Law (Clause Named) NumberedClause) (a : Surroundings) (counts : Counts) (list : SelectList Named) (from : List TableReference) (filter : Clause Named) (by : List ColumnReference) (having : Clause Named)
    (items : Found (List NamedItem)) (kept : Found NumberedClause) (columns : Found (List Place)) (shown : Found (List ShownColumn)) (groups : Found NumberedClause) : Type 0 where
  pub from_is : from_bound a.names from (at_first counts.subqueries) ≡ Ok items
  pub filter_is : Known clause_bound W (of_lines (items_of items.part) a) (at_first counts.subqueries) filter kept
  pub by_is : each (grouping_column (of_lines (items_of items.part) a)) by (at_first kept.subqueries) ≡ Ok columns
  pub list_is : list_bound (of_groups (items_of items.part) columns.part a) (items_of items.part) list (at_first kept.subqueries) ≡ Ok shown
  pub having_is : Known clause_bound W (of_groups (items_of items.part) columns.part a) (record { functions = length shown.calls; subqueries = kept.subqueries }) having groups

-- a law, for each kind of condition, and for query specifications
pub record QueryCases (C : Law (Cond Named) NumberedCond) (Cs : Law (Conds Named) NumberedConds) (W : Law (Clause Named) NumberedClause) (S : Law (Select Named) NumberedSelect) : Type 0 where
  pub of_compare : (a : Surroundings) (counts : Counts) (op : Comparison) (e f : Expr Named) (x y : Found Typed) → value a e counts ≡ Ok x → value a f (after counts x) ≡ Ok y → is_comparable x.part.kind y.part.kind ≡ true
      → C a counts (compare op e f) (joined x (put (NumberedCond.compare op x.part.tree y.part.tree) y))
  pub of_scalar : (a : Surroundings) (counts : Counts) (op : Comparison) (e : Expr Named) (s : Select Named) (x : Found Typed) (q : Found NumberedSelect) → value a e counts ≡ Ok x → Known select_bound S a (after counts x) s q
      → IsOnlyKind x.part.kind (kinds_of_part q) → C a counts (compare_subquery op e s) (joined x (put (NumberedCond.compare_query Scalar op x.part.tree (as_subquery q).part) (found_too a_status (as_subquery q))))
  pub of_quantified : (a : Surroundings) (counts : Counts) (op : Comparison) (k : Quantifier) (e : Expr Named) (s : Select Named) (x : Found Typed) (q : Found NumberedSelect) → value a e counts ≡ Ok x
      → Known select_bound S a (after counts x) s q → IsOnlyKind x.part.kind (kinds_of_part q)
      → C a counts (compare_quantified op k e s) (joined x (put (NumberedCond.compare_query (compared_as k) op x.part.tree (as_subquery q).part) (as_subquery q)))
  pub of_between : (a : Surroundings) (counts : Counts) (e low high : Expr Named) (x y z : Found Typed) → value a e counts ≡ Ok x → value a low (after counts x) ≡ Ok y → value a high (after (after counts x) y) ≡ Ok z
      → is_comparable x.part.kind y.part.kind ≡ true → is_comparable x.part.kind z.part.kind ≡ true
      → C a counts (between e low high) (joined x (joined y (put (NumberedCond.between x.part.tree y.part.tree z.part.tree) z)))
  pub of_among : (a : Surroundings) (counts : Counts) (e : Expr Named) (s : Select Named) (x : Found Typed) (q : Found NumberedSelect) → value a e counts ≡ Ok x → Known select_bound S a (after counts x) s q
      → IsOnlyKind x.part.kind (kinds_of_part q) → C a counts (in_subquery e s) (joined x (put (NumberedCond.in_query x.part.tree (as_subquery q).part) (as_subquery q)))
  pub of_list : (a : Surroundings) (counts : Counts) (e : Expr Named) (es : List (Expr Named)) (x : Found Typed) (ys : Found (List Numbered)) → value a e counts ≡ Ok x → each (agreeing a x.part.kind) es (after counts x) ≡ Ok ys
      → C a counts (in_list e es) (joined x (put (NumberedCond.in_list x.part.tree ys.part) ys))
  pub of_like : (a : Surroundings) (counts : Counts) (e pattern : Expr Named) (escape : Option (Expr Named)) (x y : Found Typed) (z : Found (Option Numbered)) → value a e counts ≡ Ok x → value a pattern (after counts x) ≡ Ok y
      → is_text x.part.kind ≡ true → is_text y.part.kind ≡ true → escape_bound a escape (after (after counts x) y) ≡ Ok z
      → C a counts (like e pattern escape) (joined x (joined y (put (NumberedCond.like x.part.tree y.part.tree z.part) z)))
  pub of_null : (a : Surroundings) (counts : Counts) (e : Expr Named) (x : Found Typed) → value a e counts ≡ Ok x → C a counts (is_null e) (put (NumberedCond.is_null x.part.tree) x)
  pub of_exists : (a : Surroundings) (counts : Counts) (s : Select Named) (q : Found NumberedSelect) → Known select_bound S a counts s q → C a counts (exists s) (put (NumberedCond.exists (as_subquery q).part) (as_subquery q))
  pub of_negated : (a : Surroundings) (counts : Counts) (c : Cond Named) (x : Found NumberedCond) → Known cond_bound C a counts c x → C a counts (negated c) (put (NumberedCond.negated x.part) x)
  pub of_conjunction : (a : Surroundings) (counts : Counts) (cs : Conds Named) (xs : Found NumberedConds) → Cs a counts cs xs → C a counts (conjunction cs) (put (NumberedCond.conjunction xs.part) xs)
  pub of_disjunction : (a : Surroundings) (counts : Counts) (cs : Conds Named) (xs : Found NumberedConds) → Cs a counts cs xs → C a counts (disjunction cs) (put (NumberedCond.disjunction xs.part) xs)
  pub of_none : (a : Surroundings) (counts : Counts) → Cs a counts no_cond (only counts.subqueries nothing NumberedConds.no_cond)
  pub of_test : (a : Surroundings) (counts : Counts) (c : Cond Named) (cs : Conds Named) (x : Found NumberedCond) (xs : Found NumberedConds) → Known cond_bound C a counts c x → Cs a (after counts x) cs xs
      → Cs a counts (a_cond c cs) (joined x (put (NumberedConds.a_cond (noted x).part xs.part) xs))
  pub of_term : (a : Surroundings) (counts : Counts) (c : Cond Named) (cs : Conds Named) (x : Found NumberedCond) (xs : Found NumberedConds) → Known cond_bound C a counts c x → Cs a (after counts x) cs xs
      → Cs a counts (a_cond c cs) (joined x (put (NumberedConds.a_cond x.part xs.part) xs))
  pub of_absent : (a : Surroundings) (counts : Counts) → W a counts absent (only counts.subqueries nothing NumberedClause.absent)
  pub of_present : (a : Surroundings) (counts : Counts) (c : Cond Named) (x : Found NumberedCond) → Known cond_bound C a counts c x → W a counts (present c) (put (NumberedClause.present x.part) x)
  pub of_select : (a : Surroundings) (counts : Counts) (distinct : Bool) (list : SelectList Named) (from : List TableReference) (filter : Clause Named) (by : List ColumnReference) (having : Clause Named)
      (items : Found (List NamedItem)) (kept : Found NumberedClause) (columns : Found (List Place)) (shown : Found (List ShownColumn)) (groups : Found NumberedClause)
      → AreParts W a counts list from filter by having items kept columns shown groups
      → (let w = whole_of distinct items kept columns shown groups in IsGroupedRightly (is_star list) (groups_of w) w → S a counts (select distinct list from filter by having) (select_found w))

-- ---- FROM, GROUP BY and select lists

-- a part adds no set functions and no numbers
pub record IsBare {A : Type 0} (counts : Counts) (x : Found A) : Type 0 where
  pub calls : x.calls ≡ []
  pub sure : x.calls_can_fail ≡ false
  pub next : x.subqueries ≡ counts.subqueries

abbrev pub AddsNoNumber : {A : Type 0} → Counts → Found A → Type 0
AddsNoNumber counts x = x.subqueries ≡ counts.subqueries

pub each_bare : {A B : Type 0} (f : A → Binding B) → ((counts : Counts) (x : A) → IfFound (IsBare counts) (f x counts)) → (xs : List A) (counts : Counts) → IfFound (IsBare counts) (each f xs counts)
each_bare f h =
    each_holds (λ counts x y. IsBare counts y) (λ counts xs ys. IsBare counts ys) f h (λ counts. record { calls = refl; sure = refl; next = refl })
    (λ counts x xs y ys p q. record { calls = λ i. p.calls i ++ q.calls i; sure = λ i. p.sure i || q.sure i; next = q.next ∙ p.next })

pub each_plain : {A B : Type 0} (f : A → Binding B) → ((counts : Counts) (x : A) → IfFound (AddsNoNumber counts) (f x counts)) → (xs : List A) (counts : Counts) → IfFound (AddsNoNumber counts) (each f xs counts)
each_plain f h = each_holds (λ counts x y. AddsNoNumber counts y) (λ counts xs ys. AddsNoNumber counts ys) f h (λ counts. refl) (λ counts x xs y ys p q. q ∙ p)

pub from_bare : (names : NamedTables) (from : List TableReference) (counts : Counts) (x : Found (List NamedItem)) → from_bound names from counts ≡ Ok x → IsBare counts x
from_bare names from counts x is =
    it_is (IsBare counts) (from_bound names from counts) x is
    (from_holds names counts (IsBare counts) from
    (λ x so few. it_is (IsBare counts) (each (item_bound names) from counts) x so
    (each_bare (item_bound names) (λ counts r. item_holds names counts (IsBare counts) r (λ t there. record { calls = refl; sure = refl; next = refl })) from counts)))

pub grouping_bare : (a : Surroundings) (by : List ColumnReference) (counts : Counts) (x : Found (List Place)) → each (grouping_column a) by counts ≡ Ok x → IsBare counts x
grouping_bare a by counts x is =
    it_is (IsBare counts) (each (grouping_column a) by counts) x is
    (each_bare (grouping_column a) (λ counts c. grouping_holds a counts (IsBare counts) c (λ found so grouped. record { calls = refl; sure = refl; next = refl })) by counts)

pub list_plain : (a : Surroundings) (items : List FromItem) (list : SelectList Named) (counts : Counts) (x : Found (List ShownColumn)) → list_bound a items list counts ≡ Ok x → AddsNoNumber counts x
list_plain a items all_columns counts x is = it_is (AddsNoNumber counts) (list_bound a items all_columns counts) x is (star_holds a counts (AddsNoNumber counts) items refl)
list_plain a items (expressions es) counts x is =
    it_is (AddsNoNumber counts) (list_bound a items (expressions es) counts) x is
    (list_holds a counts (AddsNoNumber counts) items es
    (λ x so. it_is (AddsNoNumber counts) (each (shown_column a) es counts) x so
    (each_plain (shown_column a) (λ counts e. shown_holds a counts (AddsNoNumber counts) e (λ y also. it_is (AddsNoNumber counts) (value a e counts) y also (value_holds a counts (AddsNoNumber counts) e (λ b bound. refl)))) es counts)))

-- ---- a query specification by its parts

rightly_holds : (P : Found NumberedSelect → Type 0) (star : Bool) (groups : NumberedGroups) (x : Found Parts) → (IsGroupedRightly star groups x → P (select_found x)) → IfFound P (rightly_grouped star groups x)
rightly_holds P star NumberedGroups.not_grouped x h = h tt
rightly_holds P true (NumberedGroups.grouped by functions having) x h = tt
rightly_holds P false (NumberedGroups.grouped by functions having) x h = unless x.findings.values.has_ungrouped (λ none. h (refl, none))
  where
    unless : (ungrouped : Bool) → (ungrouped ≡ false → P (select_found x)) → IfFound P (if ungrouped then Err fault.UngroupedColumn else Ok (select_found x))
    unless true g = tt
    unless false g = g refl

specified : (P : Found NumberedSelect → Type 0) (star : Bool) (o : Outcome (Found Parts)) → IfFound (λ x. IfFound P (rightly_grouped star (groups_of x) x)) o → IfFound P (and_then o (λ x. rightly_grouped star (groups_of x) x))
specified P star (Err f) h = tt
specified P star (Ok x) h = h

module _ (W : Law (Clause Named) NumberedClause) (a : Surroundings) (counts : Counts) (distinct : Bool) (list : SelectList Named) (from : List TableReference) (filter : Clause Named) (by : List ColumnReference) (having : Clause Named)
    (filtered : (a : Surroundings) (counts : Counts) → IfFound (W a counts filter) (clause_bound a filter counts)) (left : (a : Surroundings) (counts : Counts) → IfFound (W a counts having) (clause_bound a having counts)) where
  abbrev lines : Found (List NamedItem) → Surroundings
  lines items = of_lines (items_of items.part) a

  abbrev groups_in : Found (List NamedItem) → Found (List Place) → Surroundings
  groups_in items columns = of_groups (items_of items.part) columns.part a

  module _ (items : Found (List NamedItem)) (kept : Found NumberedClause) (columns : Found (List Place)) (shown : Found (List ShownColumn)) (groups : Found NumberedClause) where
    abbrev c0 : Counts
    c0 = at_first counts.subqueries

    abbrev c2 : Counts
    c2 = after (after c0 items) kept

    abbrev c3 : Counts
    c3 = after c2 columns

    abbrev c4 : Counts
    c4 = after c3 shown

    parts_are : from_bound a.names from c0 ≡ Ok items → clause_bound (lines items) filter (at_first items.subqueries) ≡ Ok kept → each (grouping_column (lines items)) by c2 ≡ Ok columns
        → list_bound (groups_in items columns) (items_of items.part) list c3 ≡ Ok shown → clause_bound (groups_in items columns) having c4 ≡ Ok groups
        → AreParts W a counts list from filter by having items kept columns shown groups
        × (joined items (joined kept (joined columns (joined shown (put (whole_of distinct items kept columns shown groups).part groups)))) ≡ whole_of distinct items kept columns shown groups)
    parts_are e0 e1 e2 e3 e4 =
        let b0 = from_bare a.names from c0 items e0 in
        let n1 : at_first items.subqueries ≡ c0 = λ i. record { functions = 0; subqueries = b0.next i } in
        let f1 : clause_bound (lines items) filter c0 ≡ Ok kept = subst (λ c. clause_bound (lines items) filter c ≡ Ok kept) n1 e1 in
        let k1 : kept.calls ≡ [] = (it_is _ (clause_bound (lines items) filter c0) kept f1 (clause_is_placed filter (lines items) c0)).none_forbidden refl in
        let n2 : c2 ≡ at_first kept.subqueries = λ i. record { functions = (0 + length (b0.calls i)) + length (k1 i); subqueries = kept.subqueries } in
        let b2 = grouping_bare (lines items) by c2 columns e2 in
        let n3 : c3 ≡ at_first kept.subqueries = λ i. record { functions = ((0 + length (b0.calls i)) + length (k1 i)) + length (b2.calls i); subqueries = b2.next i } in
        let s3 = list_plain (groups_in items columns) (items_of items.part) list c3 shown e3 in
        let size : c4.functions ≡ length shown.calls = (λ i. (((0 + length (b0.calls i)) + length (k1 i)) + length (b2.calls i)) + length shown.calls) ∙ zero-add (length shown.calls) in
        let n4 : c4 ≡ record { functions = length shown.calls; subqueries = kept.subqueries } = λ i. record { functions = size i; subqueries = (s3 ∙ b2.next) i } in
        let f4 : clause_bound (groups_in items columns) having (record { functions = length shown.calls; subqueries = kept.subqueries }) ≡ Ok groups = subst (λ c. clause_bound (groups_in items columns) having c ≡ Ok groups) n4 e4 in (
          record {
            from_is = e0;
            filter_is = (f1, it_is (W (lines items) c0 filter) (clause_bound (lines items) filter c0) kept f1 (filtered (lines items) c0));
            by_is = subst (λ c. each (grouping_column (lines items)) by c ≡ Ok columns) n2 e2;
            list_is = subst (λ c. list_bound (groups_in items columns) (items_of items.part) list c ≡ Ok shown) n3 e3;
            having_is = (
              f4,
              it_is (W (groups_in items columns) (record { functions = length shown.calls; subqueries = kept.subqueries }) having)
                  (clause_bound (groups_in items columns) having (record { functions = length shown.calls; subqueries = kept.subqueries })) groups f4
                  (left (groups_in items columns) (record { functions = length shown.calls; subqueries = kept.subqueries })),
            );
          },
          λ i. record {
            part = (whole_of distinct items kept columns shown groups).part;
            calls = b0.calls i ++ (k1 i ++ (b2.calls i ++ (shown.calls ++ groups.calls)));
            calls_can_fail = b0.sure i || (kept.calls_can_fail || (b2.sure i || (shown.calls_can_fail || groups.calls_can_fail)));
            findings = both items.findings (both kept.findings (both columns.findings (both shown.findings groups.findings)));
            subqueries = groups.subqueries;
          },
        )

  pub whole_holds : (P : Found NumberedSelect → Type 0)
      → ((items : Found (List NamedItem)) (kept : Found NumberedClause) (columns : Found (List Place)) (shown : Found (List ShownColumn)) (groups : Found NumberedClause) → AreParts W a counts list from filter by having items kept columns shown groups
      → (let w = whole_of distinct items kept columns shown groups in IsGroupedRightly (is_star list) (groups_of w) w → P (select_found w)))
      → IfFound P (select_bound a (select distinct list from filter by having) counts)
  whole_holds P h =
      specified P (is_star list) (bound_parts (at_first counts.subqueries))
      (next_holds Q (at_first counts.subqueries) (from_bound a.names from) after_from
      (λ items e0. next_holds (λ y. Q (joined items y)) (after (at_first counts.subqueries) items) (from_first (clause_bound (of_lines (items_of items.part) a) filter)) (after_filter items.part)
      (λ kept e1. next_holds (λ y. Q (joined items (joined kept y))) (after (after (at_first counts.subqueries) items) kept) (each (grouping_column (of_lines (items_of items.part) a)) by) (after_columns items.part kept.part)
      (λ columns e2. two_hold (λ y. Q (joined items (joined kept (joined columns y)))) (after (after (after (at_first counts.subqueries) items) kept) columns)
      (list_bound (of_groups (items_of items.part) columns.part a) (items_of items.part) list) (λ shown. clause_bound (of_groups (items_of items.part) columns.part a) having)
      (λ shown groups. parts_of items.part kept.part columns.part shown groups)
      (λ shown groups e3 e4.
      let all = parts_are items kept columns shown groups e0 e1 e2 e3 e4 in
      subst Q (sym all.1) (rightly_holds P (is_star list) (groups_of (whole_of distinct items kept columns shown groups)) (whole_of distinct items kept columns shown groups) (h items kept columns shown groups all.0)))))))
    where
      Q : Found Parts → Type 0
      Q x = IfFound P (rightly_grouped (is_star list) (groups_of x) x)

      parts_of : List NamedItem → NumberedClause → List Place → List ShownColumn → NumberedClause → Parts
      parts_of items kept columns shown groups = record { distinct = distinct; from = tables_of items; filter = kept; by = columns; shown = shown; having = groups }

      after_columns : List NamedItem → NumberedClause → List Place → Binding Parts
      after_columns items kept columns =
          list_bound (of_groups (items_of items) columns a) (items_of items) list >>= λ shown. clause_bound (of_groups (items_of items) columns a) having >>= λ groups. pure (parts_of items kept columns shown groups)

      after_filter : List NamedItem → NumberedClause → Binding Parts
      after_filter items kept = each (grouping_column (of_lines (items_of items) a)) by >>= after_columns items kept

      after_from : List NamedItem → Binding Parts
      after_from items = from_first (clause_bound (of_lines (items_of items) a) filter) >>= after_filter items

      bound_parts : Binding Parts
      bound_parts = from_bound a.names from >>= after_from

-- ---- all of them, one by the other

module _ (C : Law (Cond Named) NumberedCond) (Cs : Law (Conds Named) NumberedConds) (W : Law (Clause Named) NumberedClause) (S : Law (Select Named) NumberedSelect) (cases : QueryCases C Cs W S) where
  test_step : (a : Surroundings) (counts : Counts) (P : Found NumberedCond → Type 0) (o : Outcome (Found NumberedCond)) → ((x : Found NumberedCond) → o ≡ Ok x → P (noted x)) → IfFound P (and_then o (λ x. Ok (noted x)))
  test_step a counts P (Err f) h = tt
  test_step a counts P (Ok x) h = h x refl

  mutual
    pub cond_holds : (c : Cond Named) (a : Surroundings) (counts : Counts) → IfFound (C a counts c) (cond_bound a c counts)
    cond_holds (compare op e f) a counts =
        next_holds (C a counts (compare op e f)) counts (value a e) (λ x. agreeing a x.kind f >>= λ y. pure (NumberedCond.compare op x.tree y))
        (λ x is. made_holds (λ y. C a counts (compare op e f) (joined x y)) (after counts x) (agreeing a x.part.kind f) (λ y. NumberedCond.compare op x.part.tree y)
        (λ y so. it_is (λ y. C a counts (compare op e f) (joined x (put (NumberedCond.compare op x.part.tree y.part) y))) (agreeing a x.part.kind f (after counts x)) y so
        (agreeing_holds a (after counts x) (λ y. C a counts (compare op e f) (joined x (put (NumberedCond.compare op x.part.tree y.part) y))) x.part.kind f (λ y also same. cases.of_compare a counts op e f x y is also same))))
    cond_holds (compare_subquery op e s) a counts =
        next_holds (C a counts (compare_subquery op e s)) counts (value a e) (λ x. scalar x.kind (select_bound a s) >>= λ y. pure (NumberedCond.compare_query Scalar op x.tree y))
        (λ x is. made_holds (λ y. C a counts (compare_subquery op e s) (joined x y)) (after counts x) (scalar x.part.kind (select_bound a s)) (λ y. NumberedCond.compare_query Scalar op x.part.tree y)
        (λ y so. it_is (λ y. C a counts (compare_subquery op e s) (joined x (put (NumberedCond.compare_query Scalar op x.part.tree y.part) y))) (scalar x.part.kind (select_bound a s) (after counts x)) y so
        (scalar_holds (select_bound a s) (after counts x) (λ y. C a counts (compare_subquery op e s) (joined x (put (NumberedCond.compare_query Scalar op x.part.tree y.part) y))) x.part.kind
        (λ q also one. cases.of_scalar a counts op e s x q is (also, it_is (S a (after counts x) s) (select_bound a s (after counts x)) q also (select_holds s a (after counts x))) one))))
    cond_holds (compare_quantified op k e s) a counts =
        next_holds (C a counts (compare_quantified op k e s)) counts (value a e) (λ x. beside x.kind (select_bound a s) >>= λ y. pure (NumberedCond.compare_query (compared_as k) op x.tree y))
        (λ x is. made_holds (λ y. C a counts (compare_quantified op k e s) (joined x y)) (after counts x) (beside x.part.kind (select_bound a s)) (λ y. NumberedCond.compare_query (compared_as k) op x.part.tree y)
        (λ y so. it_is (λ y. C a counts (compare_quantified op k e s) (joined x (put (NumberedCond.compare_query (compared_as k) op x.part.tree y.part) y))) (beside x.part.kind (select_bound a s) (after counts x)) y so
        (beside_holds (select_bound a s) (after counts x) (λ y. C a counts (compare_quantified op k e s) (joined x (put (NumberedCond.compare_query (compared_as k) op x.part.tree y.part) y))) x.part.kind
        (λ q also one. cases.of_quantified a counts op k e s x q is (also, it_is (S a (after counts x) s) (select_bound a s (after counts x)) q also (select_holds s a (after counts x))) one))))
    cond_holds (between e low high) a counts =
        next_holds (C a counts (between e low high)) counts (value a e) (λ x. agreeing a x.kind low >>= λ y. agreeing a x.kind high >>= λ z. pure (NumberedCond.between x.tree y z))
        (λ x is. next_holds (λ y. C a counts (between e low high) (joined x y)) (after counts x) (agreeing a x.part.kind low) (λ y. agreeing a x.part.kind high >>= λ z. pure (NumberedCond.between x.part.tree y z))
        (λ y so. it_is (λ y. IfFound (λ z. C a counts (between e low high) (joined x (joined y z))) ((agreeing a x.part.kind high >>= λ z. pure (NumberedCond.between x.part.tree y.part z)) (after (after counts x) y)))
        (agreeing a x.part.kind low (after counts x)) y so
        (agreeing_holds a (after counts x) (λ y. IfFound (λ z. C a counts (between e low high) (joined x (joined y z))) ((agreeing a x.part.kind high >>= λ z. pure (NumberedCond.between x.part.tree y.part z)) (after (after counts x) y))) x.part.kind low
        (λ y also same. made_holds (λ z. C a counts (between e low high) (joined x (joined y z))) (after (after counts x) y) (agreeing a x.part.kind high) (λ z. NumberedCond.between x.part.tree y.part.tree z)
        (λ z third. it_is (λ z. C a counts (between e low high) (joined x (joined y (put (NumberedCond.between x.part.tree y.part.tree z.part) z)))) (agreeing a x.part.kind high (after (after counts x) y)) z third
        (agreeing_holds a (after (after counts x) y) (λ z. C a counts (between e low high) (joined x (joined y (put (NumberedCond.between x.part.tree y.part.tree z.part) z)))) x.part.kind high
        (λ z last alike. cases.of_between a counts e low high x y z is also last same alike)))))))
    cond_holds (in_subquery e s) a counts =
        next_holds (C a counts (in_subquery e s)) counts (value a e) (λ x. beside x.kind (select_bound a s) >>= λ y. pure (NumberedCond.in_query x.tree y))
        (λ x is. made_holds (λ y. C a counts (in_subquery e s) (joined x y)) (after counts x) (beside x.part.kind (select_bound a s)) (λ y. NumberedCond.in_query x.part.tree y)
        (λ y so. it_is (λ y. C a counts (in_subquery e s) (joined x (put (NumberedCond.in_query x.part.tree y.part) y))) (beside x.part.kind (select_bound a s) (after counts x)) y so
        (beside_holds (select_bound a s) (after counts x) (λ y. C a counts (in_subquery e s) (joined x (put (NumberedCond.in_query x.part.tree y.part) y))) x.part.kind
        (λ q also one. cases.of_among a counts e s x q is (also, it_is (S a (after counts x) s) (select_bound a s (after counts x)) q also (select_holds s a (after counts x))) one))))
    cond_holds (in_list e es) a counts =
        two_hold (C a counts (in_list e es)) counts (value a e) (λ x. each (agreeing a x.kind) es) (λ x ys. NumberedCond.in_list x.tree ys) (λ x ys is so. cases.of_list a counts e es x ys is so)
    cond_holds (like e pattern escape) a counts =
        next_holds (C a counts (like e pattern escape)) counts (text a e) (λ x. text a pattern >>= λ y. escape_bound a escape >>= λ z. pure (NumberedCond.like x y z))
        (λ x is. it_is (λ x. IfFound (λ y. C a counts (like e pattern escape) (joined x y)) ((text a pattern >>= λ y. escape_bound a escape >>= λ z. pure (NumberedCond.like x.part y z)) (after counts x))) (text a e counts) x is
        (text_holds a counts (λ x. IfFound (λ y. C a counts (like e pattern escape) (joined x y)) ((text a pattern >>= λ y. escape_bound a escape >>= λ z. pure (NumberedCond.like x.part y z)) (after counts x))) e
        (λ x so one. next_holds (λ y. C a counts (like e pattern escape) (joined x y)) (after counts x) (text a pattern) (λ y. escape_bound a escape >>= λ z. pure (NumberedCond.like x.part.tree y z))
        (λ y also. it_is (λ y. IfFound (λ z. C a counts (like e pattern escape) (joined x (joined y z))) ((escape_bound a escape >>= λ z. pure (NumberedCond.like x.part.tree y.part z)) (after (after counts x) y))) (text a pattern (after counts x)) y also
        (text_holds a (after counts x) (λ y. IfFound (λ z. C a counts (like e pattern escape) (joined x (joined y z))) ((escape_bound a escape >>= λ z. pure (NumberedCond.like x.part.tree y.part z)) (after (after counts x) y))) pattern
        (λ y further two. made_holds (λ z. C a counts (like e pattern escape) (joined x (joined y z))) (after (after counts x) y) (escape_bound a escape) (λ z. NumberedCond.like x.part.tree y.part.tree z)
        (λ z last. cases.of_like a counts e pattern escape x y z so further one two last)))))))
    cond_holds (is_null e) a counts = made_holds (C a counts (is_null e)) counts (value a e) (λ x. NumberedCond.is_null x.tree) (λ x is. cases.of_null a counts e x is)
    cond_holds (exists s) a counts =
        made_holds (C a counts (exists s)) counts (subquery (select_bound a s)) (λ y. NumberedCond.exists y)
        (λ y is. it_is (λ y. C a counts (exists s) (put (NumberedCond.exists y.part) y)) (subquery (select_bound a s) counts) y is
        (subquery_holds (select_bound a s) counts (λ y. C a counts (exists s) (put (NumberedCond.exists y.part) y))
        (λ q so. cases.of_exists a counts s q (so, it_is (S a counts s) (select_bound a s counts) q so (select_holds s a counts)))))
    cond_holds (negated c) a counts =
        made_holds (C a counts (negated c)) counts (cond_bound a c) (λ x. NumberedCond.negated x) (λ x is. cases.of_negated a counts c x (is, it_is (C a counts c) (cond_bound a c counts) x is (cond_holds c a counts)))
    cond_holds (conjunction cs) a counts =
        made_holds (C a counts (conjunction cs)) counts (tests_bound a cs) (λ xs. NumberedCond.conjunction xs) (λ xs is. cases.of_conjunction a counts cs xs (it_is (Cs a counts cs) (tests_bound a cs counts) xs is (tests_hold cs a counts)))
    cond_holds (disjunction cs) a counts =
        made_holds (C a counts (disjunction cs)) counts (terms_bound a cs) (λ xs. NumberedCond.disjunction xs) (λ xs is. cases.of_disjunction a counts cs xs (it_is (Cs a counts cs) (terms_bound a cs counts) xs is (terms_hold cs a counts)))

    tests_hold : (cs : Conds Named) (a : Surroundings) (counts : Counts) → IfFound (Cs a counts cs) (tests_bound a cs counts)
    tests_hold no_cond a counts = cases.of_none a counts
    tests_hold (a_cond c cs) a counts =
        two_hold (Cs a counts (a_cond c cs)) counts (test (cond_bound a c)) (λ x. tests_bound a cs) (λ x xs. NumberedConds.a_cond x xs)
        (λ y xs is so. it_is (λ y. tests_bound a cs (after counts y) ≡ Ok xs → Cs a counts (a_cond c cs) (joined y (put (NumberedConds.a_cond y.part xs.part) xs))) (test (cond_bound a c) counts) y is
        (test_step a counts (λ y. tests_bound a cs (after counts y) ≡ Ok xs → Cs a counts (a_cond c cs) (joined y (put (NumberedConds.a_cond y.part xs.part) xs))) (cond_bound a c counts)
        (λ x also rest. cases.of_test a counts c cs x xs (also, it_is (C a counts c) (cond_bound a c counts) x also (cond_holds c a counts)) (it_is (Cs a (after counts x) cs) (tests_bound a cs (after counts x)) xs rest (tests_hold cs a (after counts x)))))
        so)

    terms_hold : (cs : Conds Named) (a : Surroundings) (counts : Counts) → IfFound (Cs a counts cs) (terms_bound a cs counts)
    terms_hold no_cond a counts = cases.of_none a counts
    terms_hold (a_cond c cs) a counts =
        two_hold (Cs a counts (a_cond c cs)) counts (cond_bound a c) (λ x. terms_bound a cs) (λ x xs. NumberedConds.a_cond x xs)
        (λ x xs is so. cases.of_term a counts c cs x xs (is, it_is (C a counts c) (cond_bound a c counts) x is (cond_holds c a counts)) (it_is (Cs a (after counts x) cs) (terms_bound a cs (after counts x)) xs so (terms_hold cs a (after counts x))))

    pub clause_holds : (c : Clause Named) (a : Surroundings) (counts : Counts) → IfFound (W a counts c) (clause_bound a c counts)
    clause_holds absent a counts = cases.of_absent a counts
    clause_holds (present c) a counts =
        made_holds (W a counts (present c)) counts (cond_bound a c) (λ x. NumberedClause.present x) (λ x is. cases.of_present a counts c x (is, it_is (C a counts c) (cond_bound a c counts) x is (cond_holds c a counts)))

    pub select_holds : (s : Select Named) (a : Surroundings) (counts : Counts) → IfFound (S a counts s) (select_bound a s counts)
    select_holds (select distinct list from filter by having) a counts =
        whole_holds W a counts distinct list from filter by having (clause_holds filter) (clause_holds having) (S a counts (select distinct list from filter by having))
        (λ items kept columns shown groups parts right. cases.of_select a counts distinct list from filter by having items kept columns shown groups parts right)

  -- the properties hold of what a search condition, a clause and a query specification are bound to
  pub cond_is : (c : Cond Named) (a : Surroundings) (counts : Counts) (x : Found NumberedCond) → cond_bound a c counts ≡ Ok x → C a counts c x
  cond_is c a counts x is = it_is (C a counts c) (cond_bound a c counts) x is (cond_holds c a counts)

  pub clause_is : (c : Clause Named) (a : Surroundings) (counts : Counts) (x : Found NumberedClause) → clause_bound a c counts ≡ Ok x → W a counts c x
  clause_is c a counts x is = it_is (W a counts c) (clause_bound a c counts) x is (clause_holds c a counts)

  pub select_is : (s : Select Named) (a : Surroundings) (counts : Counts) (x : Found NumberedSelect) → select_bound a s counts ≡ Ok x → S a counts s x
  select_is s a counts x is = it_is (S a counts s) (select_bound a s counts) x is (select_holds s a counts)
