-- Which conditions name the rows of an item by values of a column: a test that says what the column is equal to, on either side; IN with a
-- list of values; such a test in brackets; AND, by one of its tests, where those before it have a truth on each line; OR, by all of its terms
-- (ISO/IEC 9075:1992, 8.2, 8.4 and 8.12).
use Rattle.std.proofs.Common.{◌≡◌, ◌∙◌, ◌+◌, ◌<◌, ◌⊎◌, inl, inr, ℕ, zero, suc, Bool, false, true, not, ◌&&◌, List, [], ◌∷◌, ◌++◌, length, map, take, slice_index_or, Option, Some, None, Result, Vec, Global, slice_get, refl, sym, ap, subst, arith, Ok, Err}
use Rattle.std.specs.Prelude.{IfOk, IfSome, if◌then◌else◌}
use Rattle.std.proofs.lemmas.List.{take_more}
use Rattle.std.specs.List.{AllByRecursion, AllZip}
use Rattle.sq_lex.specs.declared.name.Name.{Name}
use Rattle.sq_value.specs.Comparison.{is_same}
use Rattle.sq_value.specs.declared.domain.Kind.{Kind}
use Rattle.sq_value.specs.declared.truth.Truth.TheVariants.{False}
use Rattle.sq_value.specs.declared.value.Value.{Value}
use Rattle.sq_value.specs.declared.value.Value.TheVariants.{Null}
use Rattle.sq_tree.specs.declared.cond.Comparison.{Comparison}
use Rattle.sq_tree.specs.declared.cond.Comparison.TheVariants.{Equal}
use Rattle.sq_meaning.specs.Environment.{Env, Line, Row, Scope, alone}
use Rattle.sq_meaning.specs.Expression.{value}
use Rattle.sq_meaning.specs.Kind.{Kinds}
use Rattle.sq_meaning.specs.Placed.{Placed, by_place}
use Rattle.sq_meaning.specs.Query.{or_else, truth}
use Rattle.sq_meaning.specs.Quiet.{is_quiet, is_quiet_expr}
use Rattle.sq_meaning.specs.Status.{Outcome}
use Rattle.sq_meaning.specs.Sure.{is_sure}
use Rattle.sq_meaning.specs.Syntax.{column, compare, conds, conjunction, disjunction, in_list}
use Rattle.sq_meaning.specs.Target.{has_subquery}
use Rattle.sq_meaning.specs.WellFormed.{HasValue, IsDeclaredAt, IsEnvOf, kinds_by_place, of_lines}
use Rattle.sq_meaning.proofs.AnswerLaws.{all_appended, all_weaker}
use Rattle.sq_meaning.proofs.QueryKinds.{truth_of_kinds}
use Rattle.sq_meaning.proofs.ReadingKinds.{env_by_place, places_agree}
use Rattle.sq_meaning.proofs.SureLaws.{sure_truth}
use Rattle.sq_bound.specs.Condition.{PlacedCond, cond_of, conj_of, not_if, predicate_of, test_of}
use Rattle.sq_bound.specs.Expression.{PlacedExpr, expr_of}
use Rattle.sq_bound.specs.Keyed.{AreEqualled}
use Rattle.sq_bound.specs.Noted.{may_fail}
use Rattle.sq_bound.specs.WellFormed.{Levels, TableKinds}
use Rattle.sq_bound.specs.declared.condition.BoundCond.{BoundCond, out-BoundCond}
use Rattle.sq_bound.specs.declared.condition.BoundConj.{BoundConj, out-BoundConj}
use Rattle.sq_bound.specs.declared.condition.BoundTest.{BoundTest}
use Rattle.sq_bound.specs.declared.condition.Predicate.{Predicate}
use Rattle.sq_bound.specs.declared.condition.Predicate.TheVariants as bound
use Rattle.sq_bound.specs.declared.condition.TablePlace.{TablePlace}
use Rattle.sq_bound.specs.declared.expression.BoundExpr.{BoundExpr}
use Rattle.sq_bound.proofs.ColumnTests.{compared}
use Rattle.sq_bound.proofs.ConditionLaws.{cond_of-out, conj_of-out, predicate_of-InList, test_of-out}
use Rattle.sq_bound.proofs.QuietLaws.{quiet-Compare, quiet-Null}
use Rattle.sq_bound.proofs.QuietRows.{no_tables}
use Rattle.sq_bound.proofs.QuietTruths.{both_left, both_right, has_truth, quiet_plain, valued_so}
use Rattle.sq_expression.specs.Frame.{inputs_of}
use Rattle.sq_expression.specs.declared.fault.Fault.{Fault}
use Rattle.sq_query.specs.Around.{beneath}
use Rattle.sq_query.specs.Named.{AreTrusted, AreTrustedIn, HasOther, IsBracketed, IsColumnOf, IsEqualTo, IsFalseAt, IsFalseBy, IsFalseOf, IsLineOf, IsOneOf, IsPassed, IsSureTest, IsTrusted, StandsOnLines, sure_within}
use Rattle.sq_query.specs.Sought.{IsAmongOnLines, IsSameOnLines}
use Rattle.sq_query.specs.Union.{AreFitting}
use Rattle.sq_query.specs.declared.named.Sure.{Sure}
use Rattle.sq_query.specs.declared.named.Sure.TheVariants.{All, Noted, Unnoted}
use Rattle.sq_query.specs.declared.sought.Sought.{Sought}
use Rattle.sq_query.proofs.Needs.AnyTables.{truth_over}
use Rattle.sq_query.proofs.Keys.EqualTests.{bracketed_tree, false_left, test_false}
use Rattle.sq_query.proofs.ByUnion.JoinedTerms.{all_left, all_right}
use Rattle.sq_query.proofs.Keys.KeyLacked.{all_also, also_false, none_fit, stops}
use Rattle.sq_query.proofs.Keys.KeyOut.{all_is}
use Rattle.sq_query.proofs.Keys.KeyValues.{all_contained}
use Rattle.sq_query.proofs.Keys.KeyedRows.{inputs_are}

-- what holds of the first elements and of the next one
all_more : {A : Type 0} (P : A → Type 0) (xs : List A) (i : ℕ) (x : A) → i < length xs → x ≡ slice_index_or xs i x → P x → AllByRecursion P (take i xs) → AllByRecursion P (take (i + 1) xs)
all_more {A} P xs i x within at holds all =
    subst (AllByRecursion P) (sym (take_more xs i x within ∙ ap (λ (y : A). take i xs ++ y ∷ []) (sym at))) (all_appended P (take i xs) (x ∷ []) all (holds, tt))

-- ---- what is known of tests beforehand

-- the tests of a condition that never ends with a status
sure_tests : (columns : TableKinds) (tables : TablePlace → Outcome (List Row)) (test : BoundTest) → IsSureTest test columns tables → (tests : List BoundTest) → is_sure may_fail (conjunction (conds (map (test_of []) tests))) ≡ true → AreTrusted All tests columns tables
sure_tests columns tables test s [] h = tt
sure_tests columns tables test s (x ∷ tests) h =
    let later : Bool = is_sure may_fail (conjunction (conds (map (test_of []) tests))) in
    (record { fitting = s.fitting; bases = s.bases; sure = both_left (is_sure may_fail (test_of [] x)) later h }, sure_tests columns tables test s tests (both_right (is_sure may_fail (test_of [] x)) later h))

sure_terms : (columns : TableKinds) (tables : TablePlace → Outcome (List Row)) (test : BoundTest) → IsSureTest test columns tables → (terms : List BoundConj) → is_sure may_fail (disjunction (conds (map (conj_of []) terms))) ≡ true
    → AllByRecursion (λ term. AreTrusted All (out-BoundConj term).tests columns tables) terms
sure_terms columns tables test s [] h = tt
sure_terms columns tables test s (x ∷ terms) h =
    let later : Bool = is_sure may_fail (disjunction (conds (map (conj_of []) terms))) in
    (sure_tests columns tables test s (out-BoundConj x).tests (sym (ap (is_sure may_fail) (conj_of-out [] x)) ∙ both_left (is_sure may_fail (conj_of [] x)) later h), sure_terms columns tables test s terms (both_right (is_sure may_fail (conj_of [] x)) later h))

sure_inside : (columns : TableKinds) (tables : TablePlace → Outcome (List Row)) (own : BoundCond) (test : BoundTest) → IsBracketed own test → IsSureTest test columns tables → AreTrustedIn All own columns tables
sure_inside columns tables own test is s =
    sure_terms columns tables test s (out-BoundCond own).terms (sym (ap (is_sure may_fail) (bracketed_tree test own is ∙ cond_of-out [] own)) ∙ s.sure)

none_trusted : (columns : TableKinds) (tables : TablePlace → Outcome (List Row)) (tests : List BoundTest) → AreTrusted Unnoted tests columns tables
none_trusted columns tables [] = tt
none_trusted columns tables (x ∷ tests) = (tt, none_trusted columns tables tests)

pub none_trusted_in : (own : BoundCond) (columns : TableKinds) (tables : TablePlace → Outcome (List Row)) → AreTrustedIn Unnoted own columns tables
none_trusted_in own columns tables = terms (out-BoundCond own).terms
  where
    terms : (ts : List BoundConj) → AllByRecursion (λ term. AreTrusted Unnoted (out-BoundConj term).tests columns tables) ts
    terms [] = tt
    terms (x ∷ ts) = (none_trusted columns tables (out-BoundConj x).tests, terms ts)

trusted_within : (sure : Sure) (own : BoundCond) (test : BoundTest) → IsBracketed own test → (columns : TableKinds) (tables : TablePlace → Outcome (List Row)) → IsTrusted sure test columns tables → AreTrustedIn (sure_within sure test) own columns tables
trusted_within All own test is columns tables h = sure_inside columns tables own test is h
trusted_within Unnoted own test is columns tables h = none_trusted_in own columns tables
trusted_within Noted own test is columns tables h = by test.can_fail refl
  where
    by : (b : Bool) → test.can_fail ≡ b → AreTrustedIn (if b then Unnoted else All) own columns tables
    by true e = none_trusted_in own columns tables
    by false e = sure_inside columns tables own test is (h e)

-- ---- what a search answers

abbrev pub Found : (ℕ → List Value → Type 0) → ℕ → Option (Vec Value Global) → Type 0
Found IsFalse n found = IfSome found (λ vs. IsFalse n vs.items)

-- the only one of some values
pub only_found : (IsFalse : ℕ → List Value → Type 0) (n : ℕ) (vs : List Value) (o : Option Value) → IsFalse n vs → IfSome o (λ v. vs ≡ v ∷ []) → IfSome o (IsOneOf IsFalse n)
only_found IsFalse n vs None h is = tt
only_found IsFalse n vs (Some v) h is = subst (IsFalse n) is h

module _ (s : Sought) (values : List Value) (user : Name) where
  -- the same condition, written otherwise, where as much is known
  alike : (Known Less : TableKinds → (TablePlace → Outcome (List Row)) → Type 0) → ((columns : TableKinds) (tables : TablePlace → Outcome (List Row)) → Known columns tables → Less columns tables) → (c d : PlacedCond) → c ≡ d → (n : ℕ) (vs : List Value)
      → IsFalseAt s values user Less d n vs → IsFalseAt s values user Known c n vs
  alike Known Less so c d is n vs h columns kinds levels tables scopes line row on stands known at other =
      ap (λ (x : PlacedCond). truth (by_place tables) x (beneath scopes line values user)) is
      ∙ h columns kinds levels tables scopes line row on (subst (StandsOnLines columns kinds levels s.tables.now) is stands) (so columns tables known) at other

  -- ---- on a line

  abbrev column_here : ℕ → PlacedExpr
  column_here n = column (record { depth = zero; item = s.item; column = n })

  module _ (columns : TableKinds) (kinds : List Kind) (levels : Levels) (tables : TablePlace → Outcome (List Row)) (scopes : List (Scope (Unit {0}))) (line : Line) (row : Row) (on : IsLineOf s.tables.now s.found.now s.around columns kinds levels values scopes line)
      (at : slice_get line s.item ≡ Some row) where
    abbrev here : Env (Unit {0})
    here = beneath scopes line values user

    abbrev Stand : PlacedCond → Type 0
    Stand = StandsOnLines columns kinds levels s.tables.now

    abbrev known_kinds : Kinds (Placed TablePlace)
    known_kinds = kinds_by_place columns kinds

    abbrev inner : Levels
    inner = of_lines s.tables.now ∷ levels

    env_is : (f : TablePlace → Outcome (List Row)) → IsEnvOf (by_place f) known_kinds (IsDeclaredAt kinds) inner here
    env_is f =
        env_by_place f columns kinds inner (alone [] line ∷ scopes) (inputs_of values) user (record { line = on.fits; group = tt }, on.rows_around f) (inputs_are kinds values on.given)

    nothing_fits : AreFitting columns no_tables
    nothing_fits t = none_fit (columns t)

    -- a test that is passed has a truth
    passed_truth : (sure : Sure) (test : BoundTest) → IsPassed sure test → IsTrusted sure test columns tables → Stand (test_of [] test) → HasValue (truth (by_place tables) (test_of [] test) here)
    passed_truth sure test passed trusted stands = by (passed columns tables trusted)
      where
        c : PlacedCond
        c = test_of [] test

        by : IsSureTest test columns tables ⊎ (is_quiet c ≡ true) → HasValue (truth (by_place tables) c here)
        by (inl t) =
            valued_so (truth (by_place tables) c here) (sure_truth may_fail tables t.bases c t.sure here)
            (truth_of_kinds (by_place tables) known_kinds (IsDeclaredAt kinds) (places_agree tables columns kinds t.fitting) c inner here (stands tables) (env_is tables))
        by (inr quiet) =
            subst HasValue (truth_over no_tables tables c here (quiet_plain c quiet))
            (has_truth no_tables known_kinds (IsDeclaredAt kinds) (places_agree no_tables columns kinds nothing_fits) c inner here (stands no_tables) (env_is no_tables) quiet)

    value_here : (e : BoundExpr) (v : Value) → IsSameOnLines s values user e v → value (by_place no_tables) (expr_of [] e) here ≡ Ok v
    value_here e v known = known.0 no_tables scopes line on.is_around on.among

    module _ (n : ℕ) where
      -- a test `column = e` or `e = column`
      equal_false : (e : BoundExpr) (test : BoundTest) (vs : List Value) → IsEqualTo s.item n e test → has_subquery (test_of [] test) ≡ false → IsAmongOnLines s values user e vs → Stand (test_of [] test) → HasOther row n vs
          → truth (by_place tables) (test_of [] test) here ≡ Ok False
      equal_false e test vs is plain known stands other =
          let k = known no_tables scopes line on.is_around on.among in
          let among = k.1 in
          sym (truth_over no_tables tables (test_of [] test) here plain)
          ∙ test_false no_tables columns kinds values user on.given nothing_fits levels scopes (on.rows_around no_tables) s.tables.now line on.fits s.item n row at k.0 k.3 other.not_null
          (all_contained (λ v. is_same v (slice_index_or row n Null) ≡ false) vs among.0 k.0 other.differs among.1 among.2) e test is k.2 (stands no_tables)

      -- a test `column IN (e, ..)`
      none_equal : (es : List BoundExpr) (vs : List Value) → Stand (in_list (column_here n) (map (expr_of []) es)) → AllZip (IsSameOnLines s values user) es vs → HasOther row n vs → truth (by_place no_tables) (in_list (column_here n) (map (expr_of []) es)) here ≡ Ok False
      none_equal [] vs stands known other = refl
      none_equal (e ∷ es) [] stands known other = absurd known
      none_equal (e ∷ es) (v ∷ vs) stands known other =
          let first : truth (by_place no_tables) (compare Equal (column_here n) (expr_of [] e)) here ≡ Ok False =
          false_left no_tables columns kinds values user on.given nothing_fits levels scopes (on.rows_around no_tables) s.tables.now line on.fits s.item n row at v known.0.1 other.not_null other.differs.0 (expr_of [] e)
          (value_here e v known.0) ((stands no_tables).1.0) in
          let later : truth (by_place no_tables) (in_list (column_here n) (map (expr_of []) es)) here ≡ Ok False =
          none_equal es vs (λ rows_of. ((stands rows_of).0, (stands rows_of).1.1)) known.1 (record { not_null = other.not_null; differs = other.differs.1 }) in
          λ i. or_else (first i) (later i)

      module _ (vs : List Value) (other : HasOther row n vs) where
        and_false : (sure : Sure) (tests : List BoundTest) (i : ℕ) (test : BoundTest) → i < length tests → slice_index_or tests i test ≡ test → AllByRecursion (IsPassed sure) (take i tests) → AreTrusted sure tests columns tables → IsFalseBy s sure values user test n vs
            → Stand (conjunction (conds (map (test_of []) tests))) → all_also (λ x. truth (by_place tables) (test_of [] x) here) tests ≡ Ok False
        and_false sure [] i test within there passed trusted names stands = absurd (omega arith)
        and_false sure (x ∷ tests) zero test within there passed trusted names stands =
            stops (truth (by_place tables) (test_of [] x) here) (all_also (λ y. truth (by_place tables) (test_of [] y) here) tests)
            (subst (λ (y : BoundTest). IsFalseBy s sure values user y n vs) (sym there) names columns kinds levels tables scopes line row on (λ rows_of. (stands rows_of).0) trusted.0 at other)
        and_false sure (x ∷ tests) (suc i) test within there passed trusted names stands =
            also_false (truth (by_place tables) (test_of [] x) here) (all_also (λ y. truth (by_place tables) (test_of [] y) here) tests)
            (passed_truth sure x passed.0 trusted.0 (λ rows_of. (stands rows_of).0))
            (and_false sure tests i test (omega arith) there passed.1 trusted.1 names (λ rows_of. (stands rows_of).1))

        or_false : (sure : Sure) (terms : List BoundConj) → AllByRecursion (λ term. IsFalseAt s values user (AreTrusted sure (out-BoundConj term).tests) (conj_of [] term) n vs) terms
            → AllByRecursion (λ term. AreTrusted sure (out-BoundConj term).tests columns tables) terms → Stand (disjunction (conds (map (conj_of []) terms))) → truth (by_place tables) (disjunction (conds (map (conj_of []) terms))) here ≡ Ok False
        or_false sure [] names trusted stands = refl
        or_false sure (term ∷ terms) names trusted stands =
            let first : truth (by_place tables) (conj_of [] term) here ≡ Ok False = names.0 columns kinds levels tables scopes line row on (λ rows_of. (stands rows_of).0) trusted.0 at other in
            let later : truth (by_place tables) (disjunction (conds (map (conj_of []) terms))) here ≡ Ok False = or_false sure terms names.1 trusted.1 (λ rows_of. (stands rows_of).1) in
            λ i. or_else (first i) (later i)

  -- ---- what the search finds: a test `column = e` or `e = column`

  plain_so : (e : BoundExpr) (n : ℕ) (test : BoundTest) → IsEqualTo s.item n e test → has_subquery (test_of [] test) ≡ false
  plain_so e n test is = by is.sides
    where
      by : AreEqualled test is.own e ⊎ AreEqualled test e is.own → has_subquery (test_of [] test) ≡ false
      by (inl sides) = ap has_subquery (compared test Equal is.own e sides.0 sides.1)
      by (inr sides) = ap has_subquery (compared test Equal e is.own sides.0 sides.1)

  pub equal_names : (e : BoundExpr) (n : ℕ) (test : BoundTest) (vs : List Value) → IsEqualTo s.item n e test → IsAmongOnLines s values user e vs → IsFalseBy s Unnoted values user test n vs
  equal_names e n test vs is h columns kinds levels tables scopes line row on stands known at other = equal_false columns kinds levels tables scopes line row on at n e test vs is (plain_so e n test is) h stands other

  pub equal_found : (e : BoundExpr) (n : ℕ) (test : BoundTest) (r : Result (Option (Vec Value Global)) Fault) → IsEqualTo s.item n e test → IfOk r (λ found. IfSome found (λ vs. IsAmongOnLines s values user e vs.items))
      → IfOk r (Found (IsFalseBy s Unnoted values user test) n)
  equal_found e n test (Err f) is h = tt
  equal_found e n test (Ok None) is h = tt
  equal_found e n test (Ok (Some vs)) is h = equal_names e n test vs.items is h

  -- ---- IN

  list_tree : (test : BoundTest) (a : BoundExpr) (es : List BoundExpr) → test.negated ≡ false → test.predicate ≡ bound.InList false a es → test_of [] test ≡ in_list (expr_of [] a) (map (expr_of []) es)
  list_tree test a es plain is = test_of-out [] test ∙ ap (λ (b : Bool). not_if b (predicate_of [] test.predicate)) plain ∙ ap (predicate_of []) is ∙ predicate_of-InList [] false a es

  pub list_names : (test : BoundTest) (a : BoundExpr) (es : List BoundExpr) (n : ℕ) (vs : List Value) → test.negated ≡ false → test.predicate ≡ bound.InList false a es → IsColumnOf s.item n a → AllZip (IsSameOnLines s values user) es vs → IsFalseBy s Unnoted values user test n vs
  list_names test a es n vs plain is own known =
      let c = in_list (column_here n) (map (expr_of []) es) in
      alike (IsTrusted Unnoted test) (IsTrusted Unnoted test) (λ columns tables h. h) (test_of [] test) c (list_tree test a es plain is ∙ ap (λ (x : PlacedExpr). in_list x (map (expr_of []) es)) own) n vs
      (λ columns kinds levels tables scopes line row on stands trusted at other.
      sym (truth_over no_tables tables c (beneath scopes line values user) refl) ∙ none_equal columns kinds levels tables scopes line row on at n es vs stands known other)

  pub list_found : (test : BoundTest) (written : Bool) (a : BoundExpr) (es : List BoundExpr) (n : ℕ) (r : Result (Option (Vec Value Global)) Fault) → test.negated ≡ false → written ≡ false → test.predicate ≡ bound.InList written a es → IsColumnOf s.item n a
      → IfOk r (λ found. IfSome found (λ vs. AllZip (IsSameOnLines s values user) es vs.items)) → IfOk r (Found (IsFalseBy s Unnoted values user test) n)
  list_found test written a es n (Err f) plain not is own h = tt
  list_found test written a es n (Ok None) plain not is own h = tt
  list_found test written a es n (Ok (Some vs)) plain not is own h = list_names test a es n vs.items plain (is ∙ ap (λ (b : Bool). bound.InList b a es) not) own h

  -- ---- a test, whatever is known of it, and one in brackets

  pub comparison_names : (sure : Sure) (test : BoundTest) (n : ℕ) (vs : List Value) → IsFalseBy s Unnoted values user test n vs → IsFalseBy s sure values user test n vs
  comparison_names sure test n vs h = alike (IsTrusted sure test) (IsTrusted Unnoted test) (λ columns tables known. tt) (test_of [] test) (test_of [] test) refl n vs h

  pub comparison_found : (sure : Sure) (test : BoundTest) (n : ℕ) (r : Result (Option (Vec Value Global)) Fault) → IfOk r (Found (IsFalseBy s Unnoted values user test) n) → IfOk r (Found (IsFalseBy s sure values user test) n)
  comparison_found sure test n (Err f) h = tt
  comparison_found sure test n (Ok None) h = tt
  comparison_found sure test n (Ok (Some vs)) h = comparison_names sure test n vs.items h

  pub brackets_name : (sure within : Sure) (own : BoundCond) (test : BoundTest) (n : ℕ) (vs : List Value) → IsBracketed own test → within ≡ sure_within sure test → IsFalseOf s within values user own n vs → IsFalseBy s sure values user test n vs
  brackets_name sure within own test n vs is are h =
      alike (IsTrusted sure test) (AreTrustedIn (sure_within sure test) own) (trusted_within sure own test is) (test_of [] test) (cond_of [] own) (bracketed_tree test own is) n vs
      (subst (λ (k : Sure). IsFalseOf s k values user own n vs) are h)

  pub brackets_found : (sure within : Sure) (own : BoundCond) (test : BoundTest) (n : ℕ) (r : Result (Option (Vec Value Global)) Fault) → IsBracketed own test → within ≡ sure_within sure test → IfOk r (Found (IsFalseOf s within values user own) n) → IfOk r (Found (IsFalseBy s sure values user test) n)
  brackets_found sure within own test n (Err f) is are h = tt
  brackets_found sure within own test n (Ok None) is are h = tt
  brackets_found sure within own test n (Ok (Some vs)) is are h = brackets_name sure within own test n vs.items is are h

  -- ---- AND

  abbrev joined : List BoundTest → PlacedCond
  joined tests = conjunction (conds (map (test_of []) tests))

  pub test_names : (sure : Sure) (tests : List BoundTest) (i : ℕ) (test : BoundTest) (n : ℕ) (vs : List Value) → i < length tests → test ≡ slice_index_or tests i test → AllByRecursion (IsPassed sure) (take i tests) → IsFalseBy s sure values user test n vs
      → IsFalseAt s values user (AreTrusted sure tests) (joined tests) n vs
  test_names sure tests i test n vs within at passed h = λ columns kinds levels tables scopes line row on stands trusted there other.
      all_is tables (beneath scopes line values user) tests ∙ and_false columns kinds levels tables scopes line row on there n vs other sure tests i test within (sym at) passed trusted h stands

  pub test_found : (sure : Sure) (tests : List BoundTest) (i : ℕ) (test : BoundTest) (n : ℕ) (found : Option (Vec Value Global)) → i < length tests → test ≡ slice_index_or tests i test → AllByRecursion (IsPassed sure) (take i tests) → Found (IsFalseBy s sure values user test) n found
      → Found (IsFalseAt s values user (AreTrusted sure tests) (joined tests)) n found
  test_found sure tests i test n None within at passed h = tt
  test_found sure tests i test n (Some vs) within at passed h = test_names sure tests i test n vs.items within at passed h

  -- ---- OR

  abbrev pub IsTermFalseBut : Sure → ℕ → List Value → BoundConj → Type 0
  IsTermFalseBut sure n vs term = IsFalseAt s values user (AreTrusted sure (out-BoundConj term).tests) (conj_of [] term) n vs

  pub terms_name : (sure : Sure) (own : BoundCond) (n : ℕ) (vs : List Value) → AllByRecursion (IsTermFalseBut sure n vs) (out-BoundCond own).terms → IsFalseOf s sure values user own n vs
  terms_name sure own n vs names =
      let terms = (out-BoundCond own).terms in
      alike (AreTrustedIn sure own) (AreTrustedIn sure own) (λ columns tables h. h) (cond_of [] own) (disjunction (conds (map (conj_of []) terms))) (cond_of-out [] own) n vs
      (λ columns kinds levels tables scopes line row on stands trusted at other. or_false columns kinds levels tables scopes line row on at n vs other sure terms names trusted stands)

  -- with more values
  with_more : (sure : Sure) (n : ℕ) (vs more : List Value) → ((row : Row) → HasOther row n more → HasOther row n vs) → (term : BoundConj) → IsTermFalseBut sure n vs term → IsTermFalseBut sure n more term
  with_more sure n vs more so term h columns kinds levels tables scopes line row on stands known at other = h columns kinds levels tables scopes line row on stands known at (so row other)

  -- one term more
  pub term_more : (sure : Sure) (terms : List BoundConj) (i : ℕ) (term : BoundConj) (tests : List BoundTest) (n : ℕ) (vs more next : List Value) → i < length terms → term ≡ slice_index_or terms i term → tests ≡ (out-BoundConj term).tests → next ≡ vs ++ more
      → IsFalseAt s values user (AreTrusted sure tests) (joined tests) n more → AllByRecursion (IsTermFalseBut sure n vs) (take i terms) → AllByRecursion (IsTermFalseBut sure n next) (take (i + 1) terms)
  term_more sure terms i term tests n vs more next within at are grown names so_far =
      let inside = (out-BoundConj term).tests in
      let own : IsTermFalseBut sure n more term =
      alike (AreTrusted sure inside) (AreTrusted sure inside) (λ columns tables h. h) (conj_of [] term) (joined inside) (conj_of-out [] term) n more
      (subst (λ (ts : List BoundTest). IsFalseAt s values user (AreTrusted sure ts) (joined ts) n more) are names) in
      subst (λ (ws : List Value). AllByRecursion (IsTermFalseBut sure n ws) (take (i + 1) terms)) (sym grown)
      (all_more (IsTermFalseBut sure n (vs ++ more)) terms i term within at
      (with_more sure n more (vs ++ more) (λ row other. record { not_null = other.not_null; differs = all_right (λ v. is_same v (slice_index_or row n Null) ≡ false) vs more other.differs }) term own)
      (all_weaker (IsTermFalseBut sure n vs) (IsTermFalseBut sure n (vs ++ more))
      (with_more sure n vs (vs ++ more) (λ row other. record { not_null = other.not_null; differs = all_left (λ v. is_same v (slice_index_or row n Null) ≡ false) vs more other.differs })) (take i terms) so_far))

-- ---- tests that have a truth

quiet_test : (test : BoundTest) → is_quiet (predicate_of [] test.predicate) ≡ true → is_quiet (test_of [] test) ≡ true
quiet_test test h = ap is_quiet (test_of-out [] test) ∙ by test.negated
  where
    by : (written : Bool) → is_quiet (not_if written (predicate_of [] test.predicate)) ≡ true
    by true = h
    by false = h

pub compared_quiet : (test : BoundTest) (op : Comparison) (a b : BoundExpr) → test.predicate ≡ bound.Compare op a b → is_quiet_expr (expr_of [] a) ≡ true → is_quiet_expr (expr_of [] b) ≡ true → is_quiet (test_of [] test) ≡ true
compared_quiet test op a b is first second = quiet_test test (ap (λ (p : Predicate). is_quiet (predicate_of [] p)) is ∙ quiet-Compare op a b ∙ (λ i. first i && second i))

pub null_quiet : (test : BoundTest) (written : Bool) (a : BoundExpr) → test.predicate ≡ bound.Null written a → is_quiet_expr (expr_of [] a) ≡ true → is_quiet (test_of [] test) ≡ true
null_quiet test written a is quiet = quiet_test test (ap (λ (p : Predicate). is_quiet (predicate_of [] p)) is ∙ quiet-Null written a ∙ quiet)

pub one_more : (sure : Sure) (tests : List BoundTest) (i : ℕ) (test : BoundTest) → i < length tests → test ≡ slice_index_or tests i test → IsPassed sure test → AllByRecursion (IsPassed sure) (take i tests) → AllByRecursion (IsPassed sure) (take (i + 1) tests)
one_more sure tests i test within at passed all = all_more (IsPassed sure) tests i test within at passed all

-- ---- tests that are passed

not_fails : (b : Bool) → not b ≡ true → b ≡ false
not_fails true h = cc
not_fails false h = refl

pub passed_all : (sure : Sure) (test : BoundTest) → sure ≡ All → IsPassed sure test
passed_all sure test is = subst (λ (k : Sure). IsPassed k test) (sym is) (λ columns tables h. inl h)

pub passed_noted : (sure : Sure) (test : BoundTest) → sure ≡ Noted → not test.can_fail ≡ true → IsPassed sure test
passed_noted sure test is h = subst (λ (k : Sure). IsPassed k test) (sym is) (λ columns tables trusted. inl (trusted (not_fails test.can_fail h)))

pub passed_quiet : (sure : Sure) (test : BoundTest) → is_quiet (test_of [] test) ≡ true → IsPassed sure test
passed_quiet sure test h = λ columns tables trusted. inr h
