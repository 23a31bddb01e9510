-- A query specification outside every query has the rows that it has over those rows of a base table that have the values of a subquery in the
-- only column of a key (ISO/IEC 9075:1992, 7.6, 7.11, 8.2, 8.4 and 8.7).
use Rattle.std.proofs.Common.{◌≡◌, ◌∙◌, inl, inr, ℕ, zero, suc, Bool, true, false, true≢false, List, [], ◌∷◌, filter, length, map, take, slice_get, Option, Some, None, Result, refl, sym, ap, subst, arith, Ok, Err}
use Rattle.std.specs.Prelude.{IfOk, IsTrue, Vec, fold}
use Rattle.std.specs.declared.alloc.Global.{Global}
use Rattle.std.specs.Cmp.Lexicographic.{pointwise}
use Rattle.std.specs.List.{AllByRecursion, AllZip, list_any}
use Rattle.std.specs.Option.{option_and_then}
use Rattle.sq_lex.specs.declared.name.Name.{Name}
use Rattle.sq_value.specs.Comparison.{is_same}
use Rattle.sq_value.specs.Domain.{IsOfKind}
use Rattle.sq_value.specs.Key.{in_columns}
use Rattle.sq_value.specs.SetFunctions.{is_null}
use Rattle.sq_value.specs.Truth.{either}
use Rattle.sq_value.specs.laws.ValueOrder.{same_equiv}
use Rattle.sq_value.specs.declared.domain.Kind.{Kind}
use Rattle.sq_value.specs.declared.truth.Truth.{Truth}
use Rattle.sq_value.specs.declared.truth.Truth.TheVariants.{False}
use Rattle.sq_value.specs.declared.value.Value.{Value}
use Rattle.sq_tree.specs.declared.cond.Comparison.TheVariants.{Equal}
use Rattle.sq_tree.specs.declared.cond.Quantifier.TheVariants as quantifier
use Rattle.sq_store.specs.Content.{Content, table_at}
use Rattle.sq_store.specs.Keys.{Keys, key_at}
use Rattle.sq_store.specs.declared.table.Numbered.{Numbered}
use Rattle.sq_meaning.specs.Environment.{Env, Line, Row, alone}
use Rattle.sq_meaning.specs.Expression.{value}
use Rattle.sq_meaning.specs.Kind.{Kinds, kind, select_kinds}
use Rattle.sq_meaning.specs.Placed.{Placed, by_place}
use Rattle.sq_meaning.specs.Query.{clause_truth, compared_with_rows, comparison, first_value, is_true, only_value, or_else, rows, truth}
use Rattle.sq_meaning.specs.Status.{Outcome, and_then, well_formed}
use Rattle.sq_meaning.specs.Sure.{IsSureOutcome}
use Rattle.sq_meaning.specs.Tables.{rows_in}
use Rattle.sq_meaning.specs.Syntax.{column, compare_quantified, compare_subquery, conds, conjunction, disjunction, in_subquery}
use Rattle.sq_meaning.specs.WellFormed.{Answers, AreRowsOf, Fits, Has, HasValue, IsBeside, IsDeclaredAt, IsEnvOf, IsOnlyKind, IsRowOf, WellFormedClause, WellFormedCond, WellFormedConds, WellFormedExpr, WellFormedSelect, is_comparable, kinds_by_place, of_lines, froms}
use Rattle.sq_meaning.proofs.QueryKinds.{rows_of_kinds, truth_of_kinds}
use Rattle.sq_meaning.proofs.ReadingKinds.{env_by_place, places_agree}
use Rattle.sq_meaning.proofs.SureLaws.{sure_truth}
use Rattle.sq_meaning.proofs.ValueKinds.{value_fits}
use Rattle.sq_bound.specs.Condition.{PlacedCond, clause_of, cond_of, not_if, predicate_of, select_of, test_of}
use Rattle.sq_bound.specs.Expression.{PlacedExpr}
use Rattle.sq_bound.specs.Fits.{has_its_values}
use Rattle.sq_bound.specs.Noted.{AreNotedTests, HasNotes, IsNoted, IsNotedTest, SelectIsNoted, may_fail}
use Rattle.sq_bound.specs.Numbered.{CondWith, ConjWith, HaveNumbers, IsNumbered, PredicateWith, SelectWith, TestWith}
use Rattle.sq_bound.specs.WellFormed.{IsSelect, Levels, TableKinds}
use Rattle.sq_bound.specs.declared.condition.BoundCond.{BoundCond}
use Rattle.sq_bound.specs.declared.condition.BoundSpecification.{BoundSpecification, out-BoundSpecification}
use Rattle.sq_bound.specs.declared.condition.BoundTest.{BoundTest}
use Rattle.sq_bound.specs.declared.condition.Compared.{Compared}
use Rattle.sq_bound.specs.declared.condition.Compared.TheVariants.{Scalar, All, Any}
use Rattle.sq_bound.specs.declared.condition.Predicate.TheVariants as bound
use Rattle.sq_bound.specs.declared.condition.TablePlace.{TablePlace}
use Rattle.sq_bound.specs.declared.condition.TablePlace.TheVariants.{Base, View}
use Rattle.sq_bound.specs.declared.expression.BoundExpr.{BoundExpr}
use Rattle.sq_bound.specs.declared.names.BaseTable.{BaseTable}
use Rattle.sq_bound.proofs.ConditionLaws.{predicate_of-CompareQuery, predicate_of-InQuery, select_of-out, test_of-out}
use Rattle.sq_bound.proofs.Nested.{among_one, compared_with_one, cond_held, conj_held, select_held, select_itself, test_held}
use Rattle.sq_bound.proofs.QuietTruths.{valued_so}
use Rattle.sq_expression.specs.Fault.{IsRight}
use Rattle.sq_expression.specs.declared.fault.Fault.{Fault}
use Rattle.sq_expression.specs.Frame.{inputs_of, lent}
use Rattle.sq_expression.specs.declared.table.BaseRows.{BaseRows}
use Rattle.sq_query.specs.Around.{beneath}
use Rattle.sq_query.specs.Inner.{IsInStore, ServesSelect}
use Rattle.sq_query.specs.Items.{items_of, over}
use Rattle.sq_query.specs.Known.{AreOnlyTests, IsAmong, IsCountFor, IsReadByRows, ServesOutside}
use Rattle.sq_query.specs.Named.{HasOther, IsColumnOf}
use Rattle.sq_query.specs.Needed.{IsNeeded, ReadsInside}
use Rattle.sq_query.specs.Several.{has_one_of}
use Rattle.sq_query.specs.Sought.{IsKnownIn, nothing_around}
use Rattle.sq_query.specs.Union.{AreFitting}
use Rattle.sq_query.specs.declared.needed.Needed.{Needed}
use Rattle.sq_query.proofs.FoundByKey.FewerRows as few
use Rattle.sq_query.proofs.FoundByKey.FoundRows.{all_sure, found_sure}
use Rattle.sq_query.proofs.FoundByKey.ItemRows.{filter_mapped, one_of_all, zip_at, zip_weaker}
use Rattle.sq_query.proofs.Keys.KeyColumns.{key_not_null, key_value}
use Rattle.sq_query.proofs.Keys.KeyLacked.{all_also, also_false, differ, stops}
use Rattle.sq_query.proofs.Keys.KeyOut.{all_is}
use Rattle.sq_query.proofs.Keys.KeyTests.{if_some, in_row}
use Rattle.sq_query.proofs.Keys.KeyValues.{term_tree}
use Rattle.sq_query.proofs.Keys.KeyedRows.{inputs_are}
use Rattle.sq_query.proofs.Keys.KeysSearch.{none_same, only_one}
use Rattle.sq_query.proofs.Needs.Fitting.{answers_right}

-- ---- values that are compared with those of rows

-- none of the rows has the value
differ_all : (k l : Kind) (x : Value) → IsTrue (is_comparable k l) → IsOfKind k x → is_null x ≡ false → (rs : List Row) (vs : List Value) → AreRowsOf (l ∷ []) rs → AllZip (IsKnownIn 0) rs vs → AllByRecursion (λ v. is_same v x ≡ false) vs
    → AllByRecursion (λ row. comparison Equal x (first_value row) ≡ False) rs
differ_all k l x goes is_kind x_is [] vs fit known others = tt
differ_all k l x goes is_kind x_is (row ∷ rs) [] fit known others = absurd known
differ_all k l x goes is_kind x_is (row ∷ rs) (v ∷ vs) fit known others = (one row fit.0 known.0, differ_all k l x goes is_kind x_is rs vs fit.1 known.1 others.1)
  where
    one : (r : Row) → IsRowOf (l ∷ []) r → IsKnownIn 0 r v → comparison Equal x (first_value r) ≡ False
    one [] h is = absurd h
    one (w ∷ u ∷ ws) h is = absurd h.1
    one (w ∷ []) h is =
        let here = is.0 in
        let same : w ≡ v = cc in
        differ k l x w goes is_kind h.0 x_is (subst (λ (y : Value). is_null y ≡ false) (sym same) is.1) (same_equiv.symm x w ∙ ap (λ (y : Value). is_same y x) same ∙ others.0)

-- the value of a column, which none of them has
cell_differs : (ok : Outcome Kind) (ol : Outcome (List Kind)) (cell : Option Value) (rs : List Row) (vs : List Value) → Has (λ k. Has (IsOnlyKind k) ol) ok → Fits IsOfKind ok (well_formed cell) → Has (λ ks. AreRowsOf ks rs) ol
    → ((x : Value) → well_formed cell ≡ Ok x → (is_null x ≡ false) × AllByRecursion (λ v. is_same v x ≡ false) vs) → AllZip (IsKnownIn 0) rs vs
    → (x : Value) × (well_formed cell ≡ Ok x) × AllByRecursion (λ row. comparison Equal x (first_value row) ≡ False) rs
cell_differs (Err s) ol cell rs vs beside is_kind fit other known = absurd beside
cell_differs (Ok k) (Err s) cell rs vs beside is_kind fit other known = absurd beside
cell_differs (Ok k) (Ok []) cell rs vs beside is_kind fit other known = absurd beside
cell_differs (Ok k) (Ok (l ∷ m ∷ ls)) cell rs vs beside is_kind fit other known = absurd beside
cell_differs (Ok k) (Ok (l ∷ [])) None rs vs beside is_kind fit other known = absurd is_kind
cell_differs (Ok k) (Ok (l ∷ [])) (Some x) rs vs beside is_kind fit other known = (x, refl, differ_all k l x beside is_kind (other x refl).0 rs vs fit known (other x refl).1)

none_is : (x : Value) (rs : List Row) → AllByRecursion (λ row. comparison Equal x (first_value row) ≡ False) rs → compared_with_rows Equal quantifier.Any x rs ≡ False
none_is x [] all = refl
none_is x (row ∷ rs) all = ap (λ (t : Truth). fold either (either False t) (map (λ row. comparison Equal x (first_value row)) rs)) all.0 ∙ none_is x rs all.1

only_is : (x : Value) (rs : List Row) → length rs ≡ 1 → AllByRecursion (λ row. comparison Equal x (first_value row) ≡ False) rs → and_then (only_value rs) (λ y. Ok (comparison Equal x y)) ≡ Ok False
only_is x [] one all = absurd (omega (arith, one))
only_is x (row ∷ []) one all = ap (λ (t : Truth). let is : Outcome Truth = Ok t in is) all.0
only_is x (row ∷ other ∷ rs) one all = absurd (omega (arith, one))

-- ---- AND

-- AND is false where one of the tests is, and each before it has a truth
and_false_at : {A : Type 0} (test : A → Outcome Truth) (xs : List A) (i : ℕ) (x : A) → slice_get xs i ≡ Some x → AllByRecursion (λ y. HasValue (test y)) (take i xs) → test x ≡ Ok False → all_also test xs ≡ Ok False
and_false_at test [] i x at all e = absurd cc
and_false_at {A} test (y ∷ ys) zero x at all e = let same : y ≡ x = cc in stops (test y) (all_also test ys) (ap test same ∙ e)
and_false_at test (y ∷ ys) (suc i) x at all e = also_false (test y) (all_also test ys) all.0 (and_false_at test ys i x at all.1 e)

-- ---- a test among those of the only term of WHERE

module _ (q : BoundSpecification) (tests : List BoundTest) (only : AreOnlyTests q tests) (i : ℕ) (test : BoundTest) (at_test : slice_get tests i ≡ Some test) where
  module _ (P : BoundSpecification → Type 0) where
    test_with : SelectWith P q → PredicateWith P test.predicate
    test_with h =
        let in_where = if_some (CondWith P) (out-BoundSpecification q).condition only.condition (select_held P q h).0 only.is_where in
        let in_term = (subst (AllByRecursion (ConjWith P)) only.only (cond_held P only.condition in_where)).0 in
        test_held P test (one_of_all (TestWith P) tests i test (subst (AllByRecursion (TestWith P)) (sym only.tests_are) (conj_held P only.term in_term)) at_test)

    -- what holds of each query specification in it holds of each in the subquery
    inside_with : (k : Compared) (e : BoundExpr) (s : BoundSpecification) → IsAmong e k s test.predicate → SelectWith P q → SelectWith P s
    inside_with Scalar e s is h = compared_with_one P test.predicate Equal Scalar e s is (test_with h)
    inside_with Any e s (inl is) h = compared_with_one P test.predicate Equal Any e s is (test_with h)
    inside_with Any e s (inr is) h = among_one P test.predicate false e s is (test_with h)
    inside_with All e s is h = absurd is

  numbers_inside : (k : Compared) (e : BoundExpr) (s : BoundSpecification) → IsAmong e k s test.predicate → HaveNumbers SelectWith q → HaveNumbers SelectWith s
  numbers_inside k e s is (first, (next, (order, (named, numbers)))) = (first, (next, (order, (named, inside_with (IsNumbered first next named) k e s is numbers))))

  tests_noted : SelectIsNoted q → AllByRecursion IsNotedTest tests
  tests_noted notes =
      let noted = if_some HasNotes (out-BoundSpecification q).condition only.condition (select_itself IsNoted q notes).tests only.is_where in
      let of_term = (subst (AllByRecursion AreNotedTests) only.only noted).0 in
      subst (AllByRecursion IsNotedTest) (sym only.tests_are) of_term

  -- ---- on a line

  module _ (columns : TableKinds) (kinds : List Kind) (values : List Value) (caller : Name) (given : IsRowOf kinds values) (now : TablePlace → Outcome (List Row)) (fitting : AreFitting columns now) (sure : (t : TablePlace) → may_fail t ≡ false → IsSureOutcome (now t))
      (well : WellFormedSelect (by_place now) (kinds_by_place columns kinds) (IsDeclaredAt kinds) [] (select_of q)) (line : Line) (fits : AllZip (λ t row. Has (λ ks. IsRowOf ks row) (columns t)) (items_of q) line) where
    abbrev here : Env (Unit {0})
    here = beneath [] line values caller

    abbrev known_kinds : Kinds (Placed TablePlace)
    known_kinds = kinds_by_place columns kinds

    abbrev levels : Levels
    levels = of_lines (items_of q) ∷ []

    abbrev IsWell : PlacedCond → Type 0
    IsWell = WellFormedCond (by_place now) known_kinds (IsDeclaredAt kinds) levels

    env_is : IsEnvOf (by_place now) known_kinds (IsDeclaredAt kinds) levels here
    env_is = env_by_place now columns kinds levels (alone [] line ∷ []) (inputs_of values) caller (record { line = fits; group = tt }, tt) (inputs_are kinds values given)

    -- the tests may stand there
    tests_well : WellFormedConds (by_place now) known_kinds (IsDeclaredAt kinds) levels (conds (map (test_of []) tests))
    tests_well =
        let clause = (subst (WellFormedSelect (by_place now) known_kinds (IsDeclaredAt kinds) []) (select_of-out q) well).2 in
        let in_where : IsWell (cond_of [] only.condition) = subst (λ (o : Option BoundCond). WellFormedClause (by_place now) known_kinds (IsDeclaredAt kinds) levels (clause_of [] o)) only.is_where clause in
        subst (λ (xs : List BoundTest). WellFormedConds (by_place now) known_kinds (IsDeclaredAt kinds) levels (conds (map (test_of []) xs))) (sym only.tests_are)
        (subst IsWell (term_tree only.condition only.term only.only) in_where).0

    test_well : (xs : List BoundTest) (n : ℕ) (x : BoundTest) → slice_get xs n ≡ Some x → WellFormedConds (by_place now) known_kinds (IsDeclaredAt kinds) levels (conds (map (test_of []) xs)) → IsWell (test_of [] x)
    test_well [] n x at h = absurd cc
    test_well (y ∷ xs) zero x at h = let same : y ≡ x = cc in subst (λ (z : BoundTest). IsWell (test_of [] z)) same h.0
    test_well (y ∷ xs) (suc n) x at h = test_well xs n x at h.1

    -- those that never end with a status have a truth
    truths : (xs : List BoundTest) (n : ℕ) → AllByRecursion IsNotedTest xs → WellFormedConds (by_place now) known_kinds (IsDeclaredAt kinds) levels (conds (map (test_of []) xs)) → AllByRecursion (λ x. x.can_fail ≡ false) (take n xs)
        → AllByRecursion (λ x. HasValue (truth (by_place now) (test_of [] x) here)) (take n xs)
    truths [] zero noted h never = tt
    truths [] (suc n) noted h never = tt
    truths (x ∷ xs) zero noted h never = tt
    truths (x ∷ xs) (suc n) noted h never = (
      valued_so (truth (by_place now) (test_of [] x) here) (sure_truth may_fail now sure (test_of [] x) (noted.0.sure never.0 [] tt) here)
          (truth_of_kinds (by_place now) known_kinds (IsDeclaredAt kinds) (places_agree now columns kinds fitting) (test_of [] x) levels here h.0 env_is),
      truths xs n noted.1 h.1 never.1,
    )

    -- where one of them is false, and each before it has a truth, WHERE is false
    where_false : SelectIsNoted q → AllByRecursion (λ x. x.can_fail ≡ false) (take i tests) → truth (by_place now) (test_of [] test) here ≡ Ok False → truth (by_place now) (cond_of [] only.condition) here ≡ Ok False
    where_false notes never is =
        let all_false = all_is now here tests ∙ and_false_at (λ x. truth (by_place now) (test_of [] x) here) tests i test at_test (truths tests i (tests_noted notes) tests_well never) is in
        ap (λ (c : PlacedCond). truth (by_place now) c here) (term_tree only.condition only.term only.only)
        ∙ ap (λ (xs : List BoundTest). truth (by_place now) (disjunction (conds (conjunction (conds (map (test_of []) xs)) ∷ []))) here) (sym only.tests_are)
        ∙ ap (λ (o : Outcome Truth). or_else o (Ok False)) all_false

    -- ---- the test is false on a line without the values

    module _ (item n : ℕ) (e : BoundExpr) (e_is : IsColumnOf item n e) (plain : test.negated ≡ false) (s : BoundSpecification) (row : Row) (at : slice_get line item ≡ Some row) where
      abbrev own : PlacedExpr
      own = column (record { depth = zero; item = item; column = n })

      cell_is : value (by_place now) own here ≡ well_formed (slice_get row n)
      cell_is = ap (λ (o : Option Row). well_formed (option_and_then (λ r. slice_get r n) o)) at

      plain_tree : test_of [] test ≡ predicate_of [] test.predicate
      plain_tree = test_of-out [] test ∙ ap (λ (b : Bool). not_if b (predicate_of [] test.predicate)) plain

      scalar_tree : test.predicate ≡ bound.CompareQuery Equal Scalar e s → test_of [] test ≡ compare_subquery Equal own (select_of s)
      scalar_tree is = plain_tree ∙ ap (predicate_of []) is ∙ predicate_of-CompareQuery [] Equal Scalar e s ∙ ap (λ (x : PlacedExpr). compare_subquery Equal x (select_of s)) e_is

      any_tree : test.predicate ≡ bound.CompareQuery Equal Any e s → test_of [] test ≡ compare_quantified Equal quantifier.Any own (select_of s)
      any_tree is = plain_tree ∙ ap (predicate_of []) is ∙ predicate_of-CompareQuery [] Equal Any e s ∙ ap (λ (x : PlacedExpr). compare_quantified Equal quantifier.Any x (select_of s)) e_is

      in_tree : test.predicate ≡ bound.InQuery false e s → test_of [] test ≡ in_subquery own (select_of s)
      in_tree is = plain_tree ∙ ap (predicate_of []) is ∙ predicate_of-InQuery [] false e s ∙ ap (λ (x : PlacedExpr). in_subquery x (select_of s)) e_is

      abbrev MayBeBeside : Type 0
      MayBeBeside = WellFormedExpr (by_place now) known_kinds (IsDeclaredAt kinds) levels own × IsBeside (by_place now) known_kinds (IsDeclaredAt kinds) levels own (select_of s) × WellFormedSelect (by_place now) known_kinds (IsDeclaredAt kinds) levels (select_of s)

      beside : (k : Compared) → IsAmong e k s test.predicate → MayBeBeside
      beside Scalar is = subst IsWell (scalar_tree is) (test_well tests i test at_test tests_well)
      beside Any (inl is) = subst IsWell (any_tree is) (test_well tests i test at_test tests_well)
      beside Any (inr is) = subst IsWell (in_tree is) (test_well tests i test at_test tests_well)
      beside All is = absurd is

      module _ (rs : List Row) (vs : List Value) (h : MayBeBeside) (rows_are : IsRight (rows (by_place now) (select_of s) here) → rows (by_place now) (select_of s) here ≡ Ok rs) (known : AllZip (IsKnownIn 0) rs vs) (other : HasOther row n vs) where
        abbrev of_kinds : Outcome (List Row) → Type 0
        of_kinds = Answers (λ found. Has (λ ks. AreRowsOf ks found) (select_kinds known_kinds (froms levels) (select_of s)))

        rows_end : of_kinds (rows (by_place now) (select_of s) here)
        rows_end = rows_of_kinds (by_place now) known_kinds (IsDeclaredAt kinds) (places_agree now columns kinds fitting) (select_of s) levels here h.2 env_is

        rows_there : rows (by_place now) (select_of s) here ≡ Ok rs
        rows_there = rows_are (answers_right (λ found. Has (λ ks. AreRowsOf ks found) (select_kinds known_kinds (froms levels) (select_of s))) (rows (by_place now) (select_of s) here) rows_end)

        lacks : (x : Value) × (well_formed (slice_get row n) ≡ Ok x) × AllByRecursion (λ r. comparison Equal x (first_value r) ≡ False) rs
        lacks =
            cell_differs (kind known_kinds (froms levels) own) (select_kinds known_kinds (froms levels) (select_of s)) (slice_get row n) rs vs h.1
            (subst (Fits IsOfKind (kind known_kinds (froms levels) own)) cell_is (value_fits (by_place now) known_kinds (IsDeclaredAt kinds) (places_agree now columns kinds fitting) levels own here h.0.1 env_is))
            (subst of_kinds rows_there rows_end)
            (λ x cell. (other.not_null x cell, subst (λ (y : Value). AllByRecursion (λ v. is_same v y ≡ false) vs) (in_row row n x cell) other.differs)) known

        value_is : value (by_place now) own here ≡ Ok lacks.0
        value_is = cell_is ∙ lacks.1

        any_false : truth (by_place now) (in_subquery own (select_of s)) here ≡ Ok False
        any_false =
            (λ j. and_then (value_is j) (λ x. and_then (rows_there j) (λ found. Ok (compared_with_rows Equal quantifier.Any x found))))
            ∙ ap (λ (t : Truth). let is : Outcome Truth = Ok t in is) (none_is lacks.0 rs lacks.2)

        scalar_false : length rs ≡ 1 → truth (by_place now) (compare_subquery Equal own (select_of s)) here ≡ Ok False
        scalar_false one =
            (λ j. and_then (value_is j) (λ x. and_then (rows_there j) (λ found. and_then (only_value found) (λ y. Ok (comparison Equal x y))))) ∙ only_is lacks.0 rs one lacks.2

        test_false : (k : Compared) → IsAmong e k s test.predicate → IsCountFor k (length rs) → truth (by_place now) (test_of [] test) here ≡ Ok False
        test_false Scalar is one = ap (λ (c : PlacedCond). truth (by_place now) c here) (scalar_tree is) ∙ scalar_false one
        test_false Any (inl is) count = ap (λ (c : PlacedCond). truth (by_place now) c here) (any_tree is) ∙ any_false
        test_false Any (inr is) count = ap (λ (c : PlacedCond). truth (by_place now) c here) (in_tree is) ∙ any_false
        test_false All is count = absurd is

-- ---- the law

module _ (q : BoundSpecification) (content : Content) (keys : List Keys) (values : List Value) (caller : Name) where
  abbrev Serve : List BaseRows → List BaseRows → Type 0
  Serve = ServesOutside q content keys values caller

  pub none_serve : (before : List BaseRows) → Serve before before
  none_serve before columns kinds tables given well fitting = (fitting, refl)

  pub both_serve : (before now after : List BaseRows) → Serve before now → Serve now after → Serve before after
  both_serve before now after first second columns kinds tables given well fitting =
      let one = first columns kinds tables given well fitting in
      let two = second columns kinds tables given well one.0 in
      (two.0, one.1 ∙ two.1)

  pub then_serve : (before now : List BaseRows) (r : Result (Vec BaseRows Global) Fault) → Serve before now → IfOk r (λ found. Serve now found.items) → IfOk r (λ found. Serve before found.items)
  then_serve before now (Err e) first second = tt
  then_serve before now (Ok found) first second = both_serve before now found.items first second

  -- rows that serve with nothing around serve outside every query
  pub outside_serves : (elsewhere : Needed) (before after : List BaseRows) → ServesSelect q elsewhere nothing_around content keys values caller before after → Serve before after
  outside_serves elsewhere before after found columns kinds tables given well fitting =
      let served = found columns kinds [] tables given (well.stands, well.notes) fitting in
      (served.fit, served.same [] refl (λ f. tt))

  pub then_outside : (elsewhere : Needed) (before now : List BaseRows) (r : Result (Vec BaseRows Global) Fault) → Serve before now → IfOk r (λ found. ServesSelect q elsewhere nothing_around content keys values caller now found.items) → IfOk r (λ found. Serve before found.items)
  then_outside elsewhere before now (Err e) first second = tt
  then_outside elsewhere before now (Ok found) first second = both_serve before now found.items first (outside_serves elsewhere now found.items second)

module _ (q : BoundSpecification) (content : Content) (keys : List Keys) (values : List Value) (caller : Name) (inner : Needed) (inside : ReadsInside (IsNeeded inner) (select_of q)) where
  module _ (tests : List BoundTest) (only : AreOnlyTests q tests) (i : ℕ) (test : BoundTest) (at_test : slice_get tests i ≡ Some test) (never : AllByRecursion (λ x. x.can_fail ≡ false) (take i tests)) (found : List BaseRows) (own : BaseRows)
      (r : IsReadByRows q test inner content keys values caller found own) where
    module _ (columns : TableKinds) (kinds : List Kind) (tables : TablePlace → Outcome (List Row)) (given : IsInStore columns kinds content keys values tables) (well : IsSelect columns kinds [] q) (fitting : AreFitting columns (over found tables)) where
      abbrev place : ℕ
      place = own.place

      abbrev now : TablePlace → Outcome (List Row)
      now = over found tables

      abbrev vs : List Value
      vs = r.known.values.items

      abbrev has : Row → Bool
      has row = list_any (λ v. pointwise is_same (v ∷ []) (in_columns row (key_at keys place r.known.key))) vs

      few_are : lent own.rows.items ≡ filter has (rows_in (table_at content place))
      few_are = r.are ∙ sym (filter_mapped (λ (s : Numbered). s.row) has (table_at content place).rows)

      sure : (t : TablePlace) → may_fail t ≡ false → IsSureOutcome (now t)
      sure (View n) h = absurd (true≢false h)
      sure (Base n) h = found_sure tables (all_sure content tables given.stored) found n

      abbrev base : (b : BaseTable) × (slice_get given.bases place ≡ Some b)
      base = few.base given.bases columns content given.not_null given.there kinds values caller tables q [] (well.stands tables) inner inside (λ n free. given.stored n) found own r.item r.base.at r.base.there r.base.alone fitting

      abbrev IsIn : TablePlace → Row → Type 0
      IsIn = few.IsIn given.bases columns content given.not_null given.there kinds values caller tables q [] (well.stands tables) inner inside (λ n free. given.stored n) found own r.item r.base.at r.base.there r.base.alone fitting

      module _ (line : Line) (is : AllZip IsIn (items_of q) line) (row : Row) (at : slice_get line r.item ≡ Some row) (lacks : has row ≡ false) where
        has_values : has_its_values base.0 row ≡ true
        has_values =
            let there = zip_at IsIn (items_of q) line r.item (Base place) is r.base.at in
            let e = there.2 in let same : there.0 ≡ row = cc in subst (λ (s : Row). has_its_values base.0 s ≡ true) same (there.1.2 refl)

        other : HasOther row r.n vs
        other = record {
          not_null = λ x cell.
              key_value base.0 (key_at keys place r.known.key) row (key_not_null given.bases keys place base.0 r.known.key given.keys_are base.1 r.key.within) has_values r.n x (only_one (key_at keys place r.known.key) r.n r.key.only) cell;
          differs = none_same r.n vs (record { number = 0; row = row }) (ap (λ (ns : List ℕ). has_one_of ns vs (record { number = 0; row = row })) (sym r.key.only) ∙ lacks);
        }

        out : truth (by_place now) (cond_of [] only.condition) (beneath [] line values caller) ≡ Ok False
        out =
            let kinds_fit = zip_weaker IsIn (λ t y. Has (λ ks. IsRowOf ks y) (columns t)) (λ t y p. p.0) (items_of q) line is in
            let h = beside q tests only i test at_test columns kinds values caller given.inputs now fitting sure (well.stands now) line kinds_fit r.item r.n r.among.own r.among.is_column r.among.plain r.subquery row at r.k r.among.says in
            where_false q tests only i test at_test columns kinds values caller given.inputs now fitting sure (well.stands now) line kinds_fit well.notes never
            (test_false q tests only i test at_test columns kinds values caller given.inputs now fitting sure (well.stands now) line kinds_fit r.item r.n r.among.own r.among.is_column r.among.plain r.subquery row at r.values.rs vs h
            (r.values.rows_are (inside_with q tests only i test at_test IsNoted r.k r.among.own r.subquery r.among.says well.notes) (numbers_inside q tests only i test at_test r.k r.among.own r.subquery r.among.says well.numbers) tables (alone [] line ∷ []))
            r.values.firsts other r.k r.among.says r.values.count)

    pub rows_of_subquery_serve : ServesOutside q content keys values caller found (own ∷ found)
    rows_of_subquery_serve columns kinds tables given well fitting = (
      few.fewer given.bases columns content given.not_null given.there kinds values caller tables q [] (well.stands tables) inner inside (λ n free. given.stored n) found own r.item r.base.at r.base.there r.base.alone fitting
          (has columns kinds tables given well fitting) (few_are columns kinds tables given well fitting),
      few.same_next given.bases columns content given.not_null given.there kinds values caller tables q [] (well.stands tables) inner inside (λ n free. given.stored n) found own r.item r.base.at r.base.there r.base.alone fitting
          (has columns kinds tables given well fitting) (few_are columns kinds tables given well fitting) []
          (λ line is row at lacks.
          ap (λ (c : Option BoundCond). is_true (clause_truth (by_place (over found tables)) (clause_of [] c) (beneath [] line values caller))) only.is_where ∙ ap is_true (out columns kinds tables given well fitting line is row at lacks)),
    )
