-- A WHERE clause that names a row by a key, as the definition reads its text, names it by a key as it is
-- bound (own rule; ISO/IEC 9075:1992, 7.6): its first tests compare the columns of the key with values that
-- are known and not null, and it has no subquery.
use Rattle.std.proofs.Common.{◌≡◌, ℕ, zero, suc, false, true, not, ◌||◌, Bool, List, [], ◌∷◌, length, map, take, Option, Some, None, refl, sym, ap, subst, ◌∙◌, Ok}
use Rattle.std.specs.List.{AllByRecursion, AllZip, list_any}
use Rattle.std.proofs.lemmas.Bool.{and_parts, not-true}
use Rattle.sq_lex.specs.declared.name.Name.{Name}
use Rattle.sq_tree.specs.declared.cond.Comparison.TheVariants.{Equal}
use Rattle.sq_tree.specs.declared.schema.TableDefinition.{TableDefinition}
use Rattle.sq_value.specs.declared.domain.Kind.{Kind}
use Rattle.sq_value.specs.declared.value.Value.{Value}
use Rattle.sq_meaning.specs.Environment.{Input, Place}
use Rattle.sq_meaning.specs.Expression as meaning
use Rattle.sq_meaning.specs.Placed.{Placed, by_place}
use Rattle.sq_meaning.specs.Spelled.{Named}
use Rattle.sq_meaning.specs.Status.{Outcome}
use Rattle.sq_meaning.specs.Syntax.{Clause, Cond, Conds, a_cond, compare, column, conds, conjunction, disjunction, no_cond, present}
use Rattle.sq_meaning.specs.Target.{has_subquery, have_subquery}
use Rattle.sq_meaning.specs.WellFormed.{HasValue, IsRowOf}
use Rattle.sq_meaning.specs.Keyed.{is_by_key, is_keyed, tests_of}
use Rattle.sq_meaning.specs.Schema.{keys}
use Rattle.sq_meaning.proofs.Bind.{bind_ok}
use Rattle.sq_bound.specs.Condition.{PlacedCond, PlacedClause, clause_of, cond_of, conj_of, test_of}
use Rattle.sq_bound.specs.Expression.{PlacedExpr, expr_of}
use Rattle.sq_bound.specs.Keyed.{names_key}
use Rattle.sq_bound.specs.Known.{KnownTables}
use Rattle.sq_bound.specs.WellFormed.{TableKinds}
use Rattle.sq_bound.specs.declared.condition.BoundCond.{BoundCond, out-BoundCond}
use Rattle.sq_bound.specs.declared.condition.BoundConj.{BoundConj, out-BoundConj}
use Rattle.sq_bound.specs.declared.condition.BoundTest.{BoundTest}
use Rattle.sq_bound.specs.declared.condition.TablePlace.{TablePlace}
use Rattle.sq_bound.specs.declared.names.ParameterDesc.{ParameterDesc}
use Rattle.sq_bound.proofs.ConditionLaws.{cond_of-out, conj_of-out}
use Rattle.sq_binding.specs.PlacedQuery.{clause_placed, cond_placed, conds_placed}
use Rattle.sq_binding.specs.Scope.{FromItem}
use Rattle.sq_binding.specs.Select.{Surroundings, of_lines}
use Rattle.sq_binding.specs.Names.{outside}
use Rattle.sq_run.proofs.Sites.ConditionSites.{ClauseSpellsNoNull, CondsSpellNoNull}
use Rattle.sq_expression.specs.Frame.{inputs_of}
use Rattle.sq_query.specs.Key.{HaveValues, StandsOn}
use Rattle.sq_query.specs.Keyed.{AreKnownEqual, IsKeyedBy, IsKnownValue}
use Rattle.sq_query.specs.Row as row
use Rattle.sq_query.proofs.Keys.KeyValues.{all_contained, first_tests_valued}
use Rattle.sq_run.proofs.Places.Items.{IsInOrder}
use Rattle.sq_run.proofs.Metering.KeyedTests.{IsPlacedTest, item_names, placed_tests, tests_joined, tests_placed, value_known}
use Rattle.sq_run.proofs.Places.Outcomes.{known_of, ok_same}
use Rattle.sq_run.proofs.Places.Parameters.{SameInputs}
use Rattle.sq_run.proofs.Places.SubqueriesSame.{subquery_same}
use Rattle.sq_run.proofs.Metering.KeyedPlaced.{IsOfKey, by_key_placed}
use Rattle.sq_run.proofs.Metering.KeyedTables.{IsKeyAt}

-- A condition, which has no subquery, names a row by one of these keys, and compares its columns with
-- values that are known and not null.
pub record IsKeyedClause (held : List (List ℕ)) (o : Option BoundCond) (values : List Value) (user : Name) : Type 0 where
  pub own : BoundCond
  pub is_own : o ≡ Some own
  pub by_key : IsKeyedBy held own values user
  pub plain : has_subquery (cond_of [] own) ≡ false

-- ---- the only term of a condition

-- A condition has one term, of exactly these tests.
pub record IsOnlyTerm (own : BoundCond) (tests : List PlacedCond) : Type 0 where
  pub term : BoundConj
  pub only : (out-BoundCond own).terms ≡ term ∷ []
  pub are : map (test_of []) (out-BoundConj term).tests ≡ tests

of_tests : (P : PlacedCond → Type 0) (n : ℕ) (ts : List BoundTest) → AllByRecursion P (take n (map (test_of []) ts))
    → AllByRecursion (λ b. P (test_of [] b)) (take n ts)
of_tests P zero ts h = tt
of_tests P (suc n) [] h = tt
of_tests P (suc n) (t ∷ ts) h = (h.0, of_tests P n ts h.1)

others_same : (p q : Place) (x y : PlacedExpr)
    → ◌≡◌ {A = PlacedCond} (compare Equal (column p) x) (compare Equal (column q) y) → x ≡ y
others_same p q x y e = cc

only_same : {A : Type 0} (x y : A) → x ∷ [] ≡ y ∷ [] → x ≡ y
only_same x y e = cc

-- the condition that is these tests joined by AND
abbrev joined : Conds Named → Cond Named
joined cs = disjunction (a_cond (conjunction cs) no_cond)

module _ (known : KnownTables) (ps : List ParameterDesc) (item : FromItem) (in_order : IsInOrder item) (inputs : List Input)
    (values : List Value) (user : Name) (same_inputs : SameInputs ps inputs (inputs_of values)) where
  abbrev tests_in : Conds (Placed TablePlace) → List PlacedCond
  tests_in = placed_tests known ps item in_order inputs values user same_inputs

  abbrev names : List Name
  names = item_names known ps item in_order inputs values user same_inputs

  abbrev around : Surroundings
  around = of_lines (item ∷ []) (outside known ps)

  by_terms : (own : BoundCond) (ts : Conds (Placed TablePlace)) (terms : List BoundConj) → (out-BoundCond own).terms ≡ terms
      → ◌≡◌ {A = PlacedCond} (disjunction (a_cond (conjunction ts) no_cond)) (disjunction (conds (map (conj_of []) terms)))
      → IsOnlyTerm own (tests_in ts)
  by_terms own ts [] is e = cc
  by_terms own ts (x ∷ []) is e =
      let same : conjunction ts ≡ conj_of [] x = cc in
      let both : ◌≡◌ {A = PlacedCond} (conjunction ts) (conjunction (conds (map (test_of []) (out-BoundConj x).tests)))
      = same ∙ conj_of-out [] x in
      let inner : ts ≡ conds (map (test_of []) (out-BoundConj x).tests) = cc in
      record {
        term = x;
        only = is;
        are = sym (ap tests_in inner ∙ tests_joined known ps item in_order inputs values user same_inputs (map (test_of []) (out-BoundConj x).tests));
      }
  by_terms own ts (x ∷ y ∷ terms) is e = cc

  only_term : (own : BoundCond) (cs : Conds Named) → cond_placed around (joined cs) ≡ Ok (cond_of [] own)
      → (ts : Conds (Placed TablePlace)) × (conds_placed around cs ≡ Ok ts) × IsOnlyTerm own (tests_in ts)
  only_term own cs e =
      let whole = bind_ok (conds_placed around (a_cond (conjunction cs) no_cond)) (λ ds. Ok (disjunction ds)) (cond_of [] own) e in
      let one = bind_ok (cond_placed around (conjunction cs)) (λ p. Ok (a_cond p no_cond)) whole.0 whole.1 in
      let inner = bind_ok (conds_placed around cs) (λ ts. Ok (conjunction ts)) one.0 one.1 in
      let tree : ◌≡◌ {A = PlacedCond} (disjunction (a_cond (conjunction inner.0) no_cond)) (cond_of [] own)
      = ap (λ (p : PlacedCond). disjunction (a_cond p no_cond)) (ok_same (conjunction inner.0) one.0 inner.2)
      ∙ ap (λ (ds : Conds (Placed TablePlace)). disjunction ds) (ok_same (a_cond one.0 no_cond) whole.0 one.2)
      ∙ ok_same (disjunction whole.0) (cond_of [] own) whole.2 in
      (inner.0, inner.1, by_terms own inner.0 (out-BoundCond own).terms refl (tree ∙ cond_of-out [] own))

  -- what the tests of a key compare its columns with is known
  tests_equal : (key : List Name) (tests : List BoundTest)
      → AllByRecursion (λ b. IsOfKey known ps item in_order inputs values user same_inputs key (test_of [] b)) tests
      → HaveValues tests values user → AreKnownEqual tests values user
  tests_equal key tests all there = λ tables test n e among is_test.
      let w = all_contained (λ b. IsOfKey known ps item in_order inputs values user same_inputs key (test_of [] b)) tests among.0 test all among.1 among.2 in
      let same : w.2.other ≡ expr_of [] e
      = others_same w.2.place (record { depth = 0; item = is_test.0; column = n }) w.2.other (expr_of [] e) (sym w.2.is ∙ is_test.1) in
      subst (λ z. IsKnownValue (meaning.value (by_place tables) z (row.outside [] values user))) same
      (value_known known ps item in_order inputs values user same_inputs w.2.written w.2.other w.2.known_is w.2.spells w.2.placed_is tables
      (subst (λ z. HasValue (meaning.value (by_place tables) z (row.outside [] values user))) (sym same) (there tables test n e among is_test)))

  -- a condition on the rows of a table that has these keys
  module _ (columns : TableKinds) (kinds : List Kind) (given : IsRowOf kinds values) (place : TablePlace) (held : List (List ℕ)) where
    own_keyed : (own : BoundCond) → StandsOn columns kinds place own → (cs : Conds Named) → CondsSpellNoNull cs
        → cond_placed around (joined cs) ≡ Ok (cond_of [] own) → IsKeyAt (is_by_key inputs cs) names held
        → IsKeyedBy held own values user
    own_keyed own stands cs spells e k =
        let t = only_term own cs e in
        let bound_tests : List BoundTest = (out-BoundConj t.2.term).tests in
        let pairs : AllZip (IsPlacedTest known ps item in_order inputs values user same_inputs) (tests_of cs) (map (test_of []) bound_tests)
        = subst (AllZip (IsPlacedTest known ps item in_order inputs values user same_inputs) (tests_of cs)) (sym t.2.are)
        (tests_placed known ps item in_order inputs values user same_inputs cs t.0 t.1 spells) in
        let named = by_key_placed known ps item in_order inputs values user same_inputs k.key k.places k.stand k.once (tests_of cs)
        (map (test_of []) bound_tests) pairs k.passes in
        let by_key : names_key k.places (out-BoundCond own).terms ≡ true = ap (names_key k.places) t.2.only ∙ named.0 in
        let first : List BoundTest = take (length k.places) bound_tests in
        let equal : AreKnownEqual first values user
        = tests_equal k.key first
        (of_tests (IsOfKey known ps item in_order inputs values user same_inputs k.key) (length k.places) bound_tests named.1)
        (first_tests_valued columns kinds values user given place own k.places first stands by_key
        (record { term = t.2.term; only_term = t.2.only; firsts = refl })) in
        record {
          number = k.number;
          columns = k.places;
          is_key = k.there;
          named = by_key;
          known = λ tests firsts.
              let same : firsts.term ≡ t.2.term = only_same firsts.term t.2.term (sym firsts.only_term ∙ t.2.only) in
              subst (λ z. AreKnownEqual z values user)
              (sym (firsts.firsts ∙ ap (λ (z : BoundConj). take (length k.places) (out-BoundConj z).tests) same)) equal;
        }

    -- over a table whose definition has these keys
    module _ (t : TableDefinition) (key : (test : List Name → Bool) → list_any test (keys t) ≡ true → IsKeyAt test names held) where
      by_condition : (cs : Conds Named) → CondsSpellNoNull cs → have_subquery cs ≡ false → list_any (is_by_key inputs cs) (keys t) ≡ true
          → (p : PlacedCond) → cond_placed around (joined cs) ≡ Ok p → (o : Option BoundCond)
          → ((own : BoundCond) → o ≡ Some own → StandsOn columns kinds place own)
          → ◌≡◌ {A = Outcome PlacedClause} (Ok (present p)) (Ok (clause_of [] o)) → IsKeyedClause held o values user
      by_condition cs spells none any p placed None stands e = cc
      by_condition cs spells none any p placed (Some own) stands e =
          let same : p ≡ cond_of [] own = cc in
          let is : cond_placed around (joined cs) ≡ Ok (cond_of [] own) = placed ∙ ap (λ (q : PlacedCond). Ok q) same in
          record {
            own = own;
            is_own = refl;
            by_key = own_keyed own (stands own refl) cs spells is (key (is_by_key inputs cs) any);
            plain =
                sym (known_of (cond_placed around (joined cs)) (λ q. has_subquery (joined cs) ≡ has_subquery q) (cond_of [] own) (subquery_same around (joined cs)) is)
                ∙ ap (λ b. b || false) none;
          }

      -- A WHERE clause that is keyed by the definition of its text is keyed as it is bound.
      pub clause_keyed : (clause : Clause Named) → ClauseSpellsNoNull clause → is_keyed t inputs clause ≡ true → (o : Option BoundCond)
          → ((own : BoundCond) → o ≡ Some own → StandsOn columns kinds place own)
          → clause_placed around clause ≡ Ok (clause_of [] o) → IsKeyedClause held o values user
      clause_keyed (present (disjunction (a_cond (conjunction cs) no_cond))) spells keyed o stands e =
          let parts = and_parts (not (have_subquery cs)) (list_any (is_by_key inputs cs) (keys t)) keyed in
          let made = bind_ok (cond_placed around (joined cs)) (λ p. Ok (present p)) (clause_of [] o) e in
          by_condition cs spells.0 (not-true (have_subquery cs) parts.0) parts.1 made.0 made.1 o stands made.2
      clause_keyed _ spells keyed o stands e = cc
