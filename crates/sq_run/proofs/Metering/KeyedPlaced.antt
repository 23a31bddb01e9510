-- The first tests of a search condition that name the columns of a key and compare them with values that
-- are known do so by their places (own rule; ISO/IEC 9075:1992, 11.7, 13.7 and 13.10).
use Rattle.std.proofs.Common.{◌≡◌, ℕ, zero, suc, ◌≤◌, true, false, ◌&&◌, ◌||◌, List, [], ◌∷◌, length, map, take, Some, refl, sym, ap, subst, ◌∙◌, arith, eq-eqb, inl, inr}
use Rattle.std.proofs.lemmas.Bool.{le-leb, or_right}
use Rattle.std.proofs.lemmas.List.{length-map}
use Rattle.std.specs.Prelude.{filter_map, nat_eq, nat_le, option_to_list, position}
use Rattle.std.specs.List.{AllByRecursion, AllZip, list_all, list_any}
use Rattle.std.proofs.lemmas.Cmp.{nat_list_eq_equiv}
use Rattle.sq_lex.specs.declared.name.Name.{Name}
use Rattle.sq_value.specs.declared.value.Value.{Value}
use Rattle.sq_meaning.specs.Environment.{Input, column_named as column_of_name, same_name}
use Rattle.sq_meaning.specs.Spelled.{Named}
use Rattle.sq_meaning.specs.Syntax.{Cond}
use Rattle.sq_meaning.proofs.AnswerLaws.{all_weaker}
use Rattle.sq_meaning.proofs.SureLaws.{all_passed}
use Rattle.sq_meaning.specs.Keyed.{column_equal}
use Rattle.sq_meaning.specs.Schema.{has_name_twice, is_among}
use Rattle.sq_bound.specs.Condition.{PlacedCond}
use Rattle.sq_bound.specs.Keyed.{names_column, names_one_of, start_with_key}
use Rattle.sq_bound.specs.Known.{KnownTables}
use Rattle.sq_bound.specs.declared.names.ParameterDesc.{ParameterDesc}
use Rattle.sq_binding.specs.Scope.{FromItem}
use Rattle.sq_catalog.specs.Keys.{StandAt}
use Rattle.sq_expression.specs.Frame.{inputs_of}
use Rattle.sq_query.proofs.Keys.KnownKeys.{same_some}
use Rattle.sq_run.proofs.Places.Items.{IsInOrder}
use Rattle.sq_run.proofs.Metering.KeyedTests.{IsKnownTest, IsPlacedTest, item_names, test_known, test_names}
use Rattle.sq_run.proofs.Places.Outcomes.{same_length}
use Rattle.sq_run.proofs.Places.Parameters.{SameInputs}
use Rattle.sq_run.proofs.Schemas.KeyNamed.{Has, IsOneOf, all_named, found_short, has_found}

-- ---- lists

pub zip_first : {A B : Type 0} (R : A → B → Type 0) (n : ℕ) (xs : List A) (ys : List B) → AllZip R xs ys → AllZip R (take n xs) (take n ys)
zip_first R zero xs ys h = tt
zip_first R (suc n) [] [] h = tt
zip_first R (suc n) [] (y ∷ ys) h = absurd h
zip_first R (suc n) (x ∷ xs) [] h = absurd h
zip_first R (suc n) (x ∷ xs) (y ∷ ys) h = (h.0, zip_first R n xs ys h.1)

pub all_there : {A : Type 0} (n : ℕ) (xs : List A) → length (take n xs) ≡ n → n ≤ length xs
all_there zero xs e = omega arith
all_there (suc n) [] e = absurd (omega arith)
all_there (suc n) (x ∷ xs) e =
    let rest : n ≤ length xs = all_there n xs (omega arith) in omega (arith, rest)

-- ---- names in either order

-- a column of a name is looked for in one order or the other
position_turned : (n : Name) (names : List Name) → position (same_name n) names ≡ column_of_name n names
position_turned n names = λ i. position (λ m. nat_list_eq_equiv.symm n m i) names

module _ (known : KnownTables) (ps : List ParameterDesc) (item : FromItem) (in_order : IsInOrder item) (inputs : List Input)
    (values : List Value) (user : Name) (same_inputs : SameInputs ps inputs (inputs_of values)) where
  abbrev names : List Name
  names = item_names known ps item in_order inputs values user same_inputs

  abbrev IsTest : Name → PlacedCond → Type 0
  IsTest n t = IsKnownTest known ps item in_order inputs values user same_inputs n t

  abbrev Placed : Cond Named → PlacedCond → Type 0
  Placed c t = IsPlacedTest known ps item in_order inputs values user same_inputs c t

  -- a test of one of the columns of a key
  abbrev pub IsOfKey : List Name → PlacedCond → Type 0
  IsOfKey key t = (n : Name) × Has key n × IsTest n t

  named_at : (n : Name) (q : ℕ) (t : PlacedCond) → position (same_name n) names ≡ Some q → IsTest n t → names_column q t ≡ true
  named_at n q t at w =
      ap (λ o. list_any (nat_eq q) (option_to_list o)) (test_names known ps item in_order inputs values user same_inputs n t w)
      ∙ ap (λ b. b || false) (eq-eqb q w.place.column (same_some q w.place.column (column_of_name n names) (sym (position_turned n names) ∙ at) w.at))

  -- each test names a column of the key
  one_named : (key : List Name) (places : List ℕ) → StandAt names key places → (n : Name) → Has key n → (t : PlacedCond) → IsTest n t
      → list_any (λ q. names_column q t) places ≡ true
  one_named [] places stand n has t w = absurd has
  one_named (k ∷ key) [] stand n has t w = absurd stand
  one_named (k ∷ key) (q ∷ places) stand n (inl e) t w =
      ap (λ b. b || list_any (λ p. names_column p t) places)
      (named_at n q t (subst (λ m. position (same_name m) names ≡ Some q) e stand.0) w)
  one_named (k ∷ key) (q ∷ places) stand n (inr has) t w =
      or_right (names_column q t) (list_any (λ p. names_column p t) places) (one_named key places stand.1 n has t w)

  all_one_named : (key : List Name) (places : List ℕ) → StandAt names key places → (ts : List PlacedCond)
      → AllByRecursion (IsOfKey key) ts → list_all (names_one_of places) ts ≡ true
  all_one_named key places stand [] h = refl
  all_one_named key places stand (t ∷ ts) h =
      (λ i. one_named key places stand h.0.0 h.0.1 t h.0.2 i && all_one_named key places stand ts h.1 i)

  -- each column of the key is named
  any_names : (cs : List (Cond Named)) (ts : List PlacedCond) → AllZip Placed cs ts → (n : Name) (q : ℕ)
      → position (same_name n) names ≡ Some q → Has (map (column_equal inputs) cs) (Some n) → list_any (names_column q) ts ≡ true
  any_names [] ts h n q at has = absurd has
  any_names (c ∷ cs) [] h n q at has = absurd h
  any_names (c ∷ cs) (t ∷ ts) h n q at (inl e) =
      ap (λ b. b || list_any (names_column q) ts)
      (named_at n q t at (test_known known ps item in_order inputs values user same_inputs c t h.0.0 h.0.1 n e))
  any_names (c ∷ cs) (t ∷ ts) h n q at (inr has) =
      or_right (names_column q t) (list_any (names_column q) ts) (any_names cs ts h.1 n q at has)

  each_is_named : (cs : List (Cond Named)) (ts : List PlacedCond) → AllZip Placed cs ts → (key : List Name) (places : List ℕ)
      → StandAt names key places → AllByRecursion (λ n. Has (map (column_equal inputs) cs) (Some n)) key
      → list_all (λ q. list_any (names_column q) ts) places ≡ true
  each_is_named cs ts h [] [] stand has = refl
  each_is_named cs ts h [] (q ∷ places) stand has = absurd stand
  each_is_named cs ts h (n ∷ key) [] stand has = absurd stand
  each_is_named cs ts h (n ∷ key) (q ∷ places) stand has =
      (λ i. any_names cs ts h n q stand.0 has.0 i && each_is_named cs ts h key places stand.1 has.1 i)

  -- tests whose columns are of the key
  tests_of_key : (key : List Name) (cs : List (Cond Named)) (ts : List PlacedCond) → AllZip Placed cs ts
      → AllByRecursion (IsOneOf key) (map (column_equal inputs) cs) → AllByRecursion (IsOfKey key) ts
  tests_of_key key [] [] h one = tt
  tests_of_key key [] (t ∷ ts) h one = absurd h
  tests_of_key key (c ∷ cs) [] h one = absurd h
  tests_of_key key (c ∷ cs) (t ∷ ts) h one = (
    (one.0.0, one.0.1, test_known known ps item in_order inputs values user same_inputs c t h.0.0 h.0.1 one.0.0 one.0.2),
    tests_of_key key cs ts h.1 one.1,
  )

  -- The first tests by place, as many as the key has columns, name its columns and no other.
  pub by_key_placed : (key : List Name) (places : List ℕ) → StandAt names key places → has_name_twice key ≡ false
      → (cs : List (Cond Named)) (ts : List PlacedCond) → AllZip Placed cs ts
      → list_all (is_among (filter_map (column_equal inputs) (take (length key) cs))) key ≡ true
      → (start_with_key places ts ≡ true) × AllByRecursion (IsOfKey key) (take (length places) ts)
  by_key_placed key places stand once cs ts h by_key =
      let first = take (length key) cs in
      let found : AllByRecursion (λ n. Has (map (column_equal inputs) first) (Some n)) key
      = all_weaker (λ n. is_among (filter_map (column_equal inputs) first) n ≡ true) (λ n. Has (map (column_equal inputs) first) (Some n))
      (λ n e. has_found (column_equal inputs) first n e) key (all_passed (is_among (filter_map (column_equal inputs) first)) key by_key) in
      let whole = all_named key (map (column_equal inputs) first) once (found_short (column_equal inputs) (length key) cs) found in
      let many : length key ≡ length places = same_length (λ name place. position (same_name name) names ≡ Some place) key places stand in
      let pairs : AllZip Placed first (take (length key) ts) = zip_first Placed (length key) cs ts h in
      let as_many : length (take (length key) ts) ≡ length key
      = sym (same_length Placed first (take (length key) ts) pairs) ∙ sym (length-map first (column_equal inputs)) ∙ whole.0 in
      let enough : length key ≤ length ts = all_there (length key) ts as_many in
      let tests : AllByRecursion (IsOfKey key) (take (length key) ts) = tests_of_key key first (take (length key) ts) pairs whole.1 in
      let starts : (nat_le (length key) (length ts) && list_all (names_one_of places) (take (length key) ts)
      && list_all (λ n. list_any (names_column n) (take (length key) ts)) places) ≡ true
      = (λ i. le-leb (length key) (length ts) enough i && all_one_named key places stand (take (length key) ts) tests i
      && each_is_named first (take (length key) ts) pairs key places stand found i) in (
        subst (λ m. (nat_le m (length ts) && list_all (names_one_of places) (take m ts) && list_all (λ n. list_any (names_column n) (take m ts)) places) ≡ true) many starts,
        subst (λ m. AllByRecursion (IsOfKey key) (take m ts)) many tests,
      )
