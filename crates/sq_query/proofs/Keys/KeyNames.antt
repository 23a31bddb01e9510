-- The key by which a condition names a row is one of the base table, and the condition has the tests that name its columns.
use Rattle.std.proofs.Common.{◌≡◌, ℕ, zero, suc, ◌<◌, Bool, true, ◌&&◌, List, [], ◌∷◌, length, map, take, Option, Some, None, Result, refl, sym, ap, subst, ◌∙◌, arith, Ok, Err}
use Rattle.std.specs.Prelude.{IfOk, IfSome, IsSome, is_some, nat_eq, nat_le, nat_lt, slice_get, slice_index_or}
use Rattle.std.specs.List.{AllZip, list_all, list_any}
use Rattle.std.proofs.lemmas.Bool.{ltb-true}
use Rattle.std.proofs.lemmas.List.{length-map, take-map}
use Rattle.std.proofs.lemmas.Option.{get_or_from_slice_get, slice_get_within}
use Rattle.sq_lex.specs.declared.name.Name.{Name}
use Rattle.sq_value.specs.declared.value.Value.{Value}
use Rattle.sq_store.specs.Content.{Content}
use Rattle.sq_store.specs.Keys.{Keys, are_keyed, keys_at}
use Rattle.sq_store.proofs.Sound.{keyed_length}
use Rattle.sq_bound.specs.Condition.{PlacedCond, test_of}
use Rattle.sq_bound.specs.Fits.{IsBase, keys_of_bases}
use Rattle.sq_bound.specs.Keyed.{IsShortestKey, is_named_by, names_column, names_key, names_one_of, start_with_key}
use Rattle.sq_bound.specs.Names.{option_all}
use Rattle.sq_bound.specs.declared.condition.BoundCond.{BoundCond, out-BoundCond}
use Rattle.sq_bound.specs.declared.condition.BoundConj.{out-BoundConj}
use Rattle.sq_bound.specs.declared.condition.BoundTest.{BoundTest}
use Rattle.sq_bound.specs.declared.names.BaseTable.{BaseTable}
use Rattle.sq_bound.specs.declared.names.Leaf.{Leaf}
use Rattle.sq_bound.specs.declared.query.Target.{Target}
use Rattle.sq_bound.proofs.QuietTruths.{both_left, both_right}
use Rattle.sq_expression.specs.declared.fault.Fault.{Fault}
use Rattle.sq_query.specs.Key.{AreFirstTests, IsComparedWith, IsKeyOf, IsKeyOn, IsNamedBy}
use Rattle.sq_query.specs.declared.key.KnownKey.{KnownKey}

-- ---- the key of a target

-- there is a condition
own_there : (leaf : Leaf) (o : Option BoundCond) (k : ℕ) → is_named_by leaf o k ≡ true → (own : BoundCond) × (o ≡ Some own)
own_there leaf None k h = cc
own_there leaf (Some own) k h = (own, refl)

named_parts : (leaf : Leaf) (own : BoundCond) (k : ℕ) → is_named_by leaf (Some own) k ≡ true
    → (nat_eq (length leaf.conditions) 0 ≡ true) × (k < length leaf.table.keys) × (names_key (slice_index_or leaf.table.keys k []) (out-BoundCond own).terms ≡ true)
named_parts leaf own k h =
    let no_view : Bool = nat_eq (length leaf.conditions) 0 in
    let there : Bool = nat_lt k (length leaf.table.keys) in
    let by_tests : Bool = names_key (slice_index_or leaf.table.keys k []) (out-BoundCond own).terms in
    let first = both_left (no_view && there) by_tests h in (
      both_left no_view there first,
      ltb-true k (length leaf.table.keys) (both_right no_view there first),
      both_right (no_view && there) by_tests h,
    )

module _ (t : Target) (key : ℕ) (is : t.key ≡ Some key) where
  named : is_named_by t.leaf t.condition key ≡ true
  named = sym (ap (option_all (is_named_by t.leaf t.condition)) is) ∙ t.keyed

  pub condition_there : (own : BoundCond) × (t.condition ≡ Some own)
  condition_there = own_there t.leaf t.condition key named

  parts : (own : BoundCond) → t.condition ≡ Some own → (nat_eq (length t.leaf.conditions) 0 ≡ true) × (key < length t.leaf.table.keys) × (names_key (slice_index_or t.leaf.table.keys key []) (out-BoundCond own).terms ≡ true)
  parts own is_own = named_parts t.leaf own key (sym (ap (λ (o : Option BoundCond). is_named_by t.leaf o key) is_own) ∙ named)

  -- no view is in between
  pub no_view : nat_eq (length t.leaf.conditions) 0 ≡ true
  no_view = (parts condition_there.0 condition_there.1).0

  -- the key is one of the base table
  pub key_there : key < length t.leaf.table.keys
  key_there = (parts condition_there.0 condition_there.1).1

  -- there is a condition, and it names a row by the key
  pub has_condition : IsSome t.condition
  has_condition = ap is_some condition_there.1

  pub own_named : (own : BoundCond) → t.condition ≡ Some own → names_key (slice_index_or t.leaf.table.keys key []) (out-BoundCond own).terms ≡ true
  own_named own is_own = (parts own is_own).2

-- ---- the tests that name its columns

module _ (key : List ℕ) (tests : List BoundTest) (starts : start_with_key key (map (test_of []) tests) ≡ true) where
  abbrev conds : List PlacedCond
  conds = map (test_of []) tests

  abbrev enough : Bool
  enough = nat_le (length key) (length conds)

  abbrev naming : Bool
  naming = list_all (names_one_of key) (take (length key) conds)

  abbrev all_named : Bool
  all_named = list_all (λ n. list_any (names_column n) (take (length key) conds)) key

  -- each of them names a column of the key
  pub firsts_name : list_all (names_one_of key) (map (test_of []) (take (length key) tests)) ≡ true
  firsts_name = ap (list_all (names_one_of key)) (sym (take-map (test_of []) (length key) tests)) ∙ both_right enough naming (both_left (enough && naming) all_named starts)

  -- each column of the key is named by one of the first tests
  pub columns_named : list_all (λ n. list_any (names_column n) (map (test_of []) (take (length key) tests))) key ≡ true
  columns_named =
      ap (λ (first : List PlacedCond). list_all (λ n. list_any (names_column n) first) key) (sym (take-map (test_of []) (length key) tests))
      ∙ both_right (enough && naming) all_named starts

-- the tests by which a condition names a row start so
pub first_tests_start : (own : BoundCond) (columns : List ℕ) (tests : List BoundTest) → names_key columns (out-BoundCond own).terms ≡ true → (r : AreFirstTests columns own tests)
    → start_with_key columns (map (test_of []) (out-BoundConj r.term).tests) ≡ true
first_tests_start own columns tests named r = sym (ap (names_key columns) r.only_term) ∙ named

pub first_tests_name : (own : BoundCond) (columns : List ℕ) (tests : List BoundTest) → names_key columns (out-BoundCond own).terms ≡ true → AreFirstTests columns own tests
    → list_all (λ n. list_any (names_column n) (map (test_of []) tests)) columns ≡ true
first_tests_name own columns tests named r =
    ap (λ (firsts : List BoundTest). list_all (λ n. list_any (names_column n) (map (test_of []) firsts)) columns) r.firsts
    ∙ columns_named columns (out-BoundConj r.term).tests (first_tests_start own columns tests named r)

-- ---- the key of a condition

-- the first tests, which name these columns, compare them with these values
pub named_by : (own : BoundCond) (parameters : List Value) (user : Name) (columns : List ℕ) (tests : List BoundTest) (values found : List Value) → names_key columns (out-BoundCond own).terms ≡ true → AreFirstTests columns own tests
    → AllZip (IsComparedWith tests parameters user) columns values → found ≡ values → IsNamedBy columns own parameters user found
named_by own parameters user columns tests values found named r all values_are = record {
  named = named;
  term = r.term;
  only_term = r.only_term;
  compared = subst (λ (vs : List Value). AllZip (IsComparedWith (take (length columns) (out-BoundConj r.term).tests) parameters user) columns vs) (sym values_are)
      (subst (λ (ts : List BoundTest). AllZip (IsComparedWith ts parameters user) columns values) r.firsts all);
}

-- a key by which a target's own condition names a row is one of the target where it is noted
pub noted_key : (t : Target) (own : BoundCond) (content : Content) (keys : List Keys) (parameters : List Value) (user : Name) (key : ℕ) (r : Result (Option KnownKey) Fault) → t.condition ≡ Some own → t.key ≡ Some key
    → IfOk r (λ found. IfSome found (λ known. (known.key ≡ key) × IsKeyOn t.base own content keys parameters user known)) → IfOk r (λ found. IfSome found (IsKeyOf t content keys parameters user))
noted_key t own content keys parameters user key (Err e) is_own is h = tt
noted_key t own content keys parameters user key (Ok None) is_own is h = tt
noted_key t own content keys parameters user key (Ok (Some known)) is_own is h = record { own = own; is_own = is_own; is_key = is ∙ ap Some (sym h.0); on = h.1 }

-- a condition names a row by the shortest such key
pub shortest_names : (keys : Keys) (own : BoundCond) (key : ℕ) (found : Option ℕ) → IsShortestKey keys own found → found ≡ Some key
    → (key < length keys) × (names_key (slice_index_or keys key []) (out-BoundCond own).terms ≡ true)
shortest_names keys own key None h is = cc
shortest_names keys own key (Some k) h is =
    let same : k ≡ key = cc in
    subst (λ (n : ℕ). (n < length keys) × (names_key (slice_index_or keys n []) (out-BoundCond own).terms ≡ true)) same
    (slice_get_within keys k h.0 h.1, ap (λ (columns : List ℕ). names_key columns (out-BoundCond own).terms) (get_or_from_slice_get keys k h.0 [] h.1) ∙ h.2)

pub shortest_known : (place : ℕ) (own : BoundCond) (content : Content) (keys : List Keys) (parameters : List Value) (user : Name) (key : ℕ) (r : Result (Option KnownKey) Fault)
    → IfOk r (λ found. IfSome found (λ known. (known.key ≡ key) × IsKeyOn place own content keys parameters user known)) → IfOk r (λ found. IfSome found (IsKeyOn place own content keys parameters user))
shortest_known place own content keys parameters user key (Err e) h = tt
shortest_known place own content keys parameters user key (Ok None) h = tt
shortest_known place own content keys parameters user key (Ok (Some known)) h = h.1

-- ---- the store has the base table and its keys

keys_of_base : (bases : List BaseTable) (place : ℕ) (b : BaseTable) → slice_get bases place ≡ Some b → keys_at (keys_of_bases bases) place ≡ b.keys
keys_of_base [] place b e = cc
keys_of_base (a ∷ bases) zero b e = let same : a ≡ b = cc in ap (λ (t : BaseTable). t.keys) same
keys_of_base (a ∷ bases) (suc place) b e = keys_of_base bases place b e

module _ (bases : List BaseTable) (keys : List Keys) (keys_are : keys ≡ keys_of_bases bases) where
  pub place_there : (content : Content) (place : ℕ) → are_keyed keys content ≡ true → place < length bases → place < length content
  place_there content place keyed within =
      let as_many : length content ≡ length bases = keyed_length keys content keyed ∙ ap length keys_are ∙ length-map bases (λ b. b.keys) in
      omega (arith, within, as_many)

  pub base_keys : (place : ℕ) (b : BaseTable) → slice_get bases place ≡ Some b → keys_at keys place ≡ b.keys
  base_keys place b at = ap (λ (ks : List Keys). keys_at ks place) keys_are ∙ keys_of_base bases place b at

module _ (bases : List BaseTable) (keys : List Keys) (t : Target) (base : IsBase bases t.leaf.table) (keys_are : keys ≡ keys_of_bases bases) where
  -- the base table under a target
  pub base_under : slice_get bases t.base ≡ Some t.leaf.table
  base_under = subst (λ (p : ℕ). slice_get bases p ≡ Some t.leaf.table) (sym t.is_under) base

  pub base_there : (content : Content) → are_keyed keys content ≡ true → t.base < length content
  base_there content keyed = place_there bases keys keys_are content t.base keyed (slice_get_within bases t.base t.leaf.table base_under)

  pub own_keys : keys_at keys t.base ≡ t.leaf.table.keys
  own_keys = base_keys bases keys keys_are t.base t.leaf.table base_under

-- a place in a list has an element
pub element_at : {A : Type 0} (xs : List A) (i : ℕ) → i < length xs → (x : A) × (slice_get xs i ≡ Some x)
element_at [] i within = absurd (omega arith)
element_at (x ∷ xs) zero within = (x, refl)
element_at (x ∷ xs) (suc i) within = element_at xs i (omega arith)
