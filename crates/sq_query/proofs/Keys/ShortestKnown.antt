-- Where a condition names a row by some key whose values are known in a call, so it does by the key that is noted: the shortest. The
-- tests that name the columns of that one are the first of those that name the columns of any other.
use Rattle.std.proofs.Common.{◌≡◌, ◌≤◌, ◌<◌, ◌∙◌, ℕ, zero, suc, Bool, true, false, true≢false, not, ◌||◌, List, [], ◌∷◌, length, take, nat_le, Option, Some, None, refl, sym, subst, arith}
use Rattle.std.specs.Prelude.{slice_get, slice_index_or}
use Rattle.std.specs.List.{list_all, list_any}
use Rattle.std.proofs.lemmas.Bool.{leb-true, or_parts}
use Rattle.std.proofs.lemmas.Option.{get_or_from_slice_get}
use Rattle.sq_lex.specs.declared.name.Name.{Name}
use Rattle.sq_value.specs.declared.value.Value.{Value}
use Rattle.sq_bound.specs.Keyed.{IsShortest, IsShortestKey, has_no_fewer, names_key}
use Rattle.sq_bound.specs.declared.condition.BoundCond.{BoundCond, out-BoundCond}
use Rattle.sq_bound.specs.declared.condition.BoundConj.{out-BoundConj}
use Rattle.sq_bound.specs.declared.condition.BoundTest.{BoundTest}
use Rattle.sq_bound.specs.declared.query.Target.{Target}
use Rattle.sq_bound.proofs.QuietTruths.{both_left, both_right}
use Rattle.sq_store.specs.Keys.{Keys}
use Rattle.sq_query.specs.Key.{AreFirstTests, AreKeyTests}
use Rattle.sq_query.specs.Keyed.{AreKnownEqual, IsKeyed, IsKeyedBy}

abbrev Columns : Type 0
Columns = List ℕ

-- ---- lists

-- an index among the first few is one among more of them
within_more : {A : Type 0} (m n k : ℕ) (xs : List A) → m ≤ n → k < length (take m xs) → k < length (take n xs)
within_more zero n k xs le h = absurd (omega arith)
within_more (suc m) n k [] le h = absurd (omega arith)
within_more (suc m) zero k (x ∷ xs) le h = absurd (omega arith)
within_more (suc m) (suc n) zero (x ∷ xs) le h = omega arith
within_more (suc m) (suc n) (suc k) (x ∷ xs) le h = let more = within_more m n k xs (omega arith) (omega arith) in omega arith

same_more : {A : Type 0} (m n k : ℕ) (xs : List A) (x : A) → m ≤ n → k < length (take m xs) → slice_index_or (take m xs) k x ≡ x → slice_index_or (take n xs) k x ≡ x
same_more zero n k xs x le h at = absurd (omega arith)
same_more (suc m) n k [] x le h at = absurd (omega arith)
same_more (suc m) zero k (y ∷ xs) x le h at = absurd (omega arith)
same_more (suc m) (suc n) zero (y ∷ xs) x le h at = at
same_more (suc m) (suc n) (suc k) (y ∷ xs) x le h at = same_more m n k xs x (omega arith) (omega arith) at

-- what is known of more tests is known of the first ones
fewer_known : (m n : ℕ) (tests : List BoundTest) (parameters : List Value) (user : Name) → m ≤ n → AreKnownEqual (take n tests) parameters user → AreKnownEqual (take m tests) parameters user
fewer_known m n tests parameters user le known = λ tables test c e among is.
    known tables test c e (among.0, within_more m n among.0 tests le among.1, same_more m n among.0 tests test le among.1 among.2) is

-- ---- keys

passes_at : {A : Type 0} (test : A → Bool) (xs : List A) (k : ℕ) (x : A) → list_all test xs ≡ true → slice_get xs k ≡ Some x → test x ≡ true
passes_at test [] k x all at = cc
passes_at test (y ∷ xs) zero x all at = let same : y ≡ x = cc in subst (λ z. test z ≡ true) same (both_left (test y) (list_all test xs) all)
passes_at test (y ∷ xs) (suc k) x all at = passes_at test xs k x (both_right (test y) (list_all test xs) all) at

fails_at : {A : Type 0} (test : A → Bool) (xs : List A) (k : ℕ) (x : A) → list_any test xs ≡ false → slice_get xs k ≡ Some x → test x ≡ false
fails_at test [] k x none at = cc
fails_at test (y ∷ xs) zero x none at = let same : y ≡ x = cc in subst (λ z. test z ≡ false) same ((or_parts (test y) (list_any test xs) none).0)
fails_at test (y ∷ xs) (suc k) x none at = fails_at test xs k x ((or_parts (test y) (list_any test xs) none).1) at

no_fewer : (fits : Columns → Bool) (short key : Columns) → fits key ≡ true → has_no_fewer fits short key ≡ true → length short ≤ length key
no_fewer fits short key fit h = leb-true (length short) (length key) ((λ i. not (sym fit i) || nat_le (length short) (length key)) ∙ h)

module _ (t : Target) (own : BoundCond) (parameters : List Value) (user : Name) where
  abbrev fits : Columns → Bool
  fits key = names_key key (out-BoundCond own).terms

  by_shortest : (o : Option ℕ) (n : ℕ) (key : Columns) → t.key ≡ o → t.condition ≡ Some own → IsShortest fits t.leaf.table.keys o → slice_get t.leaf.table.keys n ≡ Some key → fits key ≡ true
      → ((tests : List BoundTest) → AreKeyTests key t tests → AreKnownEqual tests parameters user) → IsKeyed t parameters user
  by_shortest None n key noted is shortest at fit known = absurd (true≢false (sym fit ∙ fails_at fits t.leaf.table.keys n key shortest at))
  by_shortest (Some k) n key noted is (short, found, fit_short, least) at fit known =
      let less : length short ≤ length key = no_fewer fits short key fit (passes_at (has_no_fewer fits short) t.leaf.table.keys n key least at) in
      let read : slice_index_or t.leaf.table.keys k [] ≡ short = get_or_from_slice_get t.leaf.table.keys k short [] found in
      record {
        key = k;
        is_noted = noted;
        known = λ tests named.
            let firsts = subst (λ (c : Columns). AreKeyTests c t tests) read named in
            subst (λ (ts : List BoundTest). AreKnownEqual ts parameters user) (sym firsts.firsts)
            (fewer_known (length short) (length key) (out-BoundConj firsts.term).tests parameters user less
            (known (take (length key) (out-BoundConj firsts.term).tests) (record { own = firsts.own; is_own = firsts.is_own; term = firsts.term; only_term = firsts.only_term; firsts = refl })));
      }

-- ---- any condition on the rows of a base table

pub known_by_shortest : (keys : Keys) (own : BoundCond) (parameters : List Value) (user : Name) (k : ℕ) → IsShortestKey keys own (Some k) → IsKeyedBy keys own parameters user
    → (tests : List BoundTest) → AreFirstTests (slice_index_or keys k []) own tests → AreKnownEqual tests parameters user
known_by_shortest keys own parameters user k (short, found, fit_short, least) keyed tests first =
    let fits : Columns → Bool = λ key. names_key key (out-BoundCond own).terms in
    let less : length short ≤ length keyed.columns = no_fewer fits short keyed.columns keyed.named (passes_at (has_no_fewer fits short) keys keyed.number keyed.columns least keyed.is_key) in
    let read : slice_index_or keys k [] ≡ short = get_or_from_slice_get keys k short [] found in
    let firsts = subst (λ (c : Columns). AreFirstTests c own tests) read first in
    subst (λ (ts : List BoundTest). AreKnownEqual ts parameters user) (sym firsts.firsts)
    (fewer_known (length short) (length keyed.columns) (out-BoundConj firsts.term).tests parameters user less
    (keyed.known (take (length keyed.columns) (out-BoundConj firsts.term).tests) (record { term = firsts.term; only_term = firsts.only_term; firsts = refl })))

pub named_by_none : (keys : Keys) (own : BoundCond) (parameters : List Value) (user : Name) → IsShortestKey keys own None → IsKeyedBy keys own parameters user → ⊥
named_by_none keys own parameters user none keyed =
    true≢false (sym keyed.named ∙ fails_at (λ (key : Columns). names_key key (out-BoundCond own).terms) keys keyed.number keyed.columns none keyed.is_key)
