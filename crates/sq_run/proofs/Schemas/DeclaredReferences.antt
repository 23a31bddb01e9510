-- The references that the catalog has of base tables are those of their texts, to the tables and the
-- columns that the definitions find (ISO/IEC 9075:1992, 11.8).
use Rattle.std.proofs.Common.{◌≡◌, ℕ, zero, suc, ◌<◌, Bool, true, false, List, [], ◌∷◌, get_or, Option, Some, None, refl, sym, ap, subst, ◌∙◌, arith, eq-eqb, true≢false}
use Rattle.std.proofs.lemmas.Cmp.{nat_list_eq_equiv}
use Rattle.std.proofs.lemmas.List.Quantifiers.{position-Some}
use Rattle.std.proofs.lemmas.Option.{get_or_from_slice_get}
use Rattle.std.specs.Cmp.Lexicographic.{same_text}
use Rattle.std.specs.Prelude.{◌&&◌, ◌||◌, if◌then◌else◌, nat_eq, position, slice_get, unwrap_or}
use Rattle.std.specs.List.{AllByRecursion, cons_option, list_any}
use Rattle.std.specs.Option.{option_map, option_or}
use Rattle.sq_lex.specs.declared.name.Name.{Name}
use Rattle.sq_tree.specs.declared.list.CommaList.{CommaList}
use Rattle.sq_tree.specs.declared.schema.References.{References}
use Rattle.sq_tree.specs.declared.schema.TableDefinition.{TableDefinition}
use Rattle.sq_store.specs.Keys.{Keys}
use Rattle.sq_meaning.specs.Environment.{same_name}
use Rattle.sq_meaning.specs.Spelled.{listed, listed_if_any}
use Rattle.sq_meaning.specs.Schema.{has_name_twice, primary_keys, referenced_columns, table_columns}
use Rattle.sq_meaning.specs.Words.{has_twice}
use Rattle.sq_bound.specs.declared.names.Reference.{Reference as BoundReference}
use Rattle.sq_binding.proofs.Standing.Levels.{all_at}
use Rattle.sq_run.proofs.Sites.SiteLaws.{neither, none_passes}
use Rattle.sq_catalog.specs.Keys.{KeysStandAt, StandAt, keys_written, names_written, primary_among, primary_columns, primaries}
use Rattle.sq_catalog.specs.References.{AreListed, IsToKey, are_listed, is_key_of, key_referenced}
use Rattle.sq_catalog.proofs.CreateTable.WrittenRules.{names_are_written, primaries_are_written}
use Rattle.sq_run.proofs.Steps.Unnamed.{WrittenKey}
use Rattle.sq_run.proofs.Schemas.DeclaredStatements.{zip_back}
use Rattle.sq_run.proofs.Changed.PairedColumns.{AreOnce}

-- ---- the primary key

-- the first of those that are written PRIMARY KEY
first_primary : (ks : List WrittenKey) (n : ℕ) (k : WrittenKey) → slice_get ks n ≡ Some k → k.is_primary ≡ true
    → ((i : ℕ) (l : WrittenKey) → i < n → slice_get ks i ≡ Some l → l.is_primary ≡ false)
    → slice_get (primaries ks) 0 ≡ Some k.columns
first_primary [] n k there is before = cc
first_primary (l ∷ ks) zero k there is before =
    let same : l ≡ k = cc in
    ap (λ (x : WrittenKey). slice_get (cons_option (primary_columns x) (primaries ks)) 0) same
    ∙ ap (λ b. slice_get (cons_option (if b then Some k.columns else None) (primaries ks)) 0) is
first_primary (l ∷ ks) (suc n) k there is before =
    ap (λ b. slice_get (cons_option (if b then Some l.columns else None) (primaries ks)) 0) (before 0 l (omega arith) refl)
    ∙ first_primary ks n k there is (λ i m less at. before (suc i) m (omega (arith, less)) at)

pub primary_found : (t : TableDefinition) (n : ℕ) (k : WrittenKey) → primary_among (keys_written t) ≡ Some n
    → slice_get (keys_written t) n ≡ Some k → slice_get (primary_keys t) 0 ≡ Some k.columns
primary_found t n k at there =
    let found = position-Some (λ (x : WrittenKey). x.is_primary) (keys_written t) n k at in
    ap (λ ks. slice_get ks 0) (sym (primaries_are_written t))
    ∙ first_primary (keys_written t) n k there
    (ap (λ (x : WrittenKey). x.is_primary) (sym (get_or_from_slice_get (keys_written t) n k k there)) ∙ found.1)
    (λ i l less at_i. ap (λ (x : WrittenKey). x.is_primary) (sym (get_or_from_slice_get (keys_written t) i l k at_i)) ∙ found.2 i less)

-- ---- columns that are listed once stand at different places

again : (n : Name) (ns : List Name) (j : ℕ) (x : Name) → list_any (same_name n) ns ≡ false → Some n ≡ Some x
    → slice_get ns j ≡ Some x → ⊥
again n ns j x none a b =
    let same : n ≡ x = cc in
    true≢false
    (sym (nat_list_eq_equiv.refl n) ∙ ap (same_name n) same ∙ all_at (λ m. same_name n m ≡ false) ns j x (none_passes (same_name n) ns none) b)

names_apart : (ns : List Name) (i j : ℕ) (x : Name) → has_twice same_name ns ≡ false → slice_get ns i ≡ Some x
    → slice_get ns j ≡ Some x → i ≡ j
names_apart [] i j x once a b = cc
names_apart (n ∷ ns) zero zero x once a b = refl
names_apart (n ∷ ns) zero (suc j) x once a b = absurd (again n ns j x (neither (list_any (same_name n) ns) (has_twice same_name ns) once).0 a b)
names_apart (n ∷ ns) (suc i) zero x once a b = absurd (again n ns i x (neither (list_any (same_name n) ns) (has_twice same_name ns) once).0 b a)
names_apart (n ∷ ns) (suc i) (suc j) x once a b =
    ap suc (names_apart ns i j x (neither (list_any (same_name n) ns) (has_twice same_name ns) once).1 a b)

stand_once : (columns names : List Name) (places : List ℕ) → StandAt columns names places → has_twice same_name names ≡ false
    → AreOnce places
stand_once columns names places stand once i j p at_i at_j =
    let one = zip_back (λ name place. position (same_name name) columns ≡ Some place) names places i p stand at_i in
    let other = zip_back (λ name place. position (same_name name) columns ≡ Some place) names places j p stand at_j in
    let first = position-Some (same_name one.0) columns p one.0 one.2 in
    let second = position-Some (same_name other.0) columns p one.0 other.2 in
    let same : one.0 ≡ other.0 = same_text one.0 (get_or columns p one.0) (sym first.1) ∙ sym (same_text other.0 (get_or columns p one.0) (sym second.1)) in
    names_apart names i j one.0 once one.1 (other.1 ∙ ap Some (sym same))

-- ---- the columns that are referenced

-- every column of a list is listed in it
list_has_all : (xs ys : List ℕ) → ((n x : ℕ) → slice_get ys n ≡ Some x → list_any (λ other. nat_eq other x) xs ≡ true)
    → are_listed xs ys ≡ true
list_has_all xs [] h = refl
list_has_all xs (y ∷ ys) h = (λ i. h 0 y refl i && list_has_all xs ys (λ n x e. h (suc n) x e) i)

list_has : (xs : List ℕ) (n x : ℕ) → slice_get xs n ≡ Some x → list_any (λ other. nat_eq other x) xs ≡ true
list_has [] n x e = cc
list_has (y ∷ xs) zero x e =
    let same : y ≡ x = cc in ap (λ b. b || list_any (λ other. nat_eq other x) xs) (eq-eqb y x same)
list_has (y ∷ xs) (suc n) x e = either (nat_eq y x) (list_any (λ other. nat_eq other x) xs) (list_has xs n x e)
  where
    either : (a b : Bool) → b ≡ true → (a || b) ≡ true
    either true b e = refl
    either false b e = e

itself_listed : (xs : List ℕ) → are_listed xs xs ≡ true
itself_listed xs = list_has_all xs xs (list_has xs)

-- The definitions find these columns, which stand at these places, each once; and the key has all of them.
pub record IsReferenced (t : TableDefinition) (to : References) (key places : List ℕ) : Type 0 where
  pub columns : List Name
  pub found : referenced_columns t to ≡ Some columns
  pub stand : StandAt (table_columns t) columns places
  pub once : AreOnce places
  pub listed : are_listed key places ≡ true

module _ (t : TableDefinition) (keys : Keys) (stand : KeysStandAt (names_written t) (keys_written t) keys)
    (primary : Option ℕ) (is_primary : primary ≡ primary_among (keys_written t))
    (primary_once : AllByRecursion (λ names. has_name_twice names ≡ false) (primary_keys t)) where
  -- the primary key, where no columns are listed
  of_primary : (n : ℕ) (key : List ℕ) → primary ≡ Some n → slice_get keys n ≡ Some key → (to : References) → to.columns ≡ None
      → IsReferenced t to key key
  of_primary n key at there to none =
      let k = zip_back (λ (x : WrittenKey) places. StandAt (names_written t) x.columns places) (keys_written t) keys n key stand there in
      let first = primary_found t n k.0 (sym is_primary ∙ at) k.1 in
      record {
        columns = k.0.columns;
        found = ap (λ (o : Option (CommaList Name)). option_or (option_map listed o) (slice_get (primary_keys t) 0)) none ∙ first;
        stand = subst (λ names. StandAt names k.0.columns key) (names_are_written t) k.2;
        once = stand_once (names_written t) k.0.columns key k.2 (all_at (λ names. has_name_twice names ≡ false) (primary_keys t) 0 k.0.columns primary_once first);
        listed = itself_listed key;
      }

  -- or a key with the columns that are listed
  of_list : (list : CommaList Name) (places : List ℕ) (n : ℕ) (key : List ℕ) → StandAt (table_columns t) (listed list) places
      → has_name_twice (listed list) ≡ false → position (is_key_of places) keys ≡ Some n → slice_get keys n ≡ Some key
      → (to : References) → to.columns ≡ Some list → IsReferenced t to key places
  of_list list places n key at once found there to some =
      let is = position-Some (is_key_of places) keys n key found in
      let has : is_key_of places key ≡ true = ap (is_key_of places) (sym (get_or_from_slice_get keys n key key there)) ∙ is.1 in
      record {
        columns = listed list;
        found = ap (λ (o : Option (CommaList Name)). option_or (option_map listed o) (slice_get (primary_keys t) 0)) some;
        stand = at;
        once = stand_once (table_columns t) (listed list) places at once;
        listed = second_true (are_listed places key) (are_listed key places) has;
      }
    where
      second_true : (a b : Bool) → (a && b) ≡ true → b ≡ true
      second_true true b e = e
      second_true false b e = cc

  pub referenced_is : (to : References) (places : Option (List ℕ)) (r : BoundReference) → IsToKey keys primary places r
      → AreListed (table_columns t) to.columns places → has_name_twice (listed_if_any to.columns) ≡ false
      → (key : List ℕ) → slice_get keys r.key ≡ Some key → IsReferenced t to key (unwrap_or places key)
  referenced_is to places r h at once key there = by_list to.columns refl places h.key_is at once
    where
      by_list : (o : Option (CommaList Name)) → to.columns ≡ o → (p : Option (List ℕ)) → key_referenced keys primary p ≡ Some r.key
          → AreListed (table_columns t) o p → has_name_twice (listed_if_any o) ≡ false → IsReferenced t to key (unwrap_or p key)
      by_list None is None found at once = of_primary r.key key found there to is
      by_list None is (Some p) found at once = absurd at
      by_list (Some list) is None found at once = absurd at
      by_list (Some list) is (Some p) found at once = of_list list p r.key key at once found there to is
