-- The columns of a table definition, made one after the other.
use Rattle.std.proofs.Common.{◌≡◌, ℕ, zero, suc, ◌+◌, ◌<◌, List, [], ◌∷◌, ◌++◌, length, get_or, map, take, Some, refl, ap, sym, subst, ◌∙◌, arith}
use Rattle.std.specs.List.{AllZip, enumerate_from, zip}
use Rattle.std.specs.Option.{option_map}
use Rattle.std.proofs.lemmas.List.{length-map, length-take-le, map-append, take_more}
use Rattle.indexmap.proofs.SetLemmas.{AllZip-push}
use Rattle.sq_lex.specs.declared.name.Name.{Name}
use Rattle.sq_value.specs.Domain.{kind_of}
use Rattle.sq_meaning.specs.Target.{places_of}
use Rattle.sq_bound.specs.declared.names.BaseColumn.{BaseColumn}
use Rattle.sq_bound.specs.declared.names.Column.{Column}
use Rattle.sq_catalog.specs.Columns.{AreBaseColumnsOf, AreColumnsOf, IsBaseColumnOf, IsColumnOf, IsDefaultOf}
use Rattle.sq_catalog.specs.Exact.{column_declared}
use Rattle.sq_catalog.specs.Table.{held_declared, typed_definitions}
use Rattle.sq_catalog.specs.Written.{is_written_not_null}
use Rattle.sq_catalog.specs.declared.typed.TypedColumn.{TypedColumn}

-- ---- the definitions

typed_last : (typed : List TypedColumn) (t : TypedColumn) → typed_definitions (typed ++ t ∷ []) ≡ typed_definitions typed ++ t.definition.now ∷ []
typed_last typed t = map-append (λ (x : TypedColumn). x.definition.now) typed (t ∷ [])

-- one more column is read
typed_next : (typed : List TypedColumn) (i : ℕ) (t : TypedColumn) → i < length typed → t ≡ get_or typed i t → typed_definitions (take (i + 1) typed) ≡ typed_definitions (take i typed) ++ t.definition.now ∷ []
typed_next typed i t lt e = ap typed_definitions (take_more typed i t lt ∙ ap (λ x. take i typed ++ x ∷ []) (sym e)) ∙ typed_last (take i typed) t

-- ---- the columns

place_last : {X : Type 0} (n : ℕ) (xs : List X) (x : X) → enumerate_from n (xs ++ x ∷ []) ≡ enumerate_from n xs ++ (n + length xs, x) ∷ []
place_last n [] x = let same : n ≡ n + 0 = omega arith in ap (λ k. (k, x) ∷ []) same
place_last n (y ∷ ys) x = let same : n + 1 + length ys ≡ n + suc (length ys) = omega arith in ap (λ l. (n, y) ∷ l) (place_last (n + 1) ys x ∙ ap (λ k. enumerate_from (n + 1) ys ++ (k, x) ∷ []) same)

typed_long : (typed : List TypedColumn) (i : ℕ) → i < length typed → length (typed_definitions (take i typed)) ≡ i
typed_long [] i lt = absurd (omega arith)
typed_long (t ∷ typed) zero lt = refl
typed_long (t ∷ typed) (suc i) lt = ap suc (typed_long typed i (omega arith))

places_next : (typed : List TypedColumn) (i : ℕ) (t : TypedColumn) → i < length typed → t ≡ get_or typed i t
    → enumerate_from 0 (typed_definitions (take (i + 1) typed)) ≡ enumerate_from 0 (typed_definitions (take i typed)) ++ (i, t.definition.now) ∷ []
places_next typed i t lt e =
    let at : 0 + length (typed_definitions (take i typed)) ≡ i = omega (arith, typed_long typed i lt) in
    ap (enumerate_from 0) (typed_next typed i t lt e) ∙ place_last 0 (typed_definitions (take i typed)) t.definition.now
    ∙ ap (λ k. enumerate_from 0 (typed_definitions (take i typed)) ++ (k, t.definition.now) ∷ []) at

pub column_made : (typed : List TypedColumn) (columns new : List Column) (i : ℕ) (t : TypedColumn) (c : Column) → i < length typed → t ≡ get_or typed i t → new ≡ columns ++ c ∷ [] → c.name ≡ t.definition.now.name
    → c.kind ≡ kind_of t.domain → c.leaf_column ≡ i → AreColumnsOf (typed_definitions (take i typed)) columns → AreColumnsOf (typed_definitions (take (i + 1) typed)) new
column_made typed columns new i t c lt e grown name kind place so_far =
    let one : IsColumnOf (i, t.definition.now) c = record { name = name; kind = ap (option_map kind_of) t.of_type ∙ ap Some (sym kind); place = place } in
    let before = enumerate_from 0 (typed_definitions (take i typed)) in
    subst (λ cs. AllZip IsColumnOf (enumerate_from 0 (typed_definitions (take (i + 1) typed))) cs) (sym grown)
    (subst (λ ws. AllZip IsColumnOf ws (columns ++ c ∷ [])) (sym (places_next typed i t lt e)) (AllZip-push IsColumnOf before columns (i, t.definition.now) c so_far one))

pub base_column_made : (typed : List TypedColumn) (columns new : List BaseColumn) (i : ℕ) (t : TypedColumn) (c : BaseColumn) → i < length typed → t ≡ get_or typed i t → new ≡ columns ++ c ∷ [] → c.domain ≡ t.domain
    → c.not_null ≡ is_written_not_null t.definition.now → IsDefaultOf t.domain t.definition.now.default c.default → AreBaseColumnsOf (typed_definitions (take i typed)) columns → AreBaseColumnsOf (typed_definitions (take (i + 1) typed)) new
base_column_made typed columns new i t c lt e grown domain not_null default so_far =
    let one : IsBaseColumnOf t.definition.now c = record {
      domain = t.of_type ∙ ap Some (sym domain);
      not_null = not_null;
      default = subst (λ d. IsDefaultOf d t.definition.now.default c.default) (sym domain) default;
    } in
    subst (λ cs. AreBaseColumnsOf (typed_definitions (take (i + 1) typed)) cs) (sym grown)
    (subst (λ ws. AreBaseColumnsOf ws (columns ++ c ∷ [])) (sym (typed_next typed i t lt e)) (AllZip-push IsBaseColumnOf (typed_definitions (take i typed)) columns t.definition.now c so_far one))

-- ---- places

module _ {X : Type 0} (xs : List X) (i : ℕ) (x : X) where
  -- the places of those that were read, and one more
  pub place_next : (columns new : List Column) (c : Column) → i < length xs → x ≡ get_or xs i x → new ≡ columns ++ c ∷ [] → c.leaf_column ≡ i → map (λ (c : Column). c.leaf_column) columns ≡ places_of (take i xs)
      → map (λ (c : Column). c.leaf_column) new ≡ places_of (take (i + 1) xs)
  place_next columns new c lt e grown place so_far =
      let long : length (take i xs) ≡ i = length-take-le i xs (omega arith) in
      let at : 0 + length (take i xs) ≡ i = omega (arith, long) in
      ap (map (λ (c : Column). c.leaf_column)) grown ∙ map-append (λ (c : Column). c.leaf_column) columns (c ∷ []) ∙ (λ j. so_far j ++ (place ∙ sym at) j ∷ [])
      ∙ sym (ap places_of (take_more xs i x lt ∙ ap (λ y. take i xs ++ y ∷ []) (sym e)) ∙ ap (map (λ (p : ℕ × X). p.0)) (place_last 0 (take i xs) x) ∙ map-append (λ (p : ℕ × X). p.0) (enumerate_from 0 (take i xs)) ((0 + length (take i xs), x) ∷ []))

-- ---- columns as their table holds them

zip_last : {A B : Type 0} (xs : List A) (ys : List B) (x : A) (y : B) → length ys ≡ length xs → zip (xs ++ x ∷ []) (ys ++ y ∷ []) ≡ zip xs ys ++ (x, y) ∷ []
zip_last [] [] x y e = refl
zip_last [] (b ∷ ys) x y e = absurd (omega (arith, e))
zip_last (a ∷ xs) [] x y e = absurd (omega (arith, e))
zip_last (a ∷ xs) (b ∷ ys) x y e = ap (λ l. (a, b) ∷ l) (zip_last xs ys x y (omega (arith, e)))

abbrev defined_name : TypedColumn → Name
defined_name t = t.definition.now.name

-- one more
pub held_last : (typed : List TypedColumn) (i : ℕ) (t : TypedColumn) (columns new : List BaseColumn) (c : BaseColumn) → i < length typed → t ≡ get_or typed i t → new ≡ columns ++ c ∷ [] → length columns ≡ i
    → held_declared (take (i + 1) typed) new ≡ held_declared (take i typed) columns ++ column_declared (t.definition.now.name, c) ∷ []
held_last typed i t columns new c lt e grown count =
    let before = take i typed in
    let long : length before ≡ i = length-take-le i typed (omega arith) in
    let names : map defined_name (take (i + 1) typed) ≡ map defined_name before ++ defined_name t ∷ [] =
    ap (map defined_name) (take_more typed i t lt ∙ ap (λ y. before ++ y ∷ []) (sym e)) ∙ map-append defined_name before (t ∷ []) in
    (λ j. map column_declared (zip (names j) (grown j)))
    ∙ ap (map column_declared) (zip_last (map defined_name before) columns (defined_name t) c (count ∙ sym (length-map before defined_name ∙ long)))
    ∙ map-append column_declared (zip (map defined_name before) columns) ((defined_name t, c) ∷ [])
