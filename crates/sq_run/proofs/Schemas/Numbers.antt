-- Names of base tables and views are apart in schemas that are not refused, so each is found under its
-- number (ISO/IEC 9075:1992, 5.4, 11.3 and 11.19).
use Rattle.std.proofs.Common.{◌≡◌, ℕ, zero, suc, ◌+◌, ◌<◌, cond, not, Bool, true, false, List, [], ◌∷◌, ◌++◌, length, length-append, Some, None, refl, sym, ap, subst, ◌∙◌, arith, true≢false, ltb-true}
use Rattle.std.proofs.lemmas.Bool.{and_parts, false_from_ne_true, lt-ltb, or_parts}
use Rattle.std.proofs.lemmas.Cmp.{nat_list_eq_equiv}
use Rattle.std.proofs.lemmas.List.{append-nil, append_assoc}
use Rattle.std.specs.Cmp.Lexicographic.{pointwise, same_text}
use Rattle.std.specs.Prelude.{◌&&◌, nat_eq, nat_lt, position, slice_get}
use Rattle.std.specs.List.{AllByRecursion, AllZip, list_any, position_or_len}
use Rattle.sq_lex.specs.declared.name.Name.{Name}
use Rattle.sq_tree.specs.declared.schema.SchemaElement.{SchemaElement}
use Rattle.sq_tree.specs.declared.schema.SchemaElement.TheVariants as element
use Rattle.sq_meaning.specs.Environment.{TableName, same_table}
use Rattle.sq_meaning.specs.Spelled.{table_of}
use Rattle.sq_meaning.proofs.AnswerLaws.{all_appended}
use Rattle.sq_meaning.specs.Catalog.{tables_of}
use Rattle.sq_meaning.specs.Schema.{Elements}
use Rattle.sq_meaning.specs.SchemaRefusal.{is_made}
use Rattle.sq_catalog.specs.Catalog.{is_table, named_by}
use Rattle.sq_catalog.specs.Views.{WrittenView, view_name}
use Rattle.sq_catalog.specs.declared.catalog.FullName.{FullName}
use Rattle.sq_run.proofs.Laws.Accepted.{AreAccepted, IsAccepted, table_is_new, view_is_new}
use Rattle.sq_run.proofs.Schemas.Created.{tables_created, views_created}

-- ---- lists that begin alike

-- a list begins with another
abbrev pub BeginsWith : {A : Type 0} → List A → List A → Type 0
BeginsWith {A} xs all = (rest : List A) × (all ≡ xs ++ rest)

pub begins_before : {A : Type 0} (xs ys all : List A) → BeginsWith (xs ++ ys) all → BeginsWith xs all
begins_before xs ys all h = (ys ++ h.0, h.1 ∙ append_assoc xs ys h.0)

pub begins_all : {A : Type 0} (xs all : List A) → all ≡ xs → BeginsWith xs all
begins_all xs all e = ([], e ∙ sym (append-nil xs))

-- what stands behind the first ones is found by their number
behind : {A : Type 0} (xs : List A) (x : A) (rest : List A) → slice_get (xs ++ x ∷ rest) (length xs) ≡ Some x
behind [] x rest = refl
behind (y ∷ xs) x rest = behind xs x rest

with_rest : {A : Type 0} (xs : List A) (x : A) (all : List A) (h : BeginsWith (xs ++ x ∷ []) all) → all ≡ xs ++ x ∷ h.0
with_rest xs x all h = h.1 ∙ append_assoc xs (x ∷ []) h.0

pub stands_behind : {A : Type 0} (xs : List A) (x : A) (all : List A) → BeginsWith (xs ++ x ∷ []) all
    → slice_get all (length xs) ≡ Some x
stands_behind xs x all h = ap (λ l. slice_get l (length xs)) (with_rest xs x all h) ∙ behind xs x h.0

-- what is said of two lists place by place
pub zip_at : {A B : Type 0} (R : A → B → Type 0) (xs : List A) (ys : List B) (n : ℕ) (x : A) → AllZip R xs ys
    → slice_get xs n ≡ Some x → (y : B) × (slice_get ys n ≡ Some y) × R x y
zip_at R [] [] n x h e = cc
zip_at R [] (y ∷ ys) n x h e = absurd h
zip_at R (z ∷ xs) [] n x h e = absurd h
zip_at R (z ∷ xs) (y ∷ ys) zero x h e = let same : z ≡ x = cc in (y, refl, subst (λ w. R w y) same h.0)
zip_at R (z ∷ xs) (y ∷ ys) (suc n) x h e = zip_at R xs ys n x h.1 e

pub zip_both : {A B : Type 0} (R : A → B → Type 0) (xs : List A) (ys : List B) (n : ℕ) (x : A) (y : B) → AllZip R xs ys
    → slice_get xs n ≡ Some x → slice_get ys n ≡ Some y → R x y
zip_both R [] [] n x y h e f = cc
zip_both R [] (v ∷ ys) n x y h e f = absurd h
zip_both R (z ∷ xs) [] n x y h e f = absurd h
zip_both R (z ∷ xs) (v ∷ ys) zero x y h e f =
    let one : z ≡ x = cc in
    let other : v ≡ y = cc in
    subst (λ w. R x w) other (subst (λ w. R w v) one h.0)
zip_both R (z ∷ xs) (v ∷ ys) (suc n) x y h e f = zip_both R xs ys n x y h.1 e f

-- ---- the first that passes a test

first_len : {A : Type 0} (p : A → Bool) (xs : List A) (x : A) (rest : List A) → AllByRecursion (λ y. p y ≡ false) xs
    → p x ≡ true → position_or_len p (xs ++ x ∷ rest) ≡ length xs
first_len p [] x rest none passes = ap (λ b. cond (not b) (1 + position_or_len p rest) 0) passes
first_len p (y ∷ xs) x rest none passes =
    let further = first_len p xs x rest none.1 passes in
    let one_more : 1 + position_or_len p (xs ++ x ∷ rest) ≡ suc (length xs) = omega (arith, further) in
    ap (λ b. cond (not b) (1 + position_or_len p (xs ++ x ∷ rest)) 0) none.0 ∙ one_more

none_len : {A : Type 0} (p : A → Bool) (xs : List A) → AllByRecursion (λ y. p y ≡ false) xs → position_or_len p xs ≡ length xs
none_len p [] none = refl
none_len p (y ∷ xs) none =
    let further = none_len p xs none.1 in
    let one_more : 1 + position_or_len p xs ≡ suc (length xs) = omega (arith, further) in
    ap (λ b. cond (not b) (1 + position_or_len p xs) 0) none.0 ∙ one_more

chosen : (n place count : ℕ) → n ≡ place → place < count → cond (nat_lt n count) (Some n) None ≡ Some place
chosen n place count e h =
    ap (λ (k : ℕ). cond (nat_lt k count) (Some k) None) e
    ∙ ap (λ b. cond b (Some place) None) (lt-ltb place count h)

not_within : (n count : ℕ) → n ≡ count → cond (nat_lt n count) (Some n) None ≡ None
not_within n count e = by_test (nat_lt n count) refl
  where
    by_test : (b : Bool) → nat_lt n count ≡ b → cond b (Some n) None ≡ None
    by_test true h = let less : n < count = ltb-true n count h in absurd (omega (arith, less, e))
    by_test false h = refl

pub first_behind : {A : Type 0} (p : A → Bool) (xs : List A) (x : A) (all : List A) → BeginsWith (xs ++ x ∷ []) all
    → AllByRecursion (λ y. p y ≡ false) xs → p x ≡ true → position p all ≡ Some (length xs)
first_behind p xs x all h none passes =
    ap (position p) (with_rest xs x all h)
    ∙ chosen (position_or_len p (xs ++ x ∷ h.0)) (length xs) (length (xs ++ x ∷ h.0)) (first_len p xs x h.0 none passes) within
  where
    within : length xs < length (xs ++ x ∷ h.0)
    within = let long : length (xs ++ x ∷ h.0) ≡ length xs + suc (length h.0) = length-append xs (x ∷ h.0) in omega (arith, long)

pub none_there : {A : Type 0} (p : A → Bool) (xs : List A) → AllByRecursion (λ y. p y ≡ false) xs → position p xs ≡ None
none_there p xs none = not_within (position_or_len p xs) (length xs) (none_len p xs none)

-- ---- names

-- the full name of a table or view of the definitions is the catalog's
abbrev pub is_its_name : TableName → FullName → Bool
is_its_name t = is_table t.user t.name

pub same_itself : (user name : Name) → (pointwise nat_eq user user && pointwise nat_eq name name) ≡ true
same_itself user name = (λ i. nat_list_eq_equiv.refl user i && nat_list_eq_equiv.refl name i)

-- two names are apart in either order
pub apart_turned : (u n v m : Name) → (pointwise nat_eq u v && pointwise nat_eq n m) ≡ false
    → (pointwise nat_eq v u && pointwise nat_eq m n) ≡ false
apart_turned u n v m e = false_from_ne_true (pointwise nat_eq v u && pointwise nat_eq m n) turned
  where
    turned : (pointwise nat_eq v u && pointwise nat_eq m n) ≡ true → ⊥
    turned h =
        let parts = and_parts (pointwise nat_eq v u) (pointwise nat_eq m n) h in
        true≢false
        (sym (same_itself u n) ∙ (λ i. pointwise nat_eq u (sym (same_text v u (sym parts.0)) i) && pointwise nat_eq n (sym (same_text m n (sym parts.1)) i)) ∙ e)

-- ---- what is not made yet has the name of none

module _ (x : TableName) where
  abbrev NoTable : Elements → Type 0
  NoTable before = AllByRecursion (λ t. is_its_name x t ≡ false) (tables_created before)

  abbrev NoView : Elements → Type 0
  NoView before = AllByRecursion (λ w. is_its_name x (view_name w) ≡ false) (views_created before)

  pub no_table : (before : Elements) → is_made before x ≡ false → NoTable before
  no_table [] e = tt
  no_table (e ∷ before) none = of_one (no_table before) e.user e.element none
    where
      of_one : (is_made before x ≡ false → NoTable before) → (user : Name) (e : SchemaElement)
          → is_made (record { user = user; element = e } ∷ before) x ≡ false
          → NoTable (record { user = user; element = e } ∷ before)
      of_one others user (element.Table t) none =
          let parts = or_parts (same_table (table_of user t.name) x) (list_any (λ d. same_table d.table x) (tables_of before)) none in
          all_appended (λ t. is_its_name x t ≡ false) (tables_created before) (named_by user t.name ∷ []) (others parts.1)
          (apart_turned (table_of user t.name).user (table_of user t.name).name x.user x.name parts.0, tt)
      of_one others user (element.View v) none =
          subst (λ l. AllByRecursion (λ t. is_its_name x t ≡ false) l) (sym (append-nil (tables_created before)))
          (others (or_parts (same_table (table_of user v.name) x) (list_any (λ d. same_table d.table x) (tables_of before)) none).1)
      of_one others user (element.Grant g) none =
          subst (λ l. AllByRecursion (λ t. is_its_name x t ≡ false) l) (sym (append-nil (tables_created before))) (others none)

  pub no_view : (before : Elements) → is_made before x ≡ false → NoView before
  no_view [] e = tt
  no_view (e ∷ before) none = of_one (no_view before) e.user e.element none
    where
      of_one : (is_made before x ≡ false → NoView before) → (user : Name) (e : SchemaElement)
          → is_made (record { user = user; element = e } ∷ before) x ≡ false
          → NoView (record { user = user; element = e } ∷ before)
      of_one others user (element.Table t) none =
          subst (λ l. AllByRecursion (λ w. is_its_name x (view_name w) ≡ false) l) (sym (append-nil (views_created before)))
          (others (or_parts (same_table (table_of user t.name) x) (list_any (λ d. same_table d.table x) (tables_of before)) none).1)
      of_one others user (element.View v) none =
          let parts = or_parts (same_table (table_of user v.name) x) (list_any (λ d. same_table d.table x) (tables_of before)) none in
          all_appended (λ w. is_its_name x (view_name w) ≡ false) (views_created before) (record { user = user; view = v } ∷ [])
          (others parts.1)
          (apart_turned (table_of user v.name).user (table_of user v.name).name x.user x.name parts.0, tt)
      of_one others user (element.Grant g) none =
          subst (λ l. AllByRecursion (λ w. is_its_name x (view_name w) ≡ false) l) (sym (append-nil (views_created before)))
          (others none)

-- ---- no base table has the name of a view

abbrev pub IsNoTable : List FullName → WrittenView → Type 0
IsNoTable tables w = AllByRecursion (λ t. is_table (view_name w).user (view_name w).name t ≡ false) tables

one_more : (tables : List FullName) (x : FullName) (views : List WrittenView) → AllByRecursion (IsNoTable tables) views
    → AllByRecursion (λ w. is_table x.user x.name (view_name w) ≡ false) views
    → AllByRecursion (IsNoTable (tables ++ x ∷ [])) views
one_more tables x [] old new = tt
one_more tables x (w ∷ views) old new = (
  all_appended (λ t. is_table (view_name w).user (view_name w).name t ≡ false) tables (x ∷ []) old.0
      (apart_turned x.user x.name (view_name w).user (view_name w).name new.0, tt),
  one_more tables x views old.1 new.1,
)

pub views_apart : (elements : Elements) → AreAccepted elements
    → AllByRecursion (IsNoTable (tables_created elements)) (views_created elements)
views_apart [] accepted = tt
views_apart (e ∷ before) accepted = of_one (views_apart before accepted.1) e.user e.element accepted.0
  where
    of_one : AllByRecursion (IsNoTable (tables_created before)) (views_created before) → (user : Name) (e : SchemaElement)
        → IsAccepted before user e
        → AllByRecursion (IsNoTable (tables_created (record { user = user; element = e } ∷ before)))
        (views_created (record { user = user; element = e } ∷ before))
    of_one others user (element.Table t) h =
        subst (λ l. AllByRecursion (IsNoTable (tables_created before ++ named_by user t.name ∷ [])) l)
        (sym (append-nil (views_created before)))
        (one_more (tables_created before) (named_by user t.name) (views_created before) others
        (no_view (table_of user t.name) before (table_is_new before user t h)))
    of_one others user (element.View v) h =
        subst (λ l. AllByRecursion (IsNoTable l) (views_created before ++ record { user = user; view = v } ∷ []))
        (sym (append-nil (tables_created before)))
        (all_appended (IsNoTable (tables_created before)) (views_created before) (record { user = user; view = v } ∷ [])
        others
        (no_table (table_of user v.name) before (view_is_new before user v h), tt))
    of_one others user (element.Grant g) h =
        subst (λ l. AllByRecursion (IsNoTable l) (views_created before ++ [])) (sym (append-nil (tables_created before)))
        (subst (λ l. AllByRecursion (IsNoTable (tables_created before)) l) (sym (append-nil (views_created before))) others)
