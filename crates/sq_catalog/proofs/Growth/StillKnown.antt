-- What is known stays known as tables and views are added.
use Rattle.std.proofs.Common.{◌≡◌, eqb-true, ℕ, zero, suc, ◌+◌, ◌<◌, ◌≤◌, Bool, true, false, not, List, [], ◌∷◌, ◌++◌, length, length-append, Option, None, Some, refl, sym, ap, subst, arith, lt-ltb, ltb-true, ◌∙◌}
use Rattle.std.proofs.lemmas.Grind.{common_steps}
use Rattle.std.proofs.lemmas.Bool.{and_parts}
use Rattle.std.proofs.lemmas.List.Quantifiers.{position-Some}
use Rattle.std.proofs.lemmas.Option.{slice_get-get_or}
use Rattle.std.specs.Cmp.Lexicographic.{pointwise, same_text}
use Rattle.std.specs.List.{position, position_or_len}
use Rattle.std.specs.Option.{option_map}
use Rattle.std.specs.Prelude.{cond, nat_eq, nat_lt, slice_get}
use Rattle.sq_lex.specs.declared.name.Name.{Name}
use Rattle.sq_bound.specs.Known.{KnownTable, KnownTables, StillKnown}
use Rattle.sq_bound.specs.declared.names.Column.{Column}
use Rattle.sq_catalog.specs.Catalog.{Catalog, IsNewName, SeenView, base_meant, is_table, known, known_at, known_first, table_number, view_meant}
use Rattle.sq_catalog.specs.declared.catalog.FullName.{FullName}

-- ---- lists that get longer

pub slice_kept : {A : Type 0} (xs ys : List A) (k : ℕ) (x : A) → slice_get xs k ≡ Some x → slice_get (xs ++ ys) k ≡ Some x
slice_kept [] ys k x e = cc
slice_kept (a ∷ xs) ys zero x e = e
slice_kept (a ∷ xs) ys (suc k) x e = slice_kept xs ys k x e

first_kept : (b : Bool) (m n k : ℕ) → cond b (1 + m) 0 < k + 1 → (m < k → n ≡ m) → cond b (1 + n) 0 ≡ cond b (1 + m) 0
first_kept true m n k lt h = ap (λ i. 1 + i) (h (omega (arith, lt)))
first_kept false m n k lt h = refl

index_kept : {A : Type 0} (p : A → Bool) (xs ys : List A) → position_or_len p xs < length xs → position_or_len p (xs ++ ys) ≡ position_or_len p xs
index_kept p [] ys lt = absurd (omega (arith, lt))
index_kept p (x ∷ xs) ys lt = first_kept (not (p x)) (position_or_len p xs) (position_or_len p (xs ++ ys)) (length xs) (omega (arith, lt)) (index_kept p xs ys)

if_some : (b : Bool) (m k : ℕ) → cond b (Some m) None ≡ Some k → (b ≡ true) × (m ≡ k)
if_some true m k e = (refl, cc)
if_some false m k e = cc

if_none : (b : Bool) (m : ℕ) → cond b (Some m) None ≡ None → b ≡ false
if_none true m e = cc
if_none false m e = refl

-- what is found is found in a longer list, too
pub position_kept : {A : Type 0} (p : A → Bool) (xs ys : List A) (k : ℕ) → position p xs ≡ Some k → position p (xs ++ ys) ≡ Some k
position_kept p xs ys k e =
    let found = if_some (nat_lt (position_or_len p xs) (length xs)) (position_or_len p xs) k e in
    let within : position_or_len p xs < length xs = ltb-true (position_or_len p xs) (length xs) found.0 in
    let same : position_or_len p (xs ++ ys) ≡ k = index_kept p xs ys within ∙ found.1 in
    let below : k < length (xs ++ ys) = omega (arith, within, found.1, length-append xs ys) in
    (λ i. cond (nat_lt (same i) (length (xs ++ ys))) (Some (same i)) None) ∙ ap (λ b. cond b (Some k) None) (lt-ltb k (length (xs ++ ys)) below)

further : (b : Bool) (m n k l : ℕ) → k + 1 ≤ cond b (1 + m) 0 → (k ≤ m → l ≤ n) → l + 1 ≤ cond b (1 + n) 0
further true m n k l le h = let rest : l ≤ n = h (omega (arith, le)) in omega (arith, rest)
further false m n k l le h = absurd (omega (arith, le))

past_new : {A : Type 0} (p : A → Bool) (xs : List A) (y : A) → p y ≡ false → length xs ≤ position_or_len p xs → length (xs ++ y ∷ []) ≤ position_or_len p (xs ++ y ∷ [])
past_new p [] y e le = let one : position_or_len p (y ∷ []) ≡ 1 = ap (λ b. cond (not b) (1 + 0) 0) e in omega (arith, one)
past_new p (x ∷ xs) y e le =
    let rest : length (xs ++ y ∷ []) + 1 ≤ position_or_len p (x ∷ (xs ++ y ∷ [])) =
    further (not (p x)) (position_or_len p xs) (position_or_len p (xs ++ y ∷ [])) (length xs) (length (xs ++ y ∷ [])) (omega (arith, le)) (past_new p xs y e) in
    omega (arith, rest)

-- what is not found, and is not what comes behind, is not found in both
position_new : {A : Type 0} (p : A → Bool) (xs : List A) (y : A) → position p xs ≡ None → p y ≡ false → position p (xs ++ y ∷ []) ≡ None
position_new p xs y none e =
    let past : length xs ≤ position_or_len p xs = not_lt (position_or_len p xs) (length xs) (if_none (nat_lt (position_or_len p xs) (length xs)) (position_or_len p xs) none) in
    let beyond : length (xs ++ y ∷ []) ≤ position_or_len p (xs ++ y ∷ []) = past_new p xs y e past in
    ap (λ b. cond b (Some (position_or_len p (xs ++ y ∷ []))) None) (lt_not (position_or_len p (xs ++ y ∷ [])) (length (xs ++ y ∷ [])) beyond)
  where
    not_lt : (m n : ℕ) → nat_lt m n ≡ false → n ≤ m
    not_lt m n e = grind (arith, common_steps)

    lt_not : (m n : ℕ) → n ≤ m → nat_lt m n ≡ false
    lt_not m n le = grind (arith, common_steps)

-- ---- what stands under a number

at_kept : {A : Type 0} (meant : ℕ → A → KnownTable) (all more : List A) (number longer : Option ℕ) (t : KnownTable) → ((k : ℕ) → number ≡ Some k → longer ≡ Some k) → known_at meant all number ≡ Some t → known_at meant (all ++ more) longer ≡ Some t
at_kept meant all more None longer t kept e = cc
at_kept {A} meant all more (Some k) longer t kept e = ap (known_at meant (all ++ more)) (kept k refl) ∙ stands (slice_get all k) refl e
  where
    stands : (o : Option A) → slice_get all k ≡ o → option_map (meant k) o ≡ Some t → option_map (meant k) (slice_get (all ++ more) k) ≡ Some t
    stands None there e = cc
    stands (Some x) there e = ap (option_map (meant k)) (slice_kept all more k x there) ∙ e

-- each number of a table has columns
never_without : (columns : List (List Column)) (tables : List FullName) (user name : Name) → nat_eq (length columns) (length tables) ≡ true → known_at base_meant columns (table_number tables user name) ≡ None → table_number tables user name ≡ None
never_without columns tables user name long e = number (table_number tables user name) refl e
  where
    number : (o : Option ℕ) → table_number tables user name ≡ o → known_at base_meant columns o ≡ None → table_number tables user name ≡ None
    number None is e = is
    number (Some k) is e =
        let below : k < length columns = subst (λ n. k < n) (sym (eqb-true (length columns) (length tables) long)) (position-Some (is_table user name) tables k (record { user = user; name = name }) is).0 in
        absurd (cc (ap (option_map (base_meant k)) (sym (slice_get-get_or columns k [] below)) ∙ e))

-- a view is meant where no base table is
first_then : (o p q : Option KnownTable) (t : KnownTable) → (p ≡ Some t → q ≡ Some t) → known_first o p ≡ Some t → known_first o q ≡ Some t
first_then (Some u) p q t keep e = e
first_then None p q t keep e = keep e

-- ---- a base table of a new name

pub base_still : (old new : Catalog) (name : FullName) (columns : List Column) → new.tables ≡ old.tables ++ name ∷ [] → new.columns ≡ old.columns ++ columns ∷ [] → new.view_names ≡ old.view_names → new.seen_views ≡ old.seen_views
    → IsNewName old name → StillKnown (known old) (known new)
base_still old new added columns tables_are columns_are names_same views_same is_new = λ user name t e.
    let longer = known_at base_meant (old.columns ++ columns ∷ []) (table_number (old.tables ++ added ∷ []) user name) in
    let same : known new user name ≡ known_first longer (view user name) =
    λ i. known_first (known_at base_meant (columns_are i) (table_number (tables_are i) user name)) (known_at view_meant (views_same i) (table_number (names_same i) user name)) in
    same ∙ first user name t (known_at base_meant old.columns (table_number old.tables user name)) refl e
  where
    view : KnownTables
    view user name = known_at view_meant old.seen_views (table_number old.view_names user name)

    other : (user name : Name) (t : KnownTable) (b : Bool) → is_table user name added ≡ b → table_number old.tables user name ≡ None → view user name ≡ Some t
        → known_first (known_at base_meant (old.columns ++ columns ∷ []) (table_number (old.tables ++ added ∷ []) user name)) (view user name) ≡ Some t
    other user name t false is none e =
        ap (λ n. known_first (known_at base_meant (old.columns ++ columns ∷ []) n) (view user name)) (position_new (is_table user name) old.tables added none is) ∙ e
    other user name t true is none e =
        let both = and_parts (pointwise nat_eq user added.user) (pointwise nat_eq name added.name) is in
        let user_is : user ≡ added.user = same_text user added.user (sym both.0) in
        let name_is : name ≡ added.name = same_text name added.name (sym both.1) in
        absurd (cc (ap (known_at view_meant old.seen_views) (sym (is_new.1)) ∙ (λ i. known_at view_meant old.seen_views (table_number old.view_names (sym user_is i) (sym name_is i))) ∙ e))

    first : (user name : Name) (t : KnownTable) (o : Option KnownTable) → known_at base_meant old.columns (table_number old.tables user name) ≡ o → known_first o (view user name) ≡ Some t
        → known_first (known_at base_meant (old.columns ++ columns ∷ []) (table_number (old.tables ++ added ∷ []) user name)) (view user name) ≡ Some t
    first user name t (Some u) is e =
        ap (λ o. known_first o (view user name))
        (at_kept base_meant old.columns (columns ∷ []) (table_number old.tables user name) (table_number (old.tables ++ added ∷ []) user name) u (position_kept (is_table user name) old.tables (added ∷ [])) is) ∙ e
    first user name t None is e = other user name t (is_table user name added) refl (never_without old.columns old.tables user name old.described is) e

-- ---- a view of a new name

pub view_still : (old new : Catalog) (names : List FullName) (seen : List SeenView) → new.tables ≡ old.tables → new.columns ≡ old.columns → new.view_names ≡ old.view_names ++ names → new.seen_views ≡ old.seen_views ++ seen
    → StillKnown (known old) (known new)
view_still old new names seen tables_same columns_same names_are views_are = λ user name t e.
    let base = known_at base_meant old.columns (table_number old.tables user name) in
    let longer = known_at view_meant (old.seen_views ++ seen) (table_number (old.view_names ++ names) user name) in
    let same : known new user name ≡ known_first base longer =
    λ i. known_first (known_at base_meant (columns_same i) (table_number (tables_same i) user name)) (known_at view_meant (views_are i) (table_number (names_are i) user name)) in
    same ∙ first_then base (known_at view_meant old.seen_views (table_number old.view_names user name)) longer t
    (at_kept view_meant old.seen_views seen (table_number old.view_names user name) (table_number (old.view_names ++ names) user name) t (position_kept (is_table user name) old.view_names names)) e
