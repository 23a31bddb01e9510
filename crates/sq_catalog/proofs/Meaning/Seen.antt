-- Columns as names see them, over columns of a base table.
use Rattle.std.proofs.Common.{◌≡◌, ℕ, zero, suc, ◌+◌, ◌<◌, Bool, true, if◌then◌else◌, List, [], ◌∷◌, ◌++◌, length, get_or, take, map, nat_eq, nat_lt, Some, refl, ap, sym, subst, ◌∙◌, true≢false, arith, unwrap_or, Result, Ok, Err, IfOk}
use Rattle.std.specs.List.{AllZip, list_all, slice_get}
use Rattle.std.proofs.lemmas.Option.{slice_get-get_or, slice_get_within}
use Rattle.std.proofs.lemmas.Bool.Decides.{nat_tests}
use Rattle.std.proofs.lemmas.List.{length-map, map-append, take_more}
use Rattle.sq_value.specs.Domain.{kind_of}
use Rattle.sq_value.specs.declared.domain.Kind.{Kind}
use Rattle.sq_value.specs.declared.domain.Kind.TheVariants.{Num, Chars, Vary}
use Rattle.sq_bound.specs.Names.{is_kind_at, same_kind}
use Rattle.sq_bound.specs.WellFormed.{base_kinds, kinds_of_columns}
use Rattle.sq_bound.specs.declared.names.BaseColumn.{BaseColumn}
use Rattle.sq_bound.specs.declared.names.BaseTable.{BaseTable}
use Rattle.sq_bound.specs.declared.names.Column.{Column}
use Rattle.sq_bound.specs.declared.names.Leaf.{Leaf}
use Rattle.sq_bound.specs.declared.query.UpdatableQuery.{UpdatableQuery}
use Rattle.sq_catalog.proofs.OneByOne.Zips.{on_value}
use Rattle.sq_catalog.specs.Stored.{AreColumnsOver}
use Rattle.sq_catalog.specs.Table.{typed_kinds}
use Rattle.sq_catalog.specs.declared.typed.TypedColumn.{TypedColumn}
use Rattle.sq_catalog.specs.View.{IsAbove, conditions_with}
use Rattle.sq_catalog.proofs.OneByOne.Listed.{all_push, all_weaker, below, is_below}

itself : (n : ℕ) → nat_eq n n ≡ true
itself n = grind (arith, nat_tests)

same_itself : (k : Kind) → same_kind k k ≡ true
same_itself (Num s) = itself s
same_itself (Chars n) = itself n
same_itself (Vary n) = itself n

no_place : (i : ℕ) → i < 0 → ⊥
no_place i lt = omega arith

some_same : {A : Type 0} (x y : A) → Some x ≡ Some y → x ≡ y
some_same x y h = ap (λ o. unwrap_or o x) h

-- a kind that is read stands there
pub kind_read : (kinds : List Kind) (i : ℕ) (k : Kind) → slice_get kinds i ≡ Some k → is_kind_at kinds i k ≡ true
kind_read [] i k h = absurd (no_place i (slice_get_within [] i k h))
kind_read (l ∷ kinds) zero k h = subst (λ x. same_kind l x ≡ true) (some_same l k h) (same_itself l)
kind_read (l ∷ kinds) (suc i) k h = kind_read kinds i k h

-- a position at which a kind stands is within the list
within : (kinds : List Kind) (i : ℕ) (k : Kind) → is_kind_at kinds i k ≡ true → nat_lt i (length kinds) ≡ true
within [] i k h = absurd (true≢false (sym h))
within (l ∷ kinds) zero k h = below 0 (length (l ∷ kinds)) (omega arith)
within (l ∷ kinds) (suc i) k h = below (suc i) (length (l ∷ kinds)) (omega (arith, is_below i (length kinds) (within kinds i k h)))

pub kinds_seen : (b : BaseTable) {kinds : List Kind} (columns : List Column) → base_kinds b ≡ kinds → list_all (λ c. is_kind_at kinds c.leaf_column c.kind) columns ≡ true → list_all (λ c. is_kind_at (base_kinds b) c.leaf_column c.kind) columns ≡ true
kinds_seen b columns e h = ap (λ ks. list_all (λ (c : Column). is_kind_at ks c.leaf_column c.kind) columns) e ∙ h

pub columns_seen : (b : BaseTable) {kinds : List Kind} (columns : List Column) → base_kinds b ≡ kinds → list_all (λ c. is_kind_at kinds c.leaf_column c.kind) columns ≡ true → list_all (λ c. nat_lt c.leaf_column (length b.columns)) columns ≡ true
columns_seen b columns e h =
    all_weaker (λ (c : Column). is_kind_at (base_kinds b) c.leaf_column c.kind) (λ (c : Column). nat_lt c.leaf_column (length b.columns))
    (λ c there. subst (λ n. nat_lt c.leaf_column n ≡ true) (length-map b.columns (λ (x : BaseColumn). kind_of x.domain)) (within (base_kinds b) c.leaf_column c.kind there)) columns (kinds_seen b columns e h)

-- columns of the kinds of others are as many
pub columns_counted : (columns : List Column) (typed : List TypedColumn) → kinds_of_columns columns ≡ typed_kinds typed → length columns ≡ length typed
columns_counted columns typed is = sym (length-map columns (λ (c : Column). c.kind)) ∙ ap length is ∙ length-map typed (λ (c : TypedColumn). kind_of c.domain)

-- a column more
pub over_next : (base kinds : List Kind) (columns : List Column) (i : ℕ) (k : Kind) (c : Column) → i < length kinds → k ≡ get_or kinds i k → c.kind ≡ k → is_kind_at base c.leaf_column k ≡ true
    → AreColumnsOver base (take i kinds) columns → AreColumnsOver base (take (i + 1) kinds) (columns ++ c ∷ [])
over_next base kinds columns i k c lt e same there h = record {
  kinds_are = map-append (λ (x : Column). x.kind) columns (c ∷ []) ∙ ap (λ ks. ks ++ c.kind ∷ []) h.kinds_are ∙ ap (λ x. take i kinds ++ x ∷ []) (same ∙ e) ∙ sym (take_more kinds i k lt);
  places = all_push (λ (x : Column). is_kind_at base x.leaf_column x.kind) columns c h.places (ap (is_kind_at base c.leaf_column) same ∙ there);
}

-- ---- columns that are made one after the other

get_mapped : {A : Type 0} (f : A → Kind) (xs : List A) (i : ℕ) (x : A) → get_or (map f xs) i (f x) ≡ f (get_or xs i x)
get_mapped f [] i x = refl
get_mapped f (y ∷ ys) zero x = refl
get_mapped f (y ∷ ys) (suc i) x = get_mapped f ys i x

within_mapped : {A : Type 0} (f : A → Kind) (xs : List A) (i : ℕ) → i < length xs → i < length (map f xs)
within_mapped f xs i lt = subst (λ n. i < n) (sym (length-map xs f)) lt

read_mapped : {A : Type 0} (f : A → Kind) (xs : List A) (i : ℕ) (x : A) → x ≡ get_or xs i x → f x ≡ get_or (map f xs) i (f x)
read_mapped f xs i x e = ap f e ∙ sym (get_mapped f xs i x)

-- the kind at its own position
pub own_kind : {A : Type 0} (f : A → Kind) (xs : List A) (i : ℕ) (x : A) → i < length xs → x ≡ get_or xs i x → is_kind_at (map f xs) i (f x) ≡ true
own_kind f xs i x lt e = kind_read (map f xs) i (f x) (slice_get-get_or (map f xs) i (f x) (within_mapped f xs i lt) ∙ ap Some (sym (read_mapped f xs i x e)))

pub column_next : {A : Type 0} (f : A → Kind) (xs : List A) (base : List Kind) (columns new : List Column) (i : ℕ) (x : A) (c : Column) → i < length xs → x ≡ get_or xs i x → new ≡ columns ++ c ∷ [] → c.kind ≡ f x
    → is_kind_at base c.leaf_column (f x) ≡ true → AreColumnsOver base (take i (map f xs)) columns → AreColumnsOver base (take (i + 1) (map f xs)) new
column_next f xs base columns new i x c lt e grown same there h =
    subst (λ (cs : List Column). AreColumnsOver base (take (i + 1) (map f xs)) cs) (sym grown)
    (over_next base (map f xs) columns i (f x) c (within_mapped f xs i lt) (read_mapped f xs i x e) same there h)

-- ---- columns of a base table at positions

pub kinds_zipped : {A : Type 0} (f : A → Kind) (base : List Kind) (ps : List ℕ) (xs : List A) (i : ℕ) (x : A) (d : ℕ) → AllZip (λ p k. slice_get base p ≡ Some k) ps (map f xs) → i < length xs → x ≡ get_or xs i x
    → slice_get base (get_or ps i d) ≡ Some (f x)
kinds_zipped f base [] [] i x d h lt e = absurd (no_place i lt)
kinds_zipped f base [] (y ∷ ys) i x d h lt e = absurd h
kinds_zipped f base (p ∷ ps) [] i x d h lt e = absurd h
kinds_zipped f base (p ∷ ps) (y ∷ ys) zero x d h lt e = h.0 ∙ ap (λ z. Some (f z)) (sym e)
kinds_zipped f base (p ∷ ps) (y ∷ ys) (suc i) x d h lt e = kinds_zipped f base ps ys i x d h.1 (omega arith) e

pub zip_length : {A : Type 0} (f : A → Kind) (base : List Kind) (ps : List ℕ) (xs : List A) → AllZip (λ p k. slice_get base p ≡ Some k) ps (map f xs) → length ps ≡ length xs
zip_length f base [] [] h = refl
zip_length f base [] (y ∷ ys) h = absurd h
zip_length f base (p ∷ ps) [] h = absurd h
zip_length f base (p ∷ ps) (y ∷ ys) h = ap suc (zip_length f base ps ys h.1)

pub parts_over : {L E : Type 0} (r : Result (List Column × L) E) (s : Result (List Column) E) (t : Result L E) (base : List Kind) (ps : List ℕ) (kinds : List Kind) → IfOk r (λ parts. (s ≡ Ok parts.0) × (t ≡ Ok parts.1))
    → IfOk s (λ placed. (base : List Kind) → AllZip (λ p k. slice_get base p ≡ Some k) ps kinds → AreColumnsOver base kinds placed) → AllZip (λ p k. slice_get base p ≡ Some k) ps kinds
    → IfOk r (λ parts. AreColumnsOver base kinds parts.0)
parts_over (Err x) s t base ps kinds h g over = tt
parts_over (Ok parts) s t base ps kinds h g over =
    subst (λ o. IfOk o (λ placed. (base : List Kind) → AllZip (λ p k. slice_get base p ≡ Some k) ps kinds → AreColumnsOver base kinds placed)) h.0 g base over

-- the columns of a base table that they are, one after the other
pub places_next : (below : List ℕ) (placed new : List Column) (i : ℕ) (c : Column) → i < length below → c.leaf_column ≡ get_or below i 0 → new ≡ placed ++ c ∷ [] → map (λ c. c.leaf_column) placed ≡ take i below
    → map (λ c. c.leaf_column) new ≡ take (i + 1) below
places_next below placed new i c lt e grown h =
    let at = λ (c : Column). c.leaf_column in
    ap (map at) grown ∙ map-append at placed (c ∷ []) ∙ ap (λ l. l ++ c.leaf_column ∷ []) h ∙ ap (λ n. take i below ++ n ∷ []) e ∙ sym (take_more below i 0 lt)

-- what is under a view, made of its columns and its leaf
pub parts_above : {E : Type 0} (both : Result (List Column × Leaf) E) (columns : Result (List Column) E) (leaf : Result Leaf E) (check_option : Bool) (over : UpdatableQuery) (below : List ℕ) → IfOk both (λ p. (columns ≡ Ok p.0) × (leaf ≡ Ok p.1))
    → below ≡ over.columns → IfOk columns (λ placed. map (λ c. c.leaf_column) placed ≡ below) → IfOk leaf (λ l. l.table ≡ over.target.leaf.table)
    → IfOk leaf (λ l. l.conditions ≡ conditions_with over.target.leaf.conditions over.target.condition) → IfOk leaf (λ l. l.demanded ≡ (if check_option then length l.conditions else over.target.leaf.demanded))
    → IfOk both (λ p. IsAbove check_option over p.0 p.1)
parts_above (Err e) columns leaf check_option over below parts same places table conditions demanded = tt
parts_above {E} (Ok p) columns leaf check_option over below parts same places table conditions demanded = record {
  table = on_value (λ (l : Leaf). l.table ≡ over.target.leaf.table) leaf p.1 parts.1 table;
  conditions = on_value (λ (l : Leaf). l.conditions ≡ conditions_with over.target.leaf.conditions over.target.condition) leaf p.1 parts.1 conditions;
  demanded = on_value (λ (l : Leaf). l.demanded ≡ (if check_option then length l.conditions else over.target.leaf.demanded)) leaf p.1 parts.1 demanded;
  shows = on_value (λ (cs : List Column). map (λ (c : Column). c.leaf_column) cs ≡ below) columns p.0 parts.0 places ∙ same;
}
