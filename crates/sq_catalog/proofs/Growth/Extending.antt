-- Kinds of columns as base tables and views are added: what is well formed stays so.
use Rattle.std.proofs.Common.{◌≡◌, ℕ, ◌<◌, Bool, true, false, length, if◌then◌else◌, nat_eq, nat_lt, List, [], ◌∷◌, ◌++◌, Option, Some, None, Result, Ok, Err, refl, ap, sym, subst, ◌∙◌, append-nil}
use Rattle.std.specs.List.{AllByRecursion, slice_get}
use Rattle.std.specs.Option.{IfSome, option_map}
use Rattle.std.specs.Result.{OnErr, OnOk}
use Rattle.std.proofs.lemmas.Grind.{flat_map-append}
use Rattle.std.proofs.lemmas.List.Elements.{All-get_or, All-weaker}
use Rattle.sq_value.specs.declared.domain.Kind.{Kind}
use Rattle.sq_meaning.specs.Status.{Outcome, not_well_formed, well_formed}
use Rattle.sq_meaning.specs.WellFormed.{HasValue}
use Rattle.sq_meaning.proofs.AnswerLaws.{all_weaker}
use Rattle.sq_bound.specs.Keyed.{is_plain_base}
use Rattle.sq_bound.specs.WellFormed.{Extends, IsBody as IsBodyOver, IsCond, IsCondOn, IsLeaf, IsSelect, IsTable, IsViewAmong, TableKinds, base_kinds, before_view, kinds_of_columns, kinds_of_select, of_base, only, place_of}
use Rattle.sq_bound.specs.declared.condition.BoundSpecification.{BoundSpecification}
use Rattle.sq_bound.specs.declared.condition.TablePlace.{TablePlace}
use Rattle.sq_bound.specs.declared.condition.TablePlace.TheVariants.{Base, View}
use Rattle.sq_bound.specs.declared.names.BaseTable.{BaseTable}
use Rattle.sq_bound.specs.declared.names.Column.{Column}
use Rattle.sq_bound.specs.declared.names.Leaf.{Leaf}
use Rattle.sq_bound.specs.declared.names.TableBody.{TableBody}
use Rattle.sq_bound.specs.declared.names.TableBody.TheVariants as body
use Rattle.sq_bound.specs.declared.names.TableDesc.{TableDesc}
use Rattle.sq_bound.specs.declared.condition.BoundCond.{BoundCond}
use Rattle.std.proofs.lemmas.Option.{IfSome_then, get_or_from_slice_get, slice_get_within}
use Rattle.std.specs.Borrow.{Bor}
use Rattle.sq_bound.proofs.Wider.{Keeps, before_wider, kept_value, is_cond_wider, is_leaf_wider, is_select_wider, is_table_wider}
use Rattle.sq_catalog.specs.Catalog.{Catalog, column_kinds, kinds_at, known_there, there_within}
use Rattle.sq_catalog.specs.Stored.{AreChecksAt, AreStored, AreTables, IsDescribed, IsNextView, IsOfCatalog, IsStored, IsTableOf, IsViewOver, queries_of, query_in}
use Rattle.sq_catalog.specs.declared.catalog.FullName.{FullName}
use Rattle.sq_catalog.proofs.OneByOne.Listed.{all_with, below, get_behind, get_more, same_number}

found_keeps : {A B : Type 0} (f : A → B) (o u : Option A) → ((x : A) → o ≡ Some x → u ≡ Some x) → Keeps (well_formed (option_map f o)) (well_formed (option_map f u))
found_keeps f (Some x) u h = ap (λ v. well_formed (option_map f v)) (h x refl)
found_keeps f None u h = tt

-- a base table more
pub bases_extend : (bases : List BaseTable) (b : BaseTable) (views : List BoundSpecification) → Extends (kinds_at bases views) (kinds_at (bases ++ b ∷ []) views)
bases_extend bases b views (Base n) kinds h =
    kept_value (kinds_at bases views (Base n)) (kinds_at (bases ++ b ∷ []) views (Base n)) kinds (found_keeps base_kinds (slice_get bases n) (slice_get (bases ++ b ∷ []) n) (λ x e. get_more bases b x n e)) h
bases_extend bases b views (View n) kinds h = h

-- a view more
view_extends : (bases : List BaseTable) (views : List BoundSpecification) (q : BoundSpecification) → Extends (kinds_at bases views) (kinds_at bases (views ++ q ∷ []))
view_extends bases views q (Base n) kinds h = h
view_extends bases views q (View n) kinds h =
    kept_value (kinds_at bases views (View n)) (kinds_at bases (views ++ q ∷ []) (View n)) kinds (found_keeps kinds_of_select (slice_get views n) (slice_get (views ++ q ∷ []) n) (λ x e. get_more views q x n e)) h

pub views_extend : (bases : List BaseTable) (views : List BoundSpecification) (b : TableBody) → Extends (kinds_at bases views) (kinds_at bases (views ++ query_in b))
views_extend bases views (body.Base own) = subst (λ (qs : List BoundSpecification). Extends (kinds_at bases views) (kinds_at bases qs)) (sym (append-nil views)) (λ t kinds h. h)
views_extend bases views (body.View v) = view_extends bases views v.query

tables_wider : (before after : TableKinds) (es : List (FullName × TableDesc)) → Extends before after → AreTables before es → AreTables after es
tables_wider before after es extends h = All-weaker (λ e. IsTable before e.1) (λ e. IsTable after e.1) (λ e there. is_table_wider before after extends e.1 there) es h

-- the tables and views that were there, and a base table more
pub tables_more : (old new : List BaseTable) (b : BaseTable) (views : List BoundSpecification) (es : List (FullName × TableDesc)) → new ≡ old ++ b ∷ [] → AreTables (kinds_at old views) es → AreTables (kinds_at new views) es
tables_more old new b views es grown h =
    subst (λ (bs : List BaseTable). AreTables (kinds_at bs views) es) (sym grown) (tables_wider (kinds_at old views) (kinds_at (old ++ b ∷ []) views) es (bases_extend old b views) h)

pub table_added : (old was new : List BaseTable) (b : BaseTable) (views : List BoundSpecification) (t : TableDesc) → old ≡ was → new ≡ old ++ b ∷ [] → IsTable (kinds_at (was ++ b ∷ []) views) t → IsTable (kinds_at new views) t
table_added old was new b views t same grown h = subst (λ (bs : List BaseTable). IsTable (kinds_at bs views) t) (sym (grown ∙ ap (λ bs. bs ++ b ∷ []) same)) h

views_added : (es : List (FullName × TableDesc)) (name : FullName) (t : TableDesc) → queries_of (es ++ (name, t) ∷ []) ≡ queries_of es ++ query_in t.body
views_added es name t = flat_map-append (λ (e : FullName × TableDesc). query_in e.1.body) es ((name, t) ∷ []) ∙ ap (λ (qs : List BoundSpecification). queries_of es ++ qs) (append-nil (query_in t.body))

-- a view was added, or none
pub tables_beside : {F : Type 0} (r : Result (Unit {0}) F) (bases : List BaseTable) (old new es : List (FullName × TableDesc)) (name : FullName) (t : TableDesc)
    → OnOk r (new ≡ old ++ (name, t) ∷ []) → OnErr r (new ≡ old) → AreTables (kinds_at bases (queries_of old)) es → AreTables (kinds_at bases (queries_of new)) es
tables_beside (Ok u) bases old new es name t added same h =
    subst (λ (vs : List (FullName × TableDesc)). AreTables (kinds_at bases (queries_of vs)) es) (sym added)
    (subst (λ (ks : List BoundSpecification). AreTables (kinds_at bases ks) es) (sym (views_added old name t))
    (tables_wider (kinds_at bases (queries_of old)) (kinds_at bases (queries_of old ++ query_in t.body)) es (views_extend bases (queries_of old) t.body) h))
tables_beside (Err f) bases old new es name t added same h = subst (λ (vs : List (FullName × TableDesc)). AreTables (kinds_at bases (queries_of vs)) es) (sym same) h

-- ---- the base table that is the last

own_kinds : (bases : List BaseTable) (b : BaseTable) (views : List BoundSpecification) → b.place ≡ length bases → kinds_at (bases ++ b ∷ []) views (Base b.place) ≡ Ok (base_kinds b)
own_kinds bases b views place = ap (λ (o : Option BaseTable). well_formed (option_map base_kinds o)) (get_behind bases b b.place place)

if_keeps : {A : Type 0} (test : Bool) (x : A) (s : Outcome A) → (test ≡ true → s ≡ Ok x) → Keeps (if test then Ok x else not_well_formed) s
if_keeps true x s h = h refl
if_keeps false x s h = tt

only_extends : (place : ℕ) (kinds : List Kind) (columns : TableKinds) → columns (Base place) ≡ Ok kinds → Extends (only place kinds) columns
only_extends place kinds columns there (Base n) ks h =
    kept_value (only place kinds (Base n)) (columns (Base n)) ks (if_keeps (nat_eq n place) kinds (columns (Base n)) (λ e. ap (λ k. columns (Base k)) (same_number n place e) ∙ there)) h
only_extends place kinds columns there (View n) ks h = kept_value (only place kinds (View n)) (columns (View n)) ks tt h

own_checks : (bases : List BaseTable) (b : BaseTable) (kinds : List Kind) (views : List BoundSpecification) → b.place ≡ length bases → kinds ≡ base_kinds b → AreChecksAt (length bases) kinds b.checks
    → AllByRecursion (IsCondOn (kinds_at (bases ++ b ∷ []) views) b) b.checks
own_checks bases b kinds views place e h =
    let there : AreChecksAt b.place kinds b.checks = subst (λ n. AreChecksAt n kinds b.checks) (sym place) h in
    let known : kinds_at (bases ++ b ∷ []) views (Base b.place) ≡ Ok kinds = own_kinds bases b views place ∙ ap Ok (sym e) in
    all_weaker (IsCond (only b.place kinds) [] (of_base b) []) (IsCondOn (kinds_at (bases ++ b ∷ []) views) b)
    (λ c w. is_cond_wider (only b.place kinds) (kinds_at (bases ++ b ∷ []) views) [] [] (only_extends b.place kinds (kinds_at (bases ++ b ∷ []) views) known) (λ n k p. p) (of_base b) [] c w) b.checks there

own_leaf : (bases : List BaseTable) (b : BaseTable) (views : List BoundSpecification) (l : Leaf) → b.place ≡ length bases → AllByRecursion (IsCondOn (kinds_at (bases ++ b ∷ []) views) b) b.checks → (l.table ≡ b) × (l.conditions ≡ [])
    → IsLeaf (kinds_at (bases ++ b ∷ []) views) l
own_leaf bases b views l place checks e = record {
  kinds_are = ap (λ (y : BaseTable). kinds_at (bases ++ b ∷ []) views (Base y.place)) e.0 ∙ own_kinds bases b views place ∙ ap (λ (y : BaseTable). Ok (base_kinds y)) (sym e.0);
  conditions = subst (λ (cs : List BoundCond). AllByRecursion (IsCondOn (kinds_at (bases ++ b ∷ []) views) l.table) cs) (sym e.1) tt;
  checks = subst (λ (y : BaseTable). AllByRecursion (IsCondOn (kinds_at (bases ++ b ∷ []) views) y) y.checks) (sym e.0) checks;
}

place_kinds : (columns : TableKinds) (b : BaseTable) (kinds : List Kind) (t : TableBody) → IsTableOf b t → columns (Base b.place) ≡ Ok kinds → columns (place_of t) ≡ Ok kinds
place_kinds columns b kinds (body.Base own) h there = ap (λ (y : BaseTable). columns (Base y.place)) h ∙ there
place_kinds columns b kinds (body.View v) h there = absurd h

base_body : (columns : TableKinds) (b : BaseTable) (kinds : List Kind) (t : TableBody) → IsTableOf b t → IsBodyOver columns kinds t
base_body columns b kinds (body.Base own) h = tt
base_body columns b kinds (body.View v) h = absurd h

-- nothing is between it and itself
plain_base : (b : BaseTable) (t : TableBody) (leaf : Option Leaf) → IfSome leaf (λ l. (l.table ≡ b) × (l.conditions ≡ [])) → is_plain_base t leaf ≡ true
plain_base b (body.Base own) None h = refl
plain_base b (body.Base own) (Some l) h = ap (λ (cs : List BoundCond). nat_eq (length cs) 0) h.1
plain_base b (body.View v) leaf h = refl

-- as names see it
pub table_made : (bases : List BaseTable) (name : FullName) (b : BaseTable) (columns : List Column) (views : List BoundSpecification) (t : TableDesc) → IsDescribed name b columns t → b.place ≡ length bases → kinds_of_columns columns ≡ base_kinds b
    → AreChecksAt (length bases) (kinds_of_columns columns) b.checks → IsTable (kinds_at (bases ++ b ∷ []) views) t
table_made bases name b columns views t h place kinds checks =
    let seen : kinds_of_columns t.columns ≡ base_kinds b = ap kinds_of_columns h.columns ∙ kinds in
    record {
      kinds_are = place_kinds (kinds_at (bases ++ b ∷ []) views) b (kinds_of_columns t.columns) t.body h.body (own_kinds bases b views place ∙ ap Ok (sym seen));
      leaf = IfSome_then t.leaf {P = λ (l : Leaf). (l.table ≡ b) × (l.conditions ≡ [])} {Q = IsLeaf (kinds_at (bases ++ b ∷ []) views)} h.leaf
          (λ l e. own_leaf bases b views l place (own_checks bases b (kinds_of_columns columns) views place kinds checks) e);
      body = base_body (kinds_at (bases ++ b ∷ []) views) b (kinds_of_columns t.columns) t.body h.body;
      plain = plain_base b t.body t.leaf h.leaf;
    }

-- ---- the view that is the last

value_there : {A : Type 0} (r : Outcome A) (x : A) → r ≡ Ok x → HasValue r
value_there r x h = subst HasValue (sym h) tt

if_below : {A : Type 0} (test : Bool) (r : Outcome A) (x : A) → test ≡ true → r ≡ Ok x → (if test then r else not_well_formed) ≡ Ok x
if_below true r x t h = h
if_below false r x t h = absurd cc

-- the views that are there are before the next one
all_before : (c : Catalog) → Extends (column_kinds c) (before_view (length c.views) (column_kinds c))
all_before c (Base n) kinds h = h
all_before c (View n) kinds h =
    let within : n < length c.views = there_within c.views n (known_there kinds_of_select (slice_get c.views n) (value_there (column_kinds c (View n)) kinds h)) in
    if_below (nat_lt n (length c.views)) (column_kinds c (View n)) kinds (below n (length c.views) within) h

abbrev view_number : TablePlace → ℕ → ℕ
view_number (Base n) m = m
view_number (View n) m = n

-- its query reads those alone
view_body : (c : Catalog) (after : TableKinds) (kinds : List Kind) (t : TableBody) → Extends (column_kinds c) after → place_of t ≡ View (length c.views) → IsViewOver (column_kinds c) kinds t → IsBodyOver after kinds t
view_body c after kinds (body.Base b) extends place h = absurd h
view_body c after kinds (body.View v) extends place h =
    let n : ℕ = length c.views in
    let here : v.place ≡ n = ap (λ p. view_number p n) place in
    let earlier : Extends (column_kinds c) (before_view n after) = λ t ks e. before_wider (column_kinds c) after extends n t ks (all_before c t ks e) in (
      subst (λ m. IsSelect (before_view m after) [] [] v.query) (sym here) (is_select_wider (column_kinds c) (before_view n after) [] [] earlier (λ m k e. e) [] v.query h.0),
      h.1,
    )

last_kinds : (bases : List BaseTable) (views : List BoundSpecification) (columns : TableKinds) (kinds : List Kind) (b : TableBody) → IsViewOver columns kinds b → kinds_at bases (views ++ query_in b) (View (length views)) ≡ Ok kinds
last_kinds bases views columns kinds (body.Base own) h = absurd h
last_kinds bases views columns kinds (body.View v) h = ap (λ o. well_formed (option_map kinds_of_select o)) (get_behind views v.query (length views) refl) ∙ ap Ok (sym h.1)

plain_view : (columns : TableKinds) (kinds : List Kind) (t : TableBody) (leaf : Option Leaf) → IsViewOver columns kinds t → is_plain_base t leaf ≡ true
plain_view columns kinds (body.Base b) leaf h = absurd h
plain_view columns kinds (body.View v) leaf h = refl

pub view_made : (c : Catalog) (name : FullName) (t : TableDesc) → IsNextView c name t → IsTable (kinds_at c.bases (c.views ++ query_in t.body)) t
view_made c name t h =
    let after : TableKinds = kinds_at c.bases (c.views ++ query_in t.body) in
    let extends : Extends (column_kinds c) after = views_extend c.bases c.views t.body in
    record {
      kinds_are = ap after h.place ∙ last_kinds c.bases c.views (column_kinds c) (kinds_of_columns t.columns) t.body h.body;
      leaf = IfSome_then t.leaf {P = IsLeaf (column_kinds c)} {Q = IsLeaf after} h.leaf (is_leaf_wider (column_kinds c) after extends);
      body = view_body c after (kinds_of_columns t.columns) t.body extends h.place h.body;
      plain = plain_view (column_kinds c) (kinds_of_columns t.columns) t.body t.leaf h.body;
    }

-- the view that was added stands among the others
pub view_beside : {F : Type 0} (r : Result (Unit {0}) F) (c : Catalog) (bases : List BaseTable) (old new : List (FullName × TableDesc)) (name : FullName) (t : TableDesc)
    → OnOk r (new ≡ old ++ (name, t) ∷ []) → OnErr r (new ≡ old) → bases ≡ c.bases → queries_of old ≡ c.views → IsNextView c name t
    → AreTables (kinds_at bases (queries_of old)) old → AreTables (kinds_at bases (queries_of new)) new
view_beside (Ok u) c bases old new name t added same b v h all =
    let qs : List BoundSpecification = queries_of old ++ query_in t.body in
    let grown : queries_of new ≡ qs = ap queries_of added ∙ views_added old name t in
    let here : IsTable (kinds_at bases qs) t =
    subst (λ (bs : List BaseTable). IsTable (kinds_at bs qs) t) (sym b) (subst (λ (vs : List BoundSpecification). IsTable (kinds_at c.bases (vs ++ query_in t.body)) t) (sym v) (view_made c name t h)) in
    let wide : AreTables (kinds_at bases qs) old = tables_wider (kinds_at bases (queries_of old)) (kinds_at bases qs) old (views_extend bases (queries_of old) t.body) all in
    subst (λ (vs : List BoundSpecification). AreTables (kinds_at bases vs) new) (sym grown)
    (subst (λ (vs : List (FullName × TableDesc)). AreTables (kinds_at bases qs) vs) (sym added) (all_with (λ (e : FullName × TableDesc). IsTable (kinds_at bases qs) e.1) old (name, t) wide here))
view_beside (Err f) c bases old new name t added same b v h all = subst (λ (vs : List (FullName × TableDesc)). AreTables (kinds_at bases (queries_of vs)) vs) (sym same) all

-- ---- tables and views that are read

pub table_read : (c d : Catalog) (es : List (FullName × TableDesc)) (place : ℕ) (name : FullName) (t : TableDesc) → c ≡ d → AreTables (column_kinds c) es → slice_get es place ≡ Some (name, t) → IsTable (column_kinds d) t
table_read c d es place name t e h there =
    subst (λ (s : Catalog). IsTable (column_kinds s) t) e
    (subst (λ (x : FullName × TableDesc). IsTable (column_kinds c) x.1) (get_or_from_slice_get es place (name, t) (name, t) there)
    (All-get_or (λ (x : FullName × TableDesc). IsTable (column_kinds c) x.1) es place (name, t) (slice_get_within es place (name, t) there) h))

pub tables_stored : (c d : Catalog) (o : Option (Bor TableDesc)) (es : List (FullName × TableDesc)) → c ≡ d → AreStored c.bases es → IfSome o (λ t. (bases : List BaseTable) → AreStored bases es → IsStored bases t.now)
    → IfSome o (λ t. IsStored d.bases t.now)
tables_stored c d None es e h f = tt
tables_stored c d (Some t) es e h f = subst (λ (s : Catalog). IsStored s.bases t.now) e (f c.bases h)

pub of_catalog : (c : Catalog) (o : Option (Bor TableDesc)) → IfSome o (λ t. IsStored c.bases t.now) → IfSome o (λ t. IsViewAmong c.views t.now.body) → IfSome o (λ t. IsTable (column_kinds c) t.now)
    → IfSome o (λ t. IsOfCatalog c t.now)
of_catalog c None stored view well_formed = tt
of_catalog c (Some t) stored view well_formed = record { stored = stored; view = view; well_formed = well_formed }

pub tables_read : (c d : Catalog) (o : Option (Bor TableDesc)) (es : List (FullName × TableDesc)) → c ≡ d → AreTables (column_kinds c) es → IfSome o (λ t. (columns : TableKinds) → AreTables columns es → IsTable columns t.now)
    → IfSome o (λ t. IsTable (column_kinds d) t.now)
tables_read c d None es e h f = tt
tables_read c d (Some t) es e h f = subst (λ (s : Catalog). IsTable (column_kinds s) t.now) e (f (column_kinds c) h)
