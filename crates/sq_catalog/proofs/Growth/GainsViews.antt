-- A catalog grows view by view.
use Rattle.std.proofs.Common.{◌≡◌, ℕ, ◌+◌, ◌<◌, true, List, [], ◌∷◌, ◌++◌, length, get_or, map, take, flat_map, Option, Some, None, Ok, Err, Result, refl, ap, sym, ◌∙◌, append_assoc, append-nil}
use Rattle.std.proofs.lemmas.Grind.{flat_map-append}
use Rattle.std.proofs.lemmas.List.{map-append}
use Rattle.std.proofs.lemmas.Option.{IfSome_then}
use Rattle.std.specs.Map.{keys_of}
use Rattle.std.specs.Result.{OnOk, is_ok}
use Rattle.sq_lex.specs.declared.name.Name.{Name}
use Rattle.sq_value.specs.declared.domain.Kind.{Kind}
use Rattle.sq_tree.specs.declared.list.CommaList.{CommaList}
use Rattle.sq_meaning.specs.Spelled.{select_of}
use Rattle.sq_bound.specs.Condition as tree
use Rattle.sq_bound.specs.Known.{KnownTables, StillKnown, Under}
use Rattle.sq_bound.specs.WellFormed.{TableKinds, kinds_of_columns, kinds_of_select}
use Rattle.sq_bound.specs.declared.condition.BoundSpecification.{BoundSpecification}
use Rattle.sq_bound.specs.declared.names.Column.{Column}
use Rattle.sq_bound.specs.declared.names.TableBody.{TableBody}
use Rattle.sq_bound.specs.declared.names.TableBody.TheVariants as body
use Rattle.sq_bound.specs.declared.names.TableDesc.{TableDesc}
use Rattle.sq_binding.proofs.Schemas.Made.{zip_weaker}
use Rattle.sq_binding.specs.Names.{outside}
use Rattle.sq_binding.proofs.Placing.MoreKnown.{names_stay, select_stays, updatable_stays}
use Rattle.sq_catalog.specs.Catalog.{Catalog, IsNewName, SeenView, column_kinds, known, meant}
use Rattle.sq_catalog.specs.Stored.{IsNextView, IsViewOver, columns_of, queries_of, query_in, seen, seen_of}
use Rattle.sq_catalog.specs.Views.{AddsViews, GainsViews, HasNamesOf, HasQueryKinds, HasQueryOf, IsSeenAs, IsUnderView, IsViewOf, WrittenView, column_names, names_written, view_name}
use Rattle.sq_catalog.specs.declared.catalog.FullName.{FullName}
use Rattle.sq_catalog.proofs.Growth.Gains.{keys_append, parts_next, zip_append}
use Rattle.sq_catalog.proofs.Growth.StillKnown.{base_still, view_still}

-- ---- a view stays what it is

names_kept : (less more : KnownTables) (w : WrittenView) (columns : List Column) → StillKnown less more → HasNamesOf less w columns → HasNamesOf more w columns
names_kept less more w columns keep h = listed_or w.view.columns h
  where
    listed_or : (list : Option (CommaList Name)) → column_names list (names_written less w) ≡ Ok (map (λ (c : Column). Some c.name) columns)
        → column_names list (names_written more w) ≡ Ok (map (λ (c : Column). Some c.name) columns)
    listed_or None h = names_stay less more keep (select_of w.user w.view.query) (map (λ (c : Column). Some c.name) columns) h
    listed_or (Some list) h = h

query_kept : (less more : KnownTables) (w : WrittenView) (q : BoundSpecification) → StillKnown less more → HasQueryOf less w q → HasQueryOf more w q
query_kept less more w q keep h = select_stays less more keep (outside less []) (select_of w.user w.view.query) (tree.select_of q) h

under_kept : (less more : KnownTables) (w : WrittenView) (columns : List Column) (u : Under) → StillKnown less more → IsUnderView less w columns u → IsUnderView more w columns u
under_kept less more w columns u keep h = record {
  over = h.over;
  is_over = updatable_stays less more keep [] (select_of w.user w.view.query) h.over h.is_over;
  base = h.base;
  conditions = h.conditions;
  demanded = h.demanded;
  shows = h.shows;
}

seen_kept : (less more : KnownTables) (w : WrittenView) (v : SeenView) → StillKnown less more → IsSeenAs less w v → IsSeenAs more w v
seen_kept less more w v keep h = record {
  names = names_kept less more w v.columns keep h.names;
  under = IfSome_then v.under {P = IsUnderView less w v.columns} {Q = IsUnderView more w v.columns} h.under (λ u is. under_kept less more w v.columns u keep is);
}

-- ---- views that are added one after the other

-- none
pub views_kept : (a b : Catalog) → StillKnown (known a) (known b) → b.view_names ≡ a.view_names → b.seen_views ≡ a.seen_views → b.views ≡ a.views → GainsViews a b []
views_kept a b still names seen views = record {
  seen = [];
  queries = [];
  added = record { view_names = names ∙ sym (append-nil a.view_names); seen_views = seen ∙ sym (append-nil a.seen_views); views = views ∙ sym (append-nil a.views) };
  still = still;
  seen_are = tt;
  queries_are = tt;
  kinds_are = tt;
}

pub views_none : (a : Catalog) → GainsViews a a []
views_none a = views_kept a a (λ user name t e. e) refl refl refl

-- with what a catalog held before
pub views_as_before : (a b : Catalog) → b.tables ≡ a.tables → b.columns ≡ a.columns → b.view_names ≡ a.view_names → b.seen_views ≡ a.seen_views → b.views ≡ a.views → GainsViews a b []
views_as_before a b tables columns names seen views =
    let still : StillKnown (known a) (known b) = λ user name t e. (λ i. meant (tables i) (columns i) (names i) (seen i) user name) ∙ e in
    views_kept a b still names seen views

pub views_none_if : {E : Type 0} (r : Result (Unit {0}) E) (a b : Catalog) → b.tables ≡ a.tables → b.columns ≡ a.columns → b.view_names ≡ a.view_names → b.seen_views ≡ a.seen_views → b.views ≡ a.views → OnOk r (GainsViews a b [])
views_none_if (Ok u) a b tables columns names seen views = views_as_before a b tables columns names seen views
views_none_if (Err e) a b tables columns names seen views = tt

on_ok : {E : Type 0} (r : Result (Unit {0}) E) {P Q : Type 0} → (P → Q) → OnOk r P → OnOk r Q
on_ok (Ok u) f h = f h
on_ok (Err e) f h = tt

columns_more : (old new : List (FullName × TableDesc)) (name : FullName) (t : TableDesc) → new ≡ old ++ (name, t) ∷ [] → columns_of new ≡ columns_of old ++ t.columns ∷ []
columns_more old new name t e = ap columns_of e ∙ map-append (λ (e : FullName × TableDesc). e.1.columns) old ((name, t) ∷ [])

seen_more : (old new : List (FullName × TableDesc)) (name : FullName) (t : TableDesc) → new ≡ old ++ (name, t) ∷ [] → seen_of new ≡ seen_of old ++ seen t ∷ []
seen_more old new name t e = ap seen_of e ∙ map-append (λ (e : FullName × TableDesc). seen e.1) old ((name, t) ∷ [])

-- a base table behind the others, where the views stay
pub views_beside : {E : Type 0} (r : Result (Unit {0}) E) (a b : Catalog) (old new : List (FullName × TableDesc)) (name : FullName) (t : TableDesc) → IsNewName a name → keys_of old ≡ a.tables → columns_of old ≡ a.columns
    → b.tables ≡ keys_of new → b.columns ≡ columns_of new → b.view_names ≡ a.view_names → b.seen_views ≡ a.seen_views → b.views ≡ a.views → OnOk r (new ≡ old ++ (name, t) ∷ []) → OnOk r (GainsViews a b [])
views_beside r a b old new name t is_new tables columns new_tables new_columns names seen views =
    on_ok r (λ (e : new ≡ old ++ (name, t) ∷ []). views_kept a b
    (base_still a b name t.columns (new_tables ∙ ap keys_of e ∙ keys_append old name t ∙ ap (λ l. l ++ name ∷ []) tables) (new_columns ∙ columns_more old new name t e ∙ ap (λ l. l ++ t.columns ∷ []) columns) names seen is_new)
    names seen views)

-- a view behind the others
pub adds_view : {E : Type 0} (r : Result (Unit {0}) E) (a b : Catalog) (old new : List (FullName × TableDesc)) (name : FullName) (t : TableDesc) → keys_of old ≡ a.view_names → seen_of old ≡ a.seen_views → queries_of old ≡ a.views
    → b.view_names ≡ keys_of new → b.seen_views ≡ seen_of new → b.views ≡ queries_of new → OnOk r (new ≡ old ++ (name, t) ∷ []) → OnOk r (AddsViews a b (name ∷ []) (seen t ∷ []) (query_in t.body))
adds_view r a b old new name t names views queries new_names new_views new_queries =
    let query = λ (e : FullName × TableDesc). query_in e.1.body in
    on_ok r (λ (e : new ≡ old ++ (name, t) ∷ []). record {
      view_names = new_names ∙ ap keys_of e ∙ keys_append old name t ∙ ap (λ l. l ++ name ∷ []) names;
      seen_views = new_views ∙ seen_more old new name t e ∙ ap (λ l. l ++ seen t ∷ []) views;
      views = new_queries ∙ ap queries_of e ∙ flat_map-append query old ((name, t) ∷ []) ∙ ap (λ l. queries_of old ++ l) (append-nil (query_in t.body)) ∙ ap (λ l. l ++ query_in t.body) queries;
    })

-- its columns are of the kinds of its query's
query_kinds : (columns : TableKinds) (kinds : List Kind) (b : TableBody) (q : BoundSpecification) → IsViewOver columns kinds b → query_in b ≡ q ∷ [] → kinds ≡ kinds_of_select q
query_kinds columns kinds (body.Base own) q h e = absurd h
query_kinds columns kinds (body.View v) q h e = let same : v.query ≡ q = cc in h.1 ∙ ap kinds_of_select same

-- one
pub views_one : {E : Type 0} (r : Result (Unit {0}) E) (a b : Catalog) (w : WrittenView) (t : TableDesc) → IsViewOf (known a) w t → IsViewOver (column_kinds a) (kinds_of_columns t.columns) t.body → b.tables ≡ a.tables → b.columns ≡ a.columns
    → OnOk r (AddsViews a b (view_name w ∷ []) (seen t ∷ []) (query_in t.body)) → OnOk r (GainsViews a b (w ∷ []))
views_one (Ok u) a b w t is over tables columns h =
    let still = view_still a b (view_name w ∷ []) (seen t ∷ []) tables columns h.view_names h.seen_views in record {
      seen = seen t ∷ [];
      queries = is.query ∷ [];
      added = record { view_names = h.view_names; seen_views = h.seen_views; views = h.views ∙ ap (λ l. a.views ++ l) is.stands_for };
      still = still;
      seen_are = (seen_kept (known a) (known b) w (seen t) still is.is_seen, tt);
      queries_are = (query_kept (known a) (known b) w is.query still is.is_written, tt);
      kinds_are = (query_kinds (column_kinds a) (kinds_of_columns t.columns) t.body is.query over is.stands_for, tt);
    }
views_one (Err e) a b w t is over tables columns h = tt

-- a view is added, and what its owner holds on it behind that
pub view_created : {E : Type 0} (r added : Result (Unit {0}) E) (a b c : Catalog) (w : WrittenView) (name : FullName) (t : TableDesc) → IsViewOf (known a) w t → IsNextView a name t → name ≡ view_name w → is_ok added ≡ true → (b.tables ≡ a.tables) × (b.columns ≡ a.columns)
    → OnOk added (AddsViews a b (name ∷ []) (seen t ∷ []) (query_in t.body)) → c.tables ≡ b.tables → c.columns ≡ b.columns → c.view_names ≡ b.view_names → c.seen_views ≡ b.seen_views → c.views ≡ b.views
    → OnOk r (GainsViews a c (w ∷ []))
view_created (Err e) added a b c w name t is next named ok kept adds tables columns names views queries = tt
view_created (Ok u) (Err e) a b c w name t is next named ok kept adds tables columns names views queries = cc
view_created {E} (Ok u) (Ok v) a b c w name t is next named ok kept adds tables columns names views queries =
    views_one {E = E} (Ok u) a c w t is next.body (tables ∙ kept.0) (columns ∙ kept.1)
    (record { view_names = names ∙ adds.view_names ∙ ap (λ n. a.view_names ++ n ∷ []) named; seen_views = views ∙ adds.seen_views; views = queries ∙ adds.views })

pub views_first : (a b : Catalog) (views : List WrittenView) → GainsViews a b views → GainsViews a b (views ++ [])
views_first a b views h = rw (append-nil views) h

pub views_more : (a b c : Catalog) (views more : List WrittenView) → GainsViews a b views → GainsViews b c more → GainsViews a c (views ++ more)
views_more a b c views more p q = record {
  seen = p.seen ++ q.seen;
  queries = p.queries ++ q.queries;
  added = record {
    view_names = q.added.view_names ∙ ap (λ l. l ++ map view_name more) p.added.view_names ∙ append_assoc a.view_names (map view_name views) (map view_name more) ∙ ap (λ l. a.view_names ++ l) (sym (map-append view_name views more));
    seen_views = q.added.seen_views ∙ ap (λ l. l ++ q.seen) p.added.seen_views ∙ append_assoc a.seen_views p.seen q.seen;
    views = q.added.views ∙ ap (λ l. l ++ q.queries) p.added.views ∙ append_assoc a.views p.queries q.queries;
  };
  still = λ user name t e. q.still user name t (p.still user name t e);
  seen_are = zip_append (IsSeenAs (known c)) views more p.seen q.seen
      (zip_weaker (IsSeenAs (known b)) (IsSeenAs (known c)) (λ w v h. seen_kept (known b) (known c) w v q.still h) views p.seen p.seen_are) q.seen_are;
  queries_are = zip_append (HasQueryOf (known c)) views more p.queries q.queries
      (zip_weaker (HasQueryOf (known b)) (HasQueryOf (known c)) (λ w s h. query_kept (known b) (known c) w s q.still h) views p.queries p.queries_are) q.queries_are;
  kinds_are = zip_append HasQueryKinds p.seen q.seen p.queries q.queries p.kinds_are q.kinds_are;
}

pub views_next : {X : Type 0} (f : X → List WrittenView) (before : List WrittenView) (parts : List X) (i : ℕ) (x : X) (a b c : Catalog) → i < length parts → x ≡ get_or parts i x
    → GainsViews a b (before ++ flat_map f (take i parts)) → GainsViews b c (f x) → GainsViews a c (before ++ flat_map f (take (i + 1) parts))
views_next f before parts i x a b c lt e p q = rw (parts_next f before parts i x lt e) (views_more a b c (before ++ flat_map f (take i parts)) (f x) p q)
