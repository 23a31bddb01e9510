-- The views of a path, each found by its place (ISO/IEC 9075:1992, 11.19).
use Rattle.std.proofs.Common.{◌≡◌, ◌∙◌, ℕ, ◌<◌, List, [], ◌∷◌, Option, Some, None, Result, Bor, Ok, Err, ◌++◌, ap, refl, sym, subst}
use Rattle.std.specs.Prelude.{IfOk, IfSome, slice_get}
use Rattle.std.specs.List.{AllZip}
use Rattle.std.specs.declared.alloc.AllocError.{AllocError}
use Rattle.sq_lex.specs.declared.name.Name.{Name}
use Rattle.sq_meaning.specs.Environment.{Row}
use Rattle.sq_meaning.specs.Status.{Outcome, and_then, well_formed}
use Rattle.sq_meaning.specs.WellFormed.{HasValue}
use Rattle.sq_bound.specs.WellFormed.{IsSelect, TableKinds, before_view}
use Rattle.sq_bound.specs.declared.condition.BoundSpecification.{BoundSpecification}
use Rattle.sq_bound.specs.declared.condition.TablePlace.{TablePlace}
use Rattle.sq_bound.specs.declared.condition.TablePlace.TheVariants.{Base, View}
use Rattle.sq_bound.specs.declared.names.View.{View as BoundView}
use Rattle.sq_expression.specs.Fault.{IsRight}
use Rattle.sq_expression.specs.Frame.{view_outcome}
use Rattle.sq_expression.specs.declared.fault.Fault.{Fault}
use Rattle.sq_expression.specs.declared.table.ViewRows.{ViewRows}
use Rattle.sq_query.specs.Specification.{IsOver, with_rows}
use Rattle.sq_query.specs.Asked.{AreAsked, AreThrough, IsThrough, IsUnderneath}
use Rattle.sq_query.specs.declared.plain_view.Underneath.{Underneath}
use Rattle.sq_query.specs.Shown.{AreRight, AreShown, Asks, AsksAt, IsPath, IsPlainOver, IsPlainView, first_of, shown_of}
use Rattle.sq_query.specs.Table.{IsViewAt, rows_of_view}
use Rattle.sq_query.proofs.Keys.KnownKeys.{same_some}
use Rattle.sq_query.proofs.Needs.NeededViews.{reads_known, stands_before}
use Rattle.sq_query.proofs.Keys.Searched.{only_read}
use Rattle.sq_query.proofs.PlainViews.ThroughViews.{before_same}

-- ---- the table under a view

-- a query specification is over one table alone
pub same_table : (q : BoundSpecification) (t u : TablePlace) → IsOver q t → IsOver q u → t ≡ u
same_table q t u first second = let same : t ∷ [] ≡ u ∷ [] = sym first ∙ second in cc

pub over_views : (q : BoundSpecification) (m n : ℕ) → IsOver q (View m) → IsOver q (View n) → m ≡ n
over_views q m n first second = let same : View m ≡ View n = same_table q (View m) (View n) first second in cc

pub over_bases : (q : BoundSpecification) (m n : ℕ) → IsOver q (Base m) → IsOver q (Base n) → m ≡ n
over_bases q m n first second = let same : Base m ≡ Base n = same_table q (Base m) (Base n) first second in cc

pub over_either : (q : BoundSpecification) (m n : ℕ) → IsOver q (Base m) → IsOver q (View n) → ⊥
over_either q m n first second = let same : Base m ≡ View n = same_table q (Base m) (View n) first second in cc

module _ (columns : TableKinds) (view : ℕ) (q : BoundSpecification) (t : TablePlace) (well : IsSelect (before_view view columns) [] [] q) (over : IsOver q t) where
  under_before : HasValue (before_view view columns t)
  under_before = only_read (λ u. HasValue (before_view view columns u)) q t over (reads_known (before_view view columns) [] [] q well)

  pub under_known : HasValue (columns t)
  under_known = subst HasValue (before_same columns view t under_before) under_before

-- a view stands behind the one that its query is over
pub under_earlier : (columns : TableKinds) (view under : ℕ) (q : BoundSpecification) → IsSelect (before_view view columns) [] [] q → IsOver q (View under) → under < view
under_earlier columns view under q well over = stands_before columns view (View under) (under_before columns view q (View under) well over)

-- ---- paths

pub plain_view : (columns : TableKinds) (queries : List BoundSpecification) (view : ℕ) (t : TablePlace) (v : BoundView) → slice_get queries view ≡ Some v.query → IsViewAt columns view v → IsPlainOver v.query t → IsPlainView columns queries view t
plain_view columns queries view t v among is plain = record { query = v.query; is_query = among; well = is.0; kinds_are = is.1; plain = plain }

module _ (columns : TableKinds) (queries : List BoundSpecification) (view base : ℕ) (q : BoundSpecification) (among : slice_get queries view ≡ Some q) where
  over_same : (t : TablePlace) → (v : IsPlainView columns queries view t) → IsOver q t
  over_same t v = subst (λ (s : BoundSpecification). IsOver s t) (same_some v.query q (slice_get queries view) v.is_query among) v.plain.over

  -- a query that is over a view is over the next one of the path
  pub next_view : (under : ℕ) → IsOver q (View under) → (views : List ℕ) → IsPath columns queries (view ∷ views) base → (others : List ℕ) × (views ≡ under ∷ others)
  next_view under over [] path = absurd (over_either q base under (over_same (Base base) path.0) over)
  next_view under over (v ∷ views) path = (views, ap (λ (n : ℕ). n ∷ views) (over_views q v under (over_same (View v) path.0) over))

  -- a query that is over no view ends the path
  pub no_view_next : ((under : ℕ) → IsOver q (View under) → ⊥) → (views : List ℕ) → IsPath columns queries (view ∷ views) base → views ≡ []
  no_view_next none [] path = refl
  no_view_next none (v ∷ views) path = absurd (none v (over_same (View v) path.0))

-- ---- columns that are shown

module _ (queries : List BoundSpecification) (view : ℕ) (q : BoundSpecification) (among : slice_get queries view ≡ Some q) (own : List ℕ) where
  pub shows_at : (between columns : List ℕ) → AllZip (Asks q) between columns → AsksAt queries view between columns
  shows_at between columns zipped = subst (λ (o : Option BoundSpecification). IfSome o (λ s. AllZip (Asks s) between columns)) (sym among) zipped

zip_joined : {A B : Type 0} (R : A → B → Type 0) (xs others : List A) (ys more : List B) → AllZip R xs ys → AllZip R others more → AllZip R (xs ++ others) (ys ++ more)
zip_joined R [] others [] more one two = two
zip_joined R [] others (y ∷ ys) more one two = absurd one
zip_joined R (x ∷ xs) others [] more one two = absurd one
zip_joined R (x ∷ xs) others (y ∷ ys) more one two = (one.0, zip_joined R xs others ys more one.1 two)

module _ (queries : List BoundSpecification) where
  asks_joined : (o : Option BoundSpecification) (xs others ys more : List ℕ) → IfSome o (λ q. AllZip (Asks q) xs ys) → IfSome o (λ q. AllZip (Asks q) others more) → IfSome o (λ q. AllZip (Asks q) (xs ++ others) (ys ++ more))
  asks_joined None xs others ys more one two = tt
  asks_joined (Some q) xs others ys more one two = zip_joined (Asks q) xs others ys more one two

  shown_joined : (views xs others ys more : List ℕ) → AreShown queries views xs ys → AreShown queries views others more → AreShown queries views (xs ++ others) (ys ++ more)
  shown_joined [] xs others ys more one two = λ i. one i ++ two i
  shown_joined (view ∷ views) xs others ys more one two =
      (one.0 ++ two.0, shown_joined views xs others one.0 two.0 one.1 two.1, asks_joined (slice_get queries view) one.0 two.0 ys more one.2 two.2)

  none_shown : (views : List ℕ) → AreShown queries views [] []
  none_shown [] = refl
  none_shown (view ∷ views) = ([], none_shown views, by (slice_get queries view))
    where
      by : (o : Option BoundSpecification) → IfSome o (λ q. AllZip (Asks q) [] [])
      by None = tt
      by (Some q) = tt

  -- one column more
  pub shown_more : (views : List ℕ) (c n : ℕ) (cs ns : List ℕ) → AreShown queries views (c ∷ []) (n ∷ []) → AreShown queries views cs ns → AreShown queries views (c ∷ cs) (n ∷ ns)
  shown_more views c n cs ns one more = shown_joined views (c ∷ []) cs (n ∷ []) ns one more

  -- columns that are shown each are shown together
  pub shown_each : (views cs ns : List ℕ) → AllZip (λ c n. AreShown queries views (c ∷ []) (n ∷ [])) cs ns → AreShown queries views cs ns
  shown_each views [] [] each = none_shown views
  shown_each views [] (n ∷ ns) each = absurd each
  shown_each views (c ∷ cs) [] each = absurd each
  shown_each views (c ∷ cs) (n ∷ ns) each = shown_more views c n cs ns each.0 (shown_each views cs ns each.1)

-- ---- what is under a view

module _ (columns : TableKinds) (queries : List BoundSpecification) (view : ℕ) (v : BoundView) (among : slice_get queries view ≡ Some v.query) (is : IsViewAt columns view v) where
  -- a base table
  pub base_beneath : (base : ℕ) (through : Option (Bor (List (Option ℕ)))) (u : Underneath) → IsPlainOver v.query (Base base) → u.base ≡ base → through ≡ None → AreThrough v.query through u.columns.items → IsUnderneath columns queries view u
  base_beneath base through u plain at none are = record {
    views = [];
    path = (plain_view columns queries view (Base u.base) v among is (subst (λ (n : ℕ). IsPlainOver v.query (Base n)) (sym at) plain), tt);
    are = λ own column here.
        let h = subst (λ (t : Option (Bor (List (Option ℕ)))). IsThrough v.query t own column) none (are own column here) in
        (h.0 ∷ [], ap (λ (n : ℕ). n ∷ []) h.2, shows_at queries view v.query among [] (h.0 ∷ []) (column ∷ []) (h.1, tt));
  }

  -- another view
  view_beneath : (under : ℕ) (next u : Underneath) → IsPlainOver v.query (View under) → IsUnderneath columns queries under next → u.base ≡ next.base → AreAsked v.query next.columns.items u.columns.items → IsUnderneath columns queries view u
  view_beneath under next u plain below at are = record {
    views = under ∷ below.views;
    path = (plain_view columns queries view (View under) v among is plain, subst (IsPath columns queries (under ∷ below.views)) (sym at) below.path);
    are = λ own column here. let h = are own column here in (h.0 ∷ [], below.are own h.0 h.2, shows_at queries view v.query among [] (h.0 ∷ []) (column ∷ []) (h.1, tt));
  }

  pub beneath_so : (under : ℕ) (next : Underneath) (r : Result (Option Underneath) AllocError) → IsPlainOver v.query (View under) → IsUnderneath columns queries under next
      → IfOk r (λ found. IfSome found (λ u. (u.base ≡ next.base) × AreAsked v.query next.columns.items u.columns.items)) → IfOk r (λ found. IfSome found (IsUnderneath columns queries view))
  beneath_so under next (Err e) plain below h = tt
  beneath_so under next (Ok None) plain below h = tt
  beneath_so under next (Ok (Some u)) plain below h = view_beneath under next u plain below h.0 h.1

-- ---- rows that are shown

module _ (own : List Row) (tables : TablePlace → Outcome (List Row)) (user : Name) (columns : TableKinds) (queries : List BoundSpecification) (base : ℕ) where
  abbrev pub few_of : List ℕ → TablePlace → Outcome (List Row)
  few_of views = with_rows (first_of views base) (shown_of own tables user queries base views) tables

  abbrev pub IsShownOf : Result ViewRows Fault → Outcome (List Row) → Type 0
  IsShownOf r o = IfOk r (λ found. view_outcome found.rows.items found.failure ≡ o)

  -- what a view's query has over what the next view shows is what the view shows
  pub rows_shown_of : (view : ℕ) (views : List ℕ) (r : Result ViewRows Fault) → IsPath columns queries (view ∷ views) base → AreRight own tables user queries base (view ∷ views)
      → ((q : BoundSpecification) → slice_get queries view ≡ Some q → IsPlainOver q (first_of views base) → IsRight (rows_of_view (few_of views) user q) → IsShownOf r (rows_of_view (few_of views) user q))
      → IsShownOf r (shown_of own tables user queries base (view ∷ views))
  rows_shown_of view views r path right shows =
      let v = path.0 in
      let same = ap (λ (o : Option BoundSpecification). and_then (well_formed o) (rows_of_view (few_of views) user)) v.is_query in
      subst (IsShownOf r) (sym same) (shows v.query v.is_query v.plain (subst (λ (o : Outcome (List Row)). IsRight o) same right.0))
