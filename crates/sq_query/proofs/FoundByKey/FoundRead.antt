-- What is read where some base tables were found by keys: those, the other tables of FROM, and those of the subqueries.
use Rattle.std.proofs.Common.{◌≡◌, ◌∙◌, ℕ, Bool, true, false, not, ◌||◌, List, [], ◌∷◌, ◌++◌, cond, find, nat_eq, Some, Result, refl, sym, Ok, Err}
use Rattle.std.specs.Prelude.{IfOk}
use Rattle.sq_lex.specs.declared.name.Name.{Name}
use Rattle.sq_value.specs.declared.value.Value.{Value}
use Rattle.sq_meaning.specs.Environment.{Row, outermost}
use Rattle.sq_meaning.specs.Placed.{by_place}
use Rattle.sq_meaning.specs.Query.{rows}
use Rattle.sq_meaning.specs.Status.{Outcome, and_then, well_formed}
use Rattle.sq_bound.specs.Condition.{select_of}
use Rattle.sq_bound.specs.WellFormed.{TableKinds}
use Rattle.sq_bound.specs.declared.condition.BoundSpecification.{BoundSpecification}
use Rattle.sq_bound.specs.declared.condition.TablePlace.{TablePlace}
use Rattle.sq_bound.specs.declared.condition.TablePlace.TheVariants.{Base, View}
use Rattle.sq_expression.specs.Frame.{inputs_of, lent, view_outcome}
use Rattle.sq_expression.specs.declared.fault.Fault.{Fault}
use Rattle.sq_expression.specs.declared.table.BaseRows.{BaseRows}
use Rattle.sq_expression.specs.declared.table.ViewRows.{ViewRows}
use Rattle.sq_query.specs.Items.{is_found, is_left, over, rows_or}
use Rattle.sq_query.specs.Sought.{found_of}
use Rattle.sq_query.specs.Needed.{AreKnown, IsNeeded, ReadsSelect}
use Rattle.sq_query.specs.Specification.{IsReadFor}
use Rattle.sq_query.specs.Table.{ReadsAsMeant, rows_among, rows_read}
use Rattle.sq_query.specs.Union.{AreFitting}
use Rattle.sq_query.specs.ViewItems.{is_hidden, is_shown, shown_or, showing}
use Rattle.sq_query.specs.declared.needed.Needed.{Needed}
use Rattle.sq_query.specs.declared.view.Tables.{Tables}
use Rattle.sq_query.proofs.Needs.NeededViews.{reads_weaker}

-- ---- what is left

pub left_known : (columns : TableKinds) (all left : Needed) → ((t : TablePlace) → IsNeeded left t → IsNeeded all t) → AreKnown columns all → AreKnown columns left
left_known columns all left fewer known t h = known t (fewer t h)

-- ---- what was read

module _ (bases : List BaseRows) (views : List ViewRows) (tables : TablePlace → Outcome (List Row)) where
  pub rows_over : (found : List BaseRows) (t : TablePlace) → (is_left found t ≡ true → rows_among bases views t ≡ tables t) → rows_among (found ++ bases) views t ≡ over found tables t
  rows_over found (View n) h = h refl
  rows_over [] (Base n) h = h refl
  rows_over (first ∷ found) (Base n) h = by (nat_eq first.place n) h (rows_over found (Base n))
    where
      by : (b : Bool) → (not (b || is_found n found) ≡ true → rows_among bases views (Base n) ≡ tables (Base n))
          → ((not (is_found n found) ≡ true → rows_among bases views (Base n) ≡ tables (Base n)) → rows_among (found ++ bases) views (Base n) ≡ over found tables (Base n))
          → and_then (well_formed (cond b (Some first) (find (λ (t : BaseRows). nat_eq t.place n) (found ++ bases)))) (λ t. Ok (lent t.rows.items)) ≡ rows_or (cond b (Some first) (found_of n found)) (tables (Base n))
      by true k rest = refl
      by false k rest = rest k

  views_over : (shown : List ViewRows) (n : ℕ) → (is_hidden shown (View n) ≡ true → rows_among bases views (View n) ≡ tables (View n)) → rows_among bases (shown ++ views) (View n) ≡ showing shown tables (View n)
  views_over [] n h = h refl
  views_over (first ∷ shown) n h = by (nat_eq first.place n) h (views_over shown n)
    where
      by : (b : Bool) → (not (b || is_shown n shown) ≡ true → rows_among bases views (View n) ≡ tables (View n))
          → ((not (is_shown n shown) ≡ true → rows_among bases views (View n) ≡ tables (View n)) → rows_among bases (shown ++ views) (View n) ≡ showing shown tables (View n))
          → and_then (well_formed (cond b (Some first) (find (λ (t : ViewRows). nat_eq t.place n) (shown ++ views)))) (λ t. view_outcome t.rows.items t.failure)
          ≡ shown_or (cond b (Some first) (find (λ (t : ViewRows). nat_eq t.place n) shown)) (tables (View n))
      by true k rest = refl
      by false k rest = rest k

  -- of base tables those that were found, and of views those that were shown
  pub all_over : (found : List BaseRows) (shown : List ViewRows) (t : TablePlace) → (is_left found t ≡ true → is_hidden shown t ≡ true → rows_among bases views t ≡ tables t)
      → rows_among (found ++ bases) (shown ++ views) t ≡ over found (showing shown tables) t
  all_over found shown (Base n) h = rows_over found (Base n) (λ is. h is refl)
  all_over found shown (View n) h = views_over shown n (h refl)

pub read_found : (columns : TableKinds) (tables : TablePlace → Outcome (List Row)) (q : BoundSpecification) (values : List Value) (caller : Name) (others : Needed) (found : List BaseRows) (shown : List ViewRows) (whole : Tables) (r : Result Tables Fault)
    → (rows (by_place tables) (select_of q) (outermost (inputs_of values) caller) ≡ rows (by_place (over found (showing shown tables))) (select_of q) (outermost (inputs_of values) caller)) → AreFitting columns (over found (showing shown tables))
    → ReadsSelect (λ t. is_left found t ≡ true → is_hidden shown t ≡ true → IsNeeded others t) (select_of q) → ReadsAsMeant others (rows_read whole) tables
    → IfOk r (λ all. all.bases.items ≡ found ++ whole.bases.items) → IfOk r (λ all. all.views.items ≡ shown ++ whole.views.items) → IfOk r (IsReadFor columns tables q values caller)
read_found columns tables q values caller others found shown whole (Err e) same fit reads as_meant bases views = tt
read_found columns tables q values caller others found shown whole (Ok all) same fit reads as_meant bases views = record {
  rows_of = over found (showing shown tables);
  fitting = fit;
  read = reads_weaker (λ t. is_left found t ≡ true → is_hidden shown t ≡ true → IsNeeded others t) (λ t. rows_read all t ≡ over found (showing shown tables) t)
      (λ t h. (λ i. rows_among (bases i) (views i) t) ∙ all_over whole.bases.items whole.views.items tables found shown t (λ is hidden. as_meant t (h is hidden))) (select_of q) reads;
  same = sym same;
}
