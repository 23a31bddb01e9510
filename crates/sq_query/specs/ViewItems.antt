-- What plain views in the FROM clause of a query specification show of the rows that its WHERE clause names (ISO/IEC 9075:1992, 7.4, 7.6 and
-- 11.19; own rule).
use Rattle.std.specs.Prelude.{◌≡◌, ◌<◌, ℕ, Bool, true, false, not, nat_eq, find, List, [], ◌∷◌, length, slice_get, Option, Some, None}
use Rattle.std.specs.List.{list_any}
use Rattle.sq_lex.specs.declared.name.Name.{Name}
use Rattle.sq_value.specs.declared.domain.Kind.{Kind}
use Rattle.sq_value.specs.declared.value.Value.{Value}
use Rattle.sq_store.specs.Content.{Content}
use Rattle.sq_store.specs.Keys.{Keys}
use Rattle.sq_meaning.specs.Environment.{Row, outermost}
use Rattle.sq_meaning.specs.Placed.{by_place}
use Rattle.sq_meaning.specs.Query.{rows}
use Rattle.sq_meaning.specs.Status.{Outcome}
use Rattle.sq_bound.specs.Condition.{cond_of, select_of}
use Rattle.sq_bound.specs.WellFormed.{IsSelect, TableKinds}
use Rattle.sq_bound.specs.declared.condition.BoundCond.{BoundCond}
use Rattle.sq_bound.specs.declared.condition.BoundSpecification.{BoundSpecification}
use Rattle.sq_bound.specs.declared.condition.TablePlace.{TablePlace}
use Rattle.sq_bound.specs.declared.condition.TablePlace.TheVariants.{Base, View}
use Rattle.sq_bound.specs.declared.names.BaseTable.{BaseTable}
use Rattle.sq_expression.specs.Frame.{inputs_of, lent, view_outcome}
use Rattle.sq_expression.specs.declared.table.BaseRows.{BaseRows}
use Rattle.sq_expression.specs.declared.table.ViewRows.{ViewRows}
use Rattle.sq_query.specs.Asked.{IsFalseUnder}
use Rattle.sq_query.specs.Items.{IsNamed, IsOnce, items_of, over}
use Rattle.sq_query.specs.MayRead.{MayRead}
use Rattle.sq_query.specs.Named.{AreTrustedIn, IsFalseOn}
use Rattle.sq_query.specs.Needed.{IsNeeded}
use Rattle.sq_query.specs.Specification.{IsWhere}
use Rattle.sq_query.specs.Shown.{AreRight, IsPath, shown_of}
use Rattle.sq_query.specs.Sought.{nothing_around}
use Rattle.sq_query.specs.Union.{AreFitting}
use Rattle.sq_query.specs.declared.named.Sure.TheVariants.{Noted}
use Rattle.sq_query.specs.declared.needed.Needed.{Needed}

abbrev pub is_view : TablePlace → Bool
is_view (Base place) = false
is_view (View place) = true

-- the rows of a view are among these
abbrev pub is_shown : ℕ → List ViewRows → Bool
is_shown place shown = list_any (λ own. nat_eq own.place place) shown

-- a table that is none of these views
abbrev pub is_hidden : List ViewRows → TablePlace → Bool
is_hidden shown (Base place) = true
is_hidden shown (View place) = not (is_shown place shown)

-- the tables, where these views have these rows
abbrev pub shown_or : Option ViewRows → Outcome (List Row) → Outcome (List Row)
shown_or None rows = rows
shown_or (Some own) rows = view_outcome own.rows.items own.failure

abbrev pub showing : List ViewRows → (TablePlace → Outcome (List Row)) → TablePlace → Outcome (List Row)
showing shown tables (Base place) = tables (Base place)
showing shown tables (View place) = shown_or (find (λ own. nat_eq own.place place) shown) (tables (View place))

-- a view stands in this item alone, and in no subquery, and its rows are not among these
pub record IsViewAlone (q : BoundSpecification) (item place : ℕ) (inner : Needed)
    (shown : List ViewRows) : Type 0 where
  pub once : IsOnce (View place) item (items_of q)
  pub apart : IsNeeded inner (View place) → ⊥
  pub fresh : is_shown place shown ≡ false

-- WHERE names the rows of the plain view in an item, and the view shows these of the rows of the base table under it
pub record IsShownItem (q : BoundSpecification) (columns : TableKinds) (queries : List BoundSpecification)
    (content : Content) (keys : List Keys) (values : List Value) (user : Name) (inner : Needed)
    (found : List BaseRows) (shown : List ViewRows) (own : ViewRows) : Type 0 where
  pub item : ℕ
  pub at : slice_get (items_of q) item ≡ Some (View own.place)
  pub alone : IsViewAlone q item own.place inner shown
  pub views : List ℕ
  pub under : BaseRows
  pub path : IsPath columns queries (own.place ∷ views) under.place
  pub there : under.place < length content
  pub condition : BoundCond
  pub is_where : IsWhere q condition
  pub named : IsNamed (IsFalseUnder queries (own.place ∷ views) (IsFalseOn item (items_of q) found nothing_around
      values user (AreTrustedIn Noted condition) (cond_of [] condition))) content keys under
  pub shows : (tables : TablePlace → Outcome (List Row))
      → AreRight (lent under.rows.items) tables user queries under.place (own.place ∷ views)
      → view_outcome own.rows.items own.failure
      ≡ shown_of (lent under.rows.items) tables user queries under.place (own.place ∷ views)

-- Over the rows that were found, and those that are shown of these views, a query specification outside every query has the rows that it has
-- over the tables with the rows that were found.
pub record AreServed (q : BoundSpecification) (columns : TableKinds) (values : List Value) (user : Name)
    (found : List BaseRows) (shown : List ViewRows) (tables : TablePlace → Outcome (List Row)) : Type 0 where
  pub fit : AreFitting columns (over found (showing shown tables))
  pub same : rows (by_place (over found tables)) (select_of q) (outermost (inputs_of values) user)
      ≡ rows (by_place (over found (showing shown tables))) (select_of q) (outermost (inputs_of values) user)

abbrev pub ServeViews : BoundSpecification → List BaseTable → TableKinds → List BoundSpecification → Content
    → Name → List Value → List BaseRows → List ViewRows → Type 0
ServeViews q bases columns queries content user values found shown =
    (parameters : List Kind) (tables : TablePlace → Outcome (List Row))
    → MayRead bases queries columns content user values parameters tables → IsSelect columns parameters [] q
    → AreFitting columns (over found tables) → AreServed q columns values user found shown tables
