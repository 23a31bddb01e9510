-- What is said of a statement by the procedure that is called: the catalog, the declared cursors, the user, and the
-- values of the parameters.
use Rattle.std.specs.Prelude.{◌≡◌, ℕ, true, List}
use Rattle.sq_value.specs.declared.domain.Kind.{Kind as ValueKind}
use Rattle.sq_store.specs.Content.{Content}
use Rattle.sq_bound.specs.Fits.{FitsCursor}
use Rattle.sq_bound.specs.WellFormed.{IsCursor, kinds_of_parameters}
use Rattle.sq_bound.specs.declared.query.BoundCursor.{BoundCursor}
use Rattle.sq_bound.specs.declared.statement.BoundFetch.{BoundFetch}
use Rattle.sq_bound.specs.declared.statement.BoundSelect.{BoundSelect}
use Rattle.sq_bound.specs.declared.statement.BoundStatement.{BoundStatement}
use Rattle.sq_catalog.specs.Catalog.{column_kinds}
use Rattle.sq_session.specs.Asked.{IsAsked}
use Rattle.sq_session.specs.Cursors.{HasKeptAt, HaveKept, IsWhole, is_over}
use Rattle.sq_session.specs.Fetch.{MayTakeFrom, MeansPlace}
use Rattle.sq_session.specs.Kind.{Fetching, Kind, Opening, Selecting, fetching, kind_of, opening, over_at, selecting}
use Rattle.sq_session.specs.Parameter.{AreGiven}
use Rattle.sq_session.specs.State.{State}
use Rattle.sq_session.specs.declared.called.Called.{Called}
use Rattle.sq_session.specs.declared.cursor.CursorState.{CursorState}

-- The kinds of the parameters of the procedure.
abbrev pub parameter_kinds : Called → List ValueKind
parameter_kinds c = kinds_of_parameters c.procedure.now.parameters

-- Each parameter has a value of its kind that is not null.
abbrev pub HasValues : Called → Type 0
HasValues c = AreGiven (kinds_of_parameters c.procedure.now.parameters) c.values.now

-- A call may perform a statement: it is in order, and each parameter has its value.
pub record MayPerform (c : Called) (s : BoundStatement) : Type 0 where
  pub asked : IsAsked (column_kinds c.catalog.now) c.catalog.now.bases c.cursors.now
      c.procedure.now.parameters s
  pub given : HasValues c

-- A call may open a cursor: it fits the base tables, it is well formed for the parameters, and each of these has its value.
pub record MayOpenCursor (c : Called) (k : BoundCursor) : Type 0 where
  pub fits : FitsCursor c.catalog.now.bases k
  pub well_formed : IsCursor (column_kinds c.catalog.now) (parameter_kinds c) k
  pub given : HasValues c

-- A state is in order for the catalog and the declared cursors.
abbrev pub IsWholeFor : Called → State → Type 0
IsWholeFor c s = IsWhole (column_kinds c.catalog.now) c.catalog.now.bases c.cursors.now s

-- Open cursors keep what they were declared to.
abbrev pub HaveKeptFor : Called → List CursorState → Type 0
HaveKeptFor c cursors = HaveKept (column_kinds c.catalog.now) c.cursors.now cursors

-- The kind of a statement of the procedure.
abbrev pub kind_for : Called → BoundStatement → Kind
kind_for c s = kind_of c.cursors.now c.procedure.now.user c.procedure.now.parameters s

-- What OPEN of the cursor with this number works on.
abbrev pub opening_for : Called → ℕ → Opening
opening_for c number = opening c.cursors.now c.procedure.now.user c.procedure.now.parameters number

-- What a FETCH works on.
abbrev pub fetching_for : Called → BoundFetch → Fetching
fetching_for c f = fetching c.cursors.now c.procedure.now.user c.procedure.now.parameters f

-- What a SELECT INTO works on.
abbrev pub selecting_for : Called → BoundSelect → Selecting
selecting_for c s = selecting c.procedure.now.user c.procedure.now.parameters s

-- A FETCH finds its cursor over what is declared and with what it has to keep; the orientation means a place, and the
-- targets take whatever row the cursor comes to.
pub record FindsCursor (c : Called) (f : BoundFetch) (tables : Content) (found : CursorState) : Type 0 where
  pub over : is_over (over_at c.cursors.now f.cursor) found ≡ true
  pub kept : HasKeptAt (column_kinds c.catalog.now) c.cursors.now f.cursor found
  pub place : MeansPlace c.values.now f.orientation
  pub taken : MayTakeFrom (fetching_for c f) tables found

-- OPEN changes cursors alone, and these keep what they were declared to.
pub record OnlyOpens (c : Called) (before after : State) : Type 0 where
  pub tables : after.tables ≡ before.tables
  pub kept : HaveKeptFor c after.cursors
