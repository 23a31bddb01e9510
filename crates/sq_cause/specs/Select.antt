-- Why a SELECT INTO sets no target, or only a part of one (ISO/IEC 9075:1992, 13.5): its query has no row, or several, or a target can't take its value of
-- the only row.
use Rattle.std.specs.Prelude.{◌≡◌, ◌<◌, true, List, [], ◌∷◌, length, Ok}
use Rattle.sq_value.specs.declared.value.Value.{Value}
use Rattle.sq_store.specs.Content.{Content}
use Rattle.sq_meaning.specs.declared.status.Status.{Status}
use Rattle.sq_meaning.specs.declared.status.Status.TheVariants as status
use Rattle.sq_session.specs.Kind.{Kind, Selecting}
use Rattle.sq_session.specs.Schemas.{Schemas}
use Rattle.sq_cause.specs.Query.{HasRows}
use Rattle.sq_cause.specs.Target.{IsRowFault, status_of_target}
use Rattle.sq_cause.specs.declared.cause.SelectCause.{SelectCause}
use Rattle.sq_cause.specs.declared.cause.SelectCause.TheVariants as cause
use Rattle.sq_cause.specs.declared.cause.TargetCause.{TargetCause}

abbrev pub status_of_select : SelectCause → Status
status_of_select cause.NoRow = status.NoData
status_of_select cause.SeveralRows = status.CardinalityViolation
status_of_select (cause.Target t) = status_of_target t.fault

-- a target can't take its value of the only row
pub record IsOnlyRowFault (s : Selecting) (found : List (List Value)) (t : TargetCause) : Type 0 where
  pub row : List Value
  pub only : found ≡ row ∷ []
  pub faulty : IsRowFault s.parameters s.targets row true [] t

abbrev pub IsOfRows : Selecting → List (List Value) → SelectCause → Type 0
IsOfRows s found cause.NoRow = found ≡ []
IsOfRows s found cause.SeveralRows = 1 < length found
IsOfRows s found (cause.Target t) = IsOnlyRowFault s found t

-- so it is with the rows of the query
pub record IsOfQuery (schemas : Schemas) (s : Selecting) (values : List Value) (tables : Content) (c : SelectCause) : Type 0 where
  pub found : List (List Value)
  pub meant : HasRows schemas s.user values tables s.query (Ok found)
  pub of_rows : IsOfRows s found c

abbrev pub IsSelectCause : Schemas → Kind → List Value → Content → SelectCause → Type 0
IsSelectCause schemas (Kind.selects s) values tables c = IsOfQuery schemas s values tables c
IsSelectCause schemas _ values tables c = ⊥
