-- A condition of UPDATE, DELETE or an updatable cursor that ends with a status on a row (ISO/IEC 9075:1992, 13.2, 13.7 and 13.10).
use Rattle.std.specs.Prelude.{List, Option, Some, None, IfSome, ⊤}
use Rattle.sq_value.specs.declared.value.Value.{Value}
use Rattle.sq_bound.specs.WellFormed.{TableKinds}
use Rattle.sq_bound.specs.declared.names.BaseTable.{BaseTable}
use Rattle.sq_bound.specs.declared.query.CursorBody.{CursorBody}
use Rattle.sq_bound.specs.declared.query.CursorBody.TheVariants as body
use Rattle.sq_bound.specs.declared.statement.ChangeTarget.{ChangeTarget}
use Rattle.sq_bound.specs.declared.statement.ChangeTarget.TheVariants as target
use Rattle.sq_change.specs.Made.{Seen, seen_by}
use Rattle.sq_query.specs.Needed.{FindsCond, FindsConds}
use Rattle.sq_session.specs.Kind.{Kind}
use Rattle.sq_session.specs.Schemas.{Schemas}
use Rattle.sq_session.specs.State.{State}
use Rattle.sq_session.specs.Step.{seen_in}
use Rattle.sq_cause.specs.TargetEnd.{IsTargetEnd}
use Rattle.sq_cause.specs.declared.cause.ClauseCause.{ClauseCause}

abbrev pub IsChangeEnd : Schemas → Seen → ChangeTarget → ClauseCause → Type 0
IsChangeEnd s seen (target.Searched t) c = IsTargetEnd s seen t c
IsChangeEnd s seen (target.Positioned p) c = ⊥

abbrev pub IsBodyEnd : Schemas → Seen → Option CursorBody → ClauseCause → Type 0
IsBodyEnd s seen None c = ⊥
IsBodyEnd s seen (Some (body.Rows q order)) c = ⊥
IsBodyEnd s seen (Some (body.Updatable u)) c = IsTargetEnd s seen u.target c

abbrev pub IsClauseCause : Schemas → Kind → List Value → State → ClauseCause → Type 0
IsClauseCause s (Kind.opens o) values state c =
    IsBodyEnd s (seen_by s.views state.tables o.user values) o.body c
IsClauseCause s (Kind.updates u) values state c =
    IsChangeEnd s (seen_in s u.caller values state.tables) u.statement.target c
IsClauseCause s (Kind.deletes caller t) values state c =
    IsTargetEnd s (seen_in s caller values state.tables) t c
IsClauseCause s _ values state c = ⊥

-- what the conditions of a searched statement read is there
abbrev pub FindsTarget : List BaseTable → TableKinds → ChangeTarget → Type 0
FindsTarget bases columns (target.Searched t) =
    FindsConds bases columns t.leaf.conditions × IfSome t.condition (FindsCond bases columns)
FindsTarget bases columns (target.Positioned p) = ⊤
