-- Each statement of a session that texts opened leaves its state what it was to the machine's, and has the
-- same reply (ISO/IEC 9075:1992, 13.2 and 13.6 to 13.10). Asked for is what InSession asks for, and of a
-- statement what binding promises of it and what the rules of well-formed statements say.
use Rattle.std.proofs.Common.{◌≡◌, ℕ, List, Option, Some, None, refl, sym, ap, subst, Ok}
use Rattle.std.specs.List.{AllByRecursion}
use Rattle.std.specs.Option.{option_map, option_map_or}
use Rattle.std.specs.Prelude.{slice_get}
use Rattle.sq_lex.specs.declared.name.Name.{Name}
use Rattle.sq_tree.specs.declared.«module».Cursor.{Cursor}
use Rattle.sq_tree.specs.declared.cond.Cond.{Cond}
use Rattle.sq_tree.specs.declared.schema.SchemaText.{SchemaText}
use Rattle.sq_tree.specs.declared.statement.Delete.{Delete}
use Rattle.sq_tree.specs.declared.statement.Insert.{Insert}
use Rattle.sq_tree.specs.declared.statement.Update.{Update}
use Rattle.sq_tree.specs.declared.statement.Where.{Where}
use Rattle.sq_tree.specs.declared.statement.Where.TheVariants as rows_where
use Rattle.sq_value.specs.declared.value.Value.{Value}
use Rattle.sq_meaning.specs.Spelled.{table_of}
use Rattle.sq_meaning.specs.Status.{Outcome, and_then}
use Rattle.sq_meaning.specs.Target.{Target}
use Rattle.sq_meaning.specs.Module.{cursor_named}
use Rattle.sq_meaning.specs.WellFormedStatement.{cursor_query, updatable_cursor}
use Rattle.sq_meaning.specs.Change.{delete_outcome, insert_outcome, update_outcome}
use Rattle.sq_meaning.specs.Machine.{Outcomes, Running, behind_delete, change_by, delete_rows, open_cursor, setting, surroundings, update_rows, which_rows}
use Rattle.sq_bound.specs.Condition.{PlacedClause}
use Rattle.sq_bound.specs.Fits.{FitsBody, IsBase, IsColumnOf}
use Rattle.sq_bound.specs.Known.{KnownTables}
use Rattle.sq_bound.specs.declared.query.Target.{Target as BoundTarget}
use Rattle.sq_bound.specs.declared.statement.BoundInsert.{BoundInsert}
use Rattle.sq_bound.specs.declared.statement.BoundUpdate.{BoundUpdate}
use Rattle.sq_bound.specs.declared.statement.ChangeTarget.TheVariants as change
use Rattle.sq_bound.specs.declared.statement.PositionedTarget.{PositionedTarget}
use Rattle.sq_binding.specs.Written.{IsCursorOf, IsDeleteOf, IsInsertOf, IsTargetOf, IsUpdateOf, filter_placed}
use Rattle.sq_module.specs.declared.program.DeclaredCursor.{DeclaredCursor}
use Rattle.sq_query.specs.Table.{AreMeant}
use Rattle.sq_session.specs.Cursors.{MayKeep}
use Rattle.sq_session.specs.Kind.{Caller, Over, opening, over_of, updating}
use Rattle.sq_session.specs.Open.{IsMeantIfAny, IsOpenOver}
use Rattle.sq_session.specs.Schemas.{Schemas, columns_of}
use Rattle.sq_session.specs.State.{State}
use Rattle.sq_session.specs.Step.{MayDelete, MayDeleteAt, MayInsert, MayOpen, MayUpdate, MayUpdateAt, is_on_row}
use Rattle.sq_session.specs.declared.reply.Done.{Done}
use Rattle.sq_run.proofs.Changed.Inserts.{IsSourceRight}
use Rattle.sq_run.proofs.Sites.Stars.{QueryStars}
use Rattle.sq_run.proofs.OpenCursors.CursorOpens.{IsUpdatableAs, cursor_opens}
use Rattle.sq_run.proofs.Steps.DeleteAtSame.{delete_at_same}
use Rattle.sq_run.proofs.Steps.DeleteSame.{delete_same}
use Rattle.sq_run.proofs.Steps.InSession.{AreKept, AreOf, IsCalledAs, IsNamed, WhereStars, database, delete_alike, delete_at_alike, insert_alike, searched_by, under, update_alike, update_at_alike}
use Rattle.sq_run.proofs.Steps.InsertSame.{insert_same}
use Rattle.sq_run.proofs.OpenCursors.OpenSame.{opened_same}
use Rattle.sq_run.proofs.OpenCursors.SameCursors.{IsOnly}
use Rattle.sq_run.proofs.Steps.SameStates.{SameCursor, SameReply, SameStates}
use Rattle.sq_run.proofs.Steps.UpdateAtSame.{update_at_same}
use Rattle.sq_run.proofs.Steps.UpdateSame.{update_same}

-- what a step leaves is the machine's, and so is the reply
abbrev pub IsSameStep : List DeclaredCursor → Done → State → Outcomes → Type 0
IsSameStep declared d after o = SameStates declared after o.0 × SameReply d o.1

-- a cursor of the module: its number is that of its name alone, under which it is declared,
-- and the module writes it
pub record IsCursorHere (declared : List DeclaredCursor) (s : State) (r : Running) (name : Name) (n : ℕ) : Type 0 where
  pub only : IsOnly (SameCursor s.tables) r.in_module.name name r.state.cursors n
  pub declared_as : DeclaredCursor
  pub there : slice_get declared n ≡ Some declared_as
  pub cursor : Cursor
  pub is_named : cursor_named r.in_module name ≡ Some cursor

-- one that is updatable goes over this base table
pub record IsUpdatableOver (r : Running) (cursor : Cursor) (place : ℕ) : Type 0 where
  pub target : Target
  pub is : updatable_cursor (surroundings r) cursor ≡ Some target
  pub place_is : target.place ≡ place

module _ (texts : List SchemaText) (known : KnownTables) (schemas : Schemas) (of : AreOf texts known schemas)
    (declared : List DeclaredCursor) (caller : Caller) (values : List Value) (s : State) (r : Running) (kept : AreKept texts schemas s)
    (call : IsCalledAs texts declared caller values s r) where
  -- ---- OPEN (13.2)

  pub open_keeps : (name : Name) (n : ℕ) (here : IsCursorHere declared s r name n) → here.declared_as.user ≡ r.in_module.authorization
      → IsCursorOf known r.in_module.authorization caller.parameters here.cursor here.declared_as.cursor
      → QueryStars (cursor_query (surroundings r) here.cursor)
      → IsUpdatableAs here.declared_as.cursor.body (updatable_cursor (surroundings r) here.cursor)
      → FitsBody schemas.bases here.declared_as.cursor.body → MayKeep (columns_of schemas) here.declared_as.cursor values
      → (d : Done) (after : State) → MayOpen schemas (opening declared r.in_module.authorization caller.parameters n) values s d after
      → IsSameStep declared d after (open_cursor r name here.cursor)
  open_keeps name n here of_user is stars updatable fits may d after h =
      opened_same declared s r call.same name n here.only here.declared_as here.there here.cursor schemas
      (opening declared r.in_module.authorization caller.parameters n) values refl
      (λ opened over meant.
      cursor_opens r known schemas (kept.shown caller.user).0 (database texts known schemas of declared caller values s r kept call) caller.parameters call.names values call.given
      s.tables call.same.tables here.declared_as here.cursor
      (subst (λ u. AreMeant schemas.views s.tables u (kept.shown caller.user).0) (sym call.user) (kept.shown caller.user).1)
      (under texts known schemas of declared caller values s r kept call) stars call.declared_as of_user kept.count kept.rising kept.in_domains may is updatable fits opened
      (subst (λ o. IsOpenOver (option_map_or (λ c. over_of c.cursor.body) o Over.rows) values s.tables opened) here.there over)
      (subst (λ o. IsMeantIfAny schemas (option_map (λ c. c.cursor.body) o) r.in_module.authorization caller.parameters values s.tables opened) here.there meant))
      d after h

  -- ---- INSERT (13.8)

  pub insert_keeps : (i : Insert) (x : BoundInsert) → IsInsertOf known caller.parameters r.in_module.authorization i x
      → IsBase schemas.bases x.leaf.table → AllByRecursion (IsColumnOf x.leaf.table) x.columns
      → (target : Target) → IsNamed texts (table_of r.in_module.authorization i.table) target
      → IsSourceRight r.in_module.authorization i.source → (d : Done) (after : State) → MayInsert schemas caller values x s d after
      → IsSameStep declared d after (change_by r r.state (insert_outcome (setting r) i))
  insert_keeps i x is base columns target means right d after h =
      insert_same declared s r call.same i schemas caller values x
      (insert_alike texts known schemas of declared caller values s r kept call i x is base columns target means right) d after h

  -- ---- the rows of a search condition

  searched_rows : (IsNumberOf : Name → ℕ → Type 0) (filter : Cond → Outcome PlacedClause) (w : Option Where) (t : BoundTarget)
      → IsTargetOf IsNumberOf filter w (change.Searched t) → which_rows r w ≡ Ok (searched_by r.in_module.authorization w)
  searched_rows IsNumberOf filter None t h = refl
  searched_rows IsNumberOf filter (Some (rows_where.Condition c)) t h = refl
  searched_rows IsNumberOf filter (Some (rows_where.CurrentOf cursor)) t h = absurd h

  behind_search : (IsNumberOf : Name → ℕ → Type 0) (filter : Cond → Outcome PlacedClause) (w : Option Where) (t : BoundTarget)
      → IsTargetOf IsNumberOf filter w (change.Searched t) → behind_delete r w ≡ r.state
  behind_search IsNumberOf filter None t h = refl
  behind_search IsNumberOf filter (Some (rows_where.Condition c)) t h = refl
  behind_search IsNumberOf filter (Some (rows_where.CurrentOf cursor)) t h = absurd h

  -- ---- DELETE (13.6 and 13.7)

  module _ (IsNumberOf : Name → ℕ → Type 0) (x : Delete) (target : Target)
      (means : IsNamed texts (table_of r.in_module.authorization x.table) target) where
    abbrev delete_filter : Cond → Outcome PlacedClause
    delete_filter = filter_placed known caller.parameters r.in_module.authorization (table_of r.in_module.authorization x.table)

    pub delete_keeps : (t : BoundTarget)
        → IsDeleteOf IsNumberOf known caller.parameters r.in_module.authorization x (change.Searched t)
        → IsBase schemas.bases t.leaf.table → WhereStars r.in_module.authorization x.target → (d : Done) (after : State)
        → MayDelete schemas caller values (change.Searched t) None s s d after
        → IsSameStep declared d after (change_by r (behind_delete r x.target) (delete_rows r x))
    delete_keeps t is base stars d after h =
        delete_same declared s r call.same kept.rising x (searched_by r.in_module.authorization x.target)
        (ap (λ o. and_then o (delete_outcome (setting r) x)) (searched_rows IsNumberOf delete_filter x.target t is.rows))
        (behind_search IsNumberOf delete_filter x.target t is.rows) schemas caller values t
        (delete_alike texts known schemas of declared caller values s r kept call IsNumberOf x target means t is base stars) d after h

    -- A positioned statement changes the row that a cursor is on.
    pub delete_at_keeps : (p : PositionedTarget)
        → IsDeleteOf IsNumberOf known caller.parameters r.in_module.authorization x (change.Positioned p)
        → IsBase schemas.bases p.leaf.table → (name : Name) → x.target ≡ Some (rows_where.CurrentOf name)
        → (here : IsCursorHere declared s r name p.cursor) → IsUpdatableOver r here.cursor p.base → (d : Done) (after : State)
        → MayDeleteAt (is_on_row s p) schemas caller p values s d after
        → IsSameStep declared d after (change_by r (behind_delete r x.target) (delete_rows r x))
    delete_at_keeps p is base name is_at here over d after h =
        delete_at_same declared s r call.same name p here.only here.declared_as here.there here.cursor here.is_named over.target over.is over.place_is
        x is_at kept.rising schemas caller values
        (delete_at_alike texts known schemas of declared caller values s r kept call IsNumberOf x target means p is base) d after h

  -- ---- UPDATE (13.9 and 13.10)

  module _ (IsNumberOf : Name → ℕ → Type 0) (u : Update) (bound : BoundUpdate)
      (is : IsUpdateOf IsNumberOf known caller.parameters r.in_module.authorization u bound) (target : Target)
      (means : IsNamed texts (table_of r.in_module.authorization u.table) target) where
    abbrev update_filter : Cond → Outcome PlacedClause
    update_filter = filter_placed known caller.parameters r.in_module.authorization (table_of r.in_module.authorization u.table)

    pub update_keeps : (t : BoundTarget) → bound.target ≡ change.Searched t → IsBase schemas.bases t.leaf.table
        → AllByRecursion (λ a. IsColumnOf t.leaf.table a.column) bound.assignments → WhereStars r.in_module.authorization u.target
        → (d : Done) (after : State) → MayUpdate schemas (updating declared caller bound) values None s d after
        → IsSameStep declared d after (change_by r r.state (update_rows r u))
    update_keeps t is_searched base columns stars d after h =
        update_same s r (updating declared caller bound) None call.same schemas values kept.shown kept.rising u
        (searched_by r.in_module.authorization u.target)
        (update_alike texts known schemas of declared caller values s r kept call IsNumberOf u bound is target means t is_searched base columns stars)
        (ap (λ o. and_then o (update_outcome (setting r) u)) (searched_rows IsNumberOf update_filter u.target t (subst (IsTargetOf IsNumberOf update_filter u.target) is_searched is.rows)))
        d after h

    -- A positioned statement changes the row that a cursor is on.
    pub update_at_keeps : (p : PositionedTarget) → bound.target ≡ change.Positioned p → IsBase schemas.bases p.leaf.table
        → AllByRecursion (λ a. IsColumnOf p.leaf.table a.column) bound.assignments → (name : Name)
        → u.target ≡ Some (rows_where.CurrentOf name) → (here : IsCursorHere declared s r name p.cursor)
        → IsUpdatableOver r here.cursor p.base → (d : Done) (after : State)
        → MayUpdateAt (is_on_row s p) schemas (updating declared caller bound) p values s d after
        → IsSameStep declared d after (change_by r r.state (update_rows r u))
    update_at_keeps p is_positioned base columns name is_at here over d after h =
        update_at_same s r (updating declared caller bound) call.same name p here.only here.declared_as here.there here.cursor here.is_named over.target over.is
        over.place_is u is_at schemas values kept.shown kept.rising
        (update_at_alike texts known schemas of declared caller values s r kept call IsNumberOf u bound is target means p is_positioned base columns) d after h
