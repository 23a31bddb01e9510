-- FETCH and SELECT INTO leave the state of a session that texts opened what it was to the machine's, and
-- have the same reply (ISO/IEC 9075:1992, 13.3 and 13.5). Asked for is what InSession asks for, what
-- binding promises of the statement, and that it does not end with 42000.
use Rattle.std.proofs.Common.{◌≡◌, ℕ, true, List, [], length, refl, sym, ap, subst, ◌∙◌, Ok, Err}
use Rattle.std.specs.Option.{option_map_or}
use Rattle.sq_lex.specs.declared.name.Name.{Name}
use Rattle.sq_tree.specs.declared.schema.SchemaText.{SchemaText}
use Rattle.sq_tree.specs.declared.statement.Fetch.{Fetch}
use Rattle.sq_tree.specs.declared.statement.Select.{Select as SelectStatement}
use Rattle.sq_value.specs.declared.value.Value.{Value}
use Rattle.sq_meaning.specs.Status.{Outcome, and_then}
use Rattle.sq_meaning.specs.WellFormed.{IsNoSyntaxError}
use Rattle.sq_meaning.specs.WellFormedStatement.{cursor_query, orientation_of, select_of_statement, updatable_cursor}
use Rattle.sq_meaning.specs.Cursor.{Move, bounded, wanted as wanted_place}
use Rattle.sq_meaning.specs.Machine as by_name
use Rattle.sq_meaning.specs.Machine.{Running, fetch_cursor, select_into, surroundings}
use Rattle.sq_bound.specs.Known.{KnownTables}
use Rattle.sq_bound.specs.declared.names.ParameterDesc.{ParameterDesc}
use Rattle.sq_bound.specs.declared.query.CursorBody.{CursorBody}
use Rattle.sq_bound.specs.declared.query.CursorBody.TheVariants as body
use Rattle.sq_bound.specs.declared.statement.BoundFetch.{BoundFetch}
use Rattle.sq_bound.specs.declared.statement.BoundSelect.{BoundSelect}
use Rattle.sq_binding.specs.Written.{HasRowsOf, IsCursorOf, IsFetchOf, IsSelectOf}
use Rattle.sq_module.specs.declared.program.DeclaredCursor.{DeclaredCursor}
use Rattle.sq_query.specs.Table.{AreMeant}
use Rattle.sq_session.specs.Cursors.{is_over, is_over_numbers}
use Rattle.sq_session.specs.Fetch.{come_to_row, over_rows, row_come_to}
use Rattle.sq_session.specs.Fetch as session
use Rattle.sq_session.specs.Kind.{Caller, Fetching, columns_of, conditions_in, fetching, over_of, selecting}
use Rattle.sq_session.specs.Schemas.{Schemas}
use Rattle.sq_session.specs.State.{State, cursor_at}
use Rattle.sq_session.specs.Step.{Comes, EndsRight, MayFetch, MayFetchFrom, Selects}
use Rattle.sq_session.specs.declared.cursor.CursorState.{CursorState}
use Rattle.sq_session.specs.declared.cursor.CursorState.TheVariants as cursor
use Rattle.sq_session.specs.declared.cursor.RowsCursor.{RowsCursor}
use Rattle.sq_session.specs.declared.reply.Done.{Done}
use Rattle.sq_session.proofs.OpenCursors.Over.{as_numbers, over_quiet}
use Rattle.sq_run.proofs.Sites.Stars.{QueryStars, SelectStars}
use Rattle.sq_run.proofs.Changed.TargetsSet.{AreApart}
use Rattle.sq_run.proofs.Places.BoundTarget.{target_bound}
use Rattle.sq_run.proofs.OpenCursors.CursorOpens.{IsUpdatableAs}
use Rattle.sq_run.proofs.OpenCursors.FetchSame.{IsFetchBy, IsRight, IsShownBy, fetch_same}
use Rattle.sq_run.proofs.Steps.InSession.{AreKept, AreOf, IsCalledAs, database, under}
use Rattle.sq_run.proofs.Changed.MovesAlike.{moves_alike, no_move}
use Rattle.sq_run.proofs.Steps.SelectSame.{select_same}
use Rattle.sq_run.proofs.Steps.SessionKeeps.{IsCursorHere, IsSameStep}

module _ (texts : List SchemaText) (known : KnownTables) (schemas : Schemas) (of : AreOf texts known schemas)
    (declared : List DeclaredCursor) (caller : Caller) (values : List Value) (s : State) (r : Running) (kept : AreKept texts schemas s)
    (call : IsCalledAs texts declared caller values s r) where
  -- ---- FETCH (13.3)

  module _ (IsNumberOf : Name → ℕ → Type 0) (ft : Fetch) (x : BoundFetch) (is_fetch : IsFetchOf IsNumberOf caller.parameters ft x)
      (apart : AreApart caller.parameters) (here : IsCursorHere declared s r ft.cursor x.cursor)
      (of_user : here.declared_as.user ≡ r.in_module.authorization) (ps : List ParameterDesc)
      (is : IsCursorOf known r.in_module.authorization ps here.cursor here.declared_as.cursor)
      (stars : QueryStars (cursor_query (surroundings r) here.cursor))
      (updatable : IsUpdatableAs here.declared_as.cursor.body (updatable_cursor (surroundings r) here.cursor)) where
    abbrev f : Fetching
    f = fetching declared r.in_module.authorization caller.parameters x

    by : IsFetchBy r ft f
    by = record { parameters = call.parameters; apart = apart; targets = is_fetch.2 }

    -- an updatable one shows columns of the rows of its base table
    shown_by : (b : CursorBody) → here.declared_as.cursor.body ≡ b → HasRowsOf known ps (cursor_query (surroundings r) here.cursor) b
        → IsUpdatableAs b (updatable_cursor (surroundings r) here.cursor) → (table : ℕ)
        → is_over_numbers (over_of b) table ≡ true → IsShownBy r here.cursor f table
    shown_by (body.Rows b sorts) body_is rows may table over = cc
    shown_by (body.Updatable u) body_is rows may table over =
        let bound = target_bound r known schemas (kept.shown caller.user).0 (database texts known schemas of declared caller values s r kept call)
        (under texts known schemas of declared caller values s r kept call) here.cursor stars ps u may.0 may.1 rows in
        record {
          meant = may.0;
          is = may.1;
          place = bound.0 ∙ over_quiet u.target.is_quiet u.target.base table over;
          columns =
              bound.1 ∙ ap columns_of (sym body_is)
              ∙ ap (λ o. option_map_or (λ (c : DeclaredCursor). columns_of c.cursor.body) o []) (sym here.there);
        }

    abbrev wanted : Move
    wanted = by_name.move_of r.parameters (orientation_of ft)

    -- one over rows goes where the machine's goes, since the call does not end with 42000
    moved : (z : RowsCursor) (d : Done) (after : State) → EndsRight d → (m : Outcome Move) → session.move_of values x.orientation ≡ m
        → Comes (over_rows (come_to_row f values z)) x.cursor s d after → session.move_of values x.orientation ≡ Ok wanted
    moved z d after right (Ok m) move h =
        move ∙ ap (λ (w : Move). Ok w) (moves_alike caller.parameters r.parameters call.names values call.given ft.from x.orientation is_fetch.1 m move)
    moved z d after right (Err st) move h =
        let refused = subst (λ o. Comes (over_rows (and_then (and_then (and_then o (λ m. Ok (wanted_place m (length z.rows) z.place))) (λ w. Ok (bounded (length z.rows) w))) (row_come_to f z))) x.cursor s d after) move h in
        absurd (no_move values x.orientation st move (subst (λ (y : Done). IsNoSyntaxError y.status) refused.0 right))

    right_for : (y : CursorState) → is_over (over_of here.declared_as.cursor.body) y ≡ true → (d : Done) (after : State) → EndsRight d
        → MayFetchFrom y f values s d after
        → IsRight declared s r call.same ft x.cursor here.only here.declared_as here.there here.cursor f by values y
    right_for cursor.Closed over d after right h = tt
    right_for (cursor.Rows z) over d after right h = moved z d after right (session.move_of values x.orientation) refl h
    right_for (cursor.Numbers z) over d after right h =
        shown_by here.declared_as.cursor.body refl is.rows updatable z.table over
    right_for (cursor.Walking z) over d after right h = (
      shown_by here.declared_as.cursor.body refl is.rows updatable z.table (as_numbers (over_of here.declared_as.cursor.body) z.table over),
      ap (λ o. option_map_or (λ (c : DeclaredCursor). conditions_in c.cursor.body) o []) here.there,
      sym of_user,
      kept.rising z.table,
    )

    pub fetch_keeps : is_over (over_of here.declared_as.cursor.body) (cursor_at s x.cursor) ≡ true → (d : Done) (after : State) → EndsRight d
        → MayFetch f values s d after → IsSameStep declared d after (fetch_cursor r ft here.cursor)
    fetch_keeps over d after right h =
        fetch_same declared s r call.same ft x.cursor here.only here.declared_as here.there here.cursor f by refl values
        (right_for (cursor_at s x.cursor) over d after right h) d after right h

  -- ---- SELECT INTO (13.5)

  pub select_keeps : (text : SelectStatement) (x : BoundSelect) → IsSelectOf known caller.parameters r.in_module.authorization text x
      → SelectStars (select_of_statement r.in_module.authorization text) → AreApart caller.parameters → (d : Done) (after : State)
      → EndsRight d → (after ≡ s) × Selects schemas (selecting r.in_module.authorization caller.parameters x) values s.tables d
      → IsSameStep declared d after (select_into r text)
  select_keeps text x is stars apart d after right h =
      select_same r known schemas (kept.shown caller.user).0 (database texts known schemas of declared caller values s r kept call) caller.parameters call.names values call.given
      call.parameters apart declared s call.same
      (subst (λ u. AreMeant schemas.views s.tables u (kept.shown caller.user).0) (sym call.user) (kept.shown caller.user).1) text x stars is d after right h
