-- How many rows OPEN and FETCH of a cursor read whose declaration is that of a quiet one (own rule; ISO/IEC
-- 9075:1992, 13.1 to 13.3): OPEN none, and a FETCH that takes it from the row of one number to that of a
-- later one at least 1, and no more than the numbers differ.
use Rattle.std.proofs.Common.{◌≡◌, ℕ, ◌-◌, ◌≤◌, true, List, None, Some, refl, sym, ap, subst, ◌∙◌, Ok}
use Rattle.std.specs.Prelude.{slice_get, IfSome}
use Rattle.std.specs.Option.{option_map_or}
use Rattle.sq_lex.specs.declared.name.Name.{Name}
use Rattle.sq_tree.specs.declared.«module».Cursor.{Cursor}
use Rattle.sq_tree.specs.declared.schema.SchemaText.{SchemaText}
use Rattle.sq_value.specs.declared.value.Value.{Value}
use Rattle.sq_store.specs.Content.{Content, table_at}
use Rattle.sq_meaning.specs.Status.{Outcome}
use Rattle.sq_meaning.specs.Catalog.{tables_of}
use Rattle.sq_meaning.specs.Keyed.{is_quiet_cursor}
use Rattle.sq_meaning.specs.SchemaRefusal.{elements_of, first_schema_refusal}
use Rattle.sq_meaning.specs.WellFormedStatement.{Surroundings, own, updatable_cursor}
use Rattle.sq_bound.specs.Known.{KnownTables}
use Rattle.sq_bound.specs.declared.names.ParameterDesc.{ParameterDesc}
use Rattle.sq_bound.specs.declared.statement.BoundFetch.{BoundFetch}
use Rattle.sq_bound.specs.declared.statement.BoundStatement.TheVariants as statement
use Rattle.sq_binding.specs.Written.{IsCursorOf}
use Rattle.sq_catalog.specs.Declares.{Declares}
use Rattle.sq_module.specs.declared.program.DeclaredCursor.{DeclaredCursor}
use Rattle.sq_session.specs.Cursors.{is_over}
use Rattle.sq_session.specs.Fetch.{next_walked}
use Rattle.sq_session.specs.Kind.{Over, fetching, kind_of, over_at, over_of}
use Rattle.sq_session.specs.Metered.{CallReads, FetchReadsFrom, OpenReads, last_number}
use Rattle.sq_session.specs.Open.{IsOpenOver, walk_before}
use Rattle.sq_session.specs.Schemas.{Schemas}
use Rattle.sq_session.specs.State.{State, cursor_at}
use Rattle.sq_session.specs.declared.cursor.CursorState.{CursorState}
use Rattle.sq_session.specs.declared.cursor.CursorState.TheVariants as cursor
use Rattle.sq_session.specs.declared.walk.WalkingCursor.{WalkingCursor}
use Rattle.sq_run.proofs.Schemas.ViewTargets.{AreUnder}
use Rattle.sq_run.proofs.OpenCursors.CursorOpens.{IsUpdatableAs}
use Rattle.sq_run.proofs.Schemas.Declared.{declares_are_under}
use Rattle.sq_run.proofs.Metering.QuietTargets.{is_walk, walks_where_quiet}

-- what an OPEN that walks reads, and what it opens
none_read : (o : Over) (count : ℕ) → is_walk o ≡ true → OpenReads o count → count ≡ 0
none_read Over.rows count walks reads = cc
none_read (Over.numbers table) count walks reads = cc
none_read (Over.walk table) count walks reads = reads

opens_walk : (o : Over) (values : List Value) (tables : Content) (opened : Outcome CursorState) → is_walk o ≡ true
    → IsOpenOver o values tables opened → (table : ℕ) × (opened ≡ Ok (cursor.Walking (walk_before tables table values)))
opens_walk Over.rows values tables opened walks h = cc
opens_walk (Over.numbers table) values tables opened walks h = cc
opens_walk (Over.walk table) values tables opened walks h = (table, h)

over_walk : (o : Over) (w : WalkingCursor) → is_over o (cursor.Walking w) ≡ true → is_walk o ≡ true
over_walk Over.rows w over = cc
over_walk (Over.numbers table) w over = cc
over_walk (Over.walk table) w over = refl

-- A module's cursor that is declared with a number, in a program over schemas that the definitions do not
-- refuse. What is bound of it is updatable exactly where the rules say that it is.
module _ (texts : List SchemaText) (known : KnownTables) (schemas : Schemas) (declares : Declares texts known schemas.bases schemas.views)
    (accepted : first_schema_refusal texts ≡ None) (u : Surroundings)
    (elements : u.elements ≡ elements_of texts) (declared : List DeclaredCursor) (n : ℕ) (d : DeclaredCursor)
    (there : slice_get declared n ≡ Some d) (c : Cursor) (ps : List ParameterDesc) (is : IsCursorOf known (own u) ps c d.cursor)
    (updatable : IsUpdatableAs d.cursor.body (updatable_cursor u c)) where
  under : AreUnder known schemas.bases (tables_of u.elements)
  under =
      subst (λ es. AreUnder known schemas.bases (tables_of es)) (sym elements)
      (declares_are_under texts known schemas.bases schemas.views declares accepted)

  -- It walks exactly where its declaration is that of a quiet cursor.
  pub quiet_walks : is_walk (over_at declared n) ≡ is_quiet_cursor u c
  quiet_walks =
      ap (λ o. is_walk (option_map_or (λ (x : DeclaredCursor). over_of x.cursor.body) o Over.rows)) there
      ∙ walks_where_quiet known schemas.bases u under ps c d.cursor is updatable

  -- A cursor that walks is quiet.
  pub walking_is_quiet : (w : WalkingCursor) → is_over (over_at declared n) (cursor.Walking w) ≡ true → is_quiet_cursor u c ≡ true
  walking_is_quiet w over = sym quiet_walks ∙ over_walk (over_at declared n) w over

  module _ (quiet : is_quiet_cursor u c ≡ true) (user : Name) (parameters : List ParameterDesc) (values : List Value)
      (before : State) (count : ℕ) where
    -- Its OPEN reads no row,
    pub quiet_open_reads_none : CallReads (Some (kind_of declared user parameters (statement.Open n))) values before count → count ≡ 0
    quiet_open_reads_none reads = none_read (over_at declared n) count (quiet_walks ∙ quiet) reads

    -- OPEN of a quiet cursor leaves a walk that came to no row yet, with the values of the call.
    pub quiet_opens : (opened : Outcome CursorState) → IsOpenOver (over_at declared n) values before.tables opened
        → (w : WalkingCursor) × (opened ≡ Ok (cursor.Walking w)) × (last_number w ≡ 0) × (w.values ≡ values)
    quiet_opens opened h =
        let walk = opens_walk (over_at declared n) values before.tables opened (quiet_walks ∙ quiet) h in
        (walk_before before.tables walk.0 values, walk.1, refl, refl)

    -- A FETCH by which the walk comes to a row reads at least that one, and no more rows than the number of
    -- the row is greater than that of the row to which the walk came last.
    pub quiet_fetch_reads : (x : BoundFetch) (w : WalkingCursor) → cursor_at before x.cursor ≡ cursor.Walking w
        → CallReads (Some (kind_of declared user parameters (statement.Fetch x))) values before count
        → IfSome (next_walked (fetching declared user parameters x) (table_at before.tables w.table) w)
        (λ r. (1 ≤ count) × (count ≤ r.number - last_number w))
    quiet_fetch_reads x w walking reads =
        (subst (λ y. FetchReadsFrom y (fetching declared user parameters x) before.tables count) walking reads).0
