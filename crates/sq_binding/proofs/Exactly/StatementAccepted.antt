-- A statement of a procedure is bound exactly if the rules find no fault in it. A refused one has the fault that is answered, and a
-- missing privilege is answered if there is no other (ISO/IEC 9075:1992, 13.2 to 13.10, 14.3 and 14.4).
use Rattle.std.proofs.Common.{◌≡◌, Bool, false, ◌||◌, List, [], ◌∷◌, ◌++◌, length, map, Option, Some, None, Ok, refl, sym, ap, subst, ◌∙◌}
use Rattle.std.proofs.lemmas.List.{append-nil}
use Rattle.std.specs.List.{AllByRecursion, flat_map, list_any}
use Rattle.std.specs.Prelude.{⊤, is_ok, option_to_list}
use Rattle.sq_lex.specs.declared.name.Name.{Name}
use Rattle.sq_value.specs.declared.domain.Kind.{Kind}
use Rattle.sq_tree.specs.declared.«module».Cursor.{Cursor}
use Rattle.sq_tree.specs.declared.statement.Fetch.{Fetch}
use Rattle.sq_tree.specs.declared.statement.InsertSource.{InsertSource}
use Rattle.sq_tree.specs.declared.statement.InsertSource.TheVariants as source
use Rattle.sq_tree.specs.declared.statement.Statement.{Statement}
use Rattle.sq_tree.specs.declared.statement.Statement.TheVariants as statement
use Rattle.sq_tree.specs.declared.statement.Where.{Where}
use Rattle.sq_tree.specs.declared.statement.Where.TheVariants as rows_where
use Rattle.sq_meaning.specs.Environment.{TableName}
use Rattle.sq_meaning.specs.Spelled.{listed, listed_if_any, table_of}
use Rattle.sq_meaning.specs.Status as status
use Rattle.sq_meaning.specs.Binding.{Judged, is_well_formed}
use Rattle.sq_meaning.specs.Catalog.{tables_of}
use Rattle.sq_meaning.specs.Module.{cursor_named}
use Rattle.sq_meaning.specs.Privilege.{Privilege}
use Rattle.sq_meaning.specs.Site.{Site, query_count}
use Rattle.sq_meaning.specs.WellFormedStatement.{Surroundings, cursor_columns, cursor_query, fetch_from_sites, fetch_sites, insert_columns, into_sites, column_kind, judged_by, known_in, orientation_of, own, select_of_statement, source_sites, statement_sites, where_sites, with_select}
use Rattle.sq_meaning.specs.WellFormedStatement as rules
use Rattle.sq_binding.specs.Change.{NamedCursor, NamedCursors, delete_bound, insert_bound, update_bound}
use Rattle.sq_binding.specs.Change as change
use Rattle.sq_binding.specs.Changeable.{UnderTable, UserNames}
use Rattle.sq_binding.specs.From.{NamedTables}
use Rattle.sq_binding.specs.Row.{row_bound}
use Rattle.sq_binding.specs.Statement.{NumberedStatement, fetch_bound, statement_bound}
use Rattle.sq_binding.specs.Whole.{whole}
use Rattle.sq_binding.proofs.Exactly.Accepted.{all_held}
use Rattle.sq_binding.proofs.Exactly.Accepts.{Accepts, accepted, made_accepts, plain_accepts}
use Rattle.sq_binding.proofs.Exactly.ChangedTold.{TablesFit}
use Rattle.sq_binding.proofs.FaultsFound.CondFaults.{SelectSpellsNoNull}
use Rattle.sq_binding.proofs.Exactly.CursorAccepted.{UserFits}
use Rattle.sq_binding.proofs.Exactly.DeleteAccepted.{delete_accepts}
use Rattle.sq_binding.proofs.Exactly.FetchTold.{CursorsFit, Fetches, IfCursor, cursor_told, fetch_told}
use Rattle.sq_binding.proofs.Exactly.InsertAccepted.{HoldsFit, insert_accepts}
use Rattle.sq_binding.proofs.AtSites.Privileges.{ReadsFit, is_missing}
use Rattle.sq_binding.proofs.Exactly.RowAccepted.{into_quiet, row_accepts}
use Rattle.sq_binding.proofs.Exactly.RowsTold.{PositionsFit, WhereSpellsNoNull, where_sites_of}
use Rattle.sq_binding.proofs.AtSites.Seen.{any_both}
use Rattle.sq_binding.proofs.Exactly.SourceTold.{SourceSpellsNoNull, rows_sites}
use Rattle.sq_binding.proofs.Exactly.UpdateAccepted.{SetSpellsNoNull, update_accepts}

-- no literal of a statement is the null value (5.3)
abbrev pub StatementSpellsNoNull : UserNames → Statement → Type 0
StatementSpellsNoNull names (statement.Select s) = SelectSpellsNoNull (select_of_statement names.user s)
StatementSpellsNoNull names (statement.Insert i) = SourceSpellsNoNull names i.source
StatementSpellsNoNull names (statement.Update u) = AllByRecursion SetSpellsNoNull (listed u.assignments) × WhereSpellsNoNull names u.target
StatementSpellsNoNull names (statement.Delete d) = WhereSpellsNoNull names d.target
StatementSpellsNoNull names _ = ⊤

-- A cursor that is known is the one that the module declares under its name, with its columns.
pub record IsDeclared (u : Surroundings) (name : Name) (c : NamedCursor) : Type 0 where
  pub cursor : Cursor
  pub declared : cursor_named u.in_module name ≡ Some cursor
  pub scrolls : c.scroll ≡ cursor.scroll
  pub kinds : cursor_columns u cursor ≡ Ok (map (λ k. k.kind) c.columns)
  pub count : query_count (tables_of u.elements) (cursor_query u cursor) ≡ length c.columns

-- What names mean to a statement in these surroundings is what the rules know.
pub record StatementFits (u : Surroundings) (names : UserNames) (cursors : NamedCursors) : Type 0 where
  pub tables : TablesFit names (judged_by u (known_in u))
  pub reads : ReadsFit names.tables (judged_by u (known_in u))
  pub holds : HoldsFit names (judged_by u (known_in u))
  pub known : CursorsFit cursors (judged_by u (known_in u))
  pub positions : PositionsFit cursors (judged_by u (known_in u))
  pub declared : (name : Name) (c : NamedCursor) → cursors name ≡ Some c → IsDeclared u name c

module _ (u : Surroundings) (tables : NamedTables) (under : TableName → Option UnderTable) (held : TableName → Privilege → Bool) (cursors : NamedCursors) where
  -- what names mean to the module's user
  abbrev pub names : UserNames
  names = record { user = own u; tables = tables; under = under; holds = held }

  abbrev pub j : Judged
  j = judged_by u (known_in u)

  module _ (fits : StatementFits u names cursors) where
    all_known : CursorsFit cursors (all_held j)
    all_known name = by (cursors name) (fits.known name)
      where
        by : (o : Option NamedCursor) → IfCursor j name o → IfCursor (all_held j) name o
        by (Some c) h = h
        by None h = h

    cursor_accepts : (name : Name) → Accepts j (Site.cursor_used name ∷ []) (change.cursor_named cursors name)
    cursor_accepts name = plain_accepts j (Site.cursor_used name ∷ []) (change.cursor_named cursors name) (cursor_told j cursors fits.known name) (cursor_told (all_held j) cursors all_known name) refl

    -- ---- FETCH

    abbrev from_sites : Fetch → List Site
    from_sites f = flat_map (fetch_from_sites u f) (option_to_list (cursor_named u.in_module f.cursor))

    sites_from : (f : Fetch) (c : NamedCursor) (d : IsDeclared u f.cursor c)
        → from_sites f ≡ Site.orientation_used c.scroll (orientation_of f) ∷ into_sites (known_in u) f.targets (query_count (tables_of u.elements) (cursor_query u d.cursor)) (cursor_columns u d.cursor)
    sites_from f c d =
        ap (λ o. flat_map (fetch_from_sites u f) (option_to_list o)) d.declared ∙ append-nil (fetch_from_sites u f d.cursor)
        ∙ (λ i. Site.orientation_used (sym d.scrolls i) (orientation_of f) ∷ into_sites (known_in u) f.targets (query_count (tables_of u.elements) (cursor_query u d.cursor)) (cursor_columns u d.cursor))

    fetches : (f : Fetch) (c : NamedCursor) → IsDeclared u f.cursor c → Fetches j cursors fits.known f (from_sites f) c
    fetches f c d = record {
      count = query_count (tables_of u.elements) (cursor_query u d.cursor);
      kinds = cursor_columns u d.cursor;
      sites_are = sites_from f c d;
      count_is = d.count;
      kinds_are = d.kinds;
    }

    all_fetches : (f : Fetch) (c : NamedCursor) → IsDeclared u f.cursor c → Fetches (all_held j) cursors all_known f (from_sites f) c
    all_fetches f c d = record {
      count = query_count (tables_of u.elements) (cursor_query u d.cursor);
      kinds = cursor_columns u d.cursor;
      sites_are = sites_from f c d;
      count_is = d.count;
      kinds_are = d.kinds;
    }

    from_quiet : (f : Fetch) (o : Option Cursor) → list_any (is_missing j) (flat_map (fetch_from_sites u f) (option_to_list o)) ≡ false
    from_quiet f None = refl
    from_quiet f (Some c) = any_both (is_missing j) (fetch_from_sites u f c) [] ∙ ap (λ b. b || false) (into_quiet j f.targets (query_count (tables_of u.elements) (cursor_query u c)) (cursor_columns u c))

    fetch_accepts : (f : Fetch) → Accepts j (fetch_sites u f) (fetch_bound u.parameters cursors f)
    fetch_accepts f =
        plain_accepts j (fetch_sites u f) (fetch_bound u.parameters cursors f) (fetch_told j cursors fits.known f (from_sites f) (λ c is. fetches f c (fits.declared f.cursor c is)))
        (fetch_told (all_held j) cursors all_known f (from_sites f) (λ c is. all_fetches f c (fits.declared f.cursor c is))) (from_quiet f (cursor_named u.in_module f.cursor))

    -- ---- the sites of the rules

    source_same : (kinds : List (status.Outcome Kind)) (s : InsertSource) → rows_sites names j fits.tables.tables kinds s ≡ source_sites u kinds s
    source_same kinds (source.Values values) = refl
    source_same kinds (source.Query q) = refl

    where_same : (name : TableName) (target : Option Where) → where_sites_of names j name target ≡ where_sites u name target
    where_same name None = refl
    where_same name (Some (rows_where.Condition c)) = refl
    where_same name (Some (rows_where.CurrentOf cursor)) = refl

    user_fits : UserFits names j
    user_fits = record { tables = fits.tables.tables; reads = fits.reads; wide = fits.tables.wide }

    -- ---- all of them

    pub statement_accepts : (s : Statement) → StatementSpellsNoNull names s → Accepts j (statement_sites u s) (statement_bound names u.parameters cursors s)
    statement_accepts (statement.Open name) null = made_accepts j (Site.cursor_used name ∷ []) (change.cursor_named cursors name) (λ c. NumberedStatement.open_cursor c.number) (cursor_accepts name)
    statement_accepts (statement.Fetch f) null = made_accepts j (fetch_sites u f) (fetch_bound u.parameters cursors f) (λ x. NumberedStatement.fetch x) (fetch_accepts f)
    statement_accepts (statement.Close name) null = made_accepts j (Site.cursor_used name ∷ []) (change.cursor_named cursors name) (λ c. NumberedStatement.close_cursor c.number) (cursor_accepts name)
    statement_accepts (statement.Select s) null =
        made_accepts j (statement_sites u (statement.Select s)) (whole (row_bound names u.parameters s)) (λ x. NumberedStatement.select_row x) (row_accepts names j user_fits s null)
    statement_accepts (statement.Insert i) null =
        subst (λ S. Accepts j S (statement_bound names u.parameters cursors (statement.Insert i))) same
        (made_accepts j (front ++ rows_sites names j fits.tables.tables kinds i.source) (whole (insert_bound names u.parameters i)) (λ x. NumberedStatement.insert x) (insert_accepts names j fits.tables fits.reads fits.holds i null))
      where
        name : TableName
        name = table_of (own u) i.table

        kinds : List (status.Outcome Kind)
        kinds = map (column_kind (tables_of u.elements) name) (insert_columns (tables_of u.elements) name i.columns)

        front : List Site
        front =
            Site.table_changed name ∷ Site.privilege_used name Privilege.insert ∷ Site.column_list (listed_if_any i.columns) ∷ Site.column_count (length (listed_if_any i.columns)) ∷ map (Site.column_changed name) (listed_if_any i.columns)

        same : front ++ rows_sites names j fits.tables.tables kinds i.source ≡ front ++ source_sites u kinds i.source
        same = ap (λ l. front ++ l) (source_same kinds i.source)
    statement_accepts (statement.Update x) null =
        subst (λ S. Accepts j S (statement_bound names u.parameters cursors (statement.Update x))) same
        (made_accepts j (of_rows (where_sites_of names j name x.target)) (whole (update_bound names u.parameters cursors x)) (λ y. NumberedStatement.update y)
        (update_accepts names j fits.tables cursors fits.known fits.positions fits.reads fits.holds x null.0 null.1))
      where
        name : TableName
        name = table_of (own u) x.table

        of_rows : List Site → List Site
        of_rows l =
            Site.table_changed name ∷ Site.column_list (map (λ s. s.column) (listed x.assignments)) ∷ with_select (known_in u) name (flat_map (rules.set_sites u name) (listed x.assignments) ++ l)

        same : of_rows (where_sites_of names j name x.target) ≡ of_rows (where_sites u name x.target)
        same = ap of_rows (where_same name x.target)
    statement_accepts (statement.Delete x) null =
        subst (λ S. Accepts j S (statement_bound names u.parameters cursors (statement.Delete x))) same
        (made_accepts j (of_rows (where_sites_of names j name x.target)) (whole (delete_bound names u.parameters cursors x)) (λ y. NumberedStatement.delete y)
        (delete_accepts names j fits.tables cursors fits.known fits.positions fits.reads fits.holds x null))
      where
        name : TableName
        name = table_of (own u) x.table

        of_rows : List Site → List Site
        of_rows l = Site.table_changed name ∷ Site.privilege_used name Privilege.delete ∷ with_select (known_in u) name l

        same : of_rows (where_sites_of names j name x.target) ≡ of_rows (where_sites u name x.target)
        same = ap of_rows (where_same name x.target)
    statement_accepts (statement.Commit work) null = refl
    statement_accepts (statement.Rollback work) null = refl

    -- a statement is bound exactly where it is well formed
    pub accepted_exactly : (s : Statement) → StatementSpellsNoNull names s → is_ok (statement_bound names u.parameters cursors s) ≡ is_well_formed j (statement_sites u s)
    accepted_exactly s null = accepted j (statement_sites u s) (statement_bound names u.parameters cursors s) (statement_accepts s null)
