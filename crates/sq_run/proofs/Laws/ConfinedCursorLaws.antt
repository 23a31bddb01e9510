-- OPEN, FETCH and CLOSE answer the same in two states that look alike to the module, and the states look alike afterwards
-- (ISO/IEC 9075:1992, 4.26 and 13.2 to 13.4).
use Rattle.std.proofs.Common.{ap, subst, sym, ◌∙◌}
use Rattle.std.specs.Prelude.{◌≡◌, ℕ, Bool, true, false, List, [], if◌then◌else◌, Option, unwrap_or, option_map, option_and_then, refl, Some, None, Ok, Err}
use Rattle.std.specs.Result.{result_ok}
use Rattle.sq_lex.specs.declared.name.Name.{Name}
use Rattle.sq_value.specs.declared.value.Value.{Value}
use Rattle.sq_tree.specs.declared.module.Cursor.{Cursor}
use Rattle.sq_tree.specs.declared.module.ModuleText.{ModuleText}
use Rattle.sq_tree.specs.declared.module.Procedure.{Procedure}
use Rattle.sq_tree.specs.declared.schema.SchemaText.{SchemaText}
use Rattle.sq_tree.specs.declared.statement.Fetch.{Fetch}
use Rattle.sq_tree.specs.declared.statement.Statement.{Statement}
use Rattle.sq_tree.specs.declared.statement.Statement.TheVariants as statement
use Rattle.sq_meaning.specs.Environment.{Env, Input, Item as FromItem, Row, TableName}
use Rattle.sq_meaning.specs.Kind.{Kinds}
use Rattle.sq_meaning.specs.QueryExpression.{query_rows}
use Rattle.sq_meaning.specs.Rows.{SortColumn, by_columns, sorted}
use Rattle.sq_meaning.specs.Spelled.{Named, listed_if_any}
use Rattle.sq_meaning.specs.Status.{Outcome, and_then}
use Rattle.sq_meaning.specs.Syntax.{Query, Select, select, specification, union}
use Rattle.sq_meaning.specs.Tables.{Tables, column_names, kinds_by_name, table_rows}
use Rattle.sq_meaning.specs.Target.{Source, Target, cursor_target, seen_through, target_of, updatable_source}
use Rattle.sq_meaning.specs.declared.status.Status.TheVariants as status
use Rattle.sq_meaning.proofs.Bind.{bind_ok}
use Rattle.sq_meaning.specs.Catalog.{tables_of}
use Rattle.sq_meaning.specs.Change.{outer_env, reading_in}
use Rattle.sq_meaning.specs.Cursor.{CursorState, Fetched, Move, before_rows, fetched, is_open}
use Rattle.sq_meaning.specs.Machine.{is_entry, CursorEntry, Outcomes, Program, Running, State, close_cursor, cursor_now, cursor_rows, ends_with, fetch_cursor, fetch_reply, fetch_to, move_of, moved, numbers_or_rows, open_by, open_cursor, opened, performed, performed_if, replied, running, set_cursor, setting, shown_now, sort_order, stepped, surroundings, with_cursor}
use Rattle.sq_meaning.specs.Module.{cursor_named}
use Rattle.sq_meaning.specs.Parameter.{inputs_of, replied_with}
use Rattle.sq_meaning.specs.Privileges.{holds}
use Rattle.sq_meaning.specs.Run.{RunItem, program_of}
use Rattle.sq_meaning.specs.SchemaRefusal.{first_schema_refusal}
use Rattle.sq_meaning.specs.Site.{Known, Site, outside, query_sites, select_sites}
use Rattle.sq_meaning.specs.WellFormedStatement.{Surroundings, cursor_query, cursor_names, cursor_sites, is_plain, is_sound, is_well_formed_procedure, judged_by, known_in, known_in_query, only_specification, opener_surroundings, orientation_of, sort_sites, statement_sites, updatable_cursor}
use Rattle.sq_run.specs.Confined.{LookAlike}
use Rattle.sq_run.specs.ShownRows.{state_after}
use Rattle.sq_run.specs.ConfinedCursors.{AlikeTo, CursorsTellWhatMayBeRead, LooksAlike, is_of_cursor, shown_under, target_named}
use Rattle.sq_run.proofs.Laws.CalledAs.{called_as}
use Rattle.sq_run.proofs.Laws.CursorsAlike.{AreAlike, FetchedAlike, entries_alike, entry_of, entry_set, fetched_alike, found_if, found_under, open_alike, set_alike, state_alike}
use Rattle.sq_run.proofs.Laws.ConfinedLaws.{query_alike}
use Rattle.sq_run.proofs.Laws.IntegrityLaws.{WellFormed, none_missing}
use Rattle.sq_run.proofs.Laws.NameLaws.{constraints_hold_in_runs}
use Rattle.sq_run.proofs.Laws.SoundTables.{all_sound, names_fit}
use Rattle.sq_run.proofs.Laws.TargetColumns.{are_as_wide, is_over}
use Rattle.sq_run.proofs.Laws.ViewRows.{are_read}
use Rattle.sq_run.proofs.Sites.Rules.{all_cursors, cursor_sound}
use Rattle.sq_run.proofs.Sites.SiteLaws.{all_parts}
use Rattle.sq_run.proofs.Steps.ReachedStates.{entries_stay, states_rise}
use Rattle.sq_run.proofs.Laws.OpensAlike.{AllMay, AreRead, MayBeRead, OpensAlike, opens_on_rows, opens_target, shown_rows}

-- ---- the query of an updatable cursor

ok_of : {A : Type 0} (o : Outcome A) (x : A) → result_ok o ≡ Some x → o ≡ Ok x
ok_of (Ok y) x e = let same : y ≡ x = cc in ap Ok same
ok_of (Err st) x e = cc

-- an updatable cursor's query is a query specification alone
query_of_target : (tables : Tables) (target : Target) (plain : Bool) (query : Query Named)
    → option_and_then (λ q. result_ok (cursor_target tables q)) (if plain then only_specification query else None) ≡ Some target
    → (q : Select Named) × (query ≡ specification q) × (cursor_target tables q ≡ Ok target)
query_of_target tables target true (specification q) e = (q, refl, ok_of (cursor_target tables q) target e)
query_of_target tables target true (union all left right) e = cc
query_of_target tables target false query e = cc

-- ---- a statement in two states

-- the user reads the same rows, and each cursor looks alike where it is there
record EntriesAlike (p : Program) (m : ModuleText) (s t : State) : Type 0 where
  tables : LookAlike p.elements m.authorization s.tables t.tables
  cursors : (name : Name) → AreAlike (shown_under (target_named p.elements m name) s.tables)
      (shown_under (target_named p.elements m name) t.tables) (entry_of s m name) (entry_of t m name)

module _ (p : Program) (m : ModuleText) (s t : State) (same : EntriesAlike p m s t) (read : AreRead p m.authorization s.tables t.tables) (values : List Value) (q : Procedure) where
  abbrev before : Running
  before = running p s values m q

  abbrev beside : Running
  beside = running p t values m q

  abbrev around : Surroundings
  around = surroundings before

  -- the rows under numbers, as the cursor of a name shows them
  abbrev one : Name → ℕ → Option Row
  one name = shown_under (target_named p.elements m name) s.tables

  abbrev other : Name → ℕ → Option Row
  other name = shown_under (target_named p.elements m name) t.tables

  abbrev Alike : Outcomes → Outcomes → Type 0
  Alike o u = (o.1 ≡ u.1) × EntriesAlike p m o.0 u.0

  now_alike : (name : Name) → LooksAlike (one name) (other name) (cursor_now before name) (cursor_now beside name)
  now_alike name = state_alike (one name) (other name) (entry_of s m name) (entry_of t m name) (same.cursors name)

  with_alike : (name : Name) (x y : CursorState) → LooksAlike (one name) (other name) x y → EntriesAlike p m (with_cursor s m.name name x) (with_cursor t m.name name y)
  with_alike name x y h = record {
    tables = same.tables;
    cursors = λ k.
        subst (λ (o : Option CursorEntry). AreAlike (one k) (other k) o (entry_of (with_cursor t m.name name y) m k)) (sym (entry_set m.name name m.name k x s.cursors))
        (subst (λ (o : Option CursorEntry). AreAlike (one k) (other k) (option_map (set_cursor m.name name x) (entry_of s m k)) o) (sym (entry_set m.name name m.name k y t.cursors))
        (set_alike m.name name k x y (one k) (other k) (entry_of s m k) (entry_of t m k) (found_under m.name k s.cursors) (found_under m.name k t.cursors) (same.cursors k)
        (λ is. subst (λ (n : Name). LooksAlike (one n) (other n) x y) (sym is) h)));
  }

  if_alike : (b d : Bool) → b ≡ d → (o u v w : Outcomes) → Alike o u → Alike v w → Alike (if b then o else v) (if d then u else w)
  if_alike true true e o u v w g h = g
  if_alike false false e o u v w g h = h
  if_alike true false e o u v w g h = cc
  if_alike false true e o u v w g h = cc

  if_open : (name : Name) (o u v w : Outcomes) → Alike o u → Alike v w
      → Alike (if is_open (cursor_now before name) then o else v) (if is_open (cursor_now beside name) then u else w)
  if_open name = if_alike (is_open (cursor_now before name)) (is_open (cursor_now beside name))
      (open_alike (one name) (other name) (cursor_now before name) (cursor_now beside name) (now_alike name))

  -- the cursor of a name is over this
  target_is : (name : Name) (c : Cursor) → cursor_named m name ≡ Some c → target_named p.elements m name ≡ updatable_cursor around c
  target_is name c named = ap (option_and_then (updatable_cursor (record { elements = p.elements; in_module = m; parameters = [] }))) named

  -- ---- OPEN

  module _ (name : Name) (c : Cursor) (named : cursor_named m name ≡ Some c) (sound : is_sound around c ≡ true) where
    abbrev known : Known
    known = known_in_query (opener_surroundings around c)

    abbrev May : List Site → Type 0
    May sites = AllMay p m s t read sites

    query_may : May (query_sites known (cursor_query around c))
    query_may =
        (all_parts (MayBeRead p m s t read) (query_sites known (cursor_query around c)) (sort_sites (cursor_names around c) (listed_if_any c.order_by))
        (none_missing (judged_by around known) (cursor_sites around c) sound)).0

    query_same : (kinds : Kinds Named) (env : Env FromItem)
        → query_rows (reading_in (setting before)) kinds (cursor_query around c) env ≡ query_rows (reading_in (setting beside)) kinds (cursor_query around c) env
    query_same kinds env =
        query_alike (tables_of p.elements) (table_rows (tables_of p.elements) s.tables m.authorization) (table_rows (tables_of p.elements) t.tables m.authorization)
        (holds p.elements m.authorization) same.tables known kinds (cursor_query around c) env query_may

    rows_same : cursor_rows before c ≡ cursor_rows beside c
    rows_same =
        ap (and_then (sort_order before c)) (λ i (order : List SortColumn). and_then (query_same (kinds_by_name (tables_of p.elements) around.parameters) (outer_env (setting before)) i) (λ found. Ok (sorted (by_columns order) found)))

    abbrev Opens : Option Target → Type 0
    Opens o = OpensAlike (shown_under o s.tables) (shown_under o t.tables) (numbers_or_rows before c o) (numbers_or_rows beside c o)

    opens_over : (query : Select Named) → May (select_sites known outside query) → (target : Target) → cursor_target (tables_of p.elements) query ≡ Ok target
        → Opens (Some target)
    opens_over (select distinct list from filter by having) may target is =
        let found = bind_ok (updatable_source (tables_of p.elements) (select distinct list from filter by having)) _ target is in
        let under = bind_ok (target_of (tables_of p.elements) (found.0).item.reference.table) (λ u. Ok (seen_through found.0 u)) target found.2 in
        let over = is_over (tables_of p.elements) distinct list from filter by having found.0 found.1 in
        let means : target_of (tables_of p.elements) over.reference.table ≡ Ok under.0
        = ap (λ (x : Source). target_of (tables_of p.elements) x.item.reference.table) (sym over.is) ∙ under.1 in
        let made : seen_through found.0 under.0 ≡ target = cc in
        let same_target : seen_through (record { item = record { reference = over.reference; columns = column_names over.table }; columns = over.columns; condition = filter }) under.0 ≡ target
        = ap (λ (x : Source). seen_through x under.0) (sym over.is) ∙ made in
        subst (λ (x : Target). Opens (Some x)) same_target
        (opens_target p m s t read (inputs_of before.parameters) known distinct list from filter by having may found.0 over under.0 means)

    opens_alike : (o : Option Target) → updatable_cursor around c ≡ o → Opens o
    opens_alike None e =
        subst (λ (o : Outcome (List Row)). OpensAlike (shown_under None s.tables) (shown_under None t.tables) (numbers_or_rows before c None) (and_then o (λ found. Ok (before_rows found)))) rows_same
        (opens_on_rows (shown_under None s.tables) (shown_under None t.tables) (cursor_rows before c))
    opens_alike (Some target) e =
        let query = query_of_target (tables_of p.elements) target (is_plain c) (cursor_query around c) e in
        opens_over query.0 (subst (λ (x : Query Named). May (query_sites known x)) query.1 query_may) target query.2

    open_by_alike : (o u : Outcome CursorState) → OpensAlike (one name) (other name) o u → Alike (open_by before name o) (open_by beside name u)
    open_by_alike (Ok x) (Ok y) h = (refl, with_alike name x y h)
    open_by_alike (Err a) (Err b) h = (ap replied_with h, same)
    open_by_alike (Ok x) (Err b) h = absurd h
    open_by_alike (Err a) (Ok y) h = absurd h

    opened_alike : Alike (open_cursor before name c) (open_cursor beside name c)
    opened_alike =
        if_open name (ends_with before status.InvalidCursorState) (ends_with beside status.InvalidCursorState) (open_by before name (opened before c)) (open_by beside name (opened beside c))
        (refl, same)
        (open_by_alike (opened before c) (opened beside c)
        (subst (λ (o : Option Target). OpensAlike (shown_under o s.tables) (shown_under o t.tables) (opened before c) (opened beside c)) (sym (target_is name c named))
        (opens_alike (updatable_cursor around c) refl)))

  -- ---- FETCH

  shown_is : (r : Running) (o : Option Target) → shown_under o r.state.tables ≡ shown_now r o
  shown_is r None = refl
  shown_is r (Some target) = refl

  module _ (f : Fetch) (c : Cursor) (named : cursor_named m f.cursor ≡ Some c) where
    abbrev move : Move
    move = move_of before.parameters (orientation_of f)

    one_is : one f.cursor ≡ shown_now before (updatable_cursor around c)
    one_is = ap (λ (o : Option Target). shown_under o s.tables) (target_is f.cursor c named) ∙ shown_is before (updatable_cursor around c)

    other_is : other f.cursor ≡ shown_now beside (updatable_cursor around c)
    other_is = ap (λ (o : Option Target). shown_under o t.tables) (target_is f.cursor c named) ∙ shown_is beside (updatable_cursor around c)

    reply_alike : (row : Option Row) → fetch_reply before f row ≡ fetch_reply beside f row
    reply_alike None = refl
    reply_alike (Some row) = refl

    fetch_to_alike : (g h : Fetched) → FetchedAlike (one f.cursor) (other f.cursor) g h → Alike (fetch_to before f g) (fetch_to beside f h)
    fetch_to_alike g h alike = (reply_alike g.row ∙ ap (fetch_reply beside f) alike.0, with_alike f.cursor g.cursor h.cursor alike.1)

    reached_alike : FetchedAlike (one f.cursor) (other f.cursor) (fetched (shown_now before (updatable_cursor around c)) move (cursor_now before f.cursor))
        (fetched (shown_now beside (updatable_cursor around c)) move (cursor_now beside f.cursor))
    reached_alike =
        subst (λ (now : ℕ → Option Row). FetchedAlike (one f.cursor) (other f.cursor) (fetched now move (cursor_now before f.cursor)) (fetched (shown_now beside (updatable_cursor around c)) move (cursor_now beside f.cursor))) one_is
        (subst (λ (now : ℕ → Option Row). FetchedAlike (one f.cursor) (other f.cursor) (fetched (one f.cursor) move (cursor_now before f.cursor)) (fetched now move (cursor_now beside f.cursor))) other_is
        (fetched_alike (one f.cursor) (other f.cursor) move (cursor_now before f.cursor) (cursor_now beside f.cursor) (now_alike f.cursor)))

    fetch_alike : Alike (fetch_cursor before f c) (fetch_cursor beside f c)
    fetch_alike =
        if_open f.cursor (fetch_to before f (fetched (shown_now before (updatable_cursor around c)) move (cursor_now before f.cursor)))
        (fetch_to beside f (fetched (shown_now beside (updatable_cursor around c)) move (cursor_now beside f.cursor)))
        (ends_with before status.InvalidCursorState) (ends_with beside status.InvalidCursorState)
        (fetch_to_alike (fetched (shown_now before (updatable_cursor around c)) move (cursor_now before f.cursor))
        (fetched (shown_now beside (updatable_cursor around c)) move (cursor_now beside f.cursor)) reached_alike)
        (refl, same)

  -- ---- CLOSE, and each of them

  close_alike : (name : Name) → Alike (close_cursor before name) (close_cursor beside name)
  close_alike name =
      if_open name (moved before name CursorState.closed, replied_with status.SuccessfulCompletion) (moved beside name CursorState.closed, replied_with status.SuccessfulCompletion)
      (ends_with before status.InvalidCursorState) (ends_with beside status.InvalidCursorState)
      (refl, with_alike name CursorState.closed CursorState.closed tt) (refl, same)

  named_alike : (o : Option Cursor) (go_on beside_it : Cursor → Outcomes) → ((c : Cursor) → o ≡ Some c → Alike (go_on c) (beside_it c))
      → Alike (unwrap_or (option_map go_on o) (ends_with before status.SyntaxErrorOrAccessRuleViolation))
      (unwrap_or (option_map beside_it o) (ends_with beside status.SyntaxErrorOrAccessRuleViolation))
  named_alike None go_on beside_it h = (refl, same)
  named_alike (Some c) go_on beside_it h = h c refl

  statement_alike : (x : Statement) → is_of_cursor x ≡ true → WellFormed before x → Alike (performed before x) (performed beside x)
  statement_alike (statement.Open name) is well =
      named_alike (cursor_named m name) (open_cursor before name) (open_cursor beside name)
      (λ c named. opened_alike name c named
      (cursor_sound around name c named (all_cursors (judged_by around (known_in around)) (statement_sites around (statement.Open name)) well).0))
  statement_alike (statement.Fetch f) is well =
      named_alike (cursor_named m f.cursor) (fetch_cursor before f) (fetch_cursor beside f) (λ c named. fetch_alike f c named)
  statement_alike (statement.Close name) is well = close_alike name
  statement_alike (statement.Select x) is well = cc
  statement_alike (statement.Insert x) is well = cc
  statement_alike (statement.Update x) is well = cc
  statement_alike (statement.Delete x) is well = cc
  statement_alike (statement.Commit x) is well = cc
  statement_alike (statement.Rollback x) is well = cc

  called_alike : is_of_cursor q.statement ≡ true → (b : Bool) → is_well_formed_procedure p.elements m q ≡ b → Alike (performed_if b before) (performed_if b beside)
  called_alike is true e = statement_alike q.statement is e
  called_alike is false e = (refl, same)

-- ---- in accepted texts, after any items

module _ (schemas : List SchemaText) (modules : List ModuleText) (row_numbers : ℕ) (accepted : first_schema_refusal schemas ≡ None) where
  abbrev p : Program
  p = program_of schemas modules row_numbers

  -- what a target shows is what is read under its name
  is_read : (items : List RunItem) (user : Name) (name : TableName) (target : Target) (inputs : List Input) → target_of (tables_of p.elements) name ≡ Ok target
      → table_rows (tables_of p.elements) (state_after p items).tables user name ≡ shown_rows p.elements user inputs target (state_after p items).tables
  is_read items user name target inputs means =
      are_read (state_after p items).tables user (tables_of p.elements) (table_rows (tables_of p.elements) (state_after p items).tables user) inputs p.elements
      (names_fit schemas accepted)
      (all_sound schemas accepted (state_after p items).tables (constraints_hold_in_runs schemas modules row_numbers items accepted).0 user) name target means

  both_read : (items others : List RunItem) (m : ModuleText) → LookAlike p.elements m.authorization (state_after p items).tables (state_after p others).tables
      → AreRead p m.authorization (state_after p items).tables (state_after p others).tables
  both_read items others m alike = record {
    wide = are_as_wide p.elements (names_fit schemas accepted);
    rise = ((states_rise p items).0, (states_rise p others).0);
    tables = alike;
    targets = λ name target inputs held means.
        sym (is_read items m.authorization name target inputs means) ∙ alike name held ∙ is_read others m.authorization name target inputs means;
  }

  -- the same cursors are there in both
  entries : (items others : List RunItem) (m : ModuleText) → AlikeTo p m (state_after p items) (state_after p others) → EntriesAlike p m (state_after p items) (state_after p others)
  entries items others m same = record {
    tables = same.tables;
    cursors = λ name.
        entries_alike (shown_under (target_named p.elements m name) (state_after p items).tables) (shown_under (target_named p.elements m name) (state_after p others).tables)
        (entry_of (state_after p items) m name) (entry_of (state_after p others) m name)
        (found_if (is_entry m.name name) (state_after p items).cursors ∙ entries_stay p items m.name name
        ∙ sym (entries_stay p others m.name name) ∙ sym (found_if (is_entry m.name name) (state_after p others).cursors))
        (same.cursors name);
  }

  as_seen : (m : ModuleText) (s t : State) → EntriesAlike p m s t → AlikeTo p m s t
  as_seen m s t same = record {
    tables = same.tables;
    cursors = λ name.
        state_alike (shown_under (target_named p.elements m name) s.tables) (shown_under (target_named p.elements m name) t.tables) (entry_of s m name) (entry_of t m name)
        (same.cursors name);
  }

  pub cursors_tell_what_may_be_read : CursorsTellWhatMayBeRead p
  unfolding CursorsTellWhatMayBeRead
  cursors_tell_what_may_be_read = λ items others c m q is_m is_q is same.
      let s = state_after p items in
      let t = state_after p others in
      let both = called_alike p m s t (entries items others m same) (both_read items others m same.tables) c.values q is (is_well_formed_procedure p.elements m q) refl in
      subst (λ (o : Outcomes). (o.1 ≡ replied p t c) × AlikeTo p m o.0 (stepped p t c)) (sym (called_as p s c m is_m q is_q))
      (subst (λ (o : Outcomes). let here = performed_if (is_well_formed_procedure p.elements m q) (running p s c.values m q) in (here.1 ≡ o.1) × AlikeTo p m here.0 o.0)
      (sym (called_as p t c m is_m q is_q))
      (both.0, as_seen m (performed_if (is_well_formed_procedure p.elements m q) (running p s c.values m q)).0 (performed_if (is_well_formed_procedure p.elements m q) (running p t c.values m q)).0 both.1))
