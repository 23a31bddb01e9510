-- A statement in which the definitions find no fault does in a session what it does in the machine (ISO/IEC
-- 9075:1992, 13.2 to 13.10, 14.3 and 14.4): the states stay what they are to each other, and it ends alike.
use Rattle.std.proofs.Common.{◌≡◌, ℕ, zero, suc, true, false, List, [], ◌∷◌, ◌++◌, length, map, Option, Some, None, refl, sym, ap, subst, ◌∙◌, arith}
use Rattle.std.specs.List.{AllByRecursion, IsAmong, flat_map}
use Rattle.std.specs.Option.{option_and_then, option_map}
use Rattle.std.specs.Prelude.{slice_get, slice_index_or, unwrap_or}
use Rattle.std.proofs.lemmas.Bool.{and_parts}
use Rattle.sq_lex.specs.declared.name.Name.{Name}
use Rattle.sq_tree.specs.declared.«module».Cursor.{Cursor}
use Rattle.sq_tree.specs.declared.«module».ModuleItem.TheVariants as item
use Rattle.sq_tree.specs.declared.«module».ModuleText.{ModuleText}
use Rattle.sq_tree.specs.declared.«module».Procedure.{Procedure}
use Rattle.sq_tree.specs.declared.schema.SchemaText.{SchemaText}
use Rattle.sq_tree.specs.declared.statement.Delete.{Delete}
use Rattle.sq_tree.specs.declared.statement.Fetch.{Fetch}
use Rattle.sq_tree.specs.declared.statement.Insert.{Insert}
use Rattle.sq_tree.specs.declared.statement.Select.{Select as SelectStatement}
use Rattle.sq_tree.specs.declared.statement.Statement.{Statement}
use Rattle.sq_tree.specs.declared.statement.Statement.TheVariants as statement
use Rattle.sq_tree.specs.declared.statement.Update.{Update}
use Rattle.sq_tree.specs.declared.statement.Where.{Where}
use Rattle.sq_tree.specs.declared.statement.Where.TheVariants as rows_where
use Rattle.sq_value.specs.declared.value.Value.{Value}
use Rattle.sq_meaning.specs.Environment.{TableName}
use Rattle.sq_meaning.specs.Spelled.{listed, listed_if_any, table_of}
use Rattle.sq_meaning.specs.declared.status.Status.TheVariants as status
use Rattle.sq_meaning.specs.Tables.{Declared}
use Rattle.sq_meaning.specs.Target.{Target}
use Rattle.sq_meaning.specs.WellFormed.{IsRowOf}
use Rattle.sq_meaning.specs.Binding.{Judged, is_well_formed, not_updatable, unknown_cursor}
use Rattle.sq_meaning.specs.Catalog.{tables_of}
use Rattle.sq_meaning.specs.Module.{cursor_named, declarations_of, module_named}
use Rattle.sq_meaning.specs.SchemaRefusal.{elements_of}
use Rattle.sq_meaning.specs.Site.{Site}
use Rattle.sq_meaning.specs.WellFormedStatement.{Surroundings, column_kind, delete_sites, insert_columns, insert_sites, judged_by, known_in, own, set_sites, source_sites, statement_sites, surroundings_of, update_sites, updatable_cursor, where_sites}
use Rattle.sq_run.proofs.Sites.SiteLaws.{AreSound, IsSound, all_parts}
use Rattle.sq_meaning.proofs.KindLaws.{started_of_its_kind}
use Rattle.sq_meaning.specs.Machine as by_name
use Rattle.sq_meaning.specs.Machine.{performed}
use Rattle.sq_bound.specs.Fits.{FitsStatement, FitsTarget, IsBase, IsColumnOf, under as below}
use Rattle.sq_bound.specs.Known.{KnownTables, under_of}
use Rattle.sq_bound.specs.WellFormed.{IsCursor, kinds_of_parameters}
use Rattle.sq_bound.specs.declared.names.ParameterDesc.{ParameterDesc}
use Rattle.sq_bound.specs.declared.statement.BoundFetch.{BoundFetch}
use Rattle.sq_bound.specs.declared.statement.BoundInsert.{BoundInsert}
use Rattle.sq_bound.specs.declared.statement.BoundSelect.{BoundSelect}
use Rattle.sq_bound.specs.declared.statement.BoundStatement.{BoundStatement}
use Rattle.sq_bound.specs.declared.statement.BoundStatement.TheVariants as bound
use Rattle.sq_bound.specs.declared.statement.BoundUpdate.{BoundUpdate}
use Rattle.sq_bound.specs.declared.statement.ChangeTarget.{ChangeTarget}
use Rattle.sq_bound.specs.declared.statement.ChangeTarget.TheVariants as change
use Rattle.sq_bound.specs.declared.statement.PositionedTarget.{PositionedTarget}
use Rattle.sq_binding.specs.Names.{meant_by}
use Rattle.sq_binding.specs.Written.{IsDeleteOf, IsTargetOf, filter_placed}
use Rattle.sq_module.specs.Program.{OpensWellFormed}
use Rattle.sq_module.specs.Written.{Declare, IsDeclaredFrom, IsNumberOf, IsStatementIn}
use Rattle.sq_module.specs.declared.program.DeclaredCursor.{DeclaredCursor}
use Rattle.sq_module.specs.declared.program.Program.{Program}
use Rattle.sq_session.proofs.Walks.QuietWalks.{body_fits}
use Rattle.sq_session.specs.Cursors.{are_over, is_over}
use Rattle.sq_session.specs.Kind.{Kind, caller_of, delete_kind, kind_of, over_of, read_parameters, update_kind, updating}
use Rattle.sq_session.specs.Parameter.{started_values}
use Rattle.sq_session.specs.Schemas.{Schemas, columns_of}
use Rattle.sq_session.specs.State.{State}
use Rattle.sq_session.specs.Step.{EndsRight, HasTables, MayStep}
use Rattle.sq_session.specs.declared.cursor.CursorState.{CursorState}
use Rattle.sq_session.specs.declared.cursor.CursorState.TheVariants as cursor_state
use Rattle.sq_session.specs.declared.reply.Done.{Done}
use Rattle.sq_run.proofs.OpenCursors.CursorOpens.{IsUpdatableAs}
use Rattle.sq_run.proofs.Schemas.DeclaredKinds.{kinds_are_right}
use Rattle.sq_run.proofs.Steps.InSession.{AreKept, AreOf, IsCalledAs, IsNamed, WhereStars, base_place}
use Rattle.sq_run.proofs.Steps.SameStates.{close_same, commit_same, rollback_same}
use Rattle.sq_run.proofs.Steps.FetchKeeps.{fetch_keeps, select_keeps}
use Rattle.sq_run.proofs.Steps.SessionKeeps.{IsCursorHere, IsSameStep, IsUpdatableOver, delete_at_keeps, delete_keeps, insert_keeps, open_keeps, update_at_keeps, update_keeps}
use Rattle.sq_run.proofs.Sites.Stars.{ClauseStars}
use Rattle.sq_run.proofs.Changed.TargetsSet.{AreApart}
use Rattle.sq_run.proofs.Steps.Agrees.{Agrees, called, cursor_here, few, has_one, kept}
use Rattle.sq_run.proofs.Steps.Exact.{IsBoundExactly, IsCursorExactly, IsOpenedFrom}
use Rattle.sq_run.proofs.Steps.Found.{cursor_found, module_found, parameters_good}
use Rattle.sq_run.proofs.OpenCursors.Openers.{bound_for}
use Rattle.sq_run.proofs.Sites.Rules.{all_behind, all_cursors, all_updatable, are_sound, cursor_sound, cursor_stars, over_table, select_into_stars, source_right, target_there, where_stars, written}
use Rattle.sq_run.proofs.Steps.Started.{bound_apart}

pub some_same : {A : Type 0} (x y : A) → (let found : Option A = Some x in found ≡ Some y) → x ≡ y
some_same x y e = cc

-- the values at which parameters start are of their kinds
pub given_values : (ps : List ParameterDesc) (values : List Value) → length values ≡ length ps → IsRowOf (kinds_of_parameters ps) (started_values ps values)
given_values [] values e = tt
given_values (p ∷ ps) [] e = absurd (omega arith)
given_values (p ∷ ps) (v ∷ values) e = let fewer : length values ≡ length ps = omega arith in (started_of_its_kind p.domain v, given_values ps values fewer)

-- each open cursor goes over what is declared
over_one : (ds : List DeclaredCursor) (cs : List CursorState) (n : ℕ) (d : DeclaredCursor) → are_over ds cs ≡ true → slice_get ds n ≡ Some d
    → is_over (over_of d.cursor.body) (slice_index_or cs n cursor_state.Closed) ≡ true
over_one [] cs n d h at = cc
over_one (x ∷ ds) [] n d h at = cc
over_one (x ∷ ds) (c ∷ cs) zero d h at =
    let same : x ≡ d = cc in
    subst (λ (y : DeclaredCursor). is_over (over_of y.cursor.body) c ≡ true) same (and_parts (is_over (over_of x.cursor.body) c) (are_over ds cs) h).0
over_one (x ∷ ds) (c ∷ cs) (suc n) d h at = over_one ds cs n d (and_parts (is_over (over_of x.cursor.body) c) (are_over ds cs) h).1 at

-- a search condition as it is written, whatever the user
stars_written : (u : Surroundings) (w : Option Where) → ClauseStars (written u w) → WhereStars (own u) w
stars_written u None h = tt
stars_written u (Some (rows_where.Condition c)) h = h
stars_written u (Some (rows_where.CurrentOf cursor)) h = tt

module _ (texts : List SchemaText) (modules : List ModuleText) (row_numbers : ℕ) (known : KnownTables) (schemas : Schemas) (program : Program)
    (o : IsOpenedFrom texts modules known schemas program) (exact : IsBoundExactly texts modules program) where
  abbrev pub declared : List DeclaredCursor
  declared = program.cursors.items

  abbrev pub of : AreOf texts known schemas
  of = record {
    accepted = exact.accepted;
    declares = o.declares;
    kinds = kinds_are_right schemas.bases schemas.views (o.declares).stand (o.declares).seen (o.declares).kinds_are;
  }

  -- what a declared cursor is, in the module that declares it
  pub record IsExactIn (m : ModuleText) (c : Cursor) (d : DeclaredCursor) : Type 0 where
    pub updatable : (parameters : List Declared)
        → IsUpdatableAs d.cursor.body (updatable_cursor (record { elements = elements_of texts; in_module = m; parameters = parameters }) c)

  exact_in : (m : ModuleText) → IsAmong modules m → (c : Cursor) → IsAmong m.items (item.Cursor c) → (n : ℕ) (d : DeclaredCursor)
      → slice_get declared n ≡ Some d → d.«module» ≡ m.name → d.name ≡ c.name → IsExactIn m c d
  exact_in m among c is_item n d at of_module named =
      let e : IsCursorExactly texts modules d = exact.cursors n d at in
      let text : Some e.text ≡ Some m = sym e.is_text ∙ ap (module_named modules) of_module ∙ module_found modules o.admitted m among in
      let same : e.text ≡ m = some_same e.text m text in
      let cursor : Some e.cursor ≡ Some c = sym e.is_cursor ∙ (λ i. cursor_named (same i) (named i)) ∙ cursor_found modules o.admitted m among c is_item in
      let is : e.cursor ≡ c = some_same e.cursor c cursor in
      subst (λ k. IsExactIn m k d) is (subst (λ t. IsExactIn t e.cursor d) same (record { updatable = e.updatable }))

  module _ (s : State) (x : by_name.State) (agrees : Agrees texts row_numbers schemas declared s x) (shown : HasTables schemas s.tables)
      (m : ModuleText) (among : IsAmong modules m) (p : Procedure) (is_item : IsAmong m.items (item.Procedure p)) (ps : List ParameterDesc)
      (declares : Declare (declarations_of p.declarations) ps) (values : List Value) (many : length values ≡ length ps) where
    abbrev u : Surroundings
    u = surroundings_of (elements_of texts) m p

    abbrev j : Judged
    j = judged_by u (known_in u)

    abbrev run : by_name.Running
    run = few texts modules row_numbers known schemas of declared s x agrees m p ps declares values many

    abbrev started_at : List Value
    started_at = started_values ps values

    tables : AreKept texts schemas s
    tables = kept texts modules row_numbers known schemas of declared s x agrees shown

    call : IsCalledAs texts declared (caller_of m.authorization ps) started_at s run
    call = called texts modules row_numbers known schemas of declared s x agrees m p ps declares values many

    apart : AreApart ps
    apart = bound_apart p ps declares (parameters_good modules o.admitted m among p is_item)

    -- ---- the cursor that a statement names

    pub record IsCursorOfCall (name : Name) (n : ℕ) : Type 0 where
      pub here : IsCursorHere declared s run name n
      pub is_among : IsAmong m.items (item.Cursor here.cursor)
      pub declared_from : IsDeclaredFrom known m here.cursor here.declared_as
      pub is_exact : IsExactIn m here.cursor here.declared_as
      pub named : here.cursor.name ≡ name

    the_cursor : (name : Name) (n : ℕ) → IsNumberOf known m declared name n → IsCursorOfCall name n
    the_cursor name n h =
        let c = cursor_here texts modules row_numbers known schemas of declared s x agrees m p ps declares values many o.admitted among o.is_of.cursors name n h in
        record {
          here = c.here;
          is_among = c.among;
          declared_from = c.declared_from;
          is_exact = exact_in m among c.here.cursor c.among n c.here.declared_as c.here.there c.declared_from.of_module c.declared_from.named;
          named = c.named;
        }

    -- ---- statements

    open_is : (name : Name) (n : ℕ) → p.statement ≡ statement.Open name → unknown_cursor (known_in u) (Site.cursor_used name) ≡ false
        → IsNumberOf known m declared name n → OpensWellFormed (columns_of schemas) declared (kinds_of_parameters ps) (bound.Open n)
        → (d : Done) (after : State) → MayStep schemas (kind_of declared m.authorization ps (bound.Open n)) started_at s d after
        → IsSameStep declared d after (performed run (statement.Open name))
    open_is name n opens sound h opened d after may =
        let c = the_cursor name n h in
        let well = has_one (λ k. IsCursor (columns_of schemas) (kinds_of_parameters ps) k.cursor) (slice_get declared n) opened in
        let same : well.0 ≡ c.here.declared_as = some_same well.0 c.here.declared_as (sym well.1 ∙ c.here.there) in
        subst (λ f. IsSameStep declared d after (unwrap_or (option_map (by_name.open_cursor run name) f) (by_name.ends_with run status.SyntaxErrorOrAccessRuleViolation))) (sym c.here.is_named)
        (open_keeps texts known schemas of declared (caller_of m.authorization ps) started_at s run tables call name n c.here c.declared_from.user
        (bound_for modules o.admitted m among c.here.cursor c.is_among known c.here.declared_as c.declared_from ps (record { procedure = p; is_item = is_item; opens = opens ∙ ap (λ k. statement.Open k) (sym c.named); declares = declares }))
        (cursor_stars u c.here.cursor (cursor_sound u name c.here.cursor c.here.is_named sound))
        (c.is_exact.updatable u.parameters)
        (body_fits schemas.bases declared n c.here.declared_as o.fits.0 c.here.there)
        (record {
          parameters = kinds_of_parameters ps;
          is_cursor = subst (λ (k : DeclaredCursor). IsCursor (columns_of schemas) (kinds_of_parameters ps) k.cursor) same well.2;
          given = given_values ps values many;
        }) d after may)

    fetch_is : (f : Fetch) (b : BoundFetch) → unknown_cursor (known_in u) (Site.cursor_used f.cursor) ≡ false
        → IsStatementIn known m declared ps (statement.Fetch f) (bound.Fetch b) → (d : Done) (after : State) → EndsRight d
        → MayStep schemas (kind_of declared m.authorization ps (bound.Fetch b)) started_at s d after
        → IsSameStep declared d after (performed run (statement.Fetch f))
    fetch_is f b sound h d after right may =
        let c = the_cursor f.cursor b.cursor h.0 in
        subst (λ k. IsSameStep declared d after (unwrap_or (option_map (by_name.fetch_cursor run f) k) (by_name.ends_with run status.SyntaxErrorOrAccessRuleViolation))) (sym c.here.is_named)
        (fetch_keeps texts known schemas of declared (caller_of m.authorization ps) started_at s run tables call (IsNumberOf known m declared) f b h apart c.here c.declared_from.user
        c.declared_from.parameters c.declared_from.cursor
        (cursor_stars u c.here.cursor (cursor_sound u f.cursor c.here.cursor c.here.is_named sound))
        (c.is_exact.updatable u.parameters) (over_one declared s.cursors b.cursor c.here.declared_as agrees.goes_over.0 c.here.there) d after right may)

    close_is : (name : Name) (n : ℕ) → IsNumberOf known m declared name n → (d : Done) (after : State)
        → MayStep schemas (Kind.closes n) [] s d after → IsSameStep declared d after (performed run (statement.Close name))
    close_is name n h d after may =
        let c = the_cursor name n h in close_same declared s run agrees.same name n c.here.only c.here.declared_as c.here.there d after may

    -- the table that is changed has a target
    named_target : (t : TableName) → IsSound (known_in u) (Site.table_changed t) → not_updatable (known_in u) (Site.table_changed t) ≡ false
        → (target : Target) × IsNamed texts t target
    named_target t sound updatable = target_there (known_in u) t sound updatable

    -- the cursor of a positioned statement is over the table that is changed
    over_base : (t : TableName) (name : Name) (q : PositionedTarget) → IsSound (known_in u) (Site.table_changed t)
        → not_updatable (known_in u) (Site.positioned t name) ≡ false → (target : Target) → IsNamed texts t target
        → option_and_then (λ k. k.under) (meant_by known t) ≡ Some (under_of q.leaf) → IsBase schemas.bases q.leaf.table → (c : IsCursorOfCall name q.cursor)
        → IsUpdatableOver run c.here.cursor q.base
    over_base t name q sound positioned target means is_under base c =
        let over = over_table u name c.here.cursor c.here.is_named t sound positioned in
        record {
          target = over.target;
          is = over.is;
          place_is =
              over.place target means
              ∙ base_place texts known schemas of declared (caller_of m.authorization ps) started_at s run tables call t q.leaf target means is_under base ∙ sym q.is_under;
        }

    select_is : (q : SelectStatement) (b : BoundSelect) → AreSound (known_in u) (statement_sites u (statement.Select q))
        → IsStatementIn known m declared ps (statement.Select q) (bound.Select b) → (d : Done) (after : State) → EndsRight d
        → MayStep schemas (kind_of declared m.authorization ps (bound.Select b)) started_at s d after
        → IsSameStep declared d after (performed run (statement.Select q))
    select_is q b sound h d after right may =
        select_keeps texts known schemas of declared (caller_of m.authorization ps) started_at s run tables call q b h (select_into_stars u q sound) apart d after right may

    -- ---- INSERT (13.8)

    insert_is : (i : Insert) (b : BoundInsert) → is_well_formed j (statement_sites u (statement.Insert i)) ≡ true
        → IsStatementIn known m declared ps (statement.Insert i) (bound.Insert b)
        → FitsStatement schemas.bases (length declared) (length ps) (bound.Insert b) → (d : Done) (after : State)
        → MayStep schemas (kind_of declared m.authorization ps (bound.Insert b)) started_at s d after
        → IsSameStep declared d after (performed run (statement.Insert i))
    insert_is i b e h fits d after may =
        let t : TableName = table_of m.authorization i.table in
        let kinds = map (column_kind (tables_of (elements_of texts)) t) (insert_columns (tables_of (elements_of texts)) t i.columns) in
        let sound = are_sound j (insert_sites u t i) e in
        let target = named_target t sound.0 (all_updatable j (insert_sites u t i) e).0 in
        insert_keeps texts known schemas of declared (caller_of m.authorization ps) started_at s run tables call i b h fits.0 fits.1 target.0 target.1
        (source_right u kinds i.source (all_parts (IsSound (known_in u)) (map (Site.column_changed t) (listed_if_any i.columns)) (source_sites u kinds i.source) sound.1.1.1.1).1)
        d after may

    -- ---- UPDATE and DELETE (13.6, 13.7, 13.9 and 13.10)

    -- the rules of the search condition, or of the cursor
    module _ (t : TableName) (there : IsSound (known_in u) (Site.table_changed t)) (w : Option Where) where
      stars_are : AreSound (known_in u) (where_sites u t w) → WhereStars m.authorization w
      stars_are sound = stars_written u w (where_stars u t w there sound)

      positioned_is : (name : Name) → w ≡ Some (rows_where.CurrentOf name) → AllByRecursion (λ z. not_updatable (known_in u) z ≡ false) (where_sites u t w)
          → not_updatable (known_in u) (Site.positioned t name) ≡ false
      positioned_is name is all = (subst (λ v. AllByRecursion (λ z. not_updatable (known_in u) z ≡ false) (where_sites u t v)) is all).1.0

    delete_is : (y : Delete) (t : ChangeTarget) → is_well_formed j (statement_sites u (statement.Delete y)) ≡ true
        → IsStatementIn known m declared ps (statement.Delete y) (bound.Delete t)
        → FitsStatement schemas.bases (length declared) (length ps) (bound.Delete t) → (d : Done) (after : State)
        → MayStep schemas (delete_kind (caller_of m.authorization ps) t) (started_values (read_parameters (delete_kind (caller_of m.authorization ps) t)) values) s d after
        → IsSameStep declared d after (performed run (statement.Delete y))
    delete_is y t e h fits d after may = by_target t h fits may
      where
        name : TableName
        name = table_of m.authorization y.table

        sound : AreSound (known_in u) (delete_sites u name y)
        sound = are_sound j (delete_sites u name y) e

        updatable : AllByRecursion (λ z. not_updatable (known_in u) z ≡ false) (delete_sites u name y)
        updatable = all_updatable j (delete_sites u name y) e

        target : (target : Target) × IsNamed texts name target
        target = named_target name sound.0 updatable.0

        at_row : (q : PositionedTarget) (w : Option Where) → y.target ≡ w
            → IsDeleteOf (IsNumberOf known m declared) known ps m.authorization y (change.Positioned q)
            → IsTargetOf (IsNumberOf known m declared) (filter_placed known ps m.authorization name) w (change.Positioned q)
            → FitsTarget schemas.bases (length declared) (change.Positioned q)
            → MayStep schemas (Kind.deletes_at (caller_of m.authorization ps) q) started_at s d after
            → IsSameStep declared d after (performed run (statement.Delete y))
        at_row q None is h rows fits may = absurd rows
        at_row q (Some (rows_where.Condition c)) is h rows fits may = absurd rows
        at_row q (Some (rows_where.CurrentOf cursor)) is h rows fits may =
            let c = the_cursor cursor q.cursor rows in
            delete_at_keeps texts known schemas of declared (caller_of m.authorization ps) started_at s run tables call (IsNumberOf known m declared) y target.0 target.1
            q h fits.0 cursor is c.here
            (over_base name cursor q sound.0
            (positioned_is name sound.0 y.target cursor is (all_behind u (known_in u) (λ z. not_updatable (known_in u) z ≡ false) name (where_sites u name y.target) updatable.1.1))
            target.0 target.1 h.is_under fits.0 c) d after may

        by_target : (t : ChangeTarget) → IsDeleteOf (IsNumberOf known m declared) known ps m.authorization y t
            → FitsTarget schemas.bases (length declared) t
            → MayStep schemas (delete_kind (caller_of m.authorization ps) t) (started_values (read_parameters (delete_kind (caller_of m.authorization ps) t)) values) s d after
            → IsSameStep declared d after (performed run (statement.Delete y))
        by_target (change.Searched t) h fits may =
            delete_keeps texts known schemas of declared (caller_of m.authorization ps) started_at s run tables call (IsNumberOf known m declared) y target.0 target.1
            t h fits.0
            (stars_are name sound.0 y.target (all_behind u (known_in u) (IsSound (known_in u)) name (where_sites u name y.target) sound.1.1)) d after may
        by_target (change.Positioned q) h fits may = at_row q y.target refl h h.rows fits may

    update_is : (y : Update) (b : BoundUpdate) → is_well_formed j (statement_sites u (statement.Update y)) ≡ true
        → IsStatementIn known m declared ps (statement.Update y) (bound.Update b)
        → FitsStatement schemas.bases (length declared) (length ps) (bound.Update b) → (d : Done) (after : State) → (t : ChangeTarget) → b.target ≡ t
        → MayStep schemas (update_kind (updating declared (caller_of m.authorization ps) b) t) (started_values (read_parameters (update_kind (updating declared (caller_of m.authorization ps) b) t)) values) s d after
        → IsSameStep declared d after (performed run (statement.Update y))
    update_is y b e h fits d after t is_target may = by_target t is_target may
      where
        name : TableName
        name = table_of m.authorization y.table

        sound : AreSound (known_in u) (update_sites u name y)
        sound = are_sound j (update_sites u name y) e

        updatable : AllByRecursion (λ z. not_updatable (known_in u) z ≡ false) (update_sites u name y)
        updatable = all_updatable j (update_sites u name y) e

        target : (target : Target) × IsNamed texts name target
        target = named_target name sound.0 updatable.0

        sets : List Site
        sets = flat_map (set_sites u name) (listed y.assignments)

        base : (t : ChangeTarget) → b.target ≡ t → IsBase schemas.bases (below t).table
        base t is = (subst (FitsTarget schemas.bases (length declared)) is fits.0).0

        columns : (t : ChangeTarget) → b.target ≡ t → AllByRecursion (λ a. IsColumnOf (below t).table a.column) b.assignments
        columns t is = subst (λ z. AllByRecursion (λ a. IsColumnOf (below z).table a.column) b.assignments) is fits.2

        at_row : (q : PositionedTarget) → b.target ≡ change.Positioned q → (w : Option Where) → y.target ≡ w
            → IsTargetOf (IsNumberOf known m declared) (filter_placed known ps m.authorization name) w (change.Positioned q)
            → MayStep schemas (Kind.updates_at (updating declared (caller_of m.authorization ps) b) q) started_at s d after
            → IsSameStep declared d after (performed run (statement.Update y))
        at_row q is None is_at rows may = absurd rows
        at_row q is (Some (rows_where.Condition c)) is_at rows may = absurd rows
        at_row q is (Some (rows_where.CurrentOf cursor)) is_at rows may =
            let c = the_cursor cursor q.cursor rows in
            update_at_keeps texts known schemas of declared (caller_of m.authorization ps) started_at s run tables call (IsNumberOf known m declared) y b h target.0 target.1
            q is (base (change.Positioned q) is) (columns (change.Positioned q) is) cursor is_at c.here
            (over_base name cursor q sound.0
            (positioned_is name sound.0 y.target cursor is_at
            (all_parts (λ z. not_updatable (known_in u) z ≡ false) sets (where_sites u name y.target)
            (all_behind u (known_in u) (λ z. not_updatable (known_in u) z ≡ false) name (sets ++ where_sites u name y.target) updatable.1.1)).1)
            target.0 target.1
            (subst (λ z. option_and_then (λ k. k.under) (meant_by known name) ≡ Some (under_of (below z))) is h.is_under) (base (change.Positioned q) is) c) d after may

        by_target : (t : ChangeTarget) → b.target ≡ t
            → MayStep schemas (update_kind (updating declared (caller_of m.authorization ps) b) t) (started_values (read_parameters (update_kind (updating declared (caller_of m.authorization ps) b) t)) values) s d after
            → IsSameStep declared d after (performed run (statement.Update y))
        by_target (change.Searched t) is may =
            update_keeps texts known schemas of declared (caller_of m.authorization ps) started_at s run tables call (IsNumberOf known m declared) y b h target.0 target.1
            t is (base (change.Searched t) is) (columns (change.Searched t) is)
            (stars_are name sound.0 y.target
            (all_parts (IsSound (known_in u)) sets (where_sites u name y.target)
            (all_behind u (known_in u) (IsSound (known_in u)) name (sets ++ where_sites u name y.target) sound.1.1)).1) d after may
        by_target (change.Positioned q) is may =
            at_row q is y.target refl
            (subst (λ z. IsTargetOf (IsNumberOf known m declared) (filter_placed known ps m.authorization name) y.target z) is h.rows) may

    -- ---- all of them

    pub statement_is : (st : Statement) → p.statement ≡ st → is_well_formed j (statement_sites u st) ≡ true → (b : BoundStatement)
        → IsStatementIn known m declared ps st b → FitsStatement schemas.bases (length declared) (length ps) b
        → OpensWellFormed (columns_of schemas) declared (kinds_of_parameters ps) b → (d : Done) (after : State) → EndsRight d
        → MayStep schemas (kind_of declared m.authorization ps b) (started_values (read_parameters (kind_of declared m.authorization ps b)) values) s d after
        → IsSameStep declared d after (performed run st)
    statement_is (statement.Open name) is e (bound.Open n) h fits opens d after right may =
        open_is name n is (all_cursors j (statement_sites u (statement.Open name)) e).0 h opens d after may
    statement_is (statement.Fetch f) is e (bound.Fetch b) h fits opens d after right may =
        fetch_is f b (all_cursors j (statement_sites u (statement.Fetch f)) e).0 h d after right may
    statement_is (statement.Close name) is e (bound.Close n) h fits opens d after right may = close_is name n h d after may
    statement_is (statement.Select q) is e (bound.Select b) h fits opens d after right may =
        select_is q b (are_sound j (statement_sites u (statement.Select q)) e) h d after right may
    statement_is (statement.Insert i) is e (bound.Insert b) h fits opens d after right may = insert_is i b e h fits d after may
    statement_is (statement.Update y) is e (bound.Update b) h fits opens d after right may = update_is y b e h fits d after b.target refl may
    statement_is (statement.Delete y) is e (bound.Delete t) h fits opens d after right may = delete_is y t e h fits d after may
    statement_is (statement.Commit work) is e bound.Commit h fits opens d after right may = commit_same declared s run.state agrees.same d after may
    statement_is (statement.Rollback work) is e bound.Rollback h fits opens d after right may = rollback_same declared s run.state agrees.same d after may
    statement_is _ is e _ h fits opens d after right may = absurd h
