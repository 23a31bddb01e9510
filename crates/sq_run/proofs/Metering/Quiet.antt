-- How many rows OPEN and FETCH of a quiet cursor read, said of the module's text, in a session of accepted
-- texts that stands for the machine (own rule; ISO/IEC 9075:1992, 13.1 to 13.3): OPEN none, and a FETCH
-- that takes the cursor from the row of one number to that of a later one at least 1, and no more than the
-- numbers differ. Only a quiet cursor walks.
use Rattle.std.proofs.Common.{◌≡◌, ◌⊎◌, inl, inr, ℕ, ◌+◌, ◌-◌, ◌<◌, ◌≤◌, true, List, length, map, Option, Some, None, Ok, Err, refl, sym, ap, subst, ◌∙◌, arith}
use Rattle.std.proofs.lemmas.List.{get_or-set_same}
use Rattle.std.proofs.lemmas.Option.{slice_get_within}
use Rattle.std.specs.List.{IsAmong}
use Rattle.std.specs.Prelude.{IfSome, MatchOption, slice_get, option_map, ◌&&◌}
use Rattle.sq_lex.specs.declared.name.Name.{Name}
use Rattle.sq_tree.specs.declared.«module».Cursor.{Cursor}
use Rattle.sq_tree.specs.declared.«module».ModuleItem.TheVariants as item
use Rattle.sq_tree.specs.declared.«module».ModuleText.{ModuleText}
use Rattle.sq_tree.specs.declared.«module».Procedure.{Procedure}
use Rattle.sq_tree.specs.declared.schema.SchemaText.{SchemaText}
use Rattle.sq_tree.specs.declared.statement.Fetch.{Fetch}
use Rattle.sq_tree.specs.declared.statement.Statement.TheVariants as statement
use Rattle.sq_value.specs.declared.value.Value.{Value}
use Rattle.sq_store.specs.Content.{table_at}
use Rattle.sq_store.specs.declared.table.Numbered.{Numbered}
use Rattle.sq_meaning.specs.Environment.{same_name}
use Rattle.sq_meaning.specs.Status.{Outcome, and_then}
use Rattle.sq_meaning.specs.Keyed.{is_quiet_cursor}
use Rattle.sq_meaning.specs.Module.{cursor_named, declared_parameters, module_named}
use Rattle.sq_meaning.specs.SchemaRefusal.{elements_of}
use Rattle.sq_meaning.specs.WellFormedStatement.{Surroundings, surroundings_of, updatable_cursor}
use Rattle.sq_meaning.specs.Machine as by_name
use Rattle.sq_bound.specs.Known.{KnownTables}
use Rattle.sq_bound.specs.declared.names.ParameterDesc.{ParameterDesc}
use Rattle.sq_bound.specs.declared.statement.BoundFetch.{BoundFetch}
use Rattle.sq_bound.specs.declared.statement.BoundStatement.{BoundStatement}
use Rattle.sq_bound.specs.declared.statement.BoundStatement.TheVariants as bound
use Rattle.sq_module.specs.Written.{IsDeclaredFrom, IsNumberOf, IsStatementIn}
use Rattle.sq_module.specs.declared.program.DeclaredCursor.{DeclaredCursor}
use Rattle.sq_module.specs.declared.program.Program.{Program}
use Rattle.sq_session.proofs.OpenCursors.Over.{as_many, over_there}
use Rattle.sq_session.specs.Cursors.{is_over}
use Rattle.sq_session.specs.Fetch.{next_walked, over_walk, shown_fetched, walked_to}
use Rattle.sq_session.specs.Kind.{Fetching, fetching, kind_of, opening, over_at}
use Rattle.sq_session.specs.Metered.{CallReads, FetchReadsFrom, last_number}
use Rattle.sq_session.specs.Parameter.{started_values}
use Rattle.sq_session.specs.Schemas.{Schemas}
use Rattle.sq_session.specs.Session.{Session}
use Rattle.sq_session.specs.State.{State, cursor_at, is_open, next_number, with_cursor}
use Rattle.sq_session.specs.Step.{Comes, MayCall, MayFetchFrom, MayOpenIf, OpensAs}
use Rattle.sq_session.specs.declared.cursor.CursorState.{CursorState}
use Rattle.sq_session.specs.declared.cursor.CursorState.TheVariants as cursor
use Rattle.sq_session.specs.declared.cursor.NumbersCursor.{NumbersCursor}
use Rattle.sq_session.specs.declared.reply.Done.{Done}
use Rattle.sq_session.specs.declared.reply.Reply.{Reply}
use Rattle.sq_session.specs.declared.walk.WalkingCursor.{WalkingCursor}
use Rattle.sq_run.proofs.OpenCursors.CursorOpens.{IsUpdatableAs}
use Rattle.sq_run.proofs.Metering.QuietReads as of_cursor
use Rattle.sq_run.proofs.Steps.Agrees.{IsNumbered, cursor_here, module_of, name_of}
use Rattle.sq_run.proofs.Steps.Exact.{IsBoundExactly, IsCursorExactly, IsOpenedFrom}
use Rattle.sq_run.proofs.Steps.Found.{at_mapped, cursor_found, itself, module_found}
use Rattle.sq_run.proofs.Steps.Projected.{entry_of}
use Rattle.sq_run.proofs.Texts.Reports.{IsSession}
use Rattle.sq_run.proofs.Steps.PerformedStatements.{of, some_same}
use Rattle.sq_run.proofs.OpenCursors.Cursors.{IsCursorAt}
use Rattle.sq_run.proofs.Metering.ReadCalls.{IsBoundCall, IsCall, bound_call, called_values, called_with, done}

module _ (texts : List SchemaText) (modules : List ModuleText) (row_numbers : ℕ) (known : KnownTables) (schemas : Schemas) (program : Program)
    (o : IsOpenedFrom texts modules known schemas program) (exact : IsBoundExactly texts modules program) where
  abbrev declared : List DeclaredCursor
  declared = program.cursors.items

  -- ---- what a statement that names a cursor is bound to

  module _ (m : ModuleText) (ps : List ParameterDesc) where
    pub open_bound : (name : Name) (b : BoundStatement) → IsStatementIn known m declared ps (statement.Open name) b
        → (n : ℕ) × (b ≡ bound.Open n) × IsNumberOf known m declared name n
    open_bound name (bound.Open n) h = (n, refl, h)
    open_bound name _ h = absurd h

    pub fetch_bound : (f : Fetch) (b : BoundStatement) → IsStatementIn known m declared ps (statement.Fetch f) b
        → (x : BoundFetch) × (b ≡ bound.Fetch x) × IsNumberOf known m declared f.cursor x.cursor
    fetch_bound f (bound.Fetch x) h = (x, refl, h.0)
    fetch_bound f _ h = absurd h

  -- ---- a call

  module _ (s : Session) (x : by_name.State) (stands : IsSession texts modules row_numbers known schemas program o exact s x)
      (m : ModuleText) (p : Procedure) (values : List Value) (reply : Reply) (after : State)
      (call : IsCall texts modules s m p values reply after) where
    abbrev pub u : Surroundings
    u = surroundings_of (elements_of texts) m p

    pub b : IsBoundCall texts modules known schemas program o exact s m p values call.number
    b = bound_call texts modules known schemas program o exact s stands.procedures m p values reply after call

    pub reads_of : (y : BoundStatement) → b.statement ≡ y
        → CallReads (Some (kind_of declared m.authorization b.parameters y)) values s.state reply.reads
    reads_of y e =
        subst (λ k. CallReads k values s.state reply.reads) (b.kind ∙ ap (λ z. Some (kind_of declared m.authorization b.parameters z)) e) call.reads

    pub may_of : (y : BoundStatement) → b.statement ≡ y
        → MayCall s.schemas (Some (kind_of declared m.authorization b.parameters y)) values s.state (done reply) after
    may_of y e =
        subst (λ k. MayCall s.schemas k values s.state (done reply) after) (b.kind ∙ ap (λ z. Some (kind_of declared m.authorization b.parameters z)) e) call.may

    -- the cursor with this number is bound from this one of the module
    pub record IsDeclared (c : Cursor) (n : ℕ) : Type 0 where
      pub declared_as : DeclaredCursor
      pub there : slice_get declared n ≡ Some declared_as
      pub is_item : IsAmong m.items (item.Cursor c)
      pub from : IsDeclaredFrom known m c declared_as
      pub updatable : IsUpdatableAs declared_as.cursor.body (updatable_cursor u c)

    module _ (name : Name) (c : Cursor) (named : cursor_named m name ≡ Some c) (n : ℕ) (h : IsNumberOf known m declared name n) where
      k : IsNumbered texts modules row_numbers known schemas (of texts modules row_numbers known schemas program o exact) declared s.state x stands.agrees
          m p b.parameters b.declares values b.many name n
      k =
          cursor_here texts modules row_numbers known schemas (of texts modules row_numbers known schemas program o exact) declared s.state x stands.agrees
          m p b.parameters b.declares values b.many o.admitted b.among o.is_of.cursors name n h

      cursor_is : k.here.cursor ≡ c
      cursor_is = some_same k.here.cursor c (sym k.here.is_named ∙ named)

      pub is_called : c.name ≡ name
      is_called = sym (ap (λ (y : Cursor). y.name) cursor_is) ∙ k.named

      -- no other number is that of this cursor
      pub at_number : (i : ℕ) → IsCursorAt program m c i → i ≡ n
      at_number i at =
          let called : at.declared_as.name ≡ name = at.named ∙ is_called in
          k.here.only.only i (entry_of module_of name_of x at.declared_as) (at_mapped (entry_of module_of name_of x) declared i at.declared_as at.there)
          ((λ j. same_name (at.of_module j) m.name && same_name (called j) name) ∙ (λ j. itself m.name j && itself name j))

      pub is_declared : IsDeclared c n
      is_declared =
          let d : DeclaredCursor = k.here.declared_as in
          let from = k.declared_from in
          let e : IsCursorExactly texts modules d = exact.cursors n d k.here.there in
          let text : e.text ≡ m = some_same e.text m (sym e.is_text ∙ ap (module_named modules) from.of_module ∙ module_found modules o.admitted m b.among) in
          let exact_cursor : e.cursor ≡ k.here.cursor
          = some_same e.cursor k.here.cursor (sym e.is_cursor ∙ (λ i. cursor_named (text i) (from.named i)) ∙ cursor_found modules o.admitted m b.among k.here.cursor k.among) in
          record {
            declared_as = d;
            there = k.here.there;
            is_item = subst (λ y. IsAmong m.items (item.Cursor y)) cursor_is k.among;
            from = subst (λ y. IsDeclaredFrom known m y d) cursor_is from;
            updatable =
                subst (λ y. IsUpdatableAs d.cursor.body (updatable_cursor u y)) (exact_cursor ∙ cursor_is)
                (subst (λ t. IsUpdatableAs d.cursor.body (updatable_cursor (record { elements = elements_of texts; in_module = t; parameters = declared_parameters p }) e.cursor)) text
                (e.updatable (declared_parameters p)));
          }

      open_none : is_quiet_cursor u c ≡ true → b.statement ≡ bound.Open n → reply.reads ≡ 0
      open_none quiet e =
          let d = is_declared in
          of_cursor.quiet_open_reads_none texts known schemas o.declares exact.accepted u refl declared n d.declared_as d.there c d.from.parameters d.from.cursor d.updatable
          quiet m.authorization b.parameters values s.state reply.reads (reads_of (bound.Open n) e)

      pub within : n < length s.state.cursors
      within =
          subst (λ l. n < l) (as_many declared s.state.cursors stands.agrees.goes_over.0)
          (slice_get_within declared n is_declared.declared_as is_declared.there)

      -- A cursor is the one that was set.
      set_one : (z : CursorState) → cursor_at (with_cursor s.state n z) n ≡ z
      set_one z = get_or-set_same s.state.cursors n z cursor.Closed within

      -- what OPEN does to a closed one
      opened_walks : is_quiet_cursor u c ≡ true → b.statement ≡ bound.Open n → cursor_at s.state n ≡ cursor.Closed
          → (w : WalkingCursor) × (cursor_at after n ≡ cursor.Walking w) × (last_number w ≡ 0) × (w.values ≡ started_values b.parameters values)
      opened_walks quiet e closed =
          let d = is_declared in
          let may = may_of (bound.Open n) e in
          let opens = subst (λ y. MayOpenIf (is_open y) s.schemas (opening declared m.authorization b.parameters n) (started_values b.parameters values) s.state (done reply) after) closed may.0 in
          let w = of_cursor.quiet_opens texts known schemas o.declares exact.accepted u refl declared n d.declared_as d.there c d.from.parameters d.from.cursor d.updatable
          quiet m.authorization b.parameters (started_values b.parameters values) s.state reply.reads opens.0 opens.1 in
          let so = subst (λ z. OpensAs z n s.state (done reply) after) w.1 opens.3 in
          (w.0, ap (λ t. cursor_at t n) so.1 ∙ set_one (cursor.Walking w.0), w.2, w.3)

      -- a cursor that walks is quiet
      walks_quiet : (w : WalkingCursor) → cursor_at s.state n ≡ cursor.Walking w → is_quiet_cursor u c ≡ true
      walks_quiet w walking =
          let d = is_declared in
          of_cursor.walking_is_quiet texts known schemas o.declares exact.accepted u refl declared n d.declared_as d.there c d.from.parameters d.from.cursor d.updatable w
          (subst (λ z. is_over (over_at declared n) z ≡ true) walking (over_there declared s.state.cursors n cursor.Closed stands.agrees.goes_over.0 within))

    -- a FETCH before and after which a cursor walks
    module _ (f : Fetch) (c : Cursor) (named : cursor_named m f.cursor ≡ Some c) (y : BoundFetch) (h : IsNumberOf known m declared f.cursor y.cursor)
        (e : b.statement ≡ bound.Fetch y) (v w : WalkingCursor) (before : cursor_at s.state y.cursor ≡ cursor.Walking v)
        (behind : cursor_at after y.cursor ≡ cursor.Walking w) where
      abbrev fetched_by : Fetching
      fetched_by = fetching declared m.authorization b.parameters y

      abbrev reached : Option Numbered
      reached = next_walked fetched_by (table_at s.state.tables v.table) v

      same_walk : (a z : WalkingCursor) → cursor.Walking a ≡ cursor.Walking z → a ≡ z
      same_walk a z is_same = cc

      set_walk : (z : WalkingCursor) → cursor_at (with_cursor s.state y.cursor (cursor.Walking z)) y.cursor ≡ cursor.Walking z
      set_walk z = set_one f.cursor c named y.cursor h (cursor.Walking z)

      -- the cursor came where it should, or stays where it was
      by_done : (r : Option Numbered) (z : Outcome Done)
          → Comes (over_walk (and_then z (λ d. Ok (walked_to v r, d)))) y.cursor s.state (done reply) after → (v ≡ w) ⊎ (walked_to v r ≡ w)
      by_done r (Err st) come = inl (same_walk v w (sym before ∙ ap (λ t. cursor_at t y.cursor) (sym come.1) ∙ behind))
      by_done r (Ok d) come =
          inr (same_walk (walked_to v r) w (sym (ap (λ t. cursor_at t y.cursor) come.1 ∙ set_walk (walked_to v r)) ∙ behind))

      came : (v ≡ w) ⊎ (walked_to v reached ≡ w)
      came =
          let may = may_of (bound.Fetch y) e in
          by_done reached (shown_fetched fetched_by (option_map (λ r. r.row) reached))
          (subst (λ z. MayFetchFrom z fetched_by (started_values b.parameters values) s.state (done reply) after) before may.0)

      -- the cursor keeps the values with which it was opened
      values_kept : w.values ≡ v.values
      values_kept = by_way reached came
        where
          by_way : (r : Option Numbered) → (v ≡ w) ⊎ (walked_to v r ≡ w) → w.values ≡ v.values
          by_way r (inl same) = ap (λ (k : WalkingCursor). k.values) (sym same)
          by_way None (inr same) = ap (λ (k : WalkingCursor). k.values) (sym same)
          by_way (Some q) (inr same) = ap (λ (k : WalkingCursor). k.values) (sym same)

      -- the cursor comes to a row
      module _ (on : w.on ≡ Some (last_number w)) (later : last_number v < last_number w) where
        abbrev FewRead : ℕ → Type 0
        FewRead q = (1 ≤ reply.reads) × (reply.reads ≤ q - last_number v)

        not_same : v ≡ w → ⊥
        not_same same =
            let equal : last_number v ≡ last_number w = ap last_number same in
            absurd (omega (arith, later, equal))

        is_none : None ≡ w.on → ⊥
        is_none none = cc (none ∙ on)

        by_row : (r : Option Numbered) → IfSome r (λ q. FewRead q.number) → (v ≡ w) ⊎ (walked_to v r ≡ w) → FewRead (last_number w)
        by_row r few (inl same) = absurd (not_same same)
        by_row None few (inr same) = absurd (is_none (ap (λ (k : WalkingCursor). k.on) same))
        by_row (Some q) few (inr same) =
            let number : q.number + 1 - 1 ≡ q.number = omega arith in
            subst FewRead (sym number ∙ ap last_number same) few

        fetched_few : FewRead (last_number w)
        fetched_few =
            let d = is_declared f.cursor c named y.cursor h in
            let quiet = walks_quiet f.cursor c named y.cursor h v before in
            by_row reached
            (of_cursor.quiet_fetch_reads texts known schemas o.declares exact.accepted u refl declared y.cursor d.declared_as d.there c d.from.parameters d.from.cursor d.updatable
            quiet m.authorization b.parameters values s.state reply.reads y v before (reads_of (bound.Fetch y) e)) came

    -- ---- the laws

    -- OPEN of a quiet cursor reads no row.
    pub quiet_open_reads_none : (name : Name) → p.statement ≡ statement.Open name → (c : Cursor) → cursor_named m name ≡ Some c
        → is_quiet_cursor u c ≡ true → reply.reads ≡ 0
    quiet_open_reads_none name opens c named quiet =
        let y = open_bound m b.parameters name b.statement (subst (λ st. IsStatementIn known m declared b.parameters st b.statement) opens b.is) in
        open_none name c named y.0 y.2 quiet y.1

    -- Where it was closed, it walks then, came to no row yet, and keeps the values of the call.
    pub quiet_open_walks : (name : Name) → p.statement ≡ statement.Open name → (c : Cursor) → cursor_named m name ≡ Some c
        → is_quiet_cursor u c ≡ true → (n : ℕ) → IsCursorAt program m c n → cursor_at s.state n ≡ cursor.Closed
        → (w : WalkingCursor) × (cursor_at after n ≡ cursor.Walking w) × (last_number w ≡ 0) × (w.values ≡ map (λ i. i.value) (called_with p values))
    quiet_open_walks name opens c named quiet n at closed =
        let y = open_bound m b.parameters name b.statement (subst (λ st. IsStatementIn known m declared b.parameters st b.statement) opens b.is) in
        let same : n ≡ y.0 = at_number name c named y.0 y.2 n at in
        let w = opened_walks name c named y.0 y.2 quiet y.1 (subst (λ i. cursor_at s.state i ≡ cursor.Closed) same closed) in
        (w.0, subst (λ i. cursor_at after i ≡ cursor.Walking w.0) (sym same) w.1, w.2, w.3 ∙ called_values p b.parameters b.declares values)

    module _ (f : Fetch) (fetches : p.statement ≡ statement.Fetch f) (c : Cursor) (named : cursor_named m f.cursor ≡ Some c) (n : ℕ) (at : IsCursorAt program m c n)
        (v : WalkingCursor) (before : cursor_at s.state n ≡ cursor.Walking v) where
      y : (z : BoundFetch) × (b.statement ≡ bound.Fetch z) × IsNumberOf known m declared f.cursor z.cursor
      y = fetch_bound m b.parameters f b.statement (subst (λ st. IsStatementIn known m declared b.parameters st b.statement) fetches b.is)

      same : n ≡ (y.0).cursor
      same = at_number f.cursor c named (y.0).cursor y.2 n at

      -- A cursor that walks when a FETCH begins is quiet,
      pub walking_is_quiet : is_quiet_cursor u c ≡ true
      walking_is_quiet = walks_quiet f.cursor c named (y.0).cursor y.2 v (subst (λ i. cursor_at s.state i ≡ cursor.Walking v) same before)

      -- A cursor that walks before and after a FETCH keeps the values with which it was opened.
      pub fetch_keeps_values : (w : WalkingCursor) → cursor_at after n ≡ cursor.Walking w → w.values ≡ v.values
      fetch_keeps_values w behind =
          values_kept f c named y.0 y.2 y.1 v w (subst (λ i. cursor_at s.state i ≡ cursor.Walking v) same before)
          (subst (λ i. cursor_at after i ≡ cursor.Walking w) same behind)

      -- Where the FETCH takes it to a row of a greater number than that of the row to which it came last, 0
      -- after OPEN, at least 1 row is read, and no more than the numbers differ.
      pub quiet_fetch_reads : (w : WalkingCursor) → cursor_at after n ≡ cursor.Walking w → w.on ≡ Some (last_number w)
          → last_number v < last_number w → (1 ≤ reply.reads) × (reply.reads ≤ last_number w - last_number v)
      quiet_fetch_reads w behind on later =
          fetched_few f c named y.0 y.2 y.1 v w (subst (λ i. cursor_at s.state i ≡ cursor.Walking v) same before)
          (subst (λ i. cursor_at after i ≡ cursor.Walking w) same behind) on later

    -- A FETCH of a cursor over row numbers reads the row that it comes to and no other, and none where it comes to its end: of a
    -- quiet cursor, too, which an UPDATE has made such a list.
    pub listed_fetch_reads : (f : Fetch) → p.statement ≡ statement.Fetch f → (c : Cursor) → cursor_named m f.cursor ≡ Some c
        → (n : ℕ) → IsCursorAt program m c n → (v : NumbersCursor) → cursor_at s.state n ≡ cursor.Numbers v
        → MatchOption (next_number (table_at s.state.tables v.table) v).on (reply.reads ≡ 0) (λ number. reply.reads ≡ 1)
    listed_fetch_reads f fetches c named n at v before =
        let y = fetch_bound m b.parameters f b.statement (subst (λ st. IsStatementIn known m declared b.parameters st b.statement) fetches b.is) in
        let same : n ≡ (y.0).cursor = at_number f.cursor c named (y.0).cursor y.2 n at in
        subst (λ k. FetchReadsFrom k (fetching declared m.authorization b.parameters y.0) s.state.tables reply.reads)
        (subst (λ i. cursor_at s.state i ≡ cursor.Numbers v) same before) (reads_of (bound.Fetch y.0) y.1)
