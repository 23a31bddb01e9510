-- A FETCH of a cursor that walks, and was opened by a call in which its query names a row by a key, as
-- its module's text has it, in a session of accepted texts (own rule; ISO/IEC 9075:1992, 13.1 to 13.3):
-- it reads one row at most.
use Rattle.std.proofs.Common.{◌≡◌, ℕ, ◌≤◌, Bool, true, false, List, [], ◌∷◌, map, Option, Some, None, refl, sym, ap, subst, ◌∙◌}
use Rattle.std.specs.Option.{option_and_then, option_map_or}
use Rattle.std.specs.Prelude.{IfSome, if◌then◌else◌, slice_get}
use Rattle.sq_lex.specs.declared.name.Name.{Name}
use Rattle.sq_tree.specs.declared.«module».Cursor.{Cursor}
use Rattle.sq_tree.specs.declared.«module».ModuleText.{ModuleText}
use Rattle.sq_tree.specs.declared.«module».Procedure.{Procedure}
use Rattle.sq_tree.specs.declared.schema.SchemaText.{SchemaText}
use Rattle.sq_tree.specs.declared.schema.TableDefinition.{TableDefinition}
use Rattle.sq_tree.specs.declared.statement.Fetch.{Fetch}
use Rattle.sq_tree.specs.declared.statement.Statement.TheVariants as statement
use Rattle.sq_value.specs.declared.domain.Kind.{Kind}
use Rattle.sq_value.specs.declared.value.Value.{Value}
use Rattle.sq_meaning.specs.Environment.{Input}
use Rattle.sq_meaning.specs.Spelled.{Named, query_of}
use Rattle.sq_meaning.specs.Syntax.{Query, Select, specification, union}
use Rattle.sq_meaning.specs.WellFormed.{IsRowOf}
use Rattle.sq_meaning.specs.Keyed.{is_keyed}
use Rattle.sq_meaning.specs.Module.{cursor_named}
use Rattle.sq_meaning.specs.Schema.{table_named}
use Rattle.sq_meaning.specs.SchemaRefusal.{elements_of}
use Rattle.sq_meaning.specs.WellFormedStatement.{Surroundings, is_plain, only_specification, surroundings_of}
use Rattle.sq_meaning.specs.Words.{is_some_and}
use Rattle.sq_run.proofs.Sites.QueryLiterals.{query_spells}
use Rattle.sq_run.proofs.Sites.ConditionSites.{SelectSpellsNoNull}
use Rattle.sq_run.proofs.Sites.QuerySites.{QuerySpellsNoNull}
use Rattle.sq_meaning.specs.Machine as by_name
use Rattle.sq_bound.specs.Fits.{FitsBody, FitsQuery}
use Rattle.sq_bound.specs.Known.{KnownTable, KnownTables}
use Rattle.sq_bound.specs.WellFormed.{IsCursor, IsCursorBody, IsTarget, kinds_of_parameters, kinds_of_results}
use Rattle.sq_bound.specs.declared.names.ParameterDesc.{ParameterDesc}
use Rattle.sq_bound.specs.declared.query.CursorBody.{CursorBody}
use Rattle.sq_bound.specs.declared.query.CursorBody.TheVariants as body
use Rattle.sq_bound.specs.declared.query.UpdatableQuery.{UpdatableQuery}
use Rattle.sq_bound.specs.declared.statement.BoundFetch.{BoundFetch}
use Rattle.sq_bound.specs.declared.statement.BoundStatement.TheVariants as bound
use Rattle.sq_binding.specs.PlacedQuery.{clause_placed}
use Rattle.sq_binding.specs.Select.{of_lines}
use Rattle.sq_binding.specs.Names.{outside}
use Rattle.sq_binding.specs.Written.{ClauseIs, HasRowsOf, IsCursorOf, IsUpdatableOf, leaf_item}
use Rattle.sq_module.specs.Program.{OpensWellFormed}
use Rattle.sq_module.specs.Written.{IsNumberOf, IsStatementIn}
use Rattle.sq_module.specs.declared.program.DeclaredCursor.{DeclaredCursor}
use Rattle.sq_module.specs.declared.program.Program.{Program}
use Rattle.sq_expression.specs.Frame.{inputs_of}
use Rattle.sq_query.specs.Keyed.{IsKeyedTarget, IsKeyedUnder}
use Rattle.sq_session.proofs.OpenCursors.Over.{over_there}
use Rattle.sq_session.proofs.Walks.QuietWalks.{body_fits}
use Rattle.sq_session.specs.Cursors.{is_over}
use Rattle.sq_session.specs.Kind.{Over, fetching, over_of, target_in}
use Rattle.sq_session.specs.Metered.{FetchReadsFrom}
use Rattle.sq_session.specs.Parameter.{started_values}
use Rattle.sq_session.specs.Schemas.{Schemas, columns_of}
use Rattle.sq_session.specs.Session.{Session}
use Rattle.sq_session.specs.State.{State, cursor_at}
use Rattle.sq_session.specs.declared.cursor.CursorState.TheVariants as cursor
use Rattle.sq_session.specs.declared.reply.Reply.{Reply}
use Rattle.sq_session.specs.declared.walk.WalkingCursor.{WalkingCursor}
use Rattle.sq_run.proofs.Places.Parameters.{SameInputs}
use Rattle.sq_run.proofs.Metering.KeyedTables.{IsBaseNamed, base_is_named, meant, meant_is}
use Rattle.sq_run.proofs.Metering.KeyedTargets.{target_keyed}
use Rattle.sq_run.proofs.Steps.Agrees.{has_one}
use Rattle.sq_run.proofs.Steps.Exact.{IsBoundExactly, IsOpenedFrom}
use Rattle.sq_run.proofs.OpenCursors.Openers.{bound_for}
use Rattle.sq_run.proofs.Texts.Reports.{IsSession}
use Rattle.sq_run.proofs.Steps.PerformedStatements.{given_values, some_same}
use Rattle.sq_run.specs.Keyed.{is_keyed_cursor, is_keyed_query}
use Rattle.sq_run.proofs.Metering.ReadCalls.{IsBoundCall, IsCall, bound_call, called_same, called_values, called_with}
use Rattle.sq_run.proofs.OpenCursors.Cursors.{IsCursorAt}
use Rattle.sq_run.proofs.Metering.Quiet as quiet

-- an updatable cursor's query is a query specification alone
of_plain : (plain : Bool) (f : Select Named → Bool) (q : Select Named) → is_some_and f (if plain then Some q else None) ≡ true → f q ≡ true
of_plain true f q e = e
of_plain false f q e = cc

-- ---- an updatable query that is bound in a call with these values

module _ (texts : List SchemaText) (modules : List ModuleText) (known : KnownTables) (schemas : Schemas) (program : Program)
    (o : IsOpenedFrom texts modules known schemas program) (exact : IsBoundExactly texts modules program) (ps : List ParameterDesc)
    (inputs : List Input) (m : ModuleText) (values : List Value) (same : SameInputs ps inputs (inputs_of values)) (kinds : List Kind)
    (given : IsRowOf kinds values) where
  module _ (q : Select Named) (spells : SelectSpellsNoNull q) (over : UpdatableQuery) (rows : IsUpdatableOf known ps q over)
      (fits : FitsQuery schemas.bases over) (well : IsTarget (columns_of schemas) kinds over.target) where
    -- the only table of an updatable query is what its name means
    by_table : (found : Option TableDefinition) → table_named (elements_of texts) rows.reference.table ≡ found
        → is_some_and (λ t. is_keyed t inputs rows.filter) found ≡ true → IsKeyedTarget over.target values m.authorization
    by_table None is keyed = cc
    by_table (Some t) is keyed =
        let b : IsBaseNamed texts known schemas.bases schemas.views o.declares exact.accepted rows.reference.table t
        = base_is_named texts known schemas.bases schemas.views o.declares exact.accepted rows.reference.table t is in
        let means : KnownTable = meant texts known schemas.bases schemas.views o.declares exact.accepted rows.reference.table t b in
        let table : rows.table ≡ means
        = some_same rows.table means (sym rows.is_known ∙ meant_is texts known schemas.bases schemas.views o.declares exact.accepted rows.reference.table t b) in
        target_keyed texts known schemas.bases schemas.views o.declares exact.accepted ps inputs values m.authorization same (columns_of schemas) kinds given
        over.target well fits.0 rows.reference (ap (option_and_then (λ (k : KnownTable). k.under)) rows.is_known ∙ rows.is_over) t b rows.filter
        (subst SelectSpellsNoNull rows.is_plain spells).1 keyed
        (subst (λ k. ClauseIs (clause_placed (of_lines (leaf_item rows.reference k ∷ []) (outside known ps)) rows.filter) over.target.condition) table rows.condition)

    query_keyed : is_keyed_query (elements_of texts) inputs q ≡ true → IsKeyedTarget over.target values m.authorization
    query_keyed keyed =
        by_table (table_named (elements_of texts) rows.reference.table) refl (sym (ap (is_keyed_query (elements_of texts) inputs) rows.is_plain) ∙ keyed)

  -- ---- the body of a cursor that is over it

  module _ (plain : Bool) (w : WalkingCursor) (count : ℕ) where
    few_read : (b : CursorBody) (columns : List Kind) → FitsBody schemas.bases b → IsCursorBody (columns_of schemas) kinds columns b
        → (q : Query Named) → QuerySpellsNoNull q → HasRowsOf known ps q b → is_over (over_of b) (cursor.Walking w) ≡ true → w.values ≡ values
        → is_some_and (is_keyed_query (elements_of texts) inputs) (if plain then only_specification q else None) ≡ true
        → IfSome (target_in b) (λ t. IsKeyedUnder t w.values m.authorization → count ≤ 1) → count ≤ 1
    few_read (body.Rows rows sorts) columns fits well q spells is over are keyed few = cc
    few_read (body.Updatable u) columns fits well (specification q) spells is over are keyed few =
        few (subst (λ vs. IsKeyedUnder u.target vs m.authorization) (sym are)
        (query_keyed q spells u is fits well.0 (of_plain plain (is_keyed_query (elements_of texts) inputs) q keyed)).under)
    few_read (body.Updatable u) columns fits well (union all left right) spells is over are keyed few = absurd is

-- ---- two calls of a session

module _ (texts : List SchemaText) (modules : List ModuleText) (row_numbers : ℕ) (known : KnownTables) (schemas : Schemas) (program : Program)
    (o : IsOpenedFrom texts modules known schemas program) (exact : IsBoundExactly texts modules program) where
  abbrev declared : List DeclaredCursor
  declared = program.cursors.items

  -- an OPEN of a cursor of the module
  module _ (m : ModuleText) (c : Cursor) (n : ℕ) (at : IsCursorAt program m c n) (t : Session) (y : by_name.State)
      (before : IsSession texts modules row_numbers known schemas program o exact t y) (q : Procedure) (handed : List Value) (opened : Reply) (behind : State)
      (opening : IsCall texts modules t m q handed opened behind) (name : Name) (opens : q.statement ≡ statement.Open name)
      (named : cursor_named m name ≡ Some c) where
    b : IsBoundCall texts modules known schemas program o exact t m q handed opening.number
    b = bound_call texts modules known schemas program o exact t before.procedures m q handed opened behind opening

    is_open : (k : ℕ) × (b.statement ≡ bound.Open k) × IsNumberOf known m declared name k
    is_open =
        quiet.open_bound texts modules row_numbers known schemas program o exact m b.parameters name b.statement
        (subst (λ st. IsStatementIn known m declared b.parameters st b.statement) opens b.is)

    abbrev IsDeclared : Type 0
    IsDeclared = quiet.IsDeclared texts modules row_numbers known schemas program o exact t y before m q handed opened behind opening c is_open.0

    d : IsDeclared
    d = quiet.is_declared texts modules row_numbers known schemas program o exact t y before m q handed opened behind opening name c named is_open.0 is_open.2

    number : n ≡ is_open.0
    number = quiet.at_number texts modules row_numbers known schemas program o exact t y before m q handed opened behind opening name c named is_open.0 is_open.2 n at

    abbrev here : DeclaredCursor
    here = d.declared_as

    called : c.name ≡ name
    called = quiet.is_called texts modules row_numbers known schemas program o exact t y before m q handed opened behind opening name c named is_open.0 is_open.2

    -- a cursor is bound for the parameters of the procedure that opens it
    written : IsCursorOf known m.authorization b.parameters c here.cursor
    written =
        bound_for modules o.admitted m b.among c d.is_item known here d.from b.parameters
        (record { procedure = q; is_item = b.is_item; opens = opens ∙ ap (λ k. statement.Open k) (sym called); declares = b.declares })

    well : IsCursor (columns_of schemas) (kinds_of_parameters b.parameters) here.cursor
    well =
        let one = has_one (λ k. IsCursor (columns_of schemas) (kinds_of_parameters b.parameters) k.cursor) (slice_get declared is_open.0)
        (subst (OpensWellFormed (columns_of schemas) declared (kinds_of_parameters b.parameters)) is_open.1 b.opens) in
        subst (λ (k : DeclaredCursor). IsCursor (columns_of schemas) (kinds_of_parameters b.parameters) k.cursor)
        (some_same one.0 here (sym one.1 ∙ d.there)) one.2

    abbrev u : Surroundings
    u = surroundings_of (elements_of texts) m q

    few_of : (w : WalkingCursor) (count : ℕ) → is_over (over_of here.cursor.body) (cursor.Walking w) ≡ true
        → w.values ≡ map (λ i. i.value) (called_with q handed) → is_keyed_cursor u (called_with q handed) c ≡ true
        → IfSome (target_in here.cursor.body) (λ t. IsKeyedUnder t w.values m.authorization → count ≤ 1) → count ≤ 1
    few_of w count over kept keyed few =
        few_read texts modules known schemas program o exact b.parameters (called_with q handed) m (started_values b.parameters handed)
        (called_same q b.parameters b.declares handed b.many m.authorization) (kinds_of_parameters b.parameters) (given_values b.parameters handed b.many)
        (is_plain c) w count here.cursor.body (kinds_of_results here.cursor.columns)
        (body_fits schemas.bases declared is_open.0 here o.fits.0 d.there) well (query_of m.authorization c.query) (query_spells m.authorization c.query)
        written.rows over (kept ∙ sym (called_values q b.parameters b.declares handed)) keyed few

    -- and a later FETCH of it, while it walks with the values of that call
    module _ (s : Session) (x : by_name.State) (stands : IsSession texts modules row_numbers known schemas program o exact s x) (p : Procedure)
        (values : List Value) (reply : Reply) (after : State) (call : IsCall texts modules s m p values reply after) (f : Fetch)
        (fetches : p.statement ≡ statement.Fetch f) (fetched : cursor_named m f.cursor ≡ Some c) (w : WalkingCursor)
        (walking : cursor_at s.state n ≡ cursor.Walking w) (kept : w.values ≡ map (λ i. i.value) (called_with q handed)) where
      abbrev a : IsBoundCall texts modules known schemas program o exact s m p values call.number
      a = quiet.b texts modules row_numbers known schemas program o exact s x stands m p values reply after call

      is_fetch : (z : BoundFetch) × (a.statement ≡ bound.Fetch z) × IsNumberOf known m declared f.cursor z.cursor
      is_fetch =
          quiet.fetch_bound texts modules row_numbers known schemas program o exact m a.parameters f a.statement
          (subst (λ st. IsStatementIn known m declared a.parameters st a.statement) fetches a.is)

      abbrev z : BoundFetch
      z = is_fetch.0

      same_number : z.cursor ≡ n
      same_number =
          sym (quiet.at_number texts modules row_numbers known schemas program o exact s x stands m p values reply after call f.cursor c fetched z.cursor is_fetch.2 n at)

      there : slice_get declared z.cursor ≡ Some here
      there = subst (λ k. slice_get declared k ≡ Some here) (sym (same_number ∙ number)) d.there

      walks : cursor_at s.state z.cursor ≡ cursor.Walking w
      walks = subst (λ k. cursor_at s.state k ≡ cursor.Walking w) (sym same_number) walking

      over : is_over (over_of here.cursor.body) (cursor.Walking w) ≡ true
      over =
          ap (λ k. is_over (option_map_or (λ (e : DeclaredCursor). over_of e.cursor.body) k Over.rows) (cursor.Walking w)) (sym there)
          ∙ subst (λ k. is_over (option_map_or (λ (e : DeclaredCursor). over_of e.cursor.body) (slice_get declared z.cursor) Over.rows) k ≡ true) walks
          (over_there declared s.state.cursors z.cursor cursor.Closed stands.agrees.goes_over.0
          (quiet.within texts modules row_numbers known schemas program o exact s x stands m p values reply after call f.cursor c fetched z.cursor is_fetch.2))

      few : IfSome (target_in here.cursor.body) (λ t. IsKeyedUnder t w.values m.authorization → reply.reads ≤ 1)
      few =
          subst (λ k. IfSome (option_and_then (λ (e : DeclaredCursor). target_in e.cursor.body) k) (λ t. IsKeyedUnder t w.values m.authorization → reply.reads ≤ 1)) there
          (subst (λ k. FetchReadsFrom k (fetching declared m.authorization a.parameters z) s.state.tables reply.reads) walks
          (quiet.reads_of texts modules row_numbers known schemas program o exact s x stands m p values reply after call (bound.Fetch z) is_fetch.1)).1

      -- A FETCH of a walk that was opened by a key reads one row at most.
      pub keyed_fetch_reads_one : is_keyed_cursor u (called_with q handed) c ≡ true → reply.reads ≤ 1
      keyed_fetch_reads_one keyed = few_of w reply.reads over kept keyed few
