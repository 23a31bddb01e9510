-- A call whose statement, as its module's text has it, is a SELECT INTO that names its row by a key, in a
-- session of accepted texts (own rule; ISO/IEC 9075:1992, 13.5): it reads one row at most.
use Rattle.std.proofs.Common.{◌≡◌, ℕ, ◌≤◌, ◌++◌, Bool, true, false, List, [], ◌∷◌, Option, Some, None, Ok, refl, sym, ap, subst, ◌∙◌}
use Rattle.std.proofs.lemmas.Bool.{and_parts, not-true, or_parts}
use Rattle.std.specs.List.{list_any}
use Rattle.std.specs.Option.{option_map}
use Rattle.sq_lex.specs.declared.name.Name.{Name}
use Rattle.sq_tree.specs.declared.names.ColumnReference.{ColumnReference}
use Rattle.sq_tree.specs.declared.«module».ModuleText.{ModuleText}
use Rattle.sq_tree.specs.declared.«module».Procedure.{Procedure}
use Rattle.sq_tree.specs.declared.schema.SchemaText.{SchemaText}
use Rattle.sq_tree.specs.declared.schema.TableDefinition.{TableDefinition}
use Rattle.sq_tree.specs.declared.statement.Select.{Select as SelectStatement}
use Rattle.sq_tree.specs.declared.statement.Statement.TheVariants as statement
use Rattle.sq_value.specs.declared.domain.Kind.{Kind}
use Rattle.sq_value.specs.declared.value.Value.{Value}
use Rattle.sq_store.specs.Keys.{Keys, keys_at}
use Rattle.sq_meaning.specs.Environment.{Input, Place, TableReference}
use Rattle.sq_meaning.specs.Placed.{Placed}
use Rattle.sq_meaning.specs.Spelled.{Named, is_distinct_word, list_of, select_of_parts}
use Rattle.sq_meaning.specs.Status.{Outcome, ◌>>=◌, and_then, each, well_formed}
use Rattle.sq_meaning.specs.Syntax.{Clause, Conds, Select, SelectList, a_cond, absent, between, compare, compare_quantified, compare_subquery, conjunction, disjunction, exists, expressions, in_list, in_subquery, is_null, like, negated, no_cond, present, select}
use Rattle.sq_meaning.specs.Target.{clause_has_subquery, has_subquery, have_subquery}
use Rattle.sq_meaning.specs.WellFormed.{IsRowOf}
use Rattle.sq_meaning.specs.Keyed.{is_keyed}
use Rattle.sq_meaning.specs.Schema.{keys, table_named}
use Rattle.sq_meaning.specs.SchemaRefusal.{elements_of, first_schema_refusal}
use Rattle.sq_meaning.specs.Words.{is_some_and}
use Rattle.sq_run.proofs.Sites.CondLiterals.{list_spells, table_spells}
use Rattle.sq_run.proofs.Sites.ConditionSites.{ClauseSpellsNoNull, SelectSpellsNoNull}
use Rattle.sq_meaning.proofs.Bind.{bind_ok}
use Rattle.sq_meaning.specs.Machine as by_name
use Rattle.sq_bound.specs.Condition.{PlacedClause, PlacedCond, PlacedSelect, clause_of, cond_of, groups_if, groups_of, select_by, select_of}
use Rattle.sq_bound.specs.Expression.{PlacedExpr}
use Rattle.sq_bound.specs.Fits.{keys_of_bases}
use Rattle.sq_bound.specs.Known.{KnownTable, KnownTables}
use Rattle.sq_bound.specs.WellFormed.{IsSelect, IsStatement, kinds_of_parameters}
use Rattle.sq_bound.specs.declared.condition.BoundSpecification.{BoundSpecification, out-BoundSpecification}
use Rattle.sq_bound.specs.declared.condition.TablePlace.{TablePlace}
use Rattle.sq_bound.specs.declared.condition.TablePlace.TheVariants.{Base}
use Rattle.sq_bound.specs.declared.names.ParameterDesc.{ParameterDesc}
use Rattle.sq_bound.specs.declared.statement.BoundSelect.{BoundSelect}
use Rattle.sq_bound.specs.declared.statement.BoundStatement.{BoundStatement}
use Rattle.sq_bound.specs.declared.statement.BoundStatement.TheVariants as bound
use Rattle.sq_bound.proofs.ConditionLaws.{select_of-out}
use Rattle.sq_binding.specs.From.{NamedItem, item_over, items_of, tables_of}
use Rattle.sq_binding.specs.Placed.{placed_column}
use Rattle.sq_binding.specs.PlacedQuery.{clause_placed, item_placed, list_placed, select_placed}
use Rattle.sq_binding.specs.Select.{Surroundings, of_lines}
use Rattle.sq_binding.specs.Names.{named_table, outside}
use Rattle.sq_binding.specs.Names as known_names
use Rattle.sq_binding.specs.Written.{IsSelectOf, SelectIs}
use Rattle.sq_catalog.specs.Declares.{Declares}
use Rattle.sq_module.specs.Program.{kinds_of_cursors}
use Rattle.sq_module.specs.Written.{IsStatementIn}
use Rattle.sq_module.specs.declared.program.DeclaredCursor.{DeclaredCursor}
use Rattle.sq_module.specs.declared.program.Program.{Program}
use Rattle.sq_expression.specs.Frame.{inputs_of}
use Rattle.sq_query.specs.Keyed.{IsKeyedSelect}
use Rattle.sq_query.specs.Needed.{clause_tables, cond_tables, conds_tables, inside_tables}
use Rattle.sq_query.specs.Specification.{IsOverBase}
use Rattle.sq_query.proofs.Keys.KeyNames.{base_keys}
use Rattle.sq_query.proofs.Keys.Searched.{where_stands}
use Rattle.sq_session.specs.Parameter.{started_values}
use Rattle.sq_session.specs.Schemas.{Schemas, columns_of}
use Rattle.sq_session.specs.Session.{Session}
use Rattle.sq_session.specs.State.{State}
use Rattle.sq_session.specs.declared.reply.Reply.{Reply}
use Rattle.sq_run.proofs.Places.Items.{names_over, over_in_order}
use Rattle.sq_run.proofs.Metering.KeyedTests.{item_names}
use Rattle.sq_run.proofs.Places.Outcomes.{known_of, ok_same}
use Rattle.sq_run.proofs.Places.Parameters.{SameInputs}
use Rattle.sq_run.proofs.Places.Setting.{known_item}
use Rattle.sq_run.proofs.Places.SubqueriesSame.{IsClauseAs, clause_subquery_same}
use Rattle.sq_run.proofs.Metering.KeyedClauses.{IsKeyedClause, clause_keyed}
use Rattle.sq_run.proofs.Metering.KeyedTables.{IsBaseNamed, IsKeyAt, base_is_named, base_key, columns_named, meant, meant_is}
use Rattle.sq_run.proofs.Steps.Exact.{IsBoundExactly, IsOpenedFrom}
use Rattle.sq_run.proofs.Texts.Reports.{IsSession}
use Rattle.sq_run.proofs.Steps.PerformedStatements.{given_values}
use Rattle.sq_run.specs.Keyed.{having_is_plain, is_keyed_query, is_keyed_select}
use Rattle.sq_run.proofs.Metering.ReadCalls.{IsBoundCall, IsCall, called_same, called_with}
use Rattle.sq_run.proofs.Metering.Quiet as quiet

-- ---- a condition without a subquery reads no table

mutual
  no_tables : (c : PlacedCond) → has_subquery c ≡ false → cond_tables c ≡ []
  no_tables (compare op a b) h = refl
  no_tables (compare_subquery op a q) h = cc
  no_tables (compare_quantified op k a q) h = cc
  no_tables (between a low high) h = refl
  no_tables (in_subquery a q) h = cc
  no_tables (in_list a es) h = refl
  no_tables (like text pattern escape) h = refl
  no_tables (is_null a) h = refl
  no_tables (exists q) h = cc
  no_tables (negated c) h = no_tables c h
  no_tables (conjunction cs) h = none_of cs h
  no_tables (disjunction cs) h = none_of cs h

  none_of : (cs : Conds (Placed TablePlace)) → have_subquery cs ≡ false → conds_tables cs ≡ []
  none_of no_cond h = refl
  none_of (a_cond c cs) h =
      let parts = or_parts (has_subquery c) (have_subquery cs) h in (λ i. no_tables c parts.0 i ++ none_of cs parts.1 i)

none_in : (c : PlacedClause) → clause_has_subquery c ≡ false → clause_tables c ≡ []
none_in absent h = refl
none_in (present c) h = no_tables c h

-- ---- the parts of a query specification

abbrev from_in : PlacedSelect → List TablePlace
from_in (select distinct list from filter by having) = from

abbrev filter_in : PlacedSelect → PlacedClause
filter_in (select distinct list from filter by having) = filter

-- what a query specification over one item is placed to
module _ (a : Surroundings) (distinct : Bool) (list : SelectList Named) (filter : Clause Named) (by : List ColumnReference) (having : Clause Named) where
  abbrev rest_placed : List NamedItem → Outcome PlacedSelect
  rest_placed items = do
    kept ← clause_placed (of_lines (items_of items) a) filter
    columns ← each (placed_column (of_lines (items_of items) a).scopes) by
    shown ← list_placed (of_lines (items_of items) a) (items_of items) list
    groups ← clause_placed (of_lines (items_of items) a) having
    Ok (select distinct (expressions shown) (tables_of items) kept columns groups)

  module _ (item : NamedItem) (p : PlacedSelect) where
    abbrev around : Surroundings
    around = of_lines (item.item ∷ []) a

    abbrev whole : PlacedClause → List Place → List PlacedExpr → PlacedClause → Outcome PlacedSelect
    whole kept columns shown groups = Ok (select distinct (expressions shown) (item.table ∷ []) kept columns groups)

    pub record IsOverItem : Type 0 where
      pub kept : PlacedClause
      pub kept_is : clause_placed around filter ≡ Ok kept
      pub groups : PlacedClause
      pub groups_is : clause_placed around having ≡ Ok groups
      pub columns : List Place
      pub shown : List PlacedExpr
      pub is : select distinct (expressions shown) (item.table ∷ []) kept columns groups ≡ p

    over_item : rest_placed (item ∷ []) ≡ Ok p → IsOverItem
    over_item e =
        let kept = bind_ok (clause_placed around filter)
        (λ k. each (placed_column around.scopes) by >>= λ cs. list_placed around (item.item ∷ []) list >>= λ es. clause_placed around having >>= λ g. whole k cs es g) p e in
        let columns = bind_ok (each (placed_column around.scopes) by)
        (λ cs. list_placed around (item.item ∷ []) list >>= λ es. clause_placed around having >>= λ g. whole kept.0 cs es g) p kept.2 in
        let shown = bind_ok (list_placed around (item.item ∷ []) list) (λ es. clause_placed around having >>= λ g. whole kept.0 columns.0 es g) p columns.2 in
        let groups = bind_ok (clause_placed around having) (λ g. whole kept.0 columns.0 shown.0 g) p shown.2 in
        record {
          kept = kept.0;
          kept_is = kept.1;
          groups = groups.0;
          groups_is = groups.1;
          columns = columns.0;
          shown = shown.0;
          is = ok_same (select distinct (expressions shown.0) (item.table ∷ []) kept.0 columns.0 groups.0) p groups.2;
        }

-- ---- a query specification that is bound in a call with these values

module _ (texts : List SchemaText) (known : KnownTables) (schemas : Schemas) (declares : Declares texts known schemas.bases schemas.views)
    (accepted : first_schema_refusal texts ≡ None) (ps : List ParameterDesc) (inputs : List Input) (values : List Value) (user : Name)
    (same : SameInputs ps inputs (inputs_of values)) (kinds : List Kind) (given : IsRowOf kinds values) (held : List Keys)
    (held_are : held ≡ keys_of_bases schemas.bases) (q : BoundSpecification) (stands : IsSelect (columns_of schemas) kinds [] q) where
  module _ (r : TableReference) (t : TableDefinition) (b : IsBaseNamed texts known schemas.bases schemas.views declares accepted r.table t) where
    abbrev means : KnownTable
    means = meant texts known schemas.bases schemas.views declares accepted r.table t b

    abbrev item : NamedItem
    item = known_item r means

    abbrev names : List Name
    names = item_names known ps item.item (over_in_order r means) inputs values user same

    key_here : (test : List Name → Bool) → list_any test (keys t) ≡ true → IsKeyAt test names (keys_at held b.number)
    key_here test any =
        subst (λ ks. IsKeyAt test names ks) (sym (base_keys schemas.bases held held_are b.number b.base.bound b.base.bound_at))
        (subst (λ ns. IsKeyAt test ns b.base.bound.keys)
        (columns_named texts known schemas.bases schemas.views declares accepted r.table t b ∙ sym (names_over 0 b.base.columns))
        (base_key texts known schemas.bases schemas.views declares accepted r.table t b test any))

    by_parts : (distinct : Bool) (list : SelectList Named) (filter : Clause Named) (by : List ColumnReference) (having : Clause Named)
        → ClauseSpellsNoNull filter → is_keyed t inputs filter ≡ true → clause_has_subquery having ≡ false
        → IsOverItem (outside known ps) distinct list filter by having item (select_of q) → IsKeyedSelect q held values user
    by_parts distinct list filter by having spells keyed plain o =
        let out = out-BoundSpecification q in
        let tree : select distinct (expressions o.shown) (item.table ∷ []) o.kept o.columns o.groups
        ≡ select_by out.distinct out.list out.from.tables (clause_of [] out.condition) (groups_if (option_map groups_of out.grouping))
        = o.is ∙ select_of-out q in
        let over : IsOverBase q b.number = sym (ap from_in tree) in
        let kept : o.kept ≡ clause_of [] out.condition = ap filter_in tree in
        let c : IsKeyedClause (keys_at held b.number) out.condition values user
        = clause_keyed known ps item.item (over_in_order r means) inputs values user same (columns_of schemas) kinds given (Base b.number)
        (keys_at held b.number) t key_here filter spells keyed out.condition
        (λ own e. where_stands (columns_of schemas) kinds q (Base b.number) own over e stands)
        (o.kept_is ∙ ap (λ k. Ok k) kept) in
        let filtered : clause_tables o.kept ≡ []
        = ap clause_tables (kept ∙ ap (clause_of []) c.is_own) ∙ no_tables (cond_of [] c.own) c.plain in
        let grouped : clause_tables o.groups ≡ []
        = none_in o.groups
        (sym (known_of (clause_placed (of_lines (item.item ∷ []) (outside known ps)) having) (IsClauseAs having) o.groups (clause_subquery_same (of_lines (item.item ∷ []) (outside known ps)) having) o.groups_is)
        ∙ plain) in
        record {
          place = b.number;
          own = c.own;
          over = over;
          is_where = c.is_own;
          by_key = c.by_key;
          alone = sym (ap inside_tables o.is) ∙ (λ i. filtered i ++ grouped i);
        }

  by_table : (distinct : Bool) (list : SelectList Named) (r : TableReference) (filter : Clause Named) (by : List ColumnReference)
      (having : Clause Named) → ClauseSpellsNoNull filter → clause_has_subquery having ≡ false
      → SelectIs (select_placed (outside known ps) (select distinct list (r ∷ []) filter by having)) q → (found : Option TableDefinition)
      → table_named (elements_of texts) r.table ≡ found → is_some_and (λ t. is_keyed t inputs filter) found ≡ true
      → IsKeyedSelect q held values user
  by_table distinct list r filter by having spells plain is None at keyed = cc
  by_table distinct list r filter by having spells plain is (Some t) at keyed =
      let b : IsBaseNamed texts known schemas.bases schemas.views declares accepted r.table t
      = base_is_named texts known schemas.bases schemas.views declares accepted r.table t at in
      let placed : item_placed (known_names.tables_of known) r ≡ Ok (item r t b)
      = ap (λ o. well_formed (option_map (item_over r) (option_map (named_table false false) o)))
      (meant_is texts known schemas.bases schemas.views declares accepted r.table t b) in
      by_parts r t b distinct list filter by having spells keyed plain
      (over_item (outside known ps) distinct list filter by having (item r t b) (select_of q)
      (subst (λ o. and_then (and_then o (λ x. Ok (x ∷ []))) (rest_placed (outside known ps) distinct list filter by having) ≡ Ok (select_of q)) placed is))

  -- A query specification whose text names a row by a key names it by a key as it is bound.
  query_keyed : (text : Select Named) → SelectSpellsNoNull text → is_keyed_query (elements_of texts) inputs text ≡ true
      → having_is_plain text ≡ true → SelectIs (select_placed (outside known ps) text) q → IsKeyedSelect q held values user
  query_keyed (select distinct list (r ∷ []) filter by having) spells keyed plain is =
      by_table distinct list r filter by having spells.1 (not-true (clause_has_subquery having) plain) is (table_named (elements_of texts) r.table) refl keyed
  query_keyed _ spells keyed plain is = cc

-- ---- a call

module _ (texts : List SchemaText) (modules : List ModuleText) (row_numbers : ℕ) (known : KnownTables) (schemas : Schemas) (program : Program)
    (o : IsOpenedFrom texts modules known schemas program) (exact : IsBoundExactly texts modules program) where
  abbrev declared : List DeclaredCursor
  declared = program.cursors.items

  select_bound : (m : ModuleText) (ps : List ParameterDesc) (q : SelectStatement) (b : BoundStatement)
      → IsStatementIn known m declared ps (statement.Select q) b
      → (y : BoundSelect) × (b ≡ bound.Select y) × IsSelectOf known ps m.authorization q y
  select_bound m ps q (bound.Select y) h = (y, refl, h)
  select_bound m ps q _ h = absurd h

  module _ (s : Session) (x : by_name.State) (stands : IsSession texts modules row_numbers known schemas program o exact s x)
      (m : ModuleText) (p : Procedure) (values : List Value) (reply : Reply) (after : State)
      (call : IsCall texts modules s m p values reply after) where
    abbrev b : IsBoundCall texts modules known schemas program o exact s m p values call.number
    b = quiet.b texts modules row_numbers known schemas program o exact s x stands m p values reply after call

    -- A keyed SELECT INTO reads one row at most.
    pub keyed_select_reads_one : (q : SelectStatement) → p.statement ≡ statement.Select q
        → is_keyed_select (elements_of texts) m.authorization (called_with p values) q ≡ true → reply.reads ≤ 1
    keyed_select_reads_one q selects keyed =
        let text : Select Named = select_of_parts m.authorization q.quantifier q.list q.table in
        let parts = and_parts (is_keyed_query (elements_of texts) (called_with p values) text) (having_is_plain text) keyed in
        let y = select_bound m b.parameters q b.statement (subst (λ st. IsStatementIn known m declared b.parameters st b.statement) selects b.is) in
        let well = subst (IsStatement (columns_of schemas) (kinds_of_cursors declared) (kinds_of_parameters b.parameters)) y.1 b.stands in
        quiet.reads_of texts modules row_numbers known schemas program o exact s x stands m p values reply after call (bound.Select y.0) y.1
        (query_keyed texts known schemas o.declares exact.accepted b.parameters (called_with p values) (started_values b.parameters values) m.authorization
        (called_same p b.parameters b.declares values b.many m.authorization) (kinds_of_parameters b.parameters) (given_values b.parameters values b.many)
        s.state.keys stands.agrees.goes_over.1.1 (y.0).query well.0 text
        (table_spells m.authorization q.table (is_distinct_word q.quantifier) (list_of q.list) (list_spells q.list)) parts.0 parts.1 y.2.query)
