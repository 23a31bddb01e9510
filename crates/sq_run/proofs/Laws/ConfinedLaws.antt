-- A query has the same rows, and a SELECT INTO answers the same, where the tables and views on which the user holds SELECT have
-- the same rows (ISO/IEC 9075:1992, 4.26 and 13.5).
use Rattle.std.proofs.Common.{ℕ, suc, ap, sym, subst, ◌∙◌}
use Rattle.std.proofs.lemmas.Bool.{not-false}
use Rattle.std.specs.List.{AllByRecursion}
use Rattle.std.specs.Prelude.{⊤, ◌≡◌, Bool, true, false, List, [], ◌∷◌, ◌++◌, map, if◌then◌else◌, Option, refl, Some, None, Ok, Err}
use Rattle.sq_value.specs.declared.value.Value.{Value}
use Rattle.sq_tree.specs.declared.module.ModuleText.{ModuleText}
use Rattle.sq_tree.specs.declared.module.Procedure.{Procedure}
use Rattle.sq_tree.specs.declared.names.ColumnReference.{ColumnReference}
use Rattle.sq_tree.specs.declared.statement.Select.{Select as SelectStatement}
use Rattle.sq_tree.specs.declared.statement.Statement.{Statement}
use Rattle.sq_tree.specs.declared.statement.Statement.TheVariants as statement
use Rattle.sq_meaning.specs.Environment.{Env, Item, Row, TableName, TableReference}
use Rattle.sq_meaning.specs.Expression.{Reading}
use Rattle.sq_meaning.specs.Kind.{Kinds, query_kinds}
use Rattle.sq_meaning.specs.Query.{clause_truth, is_grouped, rows}
use Rattle.sq_meaning.specs.QueryExpression.{query_rows, row_brought_to}
use Rattle.sq_meaning.specs.Rows.{firsts, same_row}
use Rattle.sq_meaning.specs.Spelled.{Named}
use Rattle.sq_meaning.specs.Status.{Outcome, and_then, each}
use Rattle.sq_meaning.specs.Syntax.{Clause, Cond, Conds, Expr, Query, Select, SelectList, absent, present, specification, union}
use Rattle.sq_meaning.specs.Tables.{Tables, reading_by_name, table_rows}
use Rattle.sq_meaning.proofs.AnswerLaws.{all_true}
use Rattle.sq_meaning.proofs.OverTables.{clause_over, rows_over}
use Rattle.sq_meaning.proofs.Parts.{CondParts, SelectParts, ClauseHas, any_escape, any_list}
use Rattle.sq_meaning.specs.Binding.{privilege_missing}
use Rattle.sq_meaning.specs.Catalog.{tables_of}
use Rattle.sq_meaning.specs.Change.{outer_env}
use Rattle.sq_meaning.specs.Machine.{Outcomes, Program, Running, State, performed, performed_if, running, select_reply, selected_row, setting, single_row, surroundings}
use Rattle.sq_meaning.specs.Privilege.{Privilege}
use Rattle.sq_meaning.specs.Privileges.{holds}
use Rattle.sq_meaning.specs.Site.{Around, Known, Site, alike_pairs, beside_subquery, clause_sites, cond_sites, conds_sites, inside_query, kinds_here, list_count, list_sites, outside, plain_query, query_kinds_of, query_sites, select_count, select_sites, shown_query}
use Rattle.sq_meaning.specs.WellFormedStatement.{into_sites, is_well_formed_procedure, known_in, select_of_statement}
use Rattle.sq_run.specs.Confined.{LookAlike, SelectTellsWhatMayBeRead}
use Rattle.sq_run.proofs.Laws.CalledAs.{called_as}
use Rattle.sq_run.proofs.Laws.IntegrityLaws.{NotMissing, WellFormed, not_missing}
use Rattle.sq_run.proofs.Places.Outcomes.{each_of}
use Rattle.sq_run.proofs.Sites.SiteLaws.{all_of_mapped, all_parts}

-- ---- two readings of the same tables, whose rows are the same where they may be read

module _ (tables : Tables) (one other : TableName → Outcome (List Row)) (may : TableName → Privilege → Bool)
    (alike : (t : TableName) → may t Privilege.select ≡ true → one t ≡ other t) where
  abbrev m : Reading Named
  m = reading_by_name tables one

  abbrev n : Reading Named
  n = reading_by_name tables other

  abbrev MayBeRead : Site → Type 0
  MayBeRead x = privilege_missing may x ≡ false

  abbrev AllMay : List Site → Type 0
  AllMay sites = AllByRecursion MayBeRead sites

  abbrev FromMay : List TableReference → Type 0
  FromMay from = AllMay (map Site.table_read from)

  tables_alike : (from : List TableReference) → FromMay from → each m.rows from ≡ each n.rows from
  tables_alike from h =
      each_of (λ r. MayBeRead (Site.table_read r)) m.rows n.rows (λ r e. alike r.table (not-false (may r.table Privilege.select) e)) from
      (all_of_mapped MayBeRead Site.table_read from h)

  -- ---- the tables of a tree may be read, wherever it stands

  abbrev CondMay : ℕ → Cond Named → Type 0
  CondMay deep c = (k : Known) × (a : Around) × AllMay (cond_sites k a c)

  abbrev CondsMay : ℕ → Conds Named → Type 0
  CondsMay deep cs = (k : Known) × (a : Around) × AllMay (conds_sites k a cs)

  abbrev SelectMay : ℕ → Select Named → Type 0
  SelectMay deep q = (k : Known) × (a : Around) × AllMay (select_sites k a q)

  subquery_may : (deep : ℕ) (k : Known) (a : Around) (e : Expr Named) (q : Select Named)
      → AllMay (beside_subquery k a e q ++ select_sites k a q) → SelectMay deep q
  subquery_may deep k a e q h = (k, a, (all_parts MayBeRead (beside_subquery k a e q) (select_sites k a q) h).1)

  parts : CondParts {N = Named} (λ deep e. ⊤) CondMay CondsMay SelectMay
  parts = record {
    of_compare = λ deep op x y h. (tt, tt);
    of_scalar = λ deep op e q h. (tt, subquery_may deep h.0 h.1 e q h.2);
    of_quantified = λ deep op kind e q h. (tt, subquery_may deep h.0 h.1 e q h.2);
    of_between = λ deep x low high h. (tt, tt, tt);
    of_among = λ deep e q h. (tt, subquery_may deep h.0 h.1 e q h.2);
    of_list = λ deep e es h. (tt, all_true es);
    of_like = λ deep text pattern escape h. (tt, tt, any_escape escape);
    of_null = λ deep e h. tt;
    of_exists = λ deep q h. (h.0, h.1, h.2.1);
    of_negated = λ deep c h. h;
    of_conjunction = λ deep cs h. h;
    of_disjunction = λ deep cs h. h;
    of_first = λ deep c cs h.
        let both = all_parts MayBeRead (cond_sites h.0 h.1 c) (conds_sites h.0 h.1 cs) h.2 in
        ((h.0, h.1, both.0), (h.0, h.1, both.1));
  }

  clause_may : (deep : ℕ) (k : Known) (a : Around) (c : Clause Named) → AllMay (clause_sites k a c) → ClauseHas CondMay deep c
  clause_may deep k a absent h = tt
  clause_may deep k a (present c) h = (k, a, h)

  -- what the sites of a query specification are made of
  abbrev listed_sites : Known → Around → SelectList Named → List TableReference → List ColumnReference → Clause Named → List Site
  listed_sites k a list from by having =
      Site.from_whole from ∷ Site.column_count (list_count k.tables from list) ∷ list_sites k (inside_query a (shown_query from list by having) true) list (is_grouped list by having)

  abbrev before_where : Known → Around → SelectList Named → List TableReference → List ColumnReference → Clause Named → List Site
  before_where k a list from by having = map Site.table_read from ++ listed_sites k a list from by having

  clauses : SelectParts {N = Named} (λ deep e. ⊤) CondMay SelectMay FromMay
  clauses = record {
    of_select = λ deep distinct list from filter by having h.
        let k = h.0 in
        let a = h.1 in
        let last = all_parts MayBeRead (before_where k a list from by having ++ clause_sites k (inside_query a (plain_query from) false) filter ++ map (Site.column_read (inside_query a (plain_query from) false)) by)
        (clause_sites k (inside_query a (shown_query from list by having) true) having) h.2 in
        let third = all_parts MayBeRead (before_where k a list from by having ++ clause_sites k (inside_query a (plain_query from) false) filter) (map (Site.column_read (inside_query a (plain_query from) false)) by) last.0 in
        let second = all_parts MayBeRead (before_where k a list from by having) (clause_sites k (inside_query a (plain_query from) false) filter) third.0 in
        let first = all_parts MayBeRead (map Site.table_read from) (listed_sites k a list from by having) second.0 in (
          first.0,
          any_list (suc deep) list,
          clause_may (suc deep) k (inside_query a (plain_query from) false) filter second.1,
          all_true by,
          clause_may (suc deep) k (inside_query a (shown_query from list by having) true) having last.1,
        );
  }

  pub clause_alike : (k : Known) (a : Around) (c : Clause Named) (env : Env Item) → AllMay (clause_sites k a c) → clause_truth m c env ≡ clause_truth n c env
  clause_alike k a c env h =
      clause_over m n.rows CondMay CondsMay SelectMay FromMay parts clauses tables_alike 0 c (clause_may 0 k a c h) env

  rows_alike : (k : Known) (a : Around) (q : Select Named) (env : Env Item) → AllMay (select_sites k a q) → rows m q env ≡ rows n q env
  rows_alike k a q env h = rows_over m n.rows CondMay CondsMay SelectMay FromMay parts clauses tables_alike 0 q (k, a, h) env

  -- ---- query expressions

  pub query_alike : (k : Known) (kinds : Kinds Named) (q : Query Named) (env : Env Item) → AllMay (query_sites k q) → query_rows m kinds q env ≡ query_rows n kinds q env
  query_alike k kinds (specification q) env h = rows_alike k outside q env h
  query_alike k kinds (union all left right) env h =
      let sides = all_parts MayBeRead (alike_pairs (query_kinds_of k left) (query_kinds_of k right) ++ query_sites k left) (query_sites k right) h.1 in
      let first = all_parts MayBeRead (alike_pairs (query_kinds_of k left) (query_kinds_of k right)) (query_sites k left) sides.0 in
      (λ i. and_then (query_alike k kinds left env first.1 i) (λ ls. and_then (query_alike k kinds right env sides.1 i) (λ rs. and_then (query_kinds kinds (union all left right)) (λ ks. and_then
      (each (row_brought_to ks) (ls ++ rs)) (λ joined. Ok (if all then joined else firsts same_row joined))))))

-- ---- SELECT INTO

module _ (p : Program) (s t : State) (values : List Value) (m : ModuleText) (q : Procedure) (same : LookAlike p.elements m.authorization s.tables t.tables) where
  abbrev before : Running
  before = running p s values m q

  abbrev beside : Running
  beside = running p t values m q

  reply_alike : (x : SelectStatement) (o : Outcome Row) → select_reply before x o ≡ select_reply beside x o
  reply_alike x (Ok row) = refl
  reply_alike x (Err st) = refl

  select_alike : (x : SelectStatement) → WellFormed before (statement.Select x) → (performed before (statement.Select x)).1 ≡ (performed beside (statement.Select x)).1
  select_alike x well =
      let query = select_of_statement m.authorization x in
      let into = into_sites (known_in (surroundings before)) x.targets (select_count (tables_of p.elements) query) (kinds_here (known_in (surroundings before)) outside query) in
      let sites = (all_parts (NotMissing before) (select_sites (known_in (surroundings before)) outside query) into (not_missing before (statement.Select x) well)).0 in
      let found = rows_alike (tables_of p.elements) (table_rows (tables_of p.elements) s.tables m.authorization) (table_rows (tables_of p.elements) t.tables m.authorization)
      (holds p.elements m.authorization) same (known_in (surroundings before)) outside query (outer_env (setting before)) sites in
      (λ i. select_reply before x (and_then (found i) single_row)) ∙ reply_alike x (selected_row beside x)

  called_alike : (x : SelectStatement) → q.statement ≡ statement.Select x → (b : Bool) → is_well_formed_procedure p.elements m q ≡ b
      → (performed_if b before).1 ≡ (performed_if b beside).1
  called_alike x is false e = refl
  called_alike x is true e =
      ap (λ (y : Statement). (performed before y).1) is ∙ select_alike x (subst (λ (y : Statement). WellFormed before y) is e)
      ∙ sym (ap (λ (y : Statement). (performed beside y).1) is)

pub select_tells_what_may_be_read : (p : Program) → SelectTellsWhatMayBeRead p
unfolding SelectTellsWhatMayBeRead
select_tells_what_may_be_read p = λ s t c m q x is_m is_q is same.
    let well = is_well_formed_procedure p.elements m q in
    ap (λ (o : Outcomes). o.1) (called_as p s c m is_m q is_q) ∙ called_alike p s t c.values m q same x is well refl
    ∙ sym (ap (λ (o : Outcomes). o.1) (called_as p t c m is_m q is_q))
