-- The row of SELECT INTO, and what a cursor is opened over, are the same by their places and by their names (ISO/IEC 9075:1992, 13.2 and
-- 13.5): the rows of its query in their order, or the numbers of the rows that an updatable query means.
use Rattle.std.proofs.Common.{◌≡◌, false, List, [], ◌∷◌, map, refl, sym, ap, subst, ◌∙◌, Ok}
use Rattle.sq_tree.specs.declared.module.Cursor.{Cursor}
use Rattle.sq_tree.specs.declared.statement.Select.{Select as SelectStatement}
use Rattle.sq_meaning.specs.Environment.{Row}
use Rattle.sq_meaning.specs.Placed.{by_place}
use Rattle.sq_meaning.specs.Query.{rows}
use Rattle.sq_meaning.specs.QueryExpression.{ordered_rows, query_rows}
use Rattle.sq_meaning.specs.Rows.{by_columns, sorted}
use Rattle.sq_meaning.specs.Spelled.{Named, listed_if_any}
use Rattle.sq_meaning.specs.Status.{Outcome, and_then}
use Rattle.sq_meaning.specs.Syntax.{Select, absent, select}
use Rattle.sq_meaning.specs.Tables.{kinds_by_name}
use Rattle.sq_meaning.specs.Target.{Target, chosen_numbers, cursor_target, seen_through, target_of, updatable_source}
use Rattle.sq_meaning.specs.WellFormedStatement.{cursor_query, select_of_statement}
use Rattle.sq_meaning.specs.Change as by_name
use Rattle.sq_meaning.specs.Change.{outer_env, reading_in, rows_at, tables_in}
use Rattle.sq_meaning.specs.Machine.{Running, cursor_rows, selected_row, setting, single_row, sort_order, surroundings}
use Rattle.sq_bound.specs.Condition.{select_of}
use Rattle.sq_bound.specs.Known.{KnownTables, Under, under_of}
use Rattle.sq_bound.specs.Query.{query_of}
use Rattle.sq_bound.specs.WellFormed.{TableKinds}
use Rattle.sq_bound.specs.declared.condition.BoundSpecification.{BoundSpecification}
use Rattle.sq_bound.specs.declared.names.BaseTable.{BaseTable}
use Rattle.sq_bound.specs.declared.names.ParameterDesc.{ParameterDesc}
use Rattle.sq_bound.specs.declared.query.BoundQuery.{BoundQuery}
use Rattle.sq_bound.specs.declared.query.CursorBody.TheVariants as body
use Rattle.sq_bound.specs.declared.query.SortColumn.{SortColumn as BoundSort}
use Rattle.sq_bound.specs.declared.query.UpdatableQuery.{UpdatableQuery}
use Rattle.sq_bound.specs.declared.statement.BoundSelect.{BoundSelect}
use Rattle.sq_binding.specs.PlacedUnion.{query_placed}
use Rattle.sq_binding.specs.Names.{declared, tables_of}
use Rattle.sq_binding.specs.SeenQuery.{sort_seen}
use Rattle.sq_binding.specs.Written.{IsSelectOf, IsSortedBy, IsUpdatableOf, QueryIs, query_names_placed}
use Rattle.sq_change.specs.Made.{Shown}
use Rattle.sq_query.specs.Table.{stored_numbered}
use Rattle.sq_query.specs.Target.{conditions_of, is_true_of, numbers_chosen}
use Rattle.sq_run.proofs.Places.Bound.{bound_rows, cursor_rows_same}
use Rattle.sq_run.proofs.Places.ColumnKinds.{kinds_at_places}
use Rattle.sq_run.proofs.Places.Databases.{IsDatabase, database_fits, database_typed}
use Rattle.sq_run.proofs.Changed.Levels.{IsTargetAs, query_as}
use Rattle.sq_run.proofs.Places.Parameters.{AreNamed}
use Rattle.sq_run.proofs.Changed.Searched.{target_numbers_same}
use Rattle.sq_run.proofs.Places.Setting.{around}
use Rattle.sq_run.proofs.Sites.Stars.{QueryStars, SelectStars}
use Rattle.sq_run.proofs.Changed.Statements.{call_seen, outer_places, read_in, values_in}
use Rattle.sq_run.proofs.Schemas.ViewTargets.{AreUnder, IsMadeOver, each_target, made_over, names_there}

-- ---- updatable cursors (7.9, 13.1 and 13.2)

-- what is under an updatable query
abbrev pub under_query : UpdatableQuery → Under
under_query over = record { base = over.target.leaf.table.place; conditions = conditions_of over.target; demanded = over.target.leaf.demanded }

module _ (m : by_name.Setting) (known : KnownTables) (kinds : TableKinds) (queries : List BoundSpecification) (shown : Shown)
    (database : IsDatabase (tables_in m) m.content m.user known kinds queries shown)
    (bases : List BaseTable) (under : AreUnder known bases (tables_in m)) (parameters : List ParameterDesc)
    (names : AreNamed parameters m.inputs) where
  -- The target of an updatable query is the one that is bound, whose rows have the columns that it shows.
  pub cursor_target_same : (q : Select Named) (over : UpdatableQuery)
      (text : IsUpdatableOf known parameters q over)
      → SelectStars q
      → (target : Target) → cursor_target (tables_in m) q
      ≡ Ok target → IsTargetAs (reading_in m) shown bases m.content (outer_env m) (outer_places m) over.columns
      (under_query over) target
  cursor_target_same q over text stars target e =
      subst (IsTargetAs (reading_in m) shown bases m.content (outer_env m) (outer_places m) over.columns (under_query over)) made.target_is
      (query_as (tables_in m) m.content m.user known shown bases parameters (database_fits (tables_in m) m.content m.user known kinds queries shown database parameters)
      (outer_env m) (outer_places m)
      (call_seen m parameters names) text.reference made.descriptor text.table made.under text.list text.filter over made.columns
      (names_there (tables_in m) m.content m.user known kinds queries shown bases database.meant (tables_in m) database.kept database.declared text.reference.table made.descriptor made.is_there text.table text.is_known)
      (each_target (tables_in m) m.content m.user known kinds queries shown bases database.meant (database_fits (tables_in m) m.content m.user known kinds queries shown database []) (outer_env m) (outer_places m) (call_seen m [] tt)
      (tables_in m) database.kept database.declared under text.reference.table made.under made.means text.table text.is_known
      (under_of over.target.leaf) text.is_over)
      plain.1 (text.condition []) text.shown text.list_is text.columns made.shown false over.columns
      (under_query over) refl refl refl refl)
    where
      made : IsMadeOver (tables_in m) text.reference text.list text.filter false target
      made =
          made_over (tables_in m) text.reference text.list text.filter false target
          (subst (λ p. and_then (updatable_source (tables_in m) p) (λ source. and_then (target_of (tables_in m) source.item.reference.table) (λ below. Ok (seen_through source below))) ≡ Ok target) text.is_plain e)

      plain : SelectStars (select false text.list (text.reference ∷ []) text.filter [] absent)
      plain = subst SelectStars text.is_plain stars

  -- So an updatable cursor is opened over the same numbers.
  pub cursor_numbers_same : (q : Select Named) (over : UpdatableQuery)
      → IsUpdatableOf known parameters q over → SelectStars q
      → (target : Target) → cursor_target (tables_in m) q ≡ Ok target
      → chosen_numbers (reading_in m) (outer_env m) target (rows_at m target.place)
      ≡ and_then (stored_numbered m.content over.target.base)
      (numbers_chosen (is_true_of shown (values_in m) m.user) (conditions_of over.target))
  cursor_numbers_same q over text stars target e =
      target_numbers_same m known shown bases over.columns (under_query over) target
      (cursor_target_same q over text stars target e)
      ∙ ap (λ place. and_then (stored_numbered m.content place) (numbers_chosen (is_true_of shown (values_in m) m.user) (conditions_of over.target)))
      (sym over.target.is_under)

-- ---- SELECT INTO, and cursors over rows

module _ (r : Running) (known : KnownTables) (kinds : TableKinds) (queries : List BoundSpecification) (shown : Shown)
    (database : IsDatabase (tables_in (setting r)) r.state.tables r.in_module.authorization known kinds queries shown)
    (parameters : List ParameterDesc) (names : AreNamed parameters (setting r).inputs) where
  -- The only row of a query is the same (13.5).
  pub selected_row_same : (s : SelectStatement) (x : BoundSelect) → SelectStars (select_of_statement r.in_module.authorization s)
      → IsSelectOf known parameters r.in_module.authorization s x
      → selected_row r s ≡ and_then (rows (by_place shown) (select_of x.query) (outer_places (setting r))) single_row
  selected_row_same s x stars is =
      ap (λ (o : Outcome (List Row)). and_then o single_row)
      (bound_rows (read_in (setting r) known shown parameters) (database_fits (tables_in (setting r)) r.state.tables r.in_module.authorization known kinds queries shown database parameters) []
      (select_of_statement r.in_module.authorization s) stars x.query is.query (outer_env (setting r)) (outer_places (setting r))
      (call_seen (setting r) parameters names))

  -- The rows of a cursor are the same, in the same order (13.2).
  pub opened_rows_same : (surroundings r).parameters ≡ declared parameters → (c : Cursor)
      → QueryStars (cursor_query (surroundings r) c) → (b : BoundQuery) (sorts : List BoundSort)
      → QueryIs (query_placed (around (read_in (setting r) known shown parameters) []) (cursor_query (surroundings r) c)) b
      → IsSortedBy (query_names_placed (tables_of known) (cursor_query (surroundings r) c)) (listed_if_any c.order_by) (body.Rows b sorts)
      → cursor_rows r c
      ≡ and_then
      (query_rows (by_place shown) (kinds_at_places (read_in (setting r) known shown parameters) kinds) (query_of b) (outer_places (setting r)))
      (λ found. Ok (sorted (by_columns (map sort_seen sorts)) found))
  opened_rows_same declared c stars b sorts is order =
      ap (λ ps. and_then (sort_order r c) (λ keys. ordered_rows (reading_in (setting r)) (kinds_by_name (tables_in (setting r)) ps) (cursor_query (surroundings r) c) keys (outer_env (setting r)))) declared
      ∙ cursor_rows_same (read_in (setting r) known shown parameters) kinds
      (database_fits (tables_in (setting r)) r.state.tables r.in_module.authorization known kinds queries shown database parameters)
      (database_typed (tables_in (setting r)) r.state.tables r.in_module.authorization known kinds queries shown database parameters)
      (cursor_query (surroundings r) c) stars (listed_if_any c.order_by) b sorts is order (outer_env (setting r))
      (outer_places (setting r)) (call_seen (setting r) parameters names)
