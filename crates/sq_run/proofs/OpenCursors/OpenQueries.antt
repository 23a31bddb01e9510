-- A cursor that isn't updatable is opened over the same rows in the same order (ISO/IEC 9075:1992,
-- 13.2), where its query is bound as it is written; and an updatable one whose conditions may answer a
-- status over the same numbers.
use Rattle.std.proofs.Common.{◌≡◌, ℕ, true, List, [], map, None, Some, sym, ap, subst, ◌∙◌, Ok}
use Rattle.sq_tree.specs.declared.«module».Cursor.{Cursor}
use Rattle.sq_value.specs.declared.value.Value.{Value}
use Rattle.sq_store.specs.Content.{Content, table_at}
use Rattle.sq_store.specs.Rising.{has_rising_rows}
use Rattle.sq_meaning.specs.Environment.{Row, outermost}
use Rattle.sq_meaning.specs.Placed.{by_place}
use Rattle.sq_meaning.specs.QueryExpression.{query_rows}
use Rattle.sq_meaning.specs.Rows.{by_columns, sorted}
use Rattle.sq_meaning.specs.Spelled.{listed_if_any, Named}
use Rattle.sq_meaning.specs.Status.{Outcome, and_then}
use Rattle.sq_meaning.specs.Syntax.{Select}
use Rattle.sq_meaning.specs.Target.{Target as Meant, cursor_target}
use Rattle.sq_meaning.specs.WellFormed.{kinds_by_place}
use Rattle.sq_meaning.specs.WellFormedStatement.{cursor_query, updatable_cursor}
use Rattle.sq_meaning.specs.Change.{tables_in}
use Rattle.sq_meaning.specs.Cursor as machine
use Rattle.sq_meaning.specs.Machine as by_name
use Rattle.sq_meaning.specs.Machine.{Running, numbers_or_rows, setting, surroundings}
use Rattle.sq_bound.specs.Known.{KnownTables}
use Rattle.sq_bound.specs.Query.{query_of}
use Rattle.sq_bound.specs.WellFormed.{kinds_of_parameters}
use Rattle.sq_bound.specs.declared.condition.TablePlace.{TablePlace}
use Rattle.sq_bound.specs.declared.names.ParameterDesc.{ParameterDesc}
use Rattle.sq_bound.specs.declared.query.BoundQuery.{BoundQuery}
use Rattle.sq_bound.specs.declared.query.CursorBody.TheVariants as body
use Rattle.sq_bound.specs.declared.query.SortColumn.{SortColumn}
use Rattle.sq_bound.specs.declared.query.UpdatableQuery.{UpdatableQuery}
use Rattle.sq_binding.specs.PlacedUnion.{query_placed}
use Rattle.sq_binding.specs.Names.{declared, tables_of}
use Rattle.sq_binding.specs.Written.{IsSortedBy, IsUpdatableOf, QueryIs, query_names_placed}
use Rattle.sq_expression.specs.Frame.{inputs_of}
use Rattle.sq_module.specs.declared.program.DeclaredCursor.{DeclaredCursor}
use Rattle.sq_query.specs.Table.{AreMeant, stored_numbered}
use Rattle.sq_query.specs.Target.{conditions_of, is_true_of, numbers_chosen}
use Rattle.sq_session.specs.Open.{NumbersAreMeant, RowsAreMeant, numbers_opened, rows_opened}
use Rattle.sq_session.specs.Schemas.{Schemas, columns_of}
use Rattle.sq_session.specs.declared.cursor.CursorState.{CursorState}
use Rattle.sq_run.proofs.Places.Databases.{IsDatabase}
use Rattle.sq_run.proofs.Places.Parameters.{AreNamed}
use Rattle.sq_run.proofs.Changed.Retrieved.{cursor_numbers_same, opened_rows_same}
use Rattle.sq_run.proofs.Places.Setting.{around}
use Rattle.sq_run.proofs.Sites.Stars.{QueryStars, SelectStars}
use Rattle.sq_run.proofs.Changed.Statements.{read_in, values_in}
use Rattle.sq_run.proofs.Schemas.ViewTargets.{AreUnder}
use Rattle.sq_run.proofs.OpenCursors.Below.{opened_below}
use Rattle.sq_run.proofs.OpenCursors.OpenSame.{OpensAlike, numbers_alike, rows_alike}

module _ (r : Running) (known : KnownTables) (schemas : Schemas) (shown : TablePlace → Outcome (List Row))
    (database : IsDatabase (tables_in (setting r)) r.state.tables r.in_module.authorization known (columns_of schemas) schemas.views shown)
    (parameters : List ParameterDesc) (names : AreNamed parameters (setting r).inputs) (values : List Value)
    (given : values ≡ values_in (setting r)) (tables : Content) (same : r.state.tables ≡ tables) (d : DeclaredCursor) (c : Cursor)
    (meant : AreMeant schemas.views tables r.in_module.authorization shown) where
  -- the rows of a query
  pub query_opens : updatable_cursor (surroundings r) c ≡ None → (surroundings r).parameters ≡ declared parameters
      → QueryStars (cursor_query (surroundings r) c) → (b : BoundQuery) (sorts : List SortColumn)
      → QueryIs (query_placed (around (read_in (setting r) known shown parameters) []) (cursor_query (surroundings r) c)) b
      → IsSortedBy (query_names_placed (tables_of known) (cursor_query (surroundings r) c)) (listed_if_any c.order_by) (body.Rows b sorts)
      → (opened : Outcome CursorState)
      → RowsAreMeant schemas b sorts r.in_module.authorization parameters values tables opened
      → OpensAlike tables d opened (by_name.opened r c)
  query_opens plain declared stars b sorts is order opened rows =
      subst (λ o. OpensAlike tables d o (by_name.opened r c)) (sym (rows shown meant))
      (subst (λ o. OpensAlike tables d (rows_opened found) o) (sym opens) (rows_alike tables d found))
    where
      found : Outcome (List Row)
      found =
          and_then
          (query_rows (by_place shown) (kinds_by_place (columns_of schemas) (kinds_of_parameters parameters)) (query_of b) (outermost (inputs_of values) r.in_module.authorization))
          (λ found. Ok (sorted (by_columns (map (λ k. record { column = k.column; descending = k.descending }) sorts)) found))

      opens : by_name.opened r c ≡ and_then found (λ rows. Ok (machine.before_rows rows))
      opens =
          ap (numbers_or_rows r c) plain
          ∙ ap (λ (o : Outcome (List Row)). and_then o (λ rows. Ok (machine.before_rows rows)))
          (opened_rows_same r known (columns_of schemas) schemas.views shown database parameters names declared c stars b sorts is order
          ∙ ap (λ vs. and_then (query_rows (by_place shown) (kinds_by_place (columns_of schemas) (kinds_of_parameters parameters)) (query_of b) (outermost (inputs_of vs) r.in_module.authorization)) (λ found. Ok (sorted (by_columns (map (λ k. record { column = k.column; descending = k.descending }) sorts)) found)))
          (sym given))

  -- ---- of an updatable cursor

  module _ (under : AreUnder known schemas.bases (tables_in (setting r))) (q : Select Named) (over : UpdatableQuery)
      (text : IsUpdatableOf known parameters q over) (stars : SelectStars q) (target : Meant)
      (means : cursor_target (tables_in (setting r)) q ≡ Ok target) (updatable : updatable_cursor (surroundings r) c ≡ Some target) where
    -- the numbers of the rows that it means
    abbrev pub numbers_over : Outcome (List ℕ)
    numbers_over =
        and_then (stored_numbered tables over.target.base)
        (numbers_chosen (is_true_of shown values r.in_module.authorization) (conditions_of over.target))

    pub opens_numbers : by_name.opened r c ≡ and_then numbers_over (λ ns. Ok (machine.before_numbers ns))
    opens_numbers =
        ap (numbers_or_rows r c) updatable
        ∙ ap (λ (o : Outcome (List ℕ)). and_then o (λ ns. Ok (machine.before_numbers ns)))
        (cursor_numbers_same (setting r) known (columns_of schemas) schemas.views shown database schemas.bases under parameters names q over text stars target means
        ∙ (λ i. and_then (stored_numbered (same i) over.target.base) (numbers_chosen (is_true_of shown (sym given i) r.in_module.authorization) (conditions_of over.target))))

    pub numbers_open : has_rising_rows (table_at tables over.target.base) ≡ true → (opened : Outcome CursorState)
        → NumbersAreMeant schemas over.target r.in_module.authorization values tables opened
        → OpensAlike tables d opened (by_name.opened r c)
    numbers_open rising opened numbers =
        subst (λ o. OpensAlike tables d o (by_name.opened r c)) (sym (numbers shown meant))
        (subst (λ o. OpensAlike tables d (numbers_opened over.target.base numbers_over) o) (sym opens_numbers)
        (numbers_alike tables d over.target.base numbers_over
        (opened_below tables over.target.base rising (is_true_of shown values r.in_module.authorization) (conditions_of over.target))))
