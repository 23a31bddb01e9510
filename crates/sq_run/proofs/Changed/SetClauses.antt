-- The set clauses of UPDATE give a row the same values by their places and by their names (ISO/IEC 9075:1992, 13.9 and 13.10): by name they
-- see the columns of the statement's table or view, by place the whole row of the base table.
use Rattle.std.proofs.Common.{◌≡◌, ℕ, Bool, true, false, List, [], ◌∷◌, filter, Option, Some, refl, sym, ap, ◌∙◌, Ok}
use Rattle.std.specs.Prelude.{cond, find, slice_get}
use Rattle.std.specs.List.{AllByRecursion, cons_option, filter_map}
use Rattle.std.specs.Option.{option_map, option_and_then}
use Rattle.sq_lex.specs.declared.name.Name.{Name}
use Rattle.sq_store.specs.Content.{table_at}
use Rattle.sq_store.specs.Rising.{has_rising_rows}
use Rattle.sq_store.specs.declared.table.Numbered.{Numbered}
use Rattle.sq_tree.specs.declared.statement.Assignment.{Assignment}
use Rattle.sq_tree.specs.declared.statement.NewValue.{NewValue}
use Rattle.sq_tree.specs.declared.statement.Update.{Update}
use Rattle.sq_value.specs.declared.value.Value.{Value}
use Rattle.sq_meaning.specs.Environment.{Env, Item, Row, TableName, same_table}
use Rattle.sq_meaning.specs.Spelled.{Named, listed}
use Rattle.sq_meaning.specs.Status.{Outcome, and_then, each, well_formed}
use Rattle.sq_meaning.specs.Syntax.{Clause, absent}
use Rattle.sq_meaning.specs.Tables.{TableDescriptor, Tables, column_names, descriptor_of}
use Rattle.sq_meaning.specs.Target.{Level, Target}
use Rattle.sq_meaning.proofs.OutcomeLaws.{then_then}
use Rattle.sq_meaning.specs.Schema.{place_among}
use Rattle.sq_meaning.specs.Change as by_name
use Rattle.sq_meaning.specs.Change.{domain_at, is_numbered, item_alone, outer_env, place_under, row_env, rows_at, stored_value, stored_values, tables_in, updated_row, with_values}
use Rattle.sq_bound.specs.Fits.{IsColumnOf}
use Rattle.sq_bound.specs.Known.{KnownTables}
use Rattle.sq_bound.specs.declared.condition.BoundSpecification.{BoundSpecification}
use Rattle.sq_bound.specs.declared.names.BaseTable.{BaseTable as BoundTable}
use Rattle.sq_bound.specs.declared.names.Leaf.{Leaf}
use Rattle.sq_bound.specs.declared.names.ParameterDesc.{ParameterDesc}
use Rattle.sq_bound.specs.declared.statement.BoundAssignment.{BoundAssignment}
use Rattle.sq_binding.specs.Written.{AreSetTo, item_at_leaf, leaf_named}
use Rattle.sq_query.specs.Row.{outside}
use Rattle.sq_change.specs.Made.{Shown, numbered_updated, rows_updated, value_set, value_stored}
use Rattle.sq_run.proofs.Places.Databases.{table_is}
use Rattle.sq_run.proofs.Changed.Given.{domain_same, under_same}
use Rattle.sq_run.proofs.Changed.Levels.{HasLength, row_reaches, width_at}
use Rattle.sq_run.proofs.Changed.NewValues.{set_value_same}
use Rattle.sq_run.proofs.Places.Outcomes.{each_of}
use Rattle.sq_run.proofs.Places.Parameters.{AreNamed}
use Rattle.sq_run.proofs.Changed.RowsAgain.{AreNumbersIn, each_under, found_again, numbers_of, so_within}
use Rattle.sq_run.proofs.Changed.Searched.{columns_shown, item_is, searched, table_item}
use Rattle.sq_run.proofs.Places.Seen.{SeenEnv}
use Rattle.sq_run.proofs.Places.Setting.{around}
use Rattle.sq_run.proofs.Changed.Statements.{IsTableIn, call_seen, outer_places, read_in, seen_in, values_in}
use Rattle.sq_run.proofs.Changed.Targets.{IsAtLeaf, level_seen}

-- what is found under a name has the name
pub described : (tables : Tables) (name : TableName) (d : TableDescriptor) → descriptor_of tables name ≡ Ok d → d.table ≡ name
described [] name d e = cc
described (other ∷ tables) name d e = by_test (same_table other.table name) refl e (described tables name d)
  where
    by_test : (b : Bool) → same_table other.table name ≡ b
        → well_formed (cond b (Some other) (find (λ x. same_table x.table name) tables)) ≡ Ok d
        → (descriptor_of tables name ≡ Ok d → d.table ≡ name) → d.table ≡ name
    by_test false is e others = others e
    by_test true is e others = let same : other ≡ d = cc in ap (λ (x : TableDescriptor). x.table) (sym same) ∙ table_is other.table name is

module _ (m : by_name.Setting) (queries : List BoundSpecification) (known : KnownTables) (shown : Shown) (bases : List BoundTable)
    (parameters : List ParameterDesc) (names : AreNamed parameters m.inputs)
    (name : TableName) (leaf : Leaf) (t : IsTableIn m known shown bases name leaf) (clause : Clause Named) where
  abbrev target : Target
  target = searched m known shown bases name leaf t clause

  -- a row of the base table is seen as a row of the statement's table
  abbrev row_level : Level
  row_level = record { item = item_alone t.descriptor; columns = target.columns; condition = absent }

  row_level_is : IsAtLeaf t.table.columns (item_at_leaf name t.table) row_level
  row_level_is = record {
    item_is = ap (λ n. table_item n t.descriptor) (described (tables_in m) name t.descriptor t.is_there) ∙ item_is m known shown bases name leaf t;
    columns_are = columns_shown m known shown bases name leaf t clause ∙ t.under.columns_are;
    at_leaf = refl;
  }

  row_is_seen : (row : Row) → HasLength (width_at bases t.target.place) row
      → SeenEnv parameters ((item_at_leaf name t.table ∷ []) ∷ []) (row_env m t.descriptor target row)
      (outside (row ∷ []) (values_in m) m.user)
  row_is_seen row l =
      level_seen (read_in m known shown parameters) t.table.columns (item_at_leaf name t.table) row_level row_level_is row
      (row_reaches (width_at bases t.target.place) t.table.columns t.target.columns t.under.columns_are t.under.within row l)
      (outer_env m) (outer_places m) (call_seen m parameters names)

  set_under : (column : Name) → place_under t.descriptor target column ≡ leaf_named t.table.columns column
  set_under column =
      ap (λ columns. option_and_then (slice_get columns) (place_among (column_names t.descriptor) column))
      (columns_shown m known shown bases name leaf t clause)
      ∙ under_same m known shown bases name leaf t column

  -- the column of a set clause, with its new value
  abbrev set_place : Assignment → Option (ℕ × NewValue)
  set_place w = option_map (λ place. (place, w.value)) (place_under t.descriptor target w.column)

  -- the set clauses that are bound are the ones that are written
  abbrev pub AreSet : List Assignment → List BoundAssignment → Type 0
  AreSet ws bs =
      AreSetTo (around (read_in m known shown parameters) ((item_at_leaf name t.table ∷ []) ∷ [])) t.table.columns ws bs

  values_same : (row : Row) → HasLength (width_at bases t.target.place) row → (ws : List Assignment) (bs : List BoundAssignment)
      → AreSet ws bs → AllByRecursion (λ a. IsColumnOf leaf.table a.column) bs
      → stored_values m (row_env m t.descriptor target row) t.base (filter_map set_place ws)
      ≡ each (value_set shown (seen_in m queries) row) bs
  values_same row l [] [] set of = refl
  values_same row l [] (b ∷ bs) set of = absurd set
  values_same row l (w ∷ ws) [] set of = absurd set
  values_same row l (w ∷ ws) (b ∷ bs) set of =
      ap (λ o. stored_values m env t.base (cons_option (option_map (λ place. (place, w.value)) o) (filter_map set_place ws)))
      (set_under w.column ∙ set.0.column)
      ∙ (λ i. and_then (and_then (value_is i) (λ v. Ok (b.column.position, v))) (λ z. and_then (values_same row l ws bs set.1 of.1 i) (λ zs. Ok (z ∷ zs))))
    where
      env : Env Item
      env = row_env m t.descriptor target row

      value_is : stored_value m env (domain_at t.base b.column.position) w.value
          ≡ value_stored shown (seen_in m queries) (row ∷ []) b.column.domain b.value
      value_is =
          ap (λ d. stored_value m env d w.value) (domain_same t.base leaf.table t.base_is b.column of.0)
          ∙ set_value_same m queries known shown parameters names
          ((item_at_leaf name t.table ∷ []) ∷ []) b.column.domain w.value b.value env (row ∷ []) (row_is_seen row l)
          (set.0.value [])

  abbrev pub updated : Update → Numbered → Outcome Numbered
  updated u r = updated_row m t.descriptor target t.base u r

  -- a row after the set clauses
  row_updated_same : (u : Update) (bs : List BoundAssignment) → AreSet (listed u.assignments) bs
      → AllByRecursion (λ a. IsColumnOf leaf.table a.column) bs
      → (r : Numbered) → HasLength (width_at bases t.target.place) r.row → updated u r
      ≡ numbered_updated shown (seen_in m queries) bs r
  row_updated_same u bs set of r l =
      ap (λ (o : Outcome (List (ℕ × Value))). and_then o (λ given. Ok (record { number = r.number; row = with_values given r.row })))
      (values_same r.row l (listed u.assignments) bs set of)
      ∙ sym (then_then (each (value_set shown (seen_in m queries) r.row) bs) (λ given. Ok (with_values given r.row)) (λ row. Ok (record { number = r.number; row = row })))

  -- Rows under some numbers of the table have the same values after the set clauses, or the first status is the same.
  pub rows_set_same : (u : Update) (bs : List BoundAssignment) → AreSet (listed u.assignments) bs
      → AllByRecursion (λ a. IsColumnOf leaf.table a.column) bs
      → has_rising_rows (table_at m.content t.target.place) ≡ true → (numbers : List ℕ)
      → AreNumbersIn (rows_at m t.target.place) numbers
      → each (updated u) (filter (is_numbered numbers) (rows_at m t.target.place))
      ≡ rows_updated shown (seen_in m queries) bs leaf.table.place numbers
  rows_set_same u bs set of rising numbers q =
      ap (λ ns. each (updated u) (filter (is_numbered ns) (rows_at m t.target.place))) q.1
      ∙ ap (each (updated u)) (found_again 1 (table_at m.content t.target.place).next (rows_at m t.target.place) q.0 rising q.2)
      ∙ each_of (λ r. HasLength (width_at bases t.target.place) r.row) (updated u) (numbered_updated shown (seen_in m queries) bs)
      (row_updated_same u bs set of) q.0
      (so_within (λ r. HasLength (width_at bases t.target.place) r.row) (rows_at m t.target.place) q.0 t.under.wide q.2)
      ∙ sym (each_under (numbered_updated shown (seen_in m queries) bs) (table_at m.content t.target.place) q.0 rising q.2)
      ∙ ap (λ place. rows_updated shown (seen_in m queries) bs place (numbers_of q.0)) t.under.place
      ∙ ap (rows_updated shown (seen_in m queries) bs leaf.table.place) (sym q.1)
