-- UPDATE and DELETE, searched and positioned, come by their places to what they come to by their names, on base tables and through
-- updatable views (ISO/IEC 9075:1992, 13.6, 13.7, 13.9 and 13.10): the same rows go or get the same values, or the status is the same.
use Rattle.std.proofs.Common.{◌≡◌, ℕ, true, List, [], ◌∷◌, filter, map, Option, Some, refl, sym, ap, ◌∙◌, Ok}
use Rattle.std.specs.Prelude.{IfOk}
use Rattle.std.specs.List.{AllByRecursion}
use Rattle.sq_store.specs.Content.{Content, row_at, table_at}
use Rattle.sq_store.specs.Rising.{has_rising_rows}
use Rattle.sq_store.specs.declared.table.Numbered.{Numbered}
use Rattle.sq_tree.specs.declared.statement.Delete.{Delete}
use Rattle.sq_tree.specs.declared.statement.Update.{Update}
use Rattle.sq_meaning.specs.Environment.{TableName}
use Rattle.sq_meaning.specs.Spelled.{Named, listed, table_of}
use Rattle.sq_meaning.specs.Status.{Outcome, and_then, each}
use Rattle.sq_meaning.specs.Syntax.{Clause, absent}
use Rattle.sq_meaning.specs.Tables.{TableDescriptor, descriptor_of}
use Rattle.sq_meaning.specs.Target.{Target}
use Rattle.sq_meaning.proofs.OutcomeLaws.{then_then}
use Rattle.sq_meaning.specs.Schema.{BaseTable}
use Rattle.sq_meaning.specs.Change as by_name
use Rattle.sq_meaning.specs.Change.{Which, base_at, is_numbered, rows_at, tables_in, updated_row, which_target}
use Rattle.sq_bound.specs.Fits.{IsColumnOf, under}
use Rattle.sq_bound.specs.Known.{KnownTables}
use Rattle.sq_bound.specs.declared.condition.BoundSpecification.{BoundSpecification}
use Rattle.sq_bound.specs.declared.names.BaseTable.{BaseTable as BoundTable}
use Rattle.sq_bound.specs.declared.names.ParameterDesc.{ParameterDesc}
use Rattle.sq_bound.specs.declared.query.Target.{Target as BoundTarget}
use Rattle.sq_bound.specs.declared.statement.BoundAssignment.{BoundAssignment}
use Rattle.sq_bound.specs.declared.statement.BoundUpdate.{BoundUpdate}
use Rattle.sq_bound.specs.declared.statement.ChangeTarget.{ChangeTarget}
use Rattle.sq_bound.specs.declared.statement.ChangeTarget.TheVariants as change
use Rattle.sq_bound.specs.declared.statement.PositionedTarget.{PositionedTarget}
use Rattle.sq_change.specs.Made.{Shown, numbers_changed, rows_updated}
use Rattle.sq_change.specs.Statement as by_place
use Rattle.sq_run.proofs.Places.Items.{IsFit}
use Rattle.sq_run.proofs.Places.Outcomes.{same_then}
use Rattle.sq_run.proofs.Places.Parameters.{AreNamed}
use Rattle.sq_run.proofs.Changed.RowsAgain.{AreNumbersIn, row_among, without_same}
use Rattle.sq_run.proofs.Changed.Searched.{IsSearchIn, numbers_found_same, numbers_within, searched, searched_is}
use Rattle.sq_run.proofs.Changed.SetClauses.{AreSet, rows_set_same}
use Rattle.sq_run.proofs.Changed.Statements.{IsTableIn, read_in, seen_in}

-- The rows that a statement changes: by name those of its target that are chosen, by place those under the same numbers.
pub record IsChosen (m : by_name.Setting) (queries : List BoundSpecification) (known : KnownTables) (shown : Shown)
    (bases : List BoundTable) (name : TableName) (ct : ChangeTarget)
    (t : IsTableIn m known shown bases name (under ct)) (clause : Clause Named) (which : Which) (on : Option ℕ) : Type 0 where
  pub target_is : which_target m name which ≡ Ok (searched m known shown bases name (under ct) t clause)
  pub numbers_are : by_name.numbers_changed m (searched m known shown bases name (under ct) t clause) which
      ≡ numbers_changed shown (seen_in m queries) ct on
  pub among : IfOk (by_name.numbers_changed m (searched m known shown bases name (under ct) t clause) which)
      (AreNumbersIn (rows_at m t.target.place))

-- a search condition chooses them (13.7 and 13.10)
pub searched_chosen : (m : by_name.Setting) (queries : List BoundSpecification) (known : KnownTables) (shown : Shown)
    (bases : List BoundTable) (parameters : List ParameterDesc)
    → (names : AreNamed parameters m.inputs)
    → (fit : IsFit (read_in m known shown parameters)) (name : TableName) (clause : Clause Named) (x : BoundTarget)
    (h : IsSearchIn m known shown bases parameters name clause x) (on : Option ℕ)
    → IsChosen m queries known shown bases name (change.Searched x) h.table clause (Which.searched clause) on
searched_chosen m queries known shown bases parameters names fit name clause x h on = record {
  target_is = searched_is m known shown bases name x.leaf h.table clause;
  numbers_are = numbers_found_same m queries known shown bases parameters names fit name clause x h;
  among = numbers_within m queries known shown bases parameters names fit name clause x h;
}

-- or a cursor is on the only one, which is there (13.6 and 13.9)
pub positioned_chosen : (m : by_name.Setting) (queries : List BoundSpecification) (known : KnownTables) (shown : Shown)
    (bases : List BoundTable) (name : TableName) (p : PositionedTarget)
    (t : IsTableIn m known shown bases name p.leaf) (number : ℕ) (r : Numbered) → row_at
    (table_at m.content t.target.place) number ≡ Some r
    → IsChosen m queries known shown bases name (change.Positioned p) t absent (Which.numbered number) (Some number)
positioned_chosen m queries known shown bases name p t number r there = record {
  target_is = searched_is m known shown bases name p.leaf t absent;
  numbers_are = refl;
  among = let row = row_among (rows_at m t.target.place) number r there in (r ∷ [], ap (λ n. n ∷ []) (sym row.0), row.1);
}

-- what is changed is under its own leaf
pub base_is_under : (ct : ChangeTarget) → (under ct).table.place ≡ by_place.base_of ct
base_is_under (change.Searched x) = sym x.is_under
base_is_under (change.Positioned p) = sym p.is_under

module _ (m : by_name.Setting) (queries : List BoundSpecification) (known : KnownTables) (shown : Shown) (bases : List BoundTable)
    (name : TableName) (ct : ChangeTarget)
    (t : IsTableIn m known shown bases name (under ct)) (clause : Clause Named) (which : Which) (on : Option ℕ)
    (c : IsChosen m queries known shown bases name ct t clause which on) where
  abbrev target : Target
  target = searched m known shown bases name (under ct) t clause

  -- ---- UPDATE

  module _ (parameters : List ParameterDesc) (names : AreNamed parameters m.inputs) where
    -- The rows that are chosen are the same, and have the same values after the set clauses, or the status is the same.
    pub rows_updated_same : (u : Update) (bs : List BoundAssignment)
        → AreSet m queries known shown bases parameters names name (under ct) t clause (listed u.assignments) bs
        → AllByRecursion (λ a. IsColumnOf (under ct).table a.column) bs → has_rising_rows (table_at m.content target.place) ≡ true
        → and_then (by_name.numbers_changed m target which)
        (λ numbers. each (updated_row m t.descriptor target t.base u) (filter (is_numbered numbers) (rows_at m target.place)))
        ≡ and_then (numbers_changed shown (seen_in m queries) ct on)
        (rows_updated shown (seen_in m queries) bs (by_place.base_of ct))
    rows_updated_same u bs set of rising =
        same_then (by_name.numbers_changed m target which) (AreNumbersIn (rows_at m t.target.place))
        (λ numbers. each (updated_row m t.descriptor target t.base u) (filter (is_numbered numbers) (rows_at m target.place)))
        (rows_updated shown (seen_in m queries) bs (under ct).table.place) c.among
        (rows_set_same m queries known shown bases parameters names name (under ct) t clause u bs set of rising)
        ∙ (λ i. and_then (c.numbers_are i) (rows_updated shown (seen_in m queries) bs (base_is_under ct i)))

    -- UPDATE comes by its names to what its rows by place come to, where check options and constraints let them.
    pub update_same : (u : Update) (bound : BoundUpdate) → table_of m.user u.table ≡ name → bound.target ≡ ct
        → AreSet m queries known shown bases parameters names name (under ct) t clause (listed u.assignments) bound.assignments
        → AllByRecursion (λ a. IsColumnOf (under ct).table a.column) bound.assignments
        → has_rising_rows (table_at m.content target.place) ≡ true
        → by_name.update_outcome m u which
        ≡ and_then (by_place.update_made shown (seen_in m queries) bound on)
        (λ changed. by_name.completed m target t.base (map (λ r. r.row) changed) (by_name.with_replaced (table_at m.content target.place) changed))
    update_same u bound is_name is_target set of rising =
        ap from_name is_name
        ∙ ap (λ (o : Outcome TableDescriptor). and_then o (λ d. and_then (which_target m name which) (from_target d))) t.is_there
        ∙ ap (λ (o : Outcome Target). and_then o (from_target t.descriptor)) c.target_is
        ∙ ap (λ (o : Outcome BaseTable). and_then o (from_base t.descriptor target)) t.is_base
        ∙ sym (then_then (by_name.numbers_changed m target which) (λ numbers. each (updated_row m t.descriptor target t.base u) (filter (is_numbered numbers) (rows_at m target.place)))
        (completed_rows target t.base))
        ∙ ap (λ o. and_then o (completed_rows target t.base)) (rows_updated_same u bound.assignments set of rising)
        ∙ sym (ap (λ x. and_then (and_then (numbers_changed shown (seen_in m queries) x on) (rows_updated shown (seen_in m queries) bound.assignments (by_place.base_of x))) (completed_rows target t.base)) is_target)
      where
        completed_rows : Target → BaseTable → List Numbered → Outcome Content
        completed_rows of_target b changed =
            by_name.completed m of_target b (map (λ r. r.row) changed)
            (by_name.with_replaced (table_at m.content of_target.place) changed)

        from_base : TableDescriptor → Target → BaseTable → Outcome Content
        from_base d of_target b =
            and_then (by_name.numbers_changed m of_target which) (λ numbers.
            and_then (each (updated_row m d of_target b u) (filter (is_numbered numbers) (rows_at m of_target.place)))
            (completed_rows of_target b))

        from_target : TableDescriptor → Target → Outcome Content
        from_target d of_target = and_then (base_at m of_target.place) (from_base d of_target)

        from_name : TableName → Outcome Content
        from_name n = and_then (descriptor_of (tables_in m) n) (λ d. and_then (which_target m n which) (from_target d))

  -- ---- DELETE

  -- DELETE comes by its names to what its rows by place come to, where constraints let them go.
  pub delete_same : (d : Delete) → table_of m.user d.table ≡ name
      → by_name.delete_outcome m d which
      ≡ and_then (numbers_changed shown (seen_in m queries) ct on)
      (λ numbers. by_name.completed m target t.base [] (by_place.without (table_at m.content target.place) numbers))
  delete_same d is_name =
      ap from_name is_name
      ∙ ap (λ (o : Outcome Target). and_then o from_target) c.target_is
      ∙ ap (λ (o : Outcome BaseTable). and_then o (from_base target)) t.is_base
      ∙ ap (λ o. and_then o (λ numbers. by_name.completed m target t.base [] (by_name.without (table_at m.content target.place) numbers))) c.numbers_are
      ∙ (λ i. and_then (numbers_changed shown (seen_in m queries) ct on) (λ numbers. by_name.completed m target t.base [] (without_same numbers (table_at m.content target.place) i)))
    where
      from_base : Target → BaseTable → Outcome Content
      from_base of_target b =
          and_then (by_name.numbers_changed m of_target which)
          (λ numbers. by_name.completed m of_target b [] (by_name.without (table_at m.content of_target.place) numbers))

      from_target : Target → Outcome Content
      from_target of_target = and_then (base_at m of_target.place) (from_base of_target)

      from_name : TableName → Outcome Content
      from_name n = and_then (which_target m n which) from_target
