-- INSERT of values and of a query, UPDATE and DELETE come to the same by their places and by their names (ISO/IEC 9075:1992, 13.6 to
-- 13.10): the same tables or the same status.
use Rattle.std.proofs.Common.{◌≡◌, ℕ, suc, List, [], ◌∷◌, true, length, map, filter, Option, refl, sym, ap, subst, ◌∙◌, Ok}
use Rattle.std.proofs.lemmas.List.{length-set}
use Rattle.std.proofs.lemmas.List.FromFn.{length-enumerate_from}
use Rattle.std.specs.Prelude.{⊤, IfOk, slice_set}
use Rattle.std.specs.List.{AllByRecursion, AllZip, enumerate_from}
use Rattle.std.specs.Option.{option_map_or}
use Rattle.sq_lex.specs.declared.name.Name.{Name}
use Rattle.sq_store.specs.Content.{table_at, with_table}
use Rattle.sq_store.specs.Rising.{has_rising_rows}
use Rattle.sq_store.specs.declared.table.Numbered.{Numbered}
use Rattle.sq_tree.specs.declared.statement.Delete.{Delete}
use Rattle.sq_tree.specs.declared.statement.Insert.{Insert}
use Rattle.sq_tree.specs.declared.statement.Update.{Update}
use Rattle.sq_value.specs.declared.value.Value.{Value}
use Rattle.sq_meaning.specs.Environment.{Row, TableName}
use Rattle.sq_meaning.specs.Spelled.{Named, listed, table_of}
use Rattle.sq_meaning.specs.Status.{Outcome, and_then, each}
use Rattle.sq_meaning.specs.Syntax.{Clause}
use Rattle.sq_meaning.specs.Target.{Target}
use Rattle.sq_meaning.specs.declared.status.Status.TheVariants.{NoRowNumberLeft}
use Rattle.sq_meaning.specs.Change as by_name
use Rattle.sq_meaning.specs.Change.{Which, completed_with, is_numbered, row_env, rows_at, set_places, stored_values, updated_row, with_rows, with_values}
use Rattle.sq_meaning.specs.Constraints.{demanded}
use Rattle.sq_bound.specs.Fits.{IsColumnOf, under}
use Rattle.sq_bound.specs.Known.{KnownTables}
use Rattle.sq_bound.specs.declared.condition.BoundSpecification.{BoundSpecification}
use Rattle.sq_bound.specs.declared.names.BaseTable.{BaseTable as BoundTable}
use Rattle.sq_bound.specs.declared.names.Leaf.{Leaf}
use Rattle.sq_bound.specs.declared.names.ObjectColumn.{ObjectColumn}
use Rattle.sq_bound.specs.declared.names.ParameterDesc.{ParameterDesc}
use Rattle.sq_bound.specs.declared.statement.BoundInsert.{BoundInsert}
use Rattle.sq_bound.specs.declared.statement.BoundUpdate.{BoundUpdate}
use Rattle.sq_bound.specs.declared.statement.ChangeTarget.{ChangeTarget}
use Rattle.sq_change.specs.Constraints as by_place
use Rattle.sq_change.specs.Made.{Seen, Shown, numbers_changed, numbers_suffice, row_completed, rows_given, rows_inserted, rows_made, rows_updated, value_completed}
use Rattle.sq_change.specs.Performed as performed
use Rattle.sq_change.specs.Statement as statement
use Rattle.sq_run.proofs.Changed.Changes.{IsChosen, delete_same, rows_updated_same, update_same}
use Rattle.sq_run.proofs.Changed.CheckOptions.{completed_same, searched_check_same}
use Rattle.sq_run.proofs.Changed.Constraints.{IsCheckedAs, delete_checks_same, insert_checks_same, update_checks_same}
use Rattle.sq_run.proofs.Changed.Inserts.{IsInsertIn, insert_same}
use Rattle.sq_run.proofs.Places.Items.{IsFit}
use Rattle.sq_run.proofs.Changed.Levels.{HasLength, width_at}
use Rattle.sq_run.proofs.Places.Outcomes.{each_so, if_also, if_any, if_each, if_one, if_then, same_then}
use Rattle.sq_run.proofs.Places.Parameters.{AreNamed}
use Rattle.sq_run.proofs.Changed.RowsAgain.{AreApart, AreNumbersIn, IsWithin, found_again, numbers_of, replaced_same, so_within, within_apart}
use Rattle.sq_run.proofs.Changed.Searched.{searched}
use Rattle.sq_run.proofs.Changed.SetClauses.{AreSet}
use Rattle.sq_run.proofs.Changed.Statements.{IsTableIn, read_in, seen_in}

-- ---- how long new rows are

each_long : {A B : Type 0} (f : A → Outcome B) (xs : List A) → IfOk (each f xs) (λ ys. length ys ≡ length xs)
each_long f [] = refl
each_long {A} {B} f (x ∷ xs) =
    if_then (f x) (λ y. and_then (each f xs) (λ ys. Ok (y ∷ ys))) (λ y. ⊤) (λ ys. length ys ≡ suc (length xs)) (if_any (f x))
    (λ y any. if_one (each f xs) (λ ys. y ∷ ys) (λ ys. length ys ≡ length xs) (λ ys. length ys ≡ suc (length xs)) (each_long f xs) (λ ys e. ap suc e))

completed_long : (user : Name) (t : BoundTable) (columns : List ObjectColumn) (given : Row)
    → IfOk (row_completed user t columns given) (HasLength (length t.columns))
completed_long user t columns given =
    subst (λ n. IfOk (row_completed user t columns given) (HasLength n)) (length-enumerate_from 0 t.columns)
    (each_long (value_completed user columns given) (enumerate_from 0 t.columns))

inserted_long : (shown : Shown) (s : Seen) (row_numbers : ℕ) (x : BoundInsert)
    → IfOk (rows_inserted shown s row_numbers x) (AllByRecursion (HasLength (length x.leaf.table.columns)))
inserted_long shown s row_numbers x =
    if_then (rows_made shown s x.leaf.table x.columns x.source)
    (λ found. and_then (demanded (numbers_suffice row_numbers (table_at s.tables x.leaf.table.place) found) NoRowNumberLeft) (λ _. Ok found))
    (AllByRecursion (HasLength (length x.leaf.table.columns))) (AllByRecursion (HasLength (length x.leaf.table.columns)))
    (if_then (rows_given shown s x.columns x.source) (each (row_completed s.user x.leaf.table x.columns)) (λ rows. ⊤) (AllByRecursion (HasLength (length x.leaf.table.columns)))
    (if_any (rows_given shown s x.columns x.source))
    (λ rows any. each_so (row_completed s.user x.leaf.table x.columns) (HasLength (length x.leaf.table.columns)) (completed_long s.user x.leaf.table x.columns) rows))
    (λ found long. if_then (demanded (numbers_suffice row_numbers (table_at s.tables x.leaf.table.place) found) NoRowNumberLeft) (λ _. Ok found) (λ _. ⊤)
    (AllByRecursion (HasLength (length x.leaf.table.columns)))
    (if_any (demanded (numbers_suffice row_numbers (table_at s.tables x.leaf.table.place) found) NoRowNumberLeft))
    (λ _ any. long))

-- ---- how changed rows are

-- under the same number, and as wide
abbrev IsAlike : Numbered → Numbered → Type 0
IsAlike r c = (c.number ≡ r.number) × (length c.row ≡ length r.row)

values_long : (given : List (ℕ × Value)) (row : Row) → length (with_values given row) ≡ length row
values_long [] row = refl
values_long (g ∷ given) row = values_long given (slice_set row g.0 g.1) ∙ length-set row g.0 g.1

numbers_alike : (found changed : List Numbered) → AllZip IsAlike found changed → numbers_of changed ≡ numbers_of found
numbers_alike [] [] h = refl
numbers_alike [] (c ∷ changed) h = absurd h
numbers_alike (r ∷ found) [] h = absurd h
numbers_alike (r ∷ found) (c ∷ changed) h = (λ i. h.0.0 i ∷ numbers_alike found changed h.1 i)

rows_long : (width : ℕ) (found changed : List Numbered) → AllZip IsAlike found changed
    → AllByRecursion (λ r. HasLength width r.row) found → AllByRecursion (HasLength width) (map (λ r. r.row) changed)
rows_long width [] [] h w = tt
rows_long width [] (c ∷ changed) h w = absurd h
rows_long width (r ∷ found) [] h w = absurd h
rows_long width (r ∷ found) (c ∷ changed) h w = (h.0.1 ∙ w.0, rows_long width found changed h.1 w.1)

-- the rows of a statement's base table are as wide as it
width_is : (m : by_name.Setting) (known : KnownTables) (shown : Shown) (bases : List BoundTable) (name : TableName) (leaf : Leaf)
    (t : IsTableIn m known shown bases name leaf)
    → width_at bases t.target.place ≡ length leaf.table.columns
width_is m known shown bases name leaf t =
    ap (width_at bases) t.under.place ∙ ap (λ o. option_map_or (λ (b : BoundTable). length b.columns) o 0) t.stands

module _ (m : by_name.Setting) (queries : List BoundSpecification) (known : KnownTables) (shown : Shown) (bases : List BoundTable)
    (parameters : List ParameterDesc)
    (names : AreNamed parameters m.inputs) (fit : IsFit (read_in m known shown parameters)) where
  -- ---- INSERT (13.8)

  pub insert_outcome_same : (i : Insert) (x : BoundInsert) (h : IsInsertIn m known shown bases parameters i x)
      → IsCheckedAs m queries shown bases h.table.base x.leaf.table
      → by_name.insert_outcome m i ≡ performed.insert_outcome shown (seen_in m queries) bases m.row_numbers x
  insert_outcome_same i x h checked =
      insert_same m queries known shown bases parameters names fit i x h
      ∙ same_then (rows_inserted shown (seen_in m queries) m.row_numbers x)
      (AllByRecursion (HasLength (length x.leaf.table.columns)))
      (λ rows. by_name.completed m h.table.target h.table.base rows (with_rows (table_at m.content x.leaf.table.place) rows))
      (λ rows. by_place.completed shown (seen_in m queries) bases x.leaf rows (with_rows (table_at m.content x.leaf.table.place) rows))
      (inserted_long shown (seen_in m queries) m.row_numbers x)
      (λ rows long. completed_same m queries known shown bases (table_of m.user i.table) x.leaf h.table rows (with_rows (table_at m.content x.leaf.table.place) rows)
      (subst (λ n. AllByRecursion (HasLength n) rows) (sym (width_is m known shown bases (table_of m.user i.table) x.leaf h.table)) long)
      (insert_checks_same m queries shown bases h.table.base x.leaf.table checked rows long))

module _ (m : by_name.Setting) (queries : List BoundSpecification) (known : KnownTables) (shown : Shown) (bases : List BoundTable)
    (name : TableName) (ct : ChangeTarget)
    (t : IsTableIn m known shown bases name (under ct)) (clause : Clause Named) (which : Which) (on : Option ℕ)
    (c : IsChosen m queries known shown bases name ct t clause which on) where
  abbrev target : Target
  target = searched m known shown bases name (under ct) t clause

  -- ---- DELETE (13.6 and 13.7)

  pub delete_outcome_same : (d : Delete) → table_of m.user d.table ≡ name
      → IsCheckedAs m queries shown bases t.base (under ct).table
      → by_name.delete_outcome m d which ≡ performed.delete_outcome shown (seen_in m queries) bases ct on
  delete_outcome_same d is_name checked =
      delete_same m queries known shown bases name ct t clause which on c d is_name
      ∙ (λ i. and_then (numbers_changed shown (seen_in m queries) ct on) (λ numbers. comes_to numbers i))
    where
      comes_to : (numbers : List ℕ)
          → by_name.completed m target t.base [] (statement.without (table_at m.content t.target.place) numbers)
          ≡ by_place.completed shown (seen_in m queries) bases (under ct) []
          (statement.without (table_at m.content (under ct).table.place) numbers)
      comes_to numbers =
          ap (λ o. and_then o (λ _. completed_with m t.base (with_table m.content t.target.place (statement.without (table_at m.content t.target.place) numbers))))
          (searched_check_same m queries known shown bases name (under ct) t clause [])
          ∙ ap (λ place. by_name.completed m t.target t.base [] (statement.without (table_at m.content place) numbers)) t.under.place
          ∙ completed_same m queries known shown bases name (under ct) t []
          (statement.without (table_at m.content (under ct).table.place) numbers) tt
          (delete_checks_same m queries shown bases t.base (under ct).table checked numbers)

  -- ---- UPDATE (13.9 and 13.10)

  module _ (parameters : List ParameterDesc) (names : AreNamed parameters m.inputs) (u : Update)
      (rising : has_rising_rows (table_at m.content t.target.place) ≡ true) where
    abbrev updated : Numbered → Outcome Numbered
    updated r = updated_row m t.descriptor target t.base u r

    -- changed rows are as wide as they were, under different numbers of the table
    abbrev AreRight : List Numbered → Type 0
    AreRight changed =
        AllByRecursion (HasLength (width_at bases t.target.place)) (map (λ r. r.row) changed) × AreApart (numbers_of changed)
        × AreNumbersIn (rows_at m t.target.place) (numbers_of changed)

    updated_alike : (r : Numbered) → IfOk (updated r) (IsAlike r)
    updated_alike r =
        if_one (stored_values m (row_env m t.descriptor target r.row) t.base (set_places t.descriptor target u))
        (λ given. record { number = r.number; row = with_values given r.row })
        (λ given. ⊤) (IsAlike r)
        (if_any (stored_values m (row_env m t.descriptor target r.row) t.base (set_places t.descriptor target u)))
        (λ given any. (refl, values_long given r.row))

    found_right : (found : List Numbered) → IsWithin found (rows_at m t.target.place) → IfOk (each updated found) AreRight
    found_right found q =
        if_also (each updated found) (AllZip IsAlike found) AreRight (if_each updated IsAlike updated_alike found)
        (λ changed alike. (
          rows_long (width_at bases t.target.place) found changed alike (so_within (λ r. HasLength (width_at bases t.target.place) r.row) (rows_at m t.target.place) found t.under.wide q),
          subst AreApart (sym (numbers_alike found changed alike)) (within_apart 1 (table_at m.content t.target.place).next (rows_at m t.target.place) found rising q),
          (found, numbers_alike found changed alike, q),
        ))

    changed_right : IfOk
        (and_then (by_name.numbers_changed m target which) (λ numbers. each updated (filter (is_numbered numbers) (rows_at m target.place)))) AreRight
    changed_right =
        if_then (by_name.numbers_changed m target which)
        (λ numbers. each updated (filter (is_numbered numbers) (rows_at m target.place)))
        (AreNumbersIn (rows_at m t.target.place)) AreRight c.among
        (λ numbers q. subst (λ ns. IfOk (each updated (filter (is_numbered ns) (rows_at m target.place))) AreRight) (sym q.1)
        (subst (λ l. IfOk (each updated l) AreRight) (sym (found_again 1 (table_at m.content t.target.place).next (rows_at m t.target.place) q.0 rising q.2)) (found_right q.0 q.2)))

    pub update_outcome_same : (bound : BoundUpdate) → table_of m.user u.table ≡ name → bound.target ≡ ct
        → AreSet m queries known shown bases parameters names name (under ct) t clause (listed u.assignments) bound.assignments
        → AllByRecursion (λ a. IsColumnOf (under ct).table a.column) bound.assignments
        → IsCheckedAs m queries shown bases t.base (under ct).table
        → by_name.update_outcome m u which ≡ performed.update_outcome shown (seen_in m queries) bases bound on
    update_outcome_same bound is_name is_target set of checked =
        update_same m queries known shown bases name ct t clause which on c parameters names u bound is_name is_target set of rising
        ∙ same_then (statement.update_made shown (seen_in m queries) bound on) AreRight
        (λ changed. by_name.completed m target t.base (map (λ r. r.row) changed) (by_name.with_replaced (table_at m.content target.place) changed))
        (λ changed. by_place.completed shown (seen_in m queries) bases (under ct) (map (λ r. r.row) changed) (statement.with_replaced (table_at m.content (under ct).table.place) changed))
        made_right comes_to
        ∙ sym (ap (λ x. and_then (statement.update_made shown (seen_in m queries) bound on)
        (λ changed. by_place.completed shown (seen_in m queries) bases (under x) (map (λ r. r.row) changed) (statement.with_replaced (table_at m.content (under x).table.place) changed))) is_target)
      where
        made_right : IfOk (statement.update_made shown (seen_in m queries) bound on) AreRight
        made_right =
            subst (λ x. IfOk (and_then (numbers_changed shown (seen_in m queries) x on) (rows_updated shown (seen_in m queries) bound.assignments (statement.base_of x))) AreRight)
            (sym is_target)
            (subst (λ o. IfOk o AreRight) (rows_updated_same m queries known shown bases name ct t clause which on c parameters names u bound.assignments set of rising) changed_right)

        comes_to : (changed : List Numbered) → AreRight changed
            → by_name.completed m target t.base (map (λ r. r.row) changed)
            (by_name.with_replaced (table_at m.content target.place) changed)
            ≡ by_place.completed shown (seen_in m queries) bases (under ct) (map (λ r. r.row) changed)
            (statement.with_replaced (table_at m.content (under ct).table.place) changed)
        comes_to changed right =
            ap (λ o. and_then o (λ _. completed_with m t.base (with_table m.content t.target.place (by_name.with_replaced (table_at m.content t.target.place) changed))))
            (searched_check_same m queries known shown bases name (under ct) t clause (map (λ r. r.row) changed))
            ∙ ap (λ place. by_name.completed m t.target t.base (map (λ r. r.row) changed) (by_name.with_replaced (table_at m.content place) changed)) t.under.place
            ∙ ap (by_name.completed m t.target t.base (map (λ r. r.row) changed))
            (replaced_same changed right.1 (table_at m.content (under ct).table.place))
            ∙ completed_same m queries known shown bases name (under ct) t (map (λ r. r.row) changed)
            (statement.with_replaced (table_at m.content (under ct).table.place) changed) right.0
            (update_checks_same m queries shown bases t.base (under ct).table checked (subst (λ place. has_rising_rows (table_at m.content place) ≡ true) t.under.place rising) changed
            (subst (λ n. AllByRecursion (HasLength n) (map (λ r. r.row) changed)) (width_is m known shown bases name (under ct) t) right.0) right.1
            (subst (λ place. AreNumbersIn (rows_at m place) (numbers_of changed)) t.under.place right.2))
