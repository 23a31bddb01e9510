-- A change that obeys check options and constraints leaves the tables with the changed one in its place
-- (ISO/IEC 9075:1992, 13.6 to 13.10), and of INSERT, UPDATE and DELETE no other change leaves any.
use Rattle.std.proofs.Common.{◌≡◌, ℕ, List, [], filter, map, sym, Ok}
use Rattle.sq_tree.specs.declared.statement.Delete.{Delete}
use Rattle.sq_tree.specs.declared.statement.Insert.{Insert}
use Rattle.sq_tree.specs.declared.statement.Update.{Update}
use Rattle.sq_value.specs.declared.value.Value.{Value}
use Rattle.sq_store.specs.Content.{Content, table_at, with_table}
use Rattle.sq_store.specs.declared.table.Numbered.{Numbered}
use Rattle.sq_store.specs.declared.table.Table.{Table}
use Rattle.sq_meaning.specs.Environment.{Row}
use Rattle.sq_meaning.specs.Spelled.{table_of}
use Rattle.sq_meaning.specs.Status.{Outcome, and_then, each}
use Rattle.sq_meaning.specs.Tables.{TableDescriptor, descriptor_of}
use Rattle.sq_meaning.specs.Target.{Target, target_of}
use Rattle.sq_meaning.specs.declared.status.Status.TheVariants.{NoRowNumberLeft}
use Rattle.sq_meaning.specs.Schema.{BaseTable}
use Rattle.sq_meaning.specs.Change.{Setting, Which, base_at, check_options_met, completed, completed_with, delete_outcome, given_rows, has_numbers, insert_outcome, insert_places, is_numbered, new_row, numbers_changed, rows_at, tables_in, update_outcome, updated_row, which_target, with_replaced, with_rows, without}
use Rattle.sq_meaning.specs.Constraints.{constraints_checked, demanded}
use Rattle.sq_run.proofs.Places.Outcomes.{ok_same, ok_then}

pub completed_is : (m : Setting) (target : Target) (t : BaseTable) (rows : List Row) (changed : Table) (after : Content)
    → completed m target t rows changed ≡ Ok after → after ≡ with_table m.content target.place changed
completed_is m target t rows changed after e =
    let met = ok_then (check_options_met m target rows) (λ _. completed_with m t (with_table m.content target.place changed)) after e in
    let checked = ok_then (constraints_checked m.elements t (with_table m.content target.place changed)) (λ _. Ok (with_table m.content target.place changed)) after met.1 in
    sym (ok_same (with_table m.content target.place changed) after checked.1)

-- ---- INSERT (13.8)

-- one table has further rows
pub record IsInserted (before after : Content) : Type 0 where
  pub place : ℕ
  pub rows : List Row
  pub is : after ≡ with_table before place (with_rows (table_at before place) rows)

module _ (m : Setting) (i : Insert) (after : Content) where
  -- what is done with each part that is found
  abbrev with_new : Target → BaseTable → List Row → Outcome Content
  with_new target t rows =
      and_then (demanded (has_numbers m target.place rows) NoRowNumberLeft)
      (λ _. completed m target t rows (with_rows (table_at m.content target.place) rows))

  abbrev with_given : Target → BaseTable → List (List (ℕ × Value)) → Outcome Content
  with_given target t given = and_then (each (new_row m t) given) (with_new target t)

  abbrev into_base : TableDescriptor → Target → BaseTable → Outcome Content
  into_base d target t = and_then (given_rows m t (insert_places d target i.columns) i.source) (with_given target t)

  abbrev into_target : TableDescriptor → Target → Outcome Content
  into_target d target = and_then (base_at m target.place) (into_base d target)

  abbrev into_table : TableDescriptor → Outcome Content
  into_table d = and_then (target_of (tables_in m) (table_of m.user i.table)) (into_target d)

  pub inserted_is : insert_outcome m i ≡ Ok after → IsInserted m.content after
  inserted_is e =
      let d = ok_then (descriptor_of (tables_in m) (table_of m.user i.table)) into_table after e in
      let target = ok_then (target_of (tables_in m) (table_of m.user i.table)) (into_target d.0) after d.1 in
      let t = ok_then (base_at m target.0.place) (into_base d.0 target.0) after target.1 in
      let given = ok_then (given_rows m t.0 (insert_places d.0 target.0 i.columns) i.source) (with_given target.0 t.0) after t.1 in
      let rows = ok_then (each (new_row m t.0) given.0) (with_new target.0 t.0) after given.1 in
      let changed : Table = with_rows (table_at m.content target.0.place) rows.0 in
      let numbers = ok_then (demanded (has_numbers m target.0.place rows.0) NoRowNumberLeft) (λ _. completed m target.0 t.0 rows.0 changed) after rows.1 in
      record { place = target.0.place; rows = rows.0; is = completed_is m target.0 t.0 rows.0 changed after numbers.1 }

-- ---- UPDATE (13.9 and 13.10)

-- one table has other rows under their numbers
pub record IsReplaced (before after : Content) : Type 0 where
  pub place : ℕ
  pub changed : List Numbered
  pub is : after ≡ with_table before place (with_replaced (table_at before place) changed)

module _ (m : Setting) (u : Update) (which : Which) (after : Content) where
  abbrev with_changed : Target → BaseTable → List Numbered → Outcome Content
  with_changed target t rows = completed m target t (map (λ r. r.row) rows) (with_replaced (table_at m.content target.place) rows)

  abbrev with_numbers : TableDescriptor → Target → BaseTable → List ℕ → Outcome Content
  with_numbers d target t numbers =
      and_then (each (updated_row m d target t u) (filter (is_numbered numbers) (rows_at m target.place))) (with_changed target t)

  abbrev of_base : TableDescriptor → Target → BaseTable → Outcome Content
  of_base d target t = and_then (numbers_changed m target which) (with_numbers d target t)

  abbrev of_target : TableDescriptor → Target → Outcome Content
  of_target d target = and_then (base_at m target.place) (of_base d target)

  abbrev of_table : TableDescriptor → Outcome Content
  of_table d = and_then (which_target m (table_of m.user u.table) which) (of_target d)

  pub updated_is : update_outcome m u which ≡ Ok after → IsReplaced m.content after
  updated_is e =
      let d = ok_then (descriptor_of (tables_in m) (table_of m.user u.table)) of_table after e in
      let target = ok_then (which_target m (table_of m.user u.table) which) (of_target d.0) after d.1 in
      let t = ok_then (base_at m target.0.place) (of_base d.0 target.0) after target.1 in
      let numbers = ok_then (numbers_changed m target.0 which) (with_numbers d.0 target.0 t.0) after t.1 in
      let rows = ok_then (each (updated_row m d.0 target.0 t.0 u) (filter (is_numbered numbers.0) (rows_at m target.0.place))) (with_changed target.0 t.0) after numbers.1 in
      record {
        place = target.0.place;
        changed = rows.0;
        is = completed_is m target.0 t.0 (map (λ r. r.row) rows.0) (with_replaced (table_at m.content target.0.place) rows.0) after rows.1;
      }

-- ---- DELETE (13.6 and 13.7)

-- one table lacks some rows
pub record IsRemoved (before after : Content) : Type 0 where
  pub place : ℕ
  pub numbers : List ℕ
  pub is : after ≡ with_table before place (without (table_at before place) numbers)

module _ (m : Setting) (x : Delete) (which : Which) (after : Content) where
  abbrev without_numbers : Target → BaseTable → List ℕ → Outcome Content
  without_numbers target t numbers = completed m target t [] (without (table_at m.content target.place) numbers)

  abbrev from_base : Target → BaseTable → Outcome Content
  from_base target t = and_then (numbers_changed m target which) (without_numbers target t)

  abbrev from_target : Target → Outcome Content
  from_target target = and_then (base_at m target.place) (from_base target)

  pub deleted_is : delete_outcome m x which ≡ Ok after → IsRemoved m.content after
  deleted_is e =
      let target = ok_then (which_target m (table_of m.user x.table) which) from_target after e in
      let t = ok_then (base_at m target.0.place) (from_base target.0) after target.1 in
      let numbers = ok_then (numbers_changed m target.0 which) (without_numbers target.0 t.0) after t.1 in
      record {
        place = target.0.place;
        numbers = numbers.0;
        is = completed_is m target.0 t.0 [] (without (table_at m.content target.0.place) numbers.0) after numbers.1;
      }
