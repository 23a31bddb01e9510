-- The outcomes of INSERT, UPDATE and DELETE (ISO/IEC 9075:1992, 13.6 to 13.10).
use Rattle.std.proofs.Common.{◌≡◌, ◌∙◌, ℕ, true, List, [], ◌∷◌, map, Option, Result, Ok, Err, ap, refl, subst, sym}
use Rattle.sq_value.specs.declared.value.Value.{Value}
use Rattle.sq_store.specs.Change.{rows_put}
use Rattle.sq_store.specs.Content.{Content, changed_by, table_at, with_table}
use Rattle.sq_store.specs.declared.change.Change.{Change}
use Rattle.sq_store.specs.declared.change.Change.TheVariants.{Insert, Replace, Remove}
use Rattle.sq_store.specs.declared.table.Numbered.{Numbered}
use Rattle.sq_store.specs.declared.table.Table.{Table}
use Rattle.sq_meaning.specs.Status.{Outcome, and_then}
use Rattle.sq_meaning.specs.declared.status.Status.TheVariants as status
use Rattle.sq_meaning.specs.Constraints.{demanded}
use Rattle.sq_bound.specs.Fits.{under}
use Rattle.sq_bound.specs.declared.names.BaseTable.{BaseTable}
use Rattle.sq_bound.specs.declared.names.Leaf.{Leaf}
use Rattle.sq_bound.specs.declared.statement.BoundInsert.{BoundInsert}
use Rattle.sq_bound.specs.declared.statement.BoundUpdate.{BoundUpdate}
use Rattle.sq_bound.specs.declared.statement.ChangeTarget.{ChangeTarget}
use Rattle.sq_expression.specs.Fault.{Meets, MeetsAs}
use Rattle.sq_expression.specs.declared.fault.Fault.{Fault}
use Rattle.sq_expression.specs.declared.fault.Fault.TheVariants as fault
use Rattle.sq_change.specs.Changed.{AreReplacements, Removals, Replacements, are_insertions, rows_replaced}
use Rattle.sq_change.specs.Constraints.{completed, keys_met, references_met, rows_met}
use Rattle.sq_change.specs.Made.{Seen, Shown, numbers_changed, rows_inserted}
use Rattle.sq_change.specs.Performed.{delete_outcome, insert_outcome, update_outcome}
use Rattle.sq_change.specs.Statement.{update_made, with_replaced, with_rows, without}
use Rattle.sq_change.proofs.Changes.Made.{all_inserted, all_removed, all_replaced}

abbrev pub Done : Content → Result (Unit {0}) Fault → Outcome Content → Type 0
Done after r o = MeetsAs (λ (u : Unit {0}). after) r o

module _ (shown : Shown) (s : Seen) (bases : List BaseTable) (after : Content) (r : Result (Unit {0}) Fault) where
  -- what is completed, where the rows are made so
  pub insert_meets : (row_numbers : ℕ) (i : BoundInsert) (changes : List Change) → are_insertions changes ≡ true → rows_inserted shown s row_numbers i ≡ Ok (rows_put changes)
      → Done after r (completed shown s bases i.leaf (rows_put changes) (changed_by (table_at s.tables i.leaf.table.place) changes))
      → Done after r (insert_outcome shown s bases row_numbers i)
  insert_meets row_numbers i changes h made done =
      subst (Done after r)
      (ap (completed shown s bases i.leaf (rows_put changes)) (all_inserted (table_at s.tables i.leaf.table.place) changes h)
      ∙ sym (ap (λ (o : Outcome (List (List Value))). and_then o (λ rows. completed shown s bases i.leaf rows (with_rows (table_at s.tables i.leaf.table.place) rows))) made))
      done

  put_replaced : (numbers : List ℕ) (changes : List Change) → AreReplacements numbers changes → rows_put changes ≡ map (λ (n : Numbered). n.row) (rows_replaced changes)
  put_replaced [] [] h = refl
  put_replaced [] (change ∷ changes) h = absurd h
  put_replaced (n ∷ numbers) [] h = absurd h
  put_replaced (n ∷ numbers) (Insert row ∷ changes) h = absurd h.0
  put_replaced (n ∷ numbers) (Replace number row ∷ changes) h = ap (λ (rows : List (List Value)). row ∷ rows) (put_replaced numbers changes h.1)
  put_replaced (n ∷ numbers) (Remove number ∷ changes) h = absurd h.0

  pub update_meets : (u : BoundUpdate) (on : Option ℕ) (changes : List Change) → Replacements s u on changes → update_made shown s u on ≡ Ok (rows_replaced changes)
      → Done after r (completed shown s bases (under u.target) (rows_put changes) (changed_by (table_at s.tables (under u.target).table.place) changes))
      → Done after r (update_outcome shown s bases u on)
  update_meets u on changes h made done =
      subst (Done after r)
      (ap (λ (rows : List (List Value)). completed shown s bases (under u.target) rows (changed_by (table_at s.tables (under u.target).table.place) changes)) (put_replaced h.numbers changes h.all)
      ∙ ap (completed shown s bases (under u.target) (map (λ (n : Numbered). n.row) (rows_replaced changes))) (all_replaced h.numbers (table_at s.tables (under u.target).table.place) changes h.all)
      ∙ sym (ap (λ (o : Outcome (List Numbered)). and_then o (λ rows. completed shown s bases (under u.target) (map (λ n. n.row) rows) (with_replaced (table_at s.tables (under u.target).table.place) rows))) made))
      done

  removed_put : (numbers : List ℕ) → rows_put (map Remove numbers) ≡ []
  removed_put [] = refl
  removed_put (number ∷ numbers) = removed_put numbers

  pub delete_meets : (t : ChangeTarget) (on : Option ℕ) (changes : List Change) (h : Removals s t on changes) → numbers_changed shown s t on ≡ Ok h.numbers
      → Done after r (completed shown s bases (under t) (rows_put changes) (changed_by (table_at s.tables (under t).table.place) changes))
      → Done after r (delete_outcome shown s bases t on)
  delete_meets t on changes h made done =
      subst (Done after r)
      (ap (λ (cs : List Change). completed shown s bases (under t) (rows_put cs) (changed_by (table_at s.tables (under t).table.place) cs)) h.all
      ∙ ap (λ (rows : List (List Value)). completed shown s bases (under t) rows (changed_by (table_at s.tables (under t).table.place) (map Remove h.numbers))) (removed_put h.numbers)
      ∙ ap (completed shown s bases (under t) []) (all_removed (table_at s.tables (under t).table.place) h.numbers)
      ∙ sym (ap (λ (o : Outcome (List ℕ)). and_then o (λ numbers. completed shown s bases (under t) [] (without (table_at s.tables (under t).table.place) numbers))) made))
      done

-- ---- what a change comes to, step by step

module _ (shown : Shown) (s : Seen) (bases : List BaseTable) (leaf : Leaf) (rows : List (List Value)) (changed : Table) where
  abbrev tail : Outcome Content
  tail = and_then (demanded (references_met bases (with_table s.tables leaf.table.place changed)) status.IntegrityConstraintViolation) (λ _. Ok (with_table s.tables leaf.table.place changed))

  -- a row is not admitted
  pub rows_stop : (f : Fault) → Meets {A = Unit {0}} (Err f) (rows_met shown s leaf rows) → Meets {A = Content} (Err f) (completed shown s bases leaf rows changed)
  rows_stop fault.NoMemory h = tt
  rows_stop (fault.Status st) h = ap (λ (o : Outcome (Unit {0})). and_then o (λ _. and_then (keys_met leaf.table changed) (λ _. tail))) h

  module _ (admitted : rows_met shown s leaf rows ≡ Ok tt) where
    -- two rows have the same key
    pub keys_stop : (f : Fault) → Meets {A = Unit {0}} (Err f) (keys_met leaf.table changed) → Meets {A = Content} (Err f) (completed shown s bases leaf rows changed)
    keys_stop fault.NoMemory h = tt
    keys_stop (fault.Status st) h =
        ap (λ (o : Outcome (Unit {0})). and_then o (λ _. and_then (keys_met leaf.table changed) (λ _. tail))) admitted
        ∙ ap (λ (o : Outcome (Unit {0})). and_then o (λ _. tail)) h

    -- where keys are met, references decide
    pub references_end : (r : Result (Unit {0}) Fault) (after : Content) → keys_met leaf.table changed ≡ Ok tt
        → Meets r (demanded (references_met bases (with_table s.tables leaf.table.place changed)) status.IntegrityConstraintViolation)
        → (r ≡ Ok tt → after ≡ with_table s.tables leaf.table.place changed)
        → MeetsAs (λ (u : Unit {0}). after) r (completed shown s bases leaf rows changed)
    references_end r after distinct met done =
        subst (λ (o : Outcome Content). MeetsAs (λ (u : Unit {0}). after) r o)
        (sym (ap (λ (o : Outcome (Unit {0})). and_then o (λ _. and_then (keys_met leaf.table changed) (λ _. tail))) admitted
        ∙ ap (λ (o : Outcome (Unit {0})). and_then o (λ _. tail)) distinct))
        (by r met done)
      where
        by : (r : Result (Unit {0}) Fault)
            → Meets r (demanded (references_met bases (with_table s.tables leaf.table.place changed)) status.IntegrityConstraintViolation)
            → (r ≡ Ok tt → after ≡ with_table s.tables leaf.table.place changed) → MeetsAs (λ (u : Unit {0}). after) r tail
        by (Ok u) met done = ap (λ (o : Outcome (Unit {0})). and_then o (λ _. Ok (with_table s.tables leaf.table.place changed))) met ∙ ap Ok (sym (done refl))
        by (Err fault.NoMemory) met done = tt
        by (Err (fault.Status st)) met done = ap (λ (o : Outcome (Unit {0})). and_then o (λ _. Ok (with_table s.tables leaf.table.place changed))) met
