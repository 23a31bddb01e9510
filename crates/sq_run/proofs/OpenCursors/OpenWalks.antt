-- A cursor that walks is opened over the rows under the numbers that the machine fixes (ISO/IEC
-- 9075:1992, 13.2), where its conditions answer no status: then the rows of which they are true are
-- those that the walk means.
use Rattle.std.proofs.Common.{◌≡◌, ℕ, ◌≤◌, ◌<◌, cond, Bool, true, List, [], ◌∷◌, filter, map, Some, refl, sym, ap, ◌∙◌, arith, lt-ltb, Ok}
use Rattle.std.specs.Prelude.{is_some, nat_lt}
use Rattle.std.specs.List.{AllByRecursion}
use Rattle.sq_value.specs.declared.value.Value.{Value}
use Rattle.sq_store.specs.Content.{Content, row_at, table_at}
use Rattle.sq_store.specs.Rising.{has_rising_rows}
use Rattle.sq_store.specs.declared.table.Numbered.{Numbered}
use Rattle.sq_store.specs.declared.table.Table.{Table}
use Rattle.sq_meaning.specs.Status.{Outcome}
use Rattle.sq_meaning.proofs.AnswerLaws.{all_weaker}
use Rattle.sq_meaning.specs.Cursor as machine
use Rattle.sq_module.specs.declared.program.DeclaredCursor.{DeclaredCursor}
use Rattle.sq_session.specs.Kind.{conditions_in}
use Rattle.sq_session.specs.Open.{walk_before}
use Rattle.sq_session.specs.State.{is_there}
use Rattle.sq_session.specs.Walk.{is_meant, rows_between}
use Rattle.sq_session.specs.declared.cursor.CursorState.TheVariants as cursor
use Rattle.sq_run.proofs.Places.Outcomes.{all_map}
use Rattle.sq_run.proofs.Changed.RowsAgain.{above, all_there, all_within}
use Rattle.sq_run.proofs.OpenCursors.Below.{rows_below}
use Rattle.sq_run.proofs.OpenCursors.OpenSame.{OpensAlike}
use Rattle.sq_run.proofs.OpenCursors.WalkLeft.{all_from, all_kept}

-- ---- all rows of a table are before the next number

all_pass : {A : Type 0} (test : A → Bool) (xs : List A) → AllByRecursion (λ x. test x ≡ true) xs → filter test xs ≡ xs
all_pass test [] h = refl
all_pass test (x ∷ xs) h = ap (λ b. cond b (x ∷ filter test xs) (filter test xs)) h.0 ∙ ap (λ l. x ∷ l) (all_pass test xs h.1)

all_between : (t : Table) → has_rising_rows t ≡ true → rows_between 0 t.next t.rows ≡ t.rows
all_between t rising =
    let none : 0 ≤ 1 = omega arith in
    ap (filter (λ r. nat_lt r.number t.next)) (all_from 0 1 t.rows none (above 1 t.next t.rows rising))
    ∙ all_pass (λ r. nat_lt r.number t.next) t.rows
    (all_weaker (λ r. r.number < t.next) (λ r. nat_lt r.number t.next ≡ true) (λ r less. lt-ltb r.number t.next less) t.rows (rows_below t rising))

-- ---- the walk

module _ (tables : Content) (d : DeclaredCursor) (table : ℕ) (values : List Value)
    (rising : has_rising_rows (table_at tables table) ≡ true) where
  abbrev t : Table
  t = table_at tables table

  abbrev meant : List Numbered
  meant = filter (is_meant (conditions_in d.cursor.body) values d.user) t.rows

  all_are_there : filter (is_there t) (map (λ r. r.number) meant) ≡ map (λ r. r.number) meant
  all_are_there =
      all_pass (is_there t) (map (λ r. r.number) meant)
      (all_map (λ n. is_there t n ≡ true) (λ (r : Numbered). r.number) meant
      (all_kept (λ r. is_there t r.number ≡ true) (is_meant (conditions_in d.cursor.body) values d.user) t.rows
      (all_weaker (λ r. row_at t r.number ≡ Some r) (λ r. is_there t r.number ≡ true) (λ r e. ap is_some e) t.rows
      (all_there 1 t.next t.rows t.rows rising (all_within t.rows)))))

  -- It has the rows under the numbers that the machine's cursor is opened over.
  pub walk_opens : (o : Outcome machine.CursorState) → o ≡ Ok (machine.before_numbers (map (λ r. r.number) meant))
      → OpensAlike tables d (Ok (cursor.Walking (walk_before tables table values))) o
  walk_opens o e = (
    machine.before_numbers (map (λ r. r.number) meant),
    e,
    record {
      numbers = map (λ r. r.number) meant;
      is = refl;
      same =
          all_are_there
          ∙ ap (λ rows. map (λ (r : Numbered). r.number) (filter (is_meant (conditions_in d.cursor.body) values d.user) rows)) (sym (all_between t rising));
      below =
          all_map (λ n. n < t.next) (λ (r : Numbered). r.number) meant
          (all_kept (λ r. r.number < t.next) (is_meant (conditions_in d.cursor.body) values d.user) t.rows (rows_below t rising));
      marked = omega arith;
    },
  )
