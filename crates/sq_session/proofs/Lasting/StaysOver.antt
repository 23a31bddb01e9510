-- After each statement a session's cursors go over what is declared, and what depends on neither its cursors nor its tables still holds
-- (ISO/IEC 9075:1992, 4.21 and 13.2 to 13.10).
use Rattle.std.proofs.Common.{◌≡◌, ℕ, Bool, true, false, List, Option, None, refl, sym, ap, subst, arith, Ok, Err}
use Rattle.std.proofs.lemmas.Grind.{common_steps}
use Rattle.std.specs.Prelude.{nat_eq, slice_set}
use Rattle.sq_lex.specs.declared.name.Name.{Name}
use Rattle.sq_value.specs.declared.value.Value.{Value}
use Rattle.sq_store.specs.Content.{Content}
use Rattle.sq_meaning.specs.Status.{Outcome}
use Rattle.sq_bound.specs.declared.names.ParameterDesc.{ParameterDesc}
use Rattle.sq_bound.specs.declared.statement.BoundStatement.{BoundStatement}
use Rattle.sq_bound.specs.declared.statement.BoundStatement.TheVariants as statement
use Rattle.sq_bound.specs.declared.statement.ChangeTarget.{ChangeTarget}
use Rattle.sq_bound.specs.declared.statement.ChangeTarget.TheVariants as target
use Rattle.sq_bound.specs.declared.statement.PositionedTarget.{PositionedTarget}
use Rattle.sq_expression.proofs.Kept.{ok_same}
use Rattle.sq_module.specs.declared.program.DeclaredCursor.{DeclaredCursor}
use Rattle.sq_session.proofs.OpenCursors.Over.{closed_over, go_on_over, put_closed, put_like, put_off, put_over}
use Rattle.sq_session.proofs.Fetching.Reached.{number_kept, walk_kept}
use Rattle.sq_session.specs.Cursors.{are_over, go_on, is_over, is_over_numbers, is_over_table}
use Rattle.sq_session.specs.Fetch.{come_to_number, come_to_row, come_to_walk, over_numbers, over_rows, over_walk}
use Rattle.sq_session.specs.Kind.{Caller, Fetching, Over, Updating, caller_of, delete_kind, fetching, kind_of, opening, over_at, update_kind, updating}
use Rattle.sq_session.specs.Open.{IsOpenOver, before_numbers, before_rows, numbers_opened, rows_opened, walk_before}
use Rattle.sq_session.specs.Schemas.{Schemas}
use Rattle.sq_session.specs.State.{State, all_closed, committed_state, cursor_at, is_open, off_row, rolled_back, with_cursor}
use Rattle.sq_session.specs.Step.{Comes, MayCloseIf, MayDeleteAt, MayFetchFrom, MayOpenIf, MayStep, MayUpdateAt, OpensAs, Performs, is_on_row, left_row, on_row, walks_listed}
use Rattle.sq_session.specs.declared.cursor.CursorState.{CursorState}
use Rattle.sq_session.specs.declared.cursor.CursorState.TheVariants as cursor
use Rattle.sq_session.specs.declared.cursor.NumbersCursor.{NumbersCursor}
use Rattle.sq_session.specs.declared.cursor.RowsCursor.{RowsCursor}
use Rattle.sq_session.specs.declared.reply.Done.{Done}
use Rattle.sq_session.specs.declared.walk.WalkingCursor.{WalkingCursor}

-- Rest is what holds beside it.
module _ (ds : List DeclaredCursor) (Rest : State → Type 0) (any_cursors : (s : State) (cs : List CursorState) → Rest s → Rest (record s { cursors = cs }))
    (any_tables : (s : State) (tables : Content) → Rest s → Rest (record s { tables = tables })) where
  abbrev pub StaysOver : State → Type 0
  StaysOver s = (are_over ds s.cursors ≡ true) × Rest s

  same : (b a : State) → StaysOver b → a ≡ b → StaysOver a
  same b a h e = subst StaysOver (sym e) h

  with_one : (b : State) (n : ℕ) (c : CursorState) (a : State) → StaysOver b → are_over ds (with_cursor b n c).cursors ≡ true → a ≡ with_cursor b n c
      → StaysOver a
  with_one b n c a has h e = same (with_cursor b n c) a (h, any_cursors b (slice_set b.cursors n c) has.1) e

  -- ---- OPEN

  same_number : (n : ℕ) → nat_eq n n ≡ true
  same_number n = grind (arith, common_steps)

  rows_found : (found : Outcome (List (List Value))) (c : CursorState) → Ok c ≡ rows_opened found → is_over Over.rows c ≡ true
  rows_found (Ok rows) c e = rw (ok_same c (before_rows rows) e) refl
  rows_found (Err st) c e = cc

  numbers_found : (table : ℕ) (found : Outcome (List ℕ)) (c : CursorState) → Ok c ≡ numbers_opened table found
      → is_over (Over.numbers table) c ≡ true
  numbers_found table (Ok numbers) c e = rw (ok_same c (before_numbers table numbers) e) (same_number table)
  numbers_found table (Err st) c e = cc

  walk_found : (tables : Content) (table : ℕ) (values : List Value) (c : CursorState)
      → (◌≡◌ {A = Outcome CursorState} (Ok c) (Ok (cursor.Walking (walk_before tables table values)))) → is_over (Over.walk table) c ≡ true
  walk_found tables table values c e = rw (ok_same c (cursor.Walking (walk_before tables table values)) e) (same_number table)

  opened_over : (o : Over) (values : List Value) (tables : Content) (c : CursorState) → IsOpenOver o values tables (Ok c) → is_over o c ≡ true
  opened_over Over.rows values tables c h = rows_found h.0 c h.1
  opened_over (Over.numbers table) values tables c h = numbers_found table h.0 c h.1
  opened_over (Over.walk table) values tables c h = walk_found tables table values c h

  opens : (opened : Outcome CursorState) (n : ℕ) (values : List Value) (b : State) (d : Done) (a : State) → StaysOver b
      → IsOpenOver (over_at ds n) values b.tables opened → OpensAs opened n b d a → StaysOver a
  opens (Ok c) n values b d a has is h = with_one b n c a has (put_over ds b.cursors n c has.0 (opened_over (over_at ds n) values b.tables c is)) h.1
  opens (Err st) n values b d a has is h = same b a has h.1

  open_if : (schemas : Schemas) (user : Name) (ps : List ParameterDesc) (is : Bool) (n : ℕ) (values : List Value) (b : State) (d : Done) (a : State)
      → StaysOver b → MayOpenIf is schemas (opening ds user ps n) values b d a → StaysOver a
  open_if schemas user ps true n values b d a has h = same b a has h.1
  open_if schemas user ps false n values b d a has h = opens h.0 n values b d a has h.1 h.3

  -- ---- FETCH

  come_rows : (c : RowsCursor) (o : Outcome (RowsCursor × Done)) (n : ℕ) (b : State) (d : Done) (a : State) → cursor_at b n ≡ cursor.Rows c
      → StaysOver b → Comes (over_rows o) n b d a → StaysOver a
  come_rows c (Ok come) n b d a at has h =
      with_one b n (cursor.Rows come.0) a has (put_like ds b.cursors n (cursor.Rows c) (cursor.Rows come.0) has.0 at (λ o is. is)) h.1
  come_rows c (Err st) n b d a at has h = same b a has h.1

  come_numbers : (f : Fetching) (c : NumbersCursor) (o : Outcome (NumbersCursor × Done)) (b : State) (d : Done) (a : State)
      → cursor_at b f.cursor ≡ cursor.Numbers c → come_to_number f b.tables c ≡ o → StaysOver b → Comes (over_numbers o) f.cursor b d a → StaysOver a
  come_numbers f c (Ok come) b d a at e has h =
      let table = ap (λ (x : NumbersCursor). x.table) (number_kept f b.tables c come e) in
      with_one b f.cursor (cursor.Numbers come.0) a has
      (put_like ds b.cursors f.cursor (cursor.Numbers c) (cursor.Numbers come.0) has.0 at (λ o is. subst (λ (x : ℕ). is_over_numbers o x ≡ true) (sym table) is)) h.1
  come_numbers f c (Err st) b d a at e has h = same b a has h.1

  come_walk : (f : Fetching) (c : WalkingCursor) (o : Outcome (WalkingCursor × Done)) (b : State) (d : Done) (a : State)
      → cursor_at b f.cursor ≡ cursor.Walking c → come_to_walk f b.tables c ≡ o → StaysOver b → Comes (over_walk o) f.cursor b d a → StaysOver a
  come_walk f c (Ok come) b d a at e has h =
      let table = ap (λ (w : WalkingCursor). w.table) (walk_kept f b.tables c come e) in
      with_one b f.cursor (cursor.Walking come.0) a has
      (put_like ds b.cursors f.cursor (cursor.Walking c) (cursor.Walking come.0) has.0 at (λ o is. subst (λ (x : ℕ). is_over_table o x ≡ true) (sym table) is)) h.1
  come_walk f c (Err st) b d a at e has h = same b a has h.1

  fetch_from : (c : CursorState) (f : Fetching) (values : List Value) (b : State) (d : Done) (a : State) → cursor_at b f.cursor ≡ c → StaysOver b
      → MayFetchFrom c f values b d a → StaysOver a
  fetch_from cursor.Closed f values b d a at has h = same b a has h.1
  fetch_from (cursor.Rows c) f values b d a at has h = come_rows c (come_to_row f values c) f.cursor b d a at has h
  fetch_from (cursor.Numbers c) f values b d a at has h = come_numbers f c (come_to_number f b.tables c) b d a at refl has h
  fetch_from (cursor.Walking c) f values b d a at has h = come_walk f c (come_to_walk f b.tables c) b d a at refl has h

  -- ---- CLOSE

  close_if : (is : Bool) (n : ℕ) (b : State) (d : Done) (a : State) → StaysOver b → MayCloseIf is n b d a → StaysOver a
  close_if true n b d a has h = with_one b n cursor.Closed a has (put_closed ds b.cursors n has.0) h.1
  close_if false n b d a has h = same b a has h.1

  -- ---- INSERT, UPDATE and DELETE

  performs : (o : Outcome Content) (wanted b : State) (d : Done) (a : State) → StaysOver wanted → StaysOver b → Performs o wanted b d a → StaysOver a
  performs (Ok tables) wanted b d a so has h = same (record wanted { tables = tables }) a (so.0, any_tables wanted tables so.1) h.1
  performs (Err st) wanted b d a so has h = same b a has h.1

  updates : (o : Outcome Content) (u : Updating) (on : Option ℕ) (b : State) (d : Done) (a : State) → StaysOver b → Performs o (walks_listed u on b) b d a → StaysOver a
  updates o u on b d a has h =
      performs o (walks_listed u on b) b d a
      (go_on_over u.statement on b.tables u.cursors ds b.cursors has.0, any_cursors b (go_on u.statement on b.tables u.cursors b.cursors) has.1) has h

  deletes : (o : Outcome Content) (p : PositionedTarget) (b : State) (d : Done) (a : State) → StaysOver b → Performs o (left_row b p) b d a → StaysOver a
  deletes o p b d a has h =
      performs o (left_row b p) b d a
      (put_off ds b.cursors p.cursor has.0, any_cursors b (slice_set b.cursors p.cursor (off_row (cursor_at b p.cursor))) has.1) has h

  update_at : (is : Bool) (schemas : Schemas) (u : Updating) (p : PositionedTarget) (values : List Value) (b : State) (d : Done) (a : State)
      → StaysOver b → MayUpdateAt is schemas u p values b d a → StaysOver a
  update_at true schemas u p values b d a has h = updates h.0 u (on_row b p) b d a has h.2
  update_at false schemas u p values b d a has h = same b a has h.1

  delete_at : (is : Bool) (schemas : Schemas) (caller : Caller) (p : PositionedTarget) (values : List Value) (b : State) (d : Done) (a : State)
      → StaysOver b → MayDeleteAt is schemas caller p values b d a → StaysOver a
  delete_at true schemas caller p values b d a has h = deletes h.0 p b d a has h.2
  delete_at false schemas caller p values b d a has h = same b a has h.1

  of_update : (schemas : Schemas) (u : Updating) (t : ChangeTarget) (values : List Value) (b : State) (d : Done) (a : State) → StaysOver b
      → MayStep schemas (update_kind u t) values b d a → StaysOver a
  of_update schemas u (target.Searched t) values b d a has h = updates h.0 u None b d a has h.2
  of_update schemas u (target.Positioned p) values b d a has h = update_at (is_on_row b p) schemas u p values b d a has h

  of_delete : (schemas : Schemas) (caller : Caller) (t : ChangeTarget) (values : List Value) (b : State) (d : Done) (a : State) → StaysOver b
      → MayStep schemas (delete_kind caller t) values b d a → StaysOver a
  of_delete schemas caller (target.Searched t) values b d a has h = performs h.0 b b d a has has h.2
  of_delete schemas caller (target.Positioned p) values b d a has h = delete_at (is_on_row b p) schemas caller p values b d a has h

  -- ---- a statement

  pub stays_over : (schemas : Schemas) (user : Name) (ps : List ParameterDesc) (s : BoundStatement) (values : List Value) (b : State) (d : Done) (a : State)
      → StaysOver b → Rest (committed_state b) → MayStep schemas (kind_of ds user ps s) values b d a → StaysOver a
  stays_over schemas user ps (statement.Open n) values b d a has committed h = open_if schemas user ps (is_open (cursor_at b n)) n values b d a has h
  stays_over schemas user ps (statement.Fetch f) values b d a has committed h = fetch_from (cursor_at b f.cursor) (fetching ds user ps f) values b d a refl has h
  stays_over schemas user ps (statement.Close n) values b d a has committed h = close_if (is_open (cursor_at b n)) n b d a has h
  stays_over schemas user ps (statement.Select s) values b d a has committed h = same b a has h.0
  stays_over schemas user ps (statement.Insert i) values b d a has committed h = performs h.0 b b d a has has h.2
  stays_over schemas user ps (statement.Update u) values b d a has committed h = of_update schemas (updating ds (caller_of user ps) u) u.target values b d a has h
  stays_over schemas user ps (statement.Delete t) values b d a has committed h = of_delete schemas (caller_of user ps) t values b d a has h
  stays_over schemas user ps statement.Commit values b d a has committed h = same (committed_state b) a (closed_over ds b.cursors has.0, committed) h.1
  stays_over schemas user ps statement.Rollback values b d a has committed h =
      same (rolled_back b) a
      (closed_over ds b.cursors has.0, any_cursors (record b { tables = b.committed }) (all_closed b.cursors) (any_tables b b.committed has.1)) h.1
