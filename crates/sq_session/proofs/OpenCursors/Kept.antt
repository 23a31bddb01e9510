-- Open cursors keep the rows that they have listed, and the values with which they were opened.
use Rattle.std.proofs.Common.{◌≡◌, ◌≤◌, ℕ, zero, suc, Bool, true, false, if◌then◌else◌, arith, List, [], ◌∷◌, length, get_or, replicate, slice_index_or, slice_set, Option, None, Ok, Err, refl, ap, sym, subst}
use Rattle.sq_lex.specs.declared.name.Name.{Name}
use Rattle.sq_value.specs.declared.value.Value.{Value}
use Rattle.sq_store.specs.Content.{Content, table_at}
use Rattle.sq_meaning.specs.Status.{Outcome}
use Rattle.sq_meaning.specs.WellFormed.{AreRowsOf}
use Rattle.sq_meaning.proofs.Bind.{bind_ok}
use Rattle.sq_meaning.specs.Cursor.{row_at as row_of}
use Rattle.sq_bound.specs.WellFormed.{TableKinds, kinds_of_results}
use Rattle.sq_bound.specs.declared.names.ParameterDesc.{ParameterDesc}
use Rattle.sq_bound.specs.declared.query.BoundCursor.{BoundCursor}
use Rattle.sq_bound.specs.declared.statement.BoundStatement.{BoundStatement}
use Rattle.sq_bound.specs.declared.statement.BoundStatement.TheVariants as statement
use Rattle.sq_bound.specs.declared.statement.ChangeTarget.{ChangeTarget}
use Rattle.sq_bound.specs.declared.statement.ChangeTarget.TheVariants as target
use Rattle.sq_bound.specs.declared.statement.PositionedTarget.{PositionedTarget}
use Rattle.sq_module.specs.declared.program.DeclaredCursor.{DeclaredCursor}
use Rattle.sq_bound.specs.declared.statement.BoundUpdate.{BoundUpdate}
use Rattle.sq_expression.proofs.Kept.{ok_same}
use Rattle.sq_session.specs.Cursors.{HasKept, HaveKept, MayKeep, OpenHaveKept, go_on, goes_on, is_listed, listed}
use Rattle.sq_session.specs.Fetch.{come_to_number, come_to_row, come_to_walk, over_numbers, over_rows, over_walk, place_reached, row_come_to, row_fetched}
use Rattle.sq_session.specs.Kind.{Caller, Fetching, Updating, caller_of, delete_kind, fetching, kind_of, update_kind, updating}
use Rattle.sq_session.specs.Schemas.{Schemas}
use Rattle.sq_session.specs.State.{State, all_closed, committed_state, cursor_at, is_open, next_number, off_row, rolled_back, with_cursor}
use Rattle.sq_session.specs.Step.{Comes, MayCloseIf, MayDeleteAt, MayFetchFrom, MayStep, MayUpdateAt, Performs, is_on_row, left_row, on_row, walks_listed}
use Rattle.sq_session.specs.declared.cursor.CursorState.{CursorState}
use Rattle.sq_session.specs.declared.cursor.CursorState.TheVariants as cursor
use Rattle.sq_session.specs.declared.cursor.NumbersCursor.{NumbersCursor}
use Rattle.sq_session.specs.declared.cursor.RowsCursor.{RowsCursor}
use Rattle.sq_session.specs.declared.reply.Done.{Done}
use Rattle.sq_session.specs.declared.walk.WalkingCursor.{WalkingCursor}
use Rattle.sq_session.proofs.Fetching.Reached.{number_kept, walk_kept}

module _ (columns : TableKinds) where
  -- ---- a cursor that is put in place of another

  -- A cursor that keeps what the one before it kept is put in its place.
  pub put_like : (ds : List DeclaredCursor) (cs : List CursorState) (n : ℕ) (c e : CursorState) → HaveKept columns ds cs → slice_index_or cs n cursor.Closed ≡ c
      → ((k : BoundCursor) → HasKept columns k c → HasKept columns k e) → HaveKept columns ds (slice_set cs n e)
  put_like [] [] n c e h at like = h
  put_like [] (x ∷ xs) n c e h at like = absurd h
  put_like (d ∷ ds) [] n c e h at like = h
  put_like (d ∷ ds) (x ∷ xs) zero c e h at like =
      (like d.cursor (subst (λ (y : CursorState). HasKept columns d.cursor y) at h.0), h.1)
  put_like (d ∷ ds) (x ∷ xs) (suc n) c e h at like = (h.0, put_like ds xs n c e h.1 at like)

  -- A cursor that has listed rows of the kinds of its columns is put in place.
  pub put_kept : (ds : List DeclaredCursor) (cs : List CursorState) (n : ℕ) (d : DeclaredCursor) (e : CursorState) → HaveKept columns ds cs
      → HasKept columns (get_or ds n d).cursor e → HaveKept columns ds (slice_set cs n e)
  put_kept [] [] n d e h is = h
  put_kept [] (x ∷ xs) n d e h is = absurd h
  put_kept (y ∷ ds) [] n d e h is = h
  put_kept (y ∷ ds) (x ∷ xs) zero d e h is = (is, h.1)
  put_kept (y ∷ ds) (x ∷ xs) (suc n) d e h is = (h.0, put_kept ds xs n d e h.1 is)

  -- ---- all of them

  pub start_kept : (ds : List DeclaredCursor) → HaveKept columns ds (replicate (length ds) cursor.Closed)
  start_kept [] = tt
  start_kept (d ∷ ds) = (tt, start_kept ds)

  closed_kept : (ds : List DeclaredCursor) (cs : List CursorState) → HaveKept columns ds cs → HaveKept columns ds (all_closed cs)
  closed_kept [] [] h = tt
  closed_kept [] (x ∷ xs) h = absurd h
  closed_kept (d ∷ ds) [] h = absurd h
  closed_kept (d ∷ ds) (x ∷ xs) h = (tt, closed_kept ds xs h.1)

  -- a list that is put in place of a walk has passed none of its numbers
  listed_kept : (tables : Content) (k : BoundCursor) (d : DeclaredCursor) (w : WalkingCursor) (b : Bool) → HasKept columns k (cursor.Walking w)
      → HasKept columns k (if b then cursor.Numbers (listed d tables w) else cursor.Walking w)
  listed_kept tables k d w true h = omega arith
  listed_kept tables k d w false h = h

  goes_on_kept : (u : BoundUpdate) (on : Option ℕ) (tables : Content) (k : BoundCursor) (d : DeclaredCursor) (c : CursorState) → HasKept columns k c → HasKept columns k (goes_on u on tables d c)
  goes_on_kept u on tables k d cursor.Closed h = h
  goes_on_kept u on tables k d (cursor.Rows c) h = h
  goes_on_kept u on tables k d (cursor.Numbers c) h = h
  goes_on_kept u on tables k d (cursor.Walking c) h = listed_kept tables k d c (is_listed u on d c) h

  go_on_kept : (u : BoundUpdate) (on : Option ℕ) (tables : Content) (es ds : List DeclaredCursor) (cs : List CursorState) → HaveKept columns ds cs → HaveKept columns ds (go_on u on tables es cs)
  go_on_kept u on tables [] ds cs h = h
  go_on_kept u on tables (e ∷ es) ds [] h = h
  go_on_kept u on tables (e ∷ es) [] (c ∷ cs) h = absurd h
  go_on_kept u on tables (e ∷ es) (d ∷ ds) (c ∷ cs) h = (goes_on_kept u on tables d.cursor e c h.0, go_on_kept u on tables es ds cs h.1)

  off_kept : (k : BoundCursor) (c : CursorState) → HasKept columns k c → HasKept columns k (off_row c)
  off_kept k cursor.Closed h = h
  off_kept k (cursor.Rows c) h = h
  off_kept k (cursor.Numbers c) h = h
  off_kept k (cursor.Walking c) h = h

  -- ---- a state

  same : (ds : List DeclaredCursor) (b a : State) → HaveKept columns ds b.cursors → a ≡ b → HaveKept columns ds a.cursors
  same ds b a h e = subst (λ (s : State). HaveKept columns ds s.cursors) (sym e) h

  -- ---- FETCH

  row_listed : (f : Fetching) (vs : List Value) (c : RowsCursor) (come : RowsCursor × Done) → come_to_row f vs c ≡ Ok come → come.0.rows ≡ c.rows
  row_listed f vs c come e =
      let reached = bind_ok (place_reached vs f.orientation (length c.rows) c.place) (row_come_to f c) come e in
      let moved : RowsCursor = record c { place = reached.0 } in
      let shown = bind_ok (row_fetched f (row_of c.rows reached.0)) (λ d. Ok (moved, d)) come reached.2 in
      sym (ap (λ x. x.0.rows) (ok_same (moved, shown.0) come shown.2))

  come_rows : (ds : List DeclaredCursor) (f : Fetching) (vs : List Value) (c : RowsCursor) (o : Outcome (RowsCursor × Done)) (b : State) (d : Done) (a : State)
      → cursor_at b f.cursor ≡ cursor.Rows c → come_to_row f vs c ≡ o → HaveKept columns ds b.cursors → Comes (over_rows o) f.cursor b d a → HaveKept columns ds a.cursors
  come_rows ds f vs c (Ok come) b d a at e has h =
      let rows = row_listed f vs c come e in
      same ds (with_cursor b f.cursor (cursor.Rows come.0)) a
      (put_like ds b.cursors f.cursor (cursor.Rows c) (cursor.Rows come.0) has at (λ k is. subst (λ (rs : List (List Value)). AreRowsOf (kinds_of_results k.columns) rs) (sym rows) is)) h.1
  come_rows ds f vs c (Err st) b d a at e has h = same ds b a has h.1

  -- A cursor over numbers passes no more numbers than it has.
  number_passed : (f : Fetching) (tables : Content) (c : NumbersCursor) (come : NumbersCursor × Done) → come_to_number f tables c ≡ Ok come → come.0.passed ≤ length come.0.numbers
  number_passed f tables c come e =
      let next = next_number (table_at tables c.table) c in
      let few : next.passed ≤ length next.numbers = omega arith in
      subst (λ (x : NumbersCursor). x.passed ≤ length x.numbers) (sym (number_kept f tables c come e)) few

  come_numbers : (ds : List DeclaredCursor) (f : Fetching) (c : NumbersCursor) (o : Outcome (NumbersCursor × Done)) (b : State) (d : Done) (a : State)
      → come_to_number f b.tables c ≡ o → HaveKept columns ds b.cursors → Comes (over_numbers o) f.cursor b d a → HaveKept columns ds a.cursors
  come_numbers ds f c (Ok come) b d a e has h =
      same ds (with_cursor b f.cursor (cursor.Numbers come.0)) a
      (put_like ds b.cursors f.cursor (cursor_at b f.cursor) (cursor.Numbers come.0) has refl (λ k is. number_passed f b.tables c come e)) h.1
  come_numbers ds f c (Err st) b d a e has h = same ds b a has h.1

  come_walk : (ds : List DeclaredCursor) (f : Fetching) (c : WalkingCursor) (o : Outcome (WalkingCursor × Done)) (b : State) (d : Done) (a : State)
      → cursor_at b f.cursor ≡ cursor.Walking c → come_to_walk f b.tables c ≡ o → HaveKept columns ds b.cursors → Comes (over_walk o) f.cursor b d a → HaveKept columns ds a.cursors
  come_walk ds f c (Ok come) b d a at e has h =
      let values = ap (λ (w : WalkingCursor). w.values) (walk_kept f b.tables c come e) in
      same ds (with_cursor b f.cursor (cursor.Walking come.0)) a
      (put_like ds b.cursors f.cursor (cursor.Walking c) (cursor.Walking come.0) has at (λ k is. subst (λ (vs : List Value). MayKeep columns k vs) (sym values) is)) h.1
  come_walk ds f c (Err st) b d a at e has h = same ds b a has h.1

  fetch_from : (ds : List DeclaredCursor) (c : CursorState) (f : Fetching) (vs : List Value) (b : State) (d : Done) (a : State) → cursor_at b f.cursor ≡ c → HaveKept columns ds b.cursors
      → MayFetchFrom c f vs b d a → HaveKept columns ds a.cursors
  fetch_from ds cursor.Closed f vs b d a at has h = same ds b a has h.1
  fetch_from ds (cursor.Rows c) f vs b d a at has h = come_rows ds f vs c (come_to_row f vs c) b d a at refl has h
  fetch_from ds (cursor.Numbers c) f vs b d a at has h = come_numbers ds f c (come_to_number f b.tables c) b d a refl has h
  fetch_from ds (cursor.Walking c) f vs b d a at has h = come_walk ds f c (come_to_walk f b.tables c) b d a at refl has h

  -- ---- CLOSE

  close_if : (ds : List DeclaredCursor) (o : Bool) (n : ℕ) (b : State) (d : Done) (a : State) → HaveKept columns ds b.cursors → MayCloseIf o n b d a → HaveKept columns ds a.cursors
  close_if ds true n b d a has h = same ds (with_cursor b n cursor.Closed) a (put_like ds b.cursors n (cursor_at b n) cursor.Closed has refl (λ k is. tt)) h.1
  close_if ds false n b d a has h = same ds b a has h.1

  -- ---- changes

  performs : (ds : List DeclaredCursor) (o : Outcome Content) (w b : State) (d : Done) (a : State) → HaveKept columns ds w.cursors → HaveKept columns ds b.cursors → Performs o w b d a → HaveKept columns ds a.cursors
  performs ds (Ok tables) w b d a wanted has h =
      let cursors : a.cursors ≡ w.cursors = ap (λ s. s.cursors) h.1 in
      subst (λ (cs : List CursorState). HaveKept columns ds cs) (sym cursors) wanted
  performs ds (Err st) w b d a wanted has h = same ds b a has h.1

  updates : (ds : List DeclaredCursor) (o : Outcome Content) (u : Updating) (on : Option ℕ) (b : State) (d : Done) (a : State) → HaveKept columns ds b.cursors → Performs o (walks_listed u on b) b d a → HaveKept columns ds a.cursors
  updates ds o u on b d a has h = performs ds o (walks_listed u on b) b d a (go_on_kept u.statement on b.tables u.cursors ds b.cursors has) has h

  deletes : (ds : List DeclaredCursor) (o : Outcome Content) (p : PositionedTarget) (b : State) (d : Done) (a : State) → HaveKept columns ds b.cursors → Performs o (left_row b p) b d a → HaveKept columns ds a.cursors
  deletes ds o p b d a has h =
      performs ds o (left_row b p) b d a
      (put_like ds b.cursors p.cursor (cursor_at b p.cursor) (off_row (cursor_at b p.cursor)) has refl (λ k is. off_kept k (cursor_at b p.cursor) is)) has h

  update_at : (ds : List DeclaredCursor) (r : Bool) (sc : Schemas) (u : Updating) (p : PositionedTarget) (vs : List Value) (b : State) (d : Done) (a : State) → HaveKept columns ds b.cursors → MayUpdateAt r sc u p vs b d a → HaveKept columns ds a.cursors
  update_at ds true sc u p vs b d a has h = updates ds h.0 u (on_row b p) b d a has h.2
  update_at ds false sc u p vs b d a has h = same ds b a has h.1

  delete_at : (ds : List DeclaredCursor) (r : Bool) (sc : Schemas) (caller : Caller) (p : PositionedTarget) (vs : List Value) (b : State) (d : Done) (a : State) → HaveKept columns ds b.cursors → MayDeleteAt r sc caller p vs b d a → HaveKept columns ds a.cursors
  delete_at ds true sc caller p vs b d a has h = deletes ds h.0 p b d a has h.2
  delete_at ds false sc caller p vs b d a has h = same ds b a has h.1

  of_update : (sc : Schemas) (ds : List DeclaredCursor) (u : Updating) (t : ChangeTarget) (vs : List Value) (b : State) (d : Done) (a : State) → HaveKept columns ds b.cursors → MayStep sc (update_kind u t) vs b d a → HaveKept columns ds a.cursors
  of_update sc ds u (target.Searched t) vs b d a has h = updates ds h.0 u None b d a has h.2
  of_update sc ds u (target.Positioned p) vs b d a has h = update_at ds (is_on_row b p) sc u p vs b d a has h

  of_delete : (sc : Schemas) (ds : List DeclaredCursor) (caller : Caller) (t : ChangeTarget) (vs : List Value) (b : State) (d : Done) (a : State) → HaveKept columns ds b.cursors → MayStep sc (delete_kind caller t) vs b d a → HaveKept columns ds a.cursors
  of_delete sc ds caller (target.Searched t) vs b d a has h = performs ds h.0 b b d a has has h.2
  of_delete sc ds caller (target.Positioned p) vs b d a has h = delete_at ds (is_on_row b p) sc caller p vs b d a has h

  -- ---- a statement

  pub open_kept : (ds : List DeclaredCursor) (s : BoundStatement) (cs : List CursorState) → HaveKept columns ds cs → OpenHaveKept columns ds s cs
  open_kept ds (statement.Open n) cs h = h
  open_kept ds (statement.Fetch f) cs h = tt
  open_kept ds (statement.Close n) cs h = tt
  open_kept ds (statement.Select s) cs h = tt
  open_kept ds (statement.Insert i) cs h = tt
  open_kept ds (statement.Update u) cs h = tt
  open_kept ds (statement.Delete t) cs h = tt
  open_kept ds statement.Commit cs h = tt
  open_kept ds statement.Rollback cs h = tt

  -- After OPEN the cursors keep what they were declared to, and after any other statement they still do.
  pub kept_after : (sc : Schemas) (ds : List DeclaredCursor) (user : Name) (ps : List ParameterDesc) (s : BoundStatement) (vs : List Value) (b : State) (d : Done) (a : State) → HaveKept columns ds b.cursors
      → OpenHaveKept columns ds s a.cursors → MayStep sc (kind_of ds user ps s) vs b d a → HaveKept columns ds a.cursors
  kept_after sc ds user ps (statement.Open n) vs b d a has opened h = opened
  kept_after sc ds user ps (statement.Fetch f) vs b d a has opened h = fetch_from ds (cursor_at b f.cursor) (fetching ds user ps f) vs b d a refl has h
  kept_after sc ds user ps (statement.Close n) vs b d a has opened h = close_if ds (is_open (cursor_at b n)) n b d a has h
  kept_after sc ds user ps (statement.Select s) vs b d a has opened h = same ds b a has h.0
  kept_after sc ds user ps (statement.Insert i) vs b d a has opened h = performs ds h.0 b b d a has has h.2
  kept_after sc ds user ps (statement.Update u) vs b d a has opened h = of_update sc ds (updating ds (caller_of user ps) u) u.target vs b d a has h
  kept_after sc ds user ps (statement.Delete t) vs b d a has opened h = of_delete sc ds (caller_of user ps) t vs b d a has h
  kept_after sc ds user ps statement.Commit vs b d a has opened h = same ds (committed_state b) a (closed_kept ds b.cursors has) h.1
  kept_after sc ds user ps statement.Rollback vs b d a has opened h = same ds (rolled_back b) a (closed_kept ds b.cursors has) h.1
