-- A call that ends with another status than success leaves the tables as they were.
use Rattle.std.proofs.Common.{◌≡◌, ℕ, Bool, true, false, List, Option, Some, None, Ok, Err, ap, subst}
use Rattle.sq_value.specs.declared.value.Value.{Value}
use Rattle.sq_store.specs.Content.{Content}
use Rattle.sq_bound.specs.declared.statement.PositionedTarget.{PositionedTarget}
use Rattle.sq_meaning.specs.Status.{Outcome}
use Rattle.sq_session.specs.Fetch.{come_to_number, come_to_row, come_to_walk, over_numbers, over_rows, over_walk}
use Rattle.sq_session.specs.Kind.{Caller, Fetching, Kind, Opening, Updating, read_parameters}
use Rattle.sq_session.specs.Parameter.{started_values}
use Rattle.sq_session.specs.Schemas.{Schemas}
use Rattle.sq_session.specs.State.{State, committed_state, cursor_at, is_open, rolled_back}
use Rattle.sq_session.specs.Step.{Comes, Ends, MayCall, MayCloseIf, MayDeleteAt, MayFetchFrom, MayOpenIf, MayStep, MayUpdateAt, OpensAs, Performs, is_on_row, is_success, left_row, on_row, walks_listed}
use Rattle.sq_session.specs.declared.cursor.CursorState.{CursorState}
use Rattle.sq_session.specs.declared.cursor.CursorState.TheVariants as cursor
use Rattle.sq_session.specs.declared.reply.Done.{Done}

abbrev Kept : State → State → Type 0
Kept b a = a.tables ≡ b.tables

same : (b a : State) → a ≡ b → Kept b a
same b a h = ap (λ s. s.tables) h

-- ---- cursors

opens_as : (o : Outcome CursorState) (n : ℕ) (b : State) (d : Done) (a : State) → OpensAs o n b d a → Kept b a
opens_as (Ok c) n b d a h = ap (λ s. s.tables) h.1
opens_as (Err st) n b d a h = same b a h.1

open_if : (is : Bool) (sc : Schemas) (o : Opening) (vs : List Value) (b : State) (d : Done) (a : State) → MayOpenIf is sc o vs b d a → Kept b a
open_if true sc o vs b d a h = same b a h.1
open_if false sc o vs b d a h = opens_as h.0 o.cursor b d a h.3

comes : (o : Outcome (CursorState × Done)) (n : ℕ) (b : State) (d : Done) (a : State) → Comes o n b d a → Kept b a
comes (Ok come) n b d a h = ap (λ s. s.tables) h.1
comes (Err st) n b d a h = same b a h.1

fetch_from : (c : CursorState) (f : Fetching) (vs : List Value) (b : State) (d : Done) (a : State) → MayFetchFrom c f vs b d a → Kept b a
fetch_from cursor.Closed f vs b d a h = same b a h.1
fetch_from (cursor.Rows c) f vs b d a h = comes (over_rows (come_to_row f vs c)) f.cursor b d a h
fetch_from (cursor.Numbers c) f vs b d a h = comes (over_numbers (come_to_number f b.tables c)) f.cursor b d a h
fetch_from (cursor.Walking c) f vs b d a h = comes (over_walk (come_to_walk f b.tables c)) f.cursor b d a h

close_if : (o : Bool) (n : ℕ) (b : State) (d : Done) (a : State) → MayCloseIf o n b d a → Kept b a
close_if true n b d a h = ap (λ s. s.tables) h.1
close_if false n b d a h = same b a h.1

-- ---- changes

performs : (o : Outcome Content) (w b : State) (d : Done) (a : State) → Performs o w b d a → is_success d.status ≡ false → Kept b a
performs (Ok tables) w b d a h e = let k : true ≡ false = subst (λ x. is_success x.status ≡ false) h.0 e in cc
performs (Err st) w b d a h e = same b a h.1

update_at : (r : Bool) (sc : Schemas) (u : Updating) (p : PositionedTarget) (vs : List Value) (b : State) (d : Done) (a : State) → MayUpdateAt r sc u p vs b d a → is_success d.status ≡ false → Kept b a
update_at true sc u p vs b d a h e = performs h.0 (walks_listed u (on_row b p) b) b d a h.2 e
update_at false sc u p vs b d a h e = same b a h.1

delete_at : (r : Bool) (sc : Schemas) (caller : Caller) (p : PositionedTarget) (vs : List Value) (b : State) (d : Done) (a : State) → MayDeleteAt r sc caller p vs b d a → is_success d.status ≡ false → Kept b a
delete_at true sc caller p vs b d a h e = performs h.0 (left_row b p) b d a h.2 e
delete_at false sc caller p vs b d a h e = same b a h.1

-- ---- a statement, and a call

ends : (w b : State) (d : Done) (a : State) → Ends w d a → is_success d.status ≡ false → Kept b a
ends w b d a h e = let k : true ≡ false = subst (λ x. is_success x.status ≡ false) h.0 e in cc

step : (sc : Schemas) (k : Kind) (vs : List Value) (b : State) (d : Done) (a : State) → MayStep sc k vs b d a → is_success d.status ≡ false → Kept b a
step sc (Kind.opens o) vs b d a h e = open_if (is_open (cursor_at b o.cursor)) sc o vs b d a h
step sc (Kind.fetches f) vs b d a h e = fetch_from (cursor_at b f.cursor) f vs b d a h
step sc (Kind.closes n) vs b d a h e = close_if (is_open (cursor_at b n)) n b d a h
step sc (Kind.selects s) vs b d a h e = same b a h.0
step sc (Kind.inserts caller i) vs b d a h e = performs h.0 b b d a h.2 e
step sc (Kind.updates u) vs b d a h e = performs h.0 (walks_listed u None b) b d a h.2 e
step sc (Kind.deletes caller t) vs b d a h e = performs h.0 b b d a h.2 e
step sc (Kind.updates_at u p) vs b d a h e = update_at (is_on_row b p) sc u p vs b d a h e
step sc (Kind.deletes_at caller p) vs b d a h e = delete_at (is_on_row b p) sc caller p vs b d a h e
step sc Kind.commits vs b d a h e = ends (committed_state b) b d a h e
step sc Kind.rolls_back vs b d a h e = ends (rolled_back b) b d a h e

pub kept_by_failure : (sc : Schemas) (k : Option Kind) (vs : List Value) (b : State) (d : Done) (a : State) → MayCall sc k vs b d a → is_success d.status ≡ false → a.tables ≡ b.tables
kept_by_failure sc None vs b d a h e = same b a h.1
kept_by_failure sc (Some k) vs b d a h e = step sc k (started_values (read_parameters k) vs) b d a h.0 e
