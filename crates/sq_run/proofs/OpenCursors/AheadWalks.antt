-- A session's cursor that walks goes on behind the row that it is on: after each call the number from which it looks for its next
-- row is greater than that of this row (ISO/IEC 9075:1992, 13.2 to 13.10).
use Rattle.std.proofs.Common.{◌≡◌, ℕ, zero, suc, ◌<◌, Bool, true, false, List, [], ◌∷◌, Option, Some, None, Ok, Err, sym, subst, arith}
use Rattle.std.specs.List.{AllByRecursion}
use Rattle.std.specs.Option.{option_map}
use Rattle.std.specs.Prelude.{⊤, IfSome, if◌then◌else◌, slice_set, slice_index_or}
use Rattle.sq_value.specs.declared.value.Value.{Value}
use Rattle.sq_store.specs.Content.{Content, table_at}
use Rattle.sq_store.specs.declared.table.Numbered.{Numbered}
use Rattle.sq_bound.specs.declared.statement.BoundUpdate.{BoundUpdate}
use Rattle.sq_bound.specs.declared.statement.PositionedTarget.{PositionedTarget}
use Rattle.sq_meaning.specs.Status.{Outcome, and_then}
use Rattle.sq_module.specs.declared.program.DeclaredCursor.{DeclaredCursor}
use Rattle.sq_session.specs.Cursors.{go_on, goes_on, is_listed, listed}
use Rattle.sq_session.specs.Fetch.{come_to_number, come_to_row, next_walked, over_numbers, over_rows, over_walk, shown_fetched, walked_to}
use Rattle.sq_session.specs.Kind.{Caller, Fetching, Kind, Opening, Over, Updating, read_parameters}
use Rattle.sq_session.specs.Open.{IsOpenOver, before_numbers, before_rows, numbers_opened, rows_opened, walk_before}
use Rattle.sq_session.specs.Parameter.{started_values}
use Rattle.sq_session.specs.Schemas.{Schemas}
use Rattle.sq_session.specs.State.{State, all_closed, cursor_at, is_open, off_row, with_cursor}
use Rattle.sq_session.specs.Step.{Comes, MayCall, MayCloseIf, MayDeleteAt, MayFetchFrom, MayOpenIf, MayStep, MayUpdateAt, OpensAs, Performs, is_on_row, left_row, on_row, walks_listed}
use Rattle.sq_session.specs.declared.cursor.CursorState.{CursorState}
use Rattle.sq_session.specs.declared.cursor.CursorState.TheVariants as cursor
use Rattle.sq_session.specs.declared.cursor.NumbersCursor.{NumbersCursor}
use Rattle.sq_session.specs.declared.cursor.RowsCursor.{RowsCursor}
use Rattle.sq_session.specs.declared.reply.Done.{Done}
use Rattle.sq_session.specs.declared.walk.WalkingCursor.{WalkingCursor}

abbrev pub IsAhead : CursorState → Type 0
IsAhead cursor.Closed = ⊤
IsAhead (cursor.Rows c) = ⊤
IsAhead (cursor.Numbers c) = ⊤
IsAhead (cursor.Walking c) = IfSome c.on (λ number. number < c.next)

abbrev pub AreAhead : List CursorState → Type 0
AreAhead cs = AllByRecursion IsAhead cs

-- ---- one of them

pub ahead_at : (cs : List CursorState) (n : ℕ) → AreAhead cs → IsAhead (slice_index_or cs n cursor.Closed)
ahead_at [] n h = tt
ahead_at (c ∷ cs) zero h = h.0
ahead_at (c ∷ cs) (suc n) h = ahead_at cs n h.1

set_ahead : (cs : List CursorState) (n : ℕ) (x : CursorState) → AreAhead cs → IsAhead x → AreAhead (slice_set cs n x)
set_ahead [] n x h k = tt
set_ahead (c ∷ cs) zero x h k = (k, h.1)
set_ahead (c ∷ cs) (suc n) x h k = (h.0, set_ahead cs n x h.1 k)

pub all_closed_ahead : (cs : List CursorState) → AreAhead (all_closed cs)
all_closed_ahead [] = tt
all_closed_ahead (c ∷ cs) = (tt, all_closed_ahead cs)

off_ahead : (c : CursorState) → IsAhead (off_row c)
off_ahead cursor.Closed = tt
off_ahead (cursor.Rows c) = tt
off_ahead (cursor.Numbers c) = tt
off_ahead (cursor.Walking c) = tt

walked_ahead : (c : WalkingCursor) (r : Option Numbered) → IsAhead (cursor.Walking (walked_to c r))
walked_ahead c None = tt
walked_ahead c (Some r) = omega arith

-- ---- a statement

abbrev Ahead : State → Type 0
Ahead s = AreAhead s.cursors

as_it_was : (b a : State) → Ahead b → a ≡ b → Ahead a
as_it_was b a h e = subst Ahead (sym e) h

with_one : (b a : State) (n : ℕ) (c : CursorState) → Ahead b → IsAhead c → a ≡ with_cursor b n c → Ahead a
with_one b a n c h k e = subst Ahead (sym e) (set_ahead b.cursors n c h k)

opened_ahead : (o : Over) (values : List Value) (tables : Content) (c : CursorState) → IsOpenOver o values tables (Ok c) → IsAhead c
opened_ahead Over.rows values tables c h = by_rows h.0 h.1
  where
    by_rows : (found : Outcome (List (List Value))) → Ok c ≡ rows_opened found → IsAhead c
    by_rows (Ok rows) e = let same : before_rows rows ≡ c = cc in subst IsAhead same tt
    by_rows (Err st) e = cc
opened_ahead (Over.numbers table) values tables c h = by_numbers h.0 h.1
  where
    by_numbers : (found : Outcome (List ℕ)) → Ok c ≡ numbers_opened table found → IsAhead c
    by_numbers (Ok numbers) e = let same : before_numbers table numbers ≡ c = cc in subst IsAhead same tt
    by_numbers (Err st) e = cc
opened_ahead (Over.walk table) values tables c h =
    let same : cursor.Walking (walk_before tables table values) ≡ c = cc in subst IsAhead same tt

opens : (o : Over) (values : List Value) (opened : Outcome CursorState) (n : ℕ) (b : State) (d : Done) (a : State) → Ahead b
    → IsOpenOver o values b.tables opened → OpensAs opened n b d a → Ahead a
opens o values (Ok c) n b d a has is h = with_one b a n c has (opened_ahead o values b.tables c is) h.1
opens o values (Err st) n b d a has is h = as_it_was b a has h.1

open_if : (schemas : Schemas) (is : Bool) (o : Opening) (values : List Value) (b : State) (d : Done) (a : State) → Ahead b
    → MayOpenIf is schemas o values b d a → Ahead a
open_if schemas true o values b d a has h = as_it_was b a has h.1
open_if schemas false o values b d a has h = opens o.over values h.0 o.cursor b d a has h.1 h.3

come_rows : (o : Outcome (RowsCursor × Done)) (n : ℕ) (b : State) (d : Done) (a : State) → Ahead b → Comes (over_rows o) n b d a → Ahead a
come_rows (Ok come) n b d a has h = with_one b a n (cursor.Rows come.0) has tt h.1
come_rows (Err st) n b d a has h = as_it_was b a has h.1

come_numbers : (o : Outcome (NumbersCursor × Done)) (n : ℕ) (b : State) (d : Done) (a : State) → Ahead b → Comes (over_numbers o) n b d a → Ahead a
come_numbers (Ok come) n b d a has h = with_one b a n (cursor.Numbers come.0) has tt h.1
come_numbers (Err st) n b d a has h = as_it_was b a has h.1

come_walk : (c : WalkingCursor) (r : Option Numbered) (z : Outcome Done) (n : ℕ) (b : State) (d : Done) (a : State) → Ahead b
    → Comes (over_walk (and_then z (λ e. Ok (walked_to c r, e)))) n b d a → Ahead a
come_walk c r (Ok e) n b d a has h = with_one b a n (cursor.Walking (walked_to c r)) has (walked_ahead c r) h.1
come_walk c r (Err st) n b d a has h = as_it_was b a has h.1

fetch_from : (c : CursorState) (f : Fetching) (values : List Value) (b : State) (d : Done) (a : State) → Ahead b → MayFetchFrom c f values b d a → Ahead a
fetch_from cursor.Closed f values b d a has h = as_it_was b a has h.1
fetch_from (cursor.Rows c) f values b d a has h = come_rows (come_to_row f values c) f.cursor b d a has h
fetch_from (cursor.Numbers c) f values b d a has h = come_numbers (come_to_number f b.tables c) f.cursor b d a has h
fetch_from (cursor.Walking c) f values b d a has h =
    let reached : Option Numbered = next_walked f (table_at b.tables c.table) c in
    come_walk c reached (shown_fetched f (option_map (λ (r : Numbered). r.row) reached)) f.cursor b d a has h

close_if : (is : Bool) (n : ℕ) (b : State) (d : Done) (a : State) → Ahead b → MayCloseIf is n b d a → Ahead a
close_if true n b d a has h = with_one b a n cursor.Closed has tt h.1
close_if false n b d a has h = as_it_was b a has h.1

performs : (o : Outcome Content) (wanted b : State) (d : Done) (a : State) → Ahead wanted → Ahead b → Performs o wanted b d a → Ahead a
performs (Ok tables) wanted b d a so has h = as_it_was (record wanted { tables = tables }) a so h.1
performs (Err st) wanted b d a so has h = as_it_was b a has h.1

one_goes_on : (u : BoundUpdate) (on : Option ℕ) (tables : Content) (d : DeclaredCursor) (c : CursorState) → IsAhead c → IsAhead (goes_on u on tables d c)
one_goes_on u on tables d cursor.Closed h = tt
one_goes_on u on tables d (cursor.Rows c) h = tt
one_goes_on u on tables d (cursor.Numbers c) h = tt
one_goes_on u on tables d (cursor.Walking c) h = by_listed (is_listed u on d c)
  where
    by_listed : (is : Bool) → IsAhead (if is then cursor.Numbers (listed d tables c) else cursor.Walking c)
    by_listed true = tt
    by_listed false = h

all_go_on : (u : BoundUpdate) (on : Option ℕ) (tables : Content) (ds : List DeclaredCursor) (cs : List CursorState) → AreAhead cs → AreAhead (go_on u on tables ds cs)
all_go_on u on tables [] cs h = h
all_go_on u on tables (d ∷ ds) [] h = tt
all_go_on u on tables (d ∷ ds) (c ∷ cs) h = (one_goes_on u on tables d c h.0, all_go_on u on tables ds cs h.1)

updates : (o : Outcome Content) (u : Updating) (on : Option ℕ) (b : State) (d : Done) (a : State) → Ahead b → Performs o (walks_listed u on b) b d a → Ahead a
updates o u on b d a has h = performs o (walks_listed u on b) b d a (all_go_on u.statement on b.tables u.cursors b.cursors has) has h

update_at : (is : Bool) (schemas : Schemas) (u : Updating) (p : PositionedTarget) (values : List Value) (b : State) (d : Done) (a : State) → Ahead b
    → MayUpdateAt is schemas u p values b d a → Ahead a
update_at true schemas u p values b d a has h = updates h.0 u (on_row b p) b d a has h.2
update_at false schemas u p values b d a has h = as_it_was b a has h.1

delete_at : (is : Bool) (schemas : Schemas) (caller : Caller) (p : PositionedTarget) (values : List Value) (b : State) (d : Done) (a : State) → Ahead b
    → MayDeleteAt is schemas caller p values b d a → Ahead a
delete_at true schemas caller p values b d a has h =
    performs h.0 (left_row b p) b d a (set_ahead b.cursors p.cursor (off_row (cursor_at b p.cursor)) has (off_ahead (cursor_at b p.cursor))) has h.2
delete_at false schemas caller p values b d a has h = as_it_was b a has h.1

step_ahead : (schemas : Schemas) (k : Kind) (values : List Value) (b : State) (d : Done) (a : State) → Ahead b → MayStep schemas k values b d a → Ahead a
step_ahead schemas (Kind.opens o) values b d a has h = open_if schemas (is_open (cursor_at b o.cursor)) o values b d a has h
step_ahead schemas (Kind.fetches f) values b d a has h = fetch_from (cursor_at b f.cursor) f values b d a has h
step_ahead schemas (Kind.closes n) values b d a has h = close_if (is_open (cursor_at b n)) n b d a has h
step_ahead schemas (Kind.selects s) values b d a has h = as_it_was b a has h.0
step_ahead schemas (Kind.inserts caller i) values b d a has h = performs h.0 b b d a has has h.2
step_ahead schemas (Kind.updates u) values b d a has h = updates h.0 u None b d a has h.2
step_ahead schemas (Kind.deletes caller t) values b d a has h = performs h.0 b b d a has has h.2
step_ahead schemas (Kind.updates_at u p) values b d a has h = update_at (is_on_row b p) schemas u p values b d a has h
step_ahead schemas (Kind.deletes_at caller p) values b d a has h = delete_at (is_on_row b p) schemas caller p values b d a has h
step_ahead schemas Kind.commits values b d a has h = subst Ahead (sym h.1) (all_closed_ahead b.cursors)
step_ahead schemas Kind.rolls_back values b d a has h = subst Ahead (sym h.1) (all_closed_ahead b.cursors)

-- So it stays in each call.
pub call_ahead : (schemas : Schemas) (k : Option Kind) (values : List Value) (b : State) (d : Done) (a : State) → AreAhead b.cursors
    → MayCall schemas k values b d a → AreAhead a.cursors
call_ahead schemas None values b d a has h = as_it_was b a has h.1
call_ahead schemas (Some k) values b d a has h = step_ahead schemas k (started_values (read_parameters k) values) b d a has h.0
