-- FETCH comes by a session's cursor to the row that the machine's comes to, sets the same targets, and ends
-- with the same status (ISO/IEC 9075:1992, 13.3): over rows, over numbers, and of a cursor that walks. It
-- keeps what the states are to each other.
use Rattle.std.proofs.Common.{◌≡◌, ℕ, Bool, true, false, List, length, Option, Some, None, refl, sym, ap, subst, ◌∙◌, Ok, Err}
use Rattle.std.specs.Prelude.{find, if◌then◌else◌, is_some, slice_get, ◌==◌}
use Rattle.std.specs.Option.{option_and_then, option_map}
use Rattle.sq_tree.specs.declared.«module».Cursor.{Cursor}
use Rattle.sq_tree.specs.declared.statement.Fetch.{Fetch}
use Rattle.sq_value.specs.Key.{in_columns}
use Rattle.sq_value.specs.declared.value.Value.{Value}
use Rattle.sq_store.specs.Content.{row_at, table_at}
use Rattle.sq_store.specs.Rising.{has_rising_rows}
use Rattle.sq_store.specs.declared.table.Numbered.{Numbered}
use Rattle.sq_store.specs.declared.table.Table.{Table}
use Rattle.sq_meaning.specs.Environment.{Row}
use Rattle.sq_meaning.specs.Spelled.{listed}
use Rattle.sq_meaning.specs.Status.{Outcome, and_then, not_well_formed}
use Rattle.sq_meaning.specs.Target.{Target as Meant}
use Rattle.sq_meaning.specs.WellFormed.{IsNoSyntaxError}
use Rattle.sq_meaning.specs.declared.status.Status.{Status}
use Rattle.sq_meaning.specs.declared.status.Status.TheVariants as status
use Rattle.sq_meaning.specs.WellFormedStatement.{orientation_of, updatable_cursor}
use Rattle.sq_meaning.specs.Cursor as machine
use Rattle.sq_meaning.specs.Cursor.{bounded, fetched, row_at as row_of, to_next, wanted}
use Rattle.sq_meaning.specs.Machine as by_name
use Rattle.sq_meaning.specs.Machine.{Running, cursor_now, fetch_cursor, fetch_reply, moved, shown_now, surroundings}
use Rattle.sq_bound.specs.declared.names.ParameterDesc.{ParameterDesc}
use Rattle.sq_binding.specs.Written.{AreOutputsOf}
use Rattle.sq_module.specs.declared.program.DeclaredCursor.{DeclaredCursor}
use Rattle.sq_session.specs.Fetch.{come_to_number, come_to_row, come_to_walk, over_numbers, over_rows, over_walk, row_fetched, row_on, walked_to}
use Rattle.sq_session.specs.Fetch as session
use Rattle.sq_session.specs.Kind.{Fetching, conditions_in}
use Rattle.sq_session.specs.State.{State, cursor_at, is_there, next_number, with_cursor}
use Rattle.sq_session.specs.Step.{Comes, EndsRight, MayFetch, MayFetchFrom}
use Rattle.sq_session.specs.Target.{ended, is_refused, row_set}
use Rattle.sq_session.specs.Target as target
use Rattle.sq_session.specs.Walk.{first_meant}
use Rattle.sq_session.specs.declared.cursor.CursorState.{CursorState}
use Rattle.sq_session.specs.declared.cursor.CursorState.TheVariants as cursor
use Rattle.sq_session.specs.declared.cursor.NumbersCursor.{NumbersCursor}
use Rattle.sq_session.specs.declared.cursor.RowsCursor.{RowsCursor}
use Rattle.sq_session.specs.declared.reply.Done.{Done}
use Rattle.sq_session.specs.declared.walk.WalkingCursor.{WalkingCursor}
use Rattle.sq_run.proofs.Changed.TargetsSet.{AreApart, AreParameters}
use Rattle.sq_run.proofs.Steps.Unnamed.{Assignments}
use Rattle.sq_run.proofs.OpenCursors.NumbersLeft.{SameNumbers, next_same}
use Rattle.sq_run.proofs.Changed.RepliesAlike.{row_alike}
use Rattle.sq_run.proofs.OpenCursors.SameCursors.{IsOnly}
use Rattle.sq_run.proofs.Steps.SameStates.{SameCursor, SameReply, SameStates, ended_same, moved_same, now_same}
use Rattle.sq_run.proofs.OpenCursors.WalkLeft.{SameWalk, reached, reached_there, walk_same}

-- ---- how it ends

-- only what doesn't fit ends with 42000, and only that ends without a reply
pub reply_fails : (ps : List ParameterDesc) (o : Outcome Assignments) (st : Status) → target.reply_of ps o ≡ Err st
    → IsNoSyntaxError st → ⊥
reply_fails ps (Ok a) st e h = cc
reply_fails ps (Err s) st e h = by_refused (is_refused s) e
  where
    by_refused : (b : Bool) → (if b then not_well_formed else Ok (ended s)) ≡ Err st → ⊥
    by_refused true e = let same : status.SyntaxErrorOrAccessRuleViolation ≡ st = cc in subst (λ x. IsNoSyntaxError x) (sym same) h
    by_refused false e = cc

fetch_fails : (f : Fetching) (row : Option (List Value)) (st : Status) → row_fetched f row ≡ Err st → IsNoSyntaxError st → ⊥
fetch_fails f None st e h = cc
fetch_fails f (Some row) st e h = reply_fails f.parameters (row_set f.parameters f.targets row) st e h

-- where it comes to a row or to none, it ends so
comes_to : (f : Fetching) (row : Option (List Value)) (c : CursorState) (n : ℕ) (s : State) (d : Done) (after : State) → EndsRight d
    → (o : Outcome Done) → row_fetched f row ≡ o → Comes (and_then o (λ e. Ok (c, e))) n s d after
    → (row_fetched f row ≡ Ok d) × (after ≡ with_cursor s n c)
comes_to f row c n s d after right (Ok e) is h = (is ∙ ap (λ (x : Done). Ok x) (sym h.0), h.1)
comes_to f row c n s d after right (Err st) is h =
    absurd (fetch_fails f row st is (subst (λ (x : Done). IsNoSyntaxError x.status) h.0 right))

twice : {A B : Type 0} (o : Outcome Done) (a : A) (f : A → B)
    → and_then {A = A × Done} {B = B × Done} (and_then o (λ d. Ok (a, d))) (λ come. Ok (f come.0, come.1)) ≡ and_then {B = B × Done} o (λ d. Ok (f a, d))
twice (Ok d) a f = refl
twice (Err st) a f = refl

-- ---- both

-- what a FETCH is by its names and by its places
pub record IsFetchBy (r : Running) (ft : Fetch) (f : Fetching) : Type 0 where
  pub parameters : AreParameters f.parameters r.parameters
  pub apart : AreApart f.parameters
  pub targets : AreOutputsOf f.parameters f.targets (listed ft.targets)

-- an updatable cursor shows these columns of the rows of this table
pub record IsShownBy (r : Running) (cur : Cursor) (f : Fetching) (table : ℕ) : Type 0 where
  pub meant : Meant
  pub is : updatable_cursor (surroundings r) cur ≡ Some meant
  pub place : meant.place ≡ table
  pub columns : meant.columns ≡ f.columns

module _ (declared : List DeclaredCursor) (s : State) (r : Running) (same : SameStates declared s r.state) (ft : Fetch) (n : ℕ)
    (only : IsOnly (SameCursor s.tables) r.in_module.name ft.cursor r.state.cursors n) (c : DeclaredCursor)
    (there : slice_get declared n ≡ Some c) (cur : Cursor) (f : Fetching) (by : IsFetchBy r ft f) where
  reply_alike : (row : Option (List Value)) (d : Done) → row_fetched f row ≡ Ok d → SameReply d (fetch_reply r ft row)
  reply_alike None d e = let is : ended status.NoData ≡ d = cc in ended_same d status.NoData (sym is)
  reply_alike (Some row) d e = row_alike f.parameters r.parameters by.parameters by.apart f.targets (listed ft.targets) row d by.targets e

  abbrev machine_move : machine.Move
  machine_move = by_name.move_of r.parameters (orientation_of ft)

  abbrev now : ℕ → Option Row
  now = shown_now r (updatable_cursor (surroundings r) cur)

  abbrev Both : Done → State → machine.CursorState → Type 0
  Both d after x =
      SameStates declared after (by_name.fetch_to r ft (fetched now machine_move x)).0
      × SameReply d (by_name.fetch_to r ft (fetched now machine_move x)).1

  -- Both cursors come to the same row.
  reached_alike : (y : CursorState) (x : machine.CursorState) (row : Option (List Value)) (d : Done) (after : State)
      → row_fetched f row ≡ Ok d → after ≡ with_cursor s n y → SameCursor s.tables c y (fetched now machine_move x).cursor
      → (fetched now machine_move x).row ≡ row → Both d after x
  reached_alike y x row d after e is h same_row = (
    subst (λ z. SameStates declared z (moved r ft.cursor (fetched now machine_move x).cursor)) (sym is)
        (moved_same declared s r same ft.cursor n only c there y (fetched now machine_move x).cursor h),
    subst (λ o. SameReply d (fetch_reply r ft o)) (sym same_row) (reply_alike row d e),
  )

  -- ---- over rows

  rows_alike : (values : List Value) → session.move_of values f.orientation ≡ Ok machine_move → (x : RowsCursor) (d : Done)
      (after : State) → EndsRight d
      → Comes (over_rows (come_to_row f values x)) n s d after → Both d after (machine.CursorState.over_rows x.rows x.place)
  rows_alike values move x d after right h =
      let place : ℕ = bounded (length x.rows) (wanted machine_move (length x.rows) x.place) in
      let come = comes_to f (row_of x.rows place) (cursor.Rows (record x { place = place })) n s d after right (row_fetched f (row_of x.rows place)) refl
      (subst (λ o. Comes o n s d after) (ap over_rows (ap (λ o. and_then (and_then (and_then o (λ m. Ok (wanted m (length x.rows) x.place))) (λ w. Ok (bounded (length x.rows) w))) (session.row_come_to f x)) move) ∙ twice (row_fetched f (row_of x.rows place)) (record x { place = place }) cursor.Rows) h) in
      reached_alike (cursor.Rows (record x { place = place })) (machine.CursorState.over_rows x.rows x.place) (row_of x.rows place) d after come.0 come.1 refl refl

  -- ---- over numbers

  module _ (table : ℕ) (by_target : IsShownBy r cur f table) where
    shown_is : (k : ℕ) → now k ≡ option_map (λ row. in_columns row f.columns) (option_map (λ x. x.row) (row_at (table_at s.tables table) k))
    shown_is k =
        ap (λ o. shown_now r o k) by_target.is
        ∙ (λ i. option_map (λ row. in_columns row (by_target.columns i)) (option_map (λ x. x.row) (find (λ x. x.number == k) (table_at (same.tables i) (by_target.place i)).rows)))

    there_alike : (k : ℕ) → is_some (now k) ≡ is_there (table_at s.tables table) k
    there_alike k = ap is_some (shown_is k) ∙ some_mapped (row_at (table_at s.tables table) k)
      where
        some_mapped : (o : Option Numbered) → is_some (option_map (λ row. in_columns row f.columns) (option_map (λ x. x.row) o)) ≡ is_some o
        some_mapped None = refl
        some_mapped (Some x) = refl

    row_shown : (on : Option ℕ)
        → option_and_then now on ≡ option_map (λ row. in_columns row f.columns) (row_on (table_at s.tables table) on)
    row_shown None = refl
    row_shown (Some k) = shown_is k

  numbers_alike : (x : NumbersCursor) → IsShownBy r cur f x.table → (y : machine.CursorState)
      → SameNumbers (table_at s.tables x.table) x y → (d : Done) (after : State) → EndsRight d
      → Comes (over_numbers (come_to_number f s.tables x)) n s d after → Both d after y
  numbers_alike x by_target y h d after right e =
      let t : Table = table_at s.tables x.table in
      let next : NumbersCursor = next_number t x in
      let row : Option (List Value) = option_map (λ v. in_columns v f.columns) (row_on t next.on) in
      let come = comes_to f row (cursor.Numbers next) n s d after right (row_fetched f row) refl
      (subst (λ o. Comes o n s d after) (twice (row_fetched f row) next cursor.Numbers) e) in
      let both = next_same t now (there_alike x.table by_target) x y h in
      subst (Both d after) (sym h.is)
      (reached_alike (cursor.Numbers next) (machine.CursorState.over_numbers h.numbers x.on) row d after come.0 come.1 both.0
      (both.1 ∙ row_shown x.table by_target next.on))

  -- ---- a walk

  walk_alike : (x : WalkingCursor) → IsShownBy r cur f x.table → f.conditions ≡ conditions_in c.cursor.body → f.user ≡ c.user
      → has_rising_rows (table_at s.tables x.table) ≡ true → (y : machine.CursorState)
      → SameWalk (conditions_in c.cursor.body) c.user (table_at s.tables x.table) x y → (d : Done) (after : State) → EndsRight d
      → Comes (over_walk (come_to_walk f s.tables x)) n s d after → Both d after y
  walk_alike x by_target conditions user rising y h d after right e =
      let t : Table = table_at s.tables x.table in
      let found : Option Numbered = reached (conditions_in c.cursor.body) c.user t x in
      let row : Option (List Value) = option_map (λ v. in_columns v f.columns) (option_map (λ z. z.row) found) in
      let come = comes_to f row (cursor.Walking (walked_to x found)) n s d after right (row_fetched f row) refl
      (subst (λ o. Comes o n s d after)
      (ap over_walk (λ i. session.walk_come_to f x (first_meant (conditions i) x.values (user i) x.next x.mark t.rows)) ∙ twice (row_fetched f row) (walked_to x found) cursor.Walking) e) in
      let both = walk_same (conditions_in c.cursor.body) c.user t now (there_alike x.table by_target) rising x y h in
      subst (Both d after) (sym h.is)
      (reached_alike (cursor.Walking (walked_to x found)) (machine.CursorState.over_numbers h.numbers x.on) row d after come.0 come.1
      (in_table (walked_to x found) found refl both.0) (both.1 ∙ row_is found refl))
    where
      in_table : (z : WalkingCursor) (o : Option Numbered) → z ≡ walked_to x o
          → SameWalk (conditions_in c.cursor.body) c.user (table_at s.tables x.table) z (to_next now h.numbers).cursor
          → SameWalk (conditions_in c.cursor.body) c.user (table_at s.tables z.table) z (to_next now h.numbers).cursor
      in_table z None is k = subst (λ m. SameWalk (conditions_in c.cursor.body) c.user (table_at s.tables m) z (to_next now h.numbers).cursor) (sym (ap (λ (v : WalkingCursor). v.table) is)) k
      in_table z (Some w) is k = subst (λ m. SameWalk (conditions_in c.cursor.body) c.user (table_at s.tables m) z (to_next now h.numbers).cursor) (sym (ap (λ (v : WalkingCursor). v.table) is)) k

      row_is : (o : Option Numbered) → reached (conditions_in c.cursor.body) c.user (table_at s.tables x.table) x ≡ o
          → option_and_then now (option_map (λ z. z.number) o) ≡ option_map (λ v. in_columns v f.columns) (option_map (λ z. z.row) o)
      row_is None e = refl
      row_is (Some z) e =
          shown_is x.table by_target z.number
          ∙ ap (λ o. option_map (λ v. in_columns v f.columns) (option_map (λ w. w.row) o)) (reached_there (conditions_in c.cursor.body) c.user (table_at s.tables x.table) x rising z e)

  -- ---- of any cursor

  -- what is asked of the cursor that it is open over
  abbrev pub IsRight : List Value → CursorState → Type 0
  IsRight values cursor.Closed = Unit {0}
  IsRight values (cursor.Rows x) = session.move_of values f.orientation ≡ Ok machine_move
  IsRight values (cursor.Numbers x) = IsShownBy r cur f x.table
  IsRight values (cursor.Walking x) =
      IsShownBy r cur f x.table × (f.conditions ≡ conditions_in c.cursor.body) × (f.user ≡ c.user)
      × (has_rising_rows (table_at s.tables x.table) ≡ true)

  from_cursor : (values : List Value) (y : CursorState) (x : machine.CursorState) → SameCursor s.tables c y x → IsRight values y
      → (d : Done) (after : State) → EndsRight d → MayFetchFrom y (record f { cursor = n }) values s d after
      → SameStates declared after (if machine.is_open x then by_name.fetch_to r ft (fetched now machine_move x) else by_name.ends_with r status.InvalidCursorState).0
      × SameReply d (if machine.is_open x then by_name.fetch_to r ft (fetched now machine_move x) else by_name.ends_with r status.InvalidCursorState).1
  from_cursor values cursor.Closed x h right d after ends e =
      subst (λ z. SameStates declared after (if machine.is_open z then by_name.fetch_to r ft (fetched now machine_move z) else by_name.ends_with r status.InvalidCursorState).0
      × SameReply d (if machine.is_open z then by_name.fetch_to r ft (fetched now machine_move z) else by_name.ends_with r status.InvalidCursorState).1) (sym h)
      (subst (λ z. SameStates declared z r.state) (sym e.1) same, ended_same d status.InvalidCursorState e.0)
  from_cursor values (cursor.Rows y) x h right d after ends e =
      subst (λ z. SameStates declared after (if machine.is_open z then by_name.fetch_to r ft (fetched now machine_move z) else by_name.ends_with r status.InvalidCursorState).0
      × SameReply d (if machine.is_open z then by_name.fetch_to r ft (fetched now machine_move z) else by_name.ends_with r status.InvalidCursorState).1) (sym h)
      (rows_alike values right y d after ends e)
  from_cursor values (cursor.Numbers y) x h right d after ends e =
      subst (λ b. SameStates declared after (if b then by_name.fetch_to r ft (fetched now machine_move x) else by_name.ends_with r status.InvalidCursorState).0
      × SameReply d (if b then by_name.fetch_to r ft (fetched now machine_move x) else by_name.ends_with r status.InvalidCursorState).1) (sym (ap machine.is_open h.is))
      (numbers_alike y right x h d after ends e)
  from_cursor values (cursor.Walking y) x h right d after ends e =
      subst (λ b. SameStates declared after (if b then by_name.fetch_to r ft (fetched now machine_move x) else by_name.ends_with r status.InvalidCursorState).0
      × SameReply d (if b then by_name.fetch_to r ft (fetched now machine_move x) else by_name.ends_with r status.InvalidCursorState).1) (sym (ap machine.is_open h.is))
      (walk_alike y right.0 right.1 right.2 right.3 x h d after ends e)

  -- FETCH keeps what the states are to each other, and has the same reply.
  pub fetch_same : f.cursor ≡ n → (values : List Value) → IsRight values (cursor_at s n) → (d : Done) (after : State) → EndsRight d
      → MayFetch f values s d after
      → SameStates declared after (fetch_cursor r ft cur).0 × SameReply d (fetch_cursor r ft cur).1
  fetch_same at values right d after ends e =
      from_cursor values (cursor_at s n) (cursor_now r ft.cursor) (now_same declared s r same ft.cursor n only c there) right d after ends
      (subst (λ k. MayFetchFrom (cursor_at s k) (record f { cursor = k }) values s d after) at e)
