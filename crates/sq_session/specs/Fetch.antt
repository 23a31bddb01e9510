-- FETCH (ISO/IEC 9075:1992, 13.3): where a cursor comes, and how the statement ends then. Where a rule of the
-- language is broken, the statement ends with 42000, and the cursor stays where it is.
use Rattle.std.specs.Prelude.{◌≡◌, ◌≤◌, ◌<◌, ◌+◌, ⊤, ℕ, ℤ, List, length, slice_get, IfSome, Option, None, Some, Result, Ok, Err}
use Rattle.std.specs.Borrow.{Bor}
use Rattle.std.specs.List.{AllByRecursion}
use Rattle.std.specs.Option.{option_and_then, option_map}
use Rattle.sq_lex.specs.declared.name.Name.{Name}
use Rattle.sq_value.specs.Key.{in_columns}
use Rattle.sq_value.specs.declared.domain.Kind.{Kind}
use Rattle.sq_value.specs.declared.value.Value.{Value}
use Rattle.sq_value.specs.declared.value.Value.TheVariants as value
use Rattle.sq_store.specs.Content.{Content, row_at, table_at}
use Rattle.sq_store.specs.declared.table.Numbered.{Numbered}
use Rattle.sq_store.specs.declared.table.Table.{Table}
use Rattle.sq_bound.specs.WellFormed.{IsOrientation, TakeKinds}
use Rattle.sq_bound.specs.declared.condition.BoundCond.{BoundCond}
use Rattle.sq_bound.specs.declared.statement.BoundFetch.{BoundFetch}
use Rattle.sq_bound.specs.declared.statement.Distance.{Distance}
use Rattle.sq_bound.specs.declared.statement.Distance.TheVariants as distance
use Rattle.sq_bound.specs.declared.statement.FetchOrientation.{FetchOrientation}
use Rattle.sq_bound.specs.declared.statement.FetchOrientation.TheVariants as orientation
use Rattle.sq_meaning.specs.Environment.{Row}
use Rattle.sq_meaning.specs.Status.{Outcome, and_then, not_well_formed, well_formed}
use Rattle.sq_meaning.specs.declared.status.Status.TheVariants as status
use Rattle.sq_meaning.specs.WellFormed.{Has, HasValue}
use Rattle.sq_meaning.specs.Cursor.{Move, bounded, wanted, row_at as row_of}
use Rattle.sq_query.specs.Table.{numbered_row}
use Rattle.sq_expression.specs.Fault.{status_of}
use Rattle.sq_expression.specs.declared.fault.Failure.TheVariants as failure
use Rattle.sq_expression.specs.declared.fault.Fault.{Fault}
use Rattle.sq_expression.specs.declared.fault.Fault.TheVariants as fault
use Rattle.sq_session.specs.Kind.{Fetching}
use Rattle.sq_session.specs.State.{next_number}
use Rattle.sq_session.specs.Target.{MayTake, MayTakeRows, ended, row_reply}
use Rattle.sq_session.specs.Walk.{first_meant}
use Rattle.sq_session.specs.declared.cursor.CursorState.{CursorState}
use Rattle.sq_session.specs.declared.cursor.CursorState.TheVariants as cursor
use Rattle.sq_session.specs.declared.cursor.NumbersCursor.{NumbersCursor}
use Rattle.sq_session.specs.declared.cursor.RowsCursor.{RowsCursor}
use Rattle.sq_session.specs.declared.reply.Done.{Done}
use Rattle.sq_session.specs.declared.walk.WalkingCursor.{WalkingCursor}

-- ---- the place that an orientation means

abbrev pub whole_number : Value → Outcome ℤ
whole_number (value.Num n) = Ok n.unscaled
whole_number value.Null = not_well_formed
whole_number (value.Chars t) = not_well_formed

-- The number of an orientation: written as a literal, or the value of a parameter.
abbrev pub number_of : List Value → Distance → Outcome ℤ
number_of values (distance.Number n) = Ok n
number_of values (distance.Parameter p) = and_then (well_formed (slice_get values p)) whole_number

-- The distance of an orientation is a number.
abbrev pub HasNumber : List Value → Distance → Type 0
HasNumber values d = HasValue (number_of values d)

abbrev pub MeansPlace : List Value → FetchOrientation → Type 0
MeansPlace values (orientation.Absolute d) = HasNumber values d
MeansPlace values (orientation.Relative d) = HasNumber values d
MeansPlace values _ = ⊤

abbrev pub move_of : List Value → FetchOrientation → Outcome Move
move_of values orientation.Next = Ok Move.next
move_of values orientation.Prior = Ok Move.prior
move_of values orientation.First = Ok Move.first
move_of values orientation.Last = Ok Move.last
move_of values (orientation.Absolute d) = and_then (number_of values d) (λ n. Ok (Move.absolute n))
move_of values (orientation.Relative d) = and_then (number_of values d) (λ n. Ok (Move.relative n))

-- The place that an orientation names, from the place of the cursor and the count of rows.
abbrev pub place_wanted : List Value → FetchOrientation → ℕ → ℕ → Outcome ℤ
place_wanted values o count place = and_then (move_of values o) (λ m. Ok (wanted m count place))

-- The place that a cursor comes to: the one named, or the nearest that there is.
abbrev pub place_reached : List Value → FetchOrientation → ℕ → ℕ → Outcome ℕ
place_reached values o count place = and_then (place_wanted values o count place) (λ w. Ok (bounded count w))

-- ---- the reply

-- How FETCH ends: with 02000 without a row, else with the targets set from it.
abbrev pub row_fetched : Fetching → Option (List Value) → Outcome Done
row_fetched f None = Ok (ended status.NoData)
row_fetched f (Some row) = row_reply f.parameters f.targets row

-- How FETCH of an updatable cursor ends: its query shows some columns of a row of the base table.
abbrev pub shown_fetched : Fetching → Option (List Value) → Outcome Done
shown_fetched f row = row_fetched f (option_map (λ r. in_columns r f.columns) row)

-- the row under the number that a cursor is on, as it is now
abbrev pub row_on : Table → Option ℕ → Option (List Value)
row_on t on = option_map (λ r. r.row) (option_and_then (row_at t) on)

-- The row that a walk comes to: the first of which the conditions are true, with a number in a range. It is there,
-- under its number.
pub record IsFirstMeant (conditions : List BoundCond) (values : List Value) (user : Name) (from mark : ℕ)
    (t : Table) (found : Option (ℕ × Bor Row)) : Type 0 where
  pub meant : option_map numbered_row found ≡ first_meant conditions values user from mark t.rows
  pub within : IfSome found (λ r. (from ≤ r.0) × (r.0 < mark))
  pub there : IfSome found (λ r. row_on t (Some r.0) ≡ Some r.1.now)

-- ---- a FETCH that is well formed (13.3)

-- A FETCH is well formed, where the cursors have columns of these kinds: the number of its orientation is a
-- whole one, and its targets can take the columns of its cursor.
abbrev pub IsFetch : List (List Kind) → List Kind → BoundFetch → Type 0
IsFetch cursors parameters f =
    IsOrientation parameters f.orientation
    × Has (TakeKinds parameters f.outputs) (well_formed (slice_get cursors f.cursor))

-- The targets can take whatever row the cursor comes to: one of its rows, or of its base table as its query
-- shows it.
abbrev pub MayTakeShown : Fetching → Table → Type 0
MayTakeShown f t = AllByRecursion (λ r. MayTake f.parameters f.targets (in_columns r.row f.columns)) t.rows

abbrev pub MayTakeFrom : Fetching → Content → CursorState → Type 0
MayTakeFrom f tables cursor.Closed = ⊤
MayTakeFrom f tables (cursor.Rows c) = MayTakeRows f.parameters f.targets c.rows
MayTakeFrom f tables (cursor.Numbers c) = MayTakeShown f (table_at tables c.table)
MayTakeFrom f tables (cursor.Walking c) = MayTakeShown f (table_at tables c.table)

-- ---- where a cursor comes, and the reply

-- A cursor over rows comes to the place that is reached.
abbrev pub row_come_to : Fetching → RowsCursor → ℕ → Outcome (RowsCursor × Done)
row_come_to f c place =
    and_then (row_fetched f (row_of c.rows place)) (λ d. Ok (record c { place = place }, d))

abbrev pub come_to_row : Fetching → List Value → RowsCursor → Outcome (RowsCursor × Done)
come_to_row f values c =
    and_then (place_reached values f.orientation (length c.rows) c.place) (row_come_to f c)

-- A cursor over numbers comes to the next number under which there is a row now.
abbrev pub number_come_to : Fetching → Table → NumbersCursor → Outcome (NumbersCursor × Done)
number_come_to f t c = and_then (shown_fetched f (row_on t c.on)) (λ d. Ok (c, d))

abbrev pub come_to_number : Fetching → Content → NumbersCursor → Outcome (NumbersCursor × Done)
come_to_number f tables c =
    number_come_to f (table_at tables c.table) (next_number (table_at tables c.table) c)

-- A walking cursor comes to the next row before its mark that its query means, or to its end.
abbrev pub next_walked : Fetching → Table → WalkingCursor → Option Numbered
next_walked f t c = first_meant f.conditions c.values f.user c.next c.mark t.rows

abbrev pub walked_to : WalkingCursor → Option Numbered → WalkingCursor
walked_to c None = record c { next = c.mark; on = None }
walked_to c (Some r) = record c { next = r.number + 1; on = Some r.number }

abbrev pub walk_come_to : Fetching → WalkingCursor → Option Numbered → Outcome (WalkingCursor × Done)
walk_come_to f c reached =
    and_then (shown_fetched f (option_map (λ r. r.row) reached)) (λ d. Ok (walked_to c reached, d))

abbrev pub come_to_walk : Fetching → Content → WalkingCursor → Outcome (WalkingCursor × Done)
come_to_walk f tables c = walk_come_to f c (next_walked f (table_at tables c.table) c)

-- ---- of any cursor

abbrev pub over_rows : Outcome (RowsCursor × Done) → Outcome (CursorState × Done)
over_rows o = and_then o (λ come. Ok (cursor.Rows come.0, come.1))

abbrev pub over_numbers : Outcome (NumbersCursor × Done) → Outcome (CursorState × Done)
over_numbers o = and_then o (λ come. Ok (cursor.Numbers come.0, come.1))

abbrev pub over_walk : Outcome (WalkingCursor × Done) → Outcome (CursorState × Done)
over_walk o = and_then o (λ come. Ok (cursor.Walking come.0, come.1))

-- ---- while the statement runs

-- The cursor has come to where the definition says, and the statement ends as it says; definitions say nothing
-- of running out of memory.
abbrev pub HasCome : {C : Type 0} → Result Done Fault → C → Outcome (C × Done) → Type 0
HasCome (Ok d) now wanted = wanted ≡ Ok (now, d)
HasCome (Err (fault.Status f)) now wanted = wanted ≡ Err (status_of f)
HasCome (Err fault.NoMemory) now wanted = ⊤

abbrev pub HasFetched : Fetching → List Value → Content → CursorState → Result Done Fault → CursorState
    → Type 0
HasFetched f values tables cursor.Closed r now = r ≡ Err (fault.Status failure.InvalidCursorState)
HasFetched f values tables (cursor.Rows c) r now = HasCome r now (over_rows (come_to_row f values c))
HasFetched f values tables (cursor.Numbers c) r now = HasCome r now (over_numbers (come_to_number f tables c))
HasFetched f values tables (cursor.Walking c) r now = HasCome r now (over_walk (come_to_walk f tables c))
