-- How many rows a call reads to choose the rows of its target or query (own rule; ISO/IEC 9075:1992 asks
-- nothing of how rows are found). Nothing is promised of statements that are not named here.
use Rattle.std.specs.Prelude.{◌≡◌, ◌-◌, ◌≤◌, ⊤, ℕ, List, Option, None, Some, IfSome, MatchOption}
use Rattle.sq_lex.specs.declared.name.Name.{Name}
use Rattle.sq_value.specs.declared.value.Value.{Value}
use Rattle.sq_store.specs.Content.{Content, table_at}
use Rattle.sq_bound.specs.declared.statement.ChangeTarget.{ChangeTarget}
use Rattle.sq_bound.specs.declared.statement.ChangeTarget.TheVariants as target
use Rattle.sq_query.specs.Keyed.{IsKeyedChange, IsKeyedSelect, IsKeyedUnder}
use Rattle.sq_session.specs.Fetch.{next_walked}
use Rattle.sq_session.specs.Kind.{Fetching, Kind, Over, Selecting, read_parameters}
use Rattle.sq_session.specs.Parameter.{started_values}
use Rattle.sq_session.specs.State.{State, cursor_at, next_number}
use Rattle.sq_session.specs.declared.cursor.CursorState.{CursorState}
use Rattle.sq_session.specs.declared.cursor.CursorState.TheVariants as cursor
use Rattle.sq_session.specs.declared.walk.WalkingCursor.{WalkingCursor}

-- OPEN of a cursor that walks over its base table reads no row.
abbrev pub OpenReads : Over → ℕ → Type 0
OpenReads (Over.walk table) count = count ≡ 0
OpenReads _ count = ⊤

-- The number of the row that a walk came to last; 0 after OPEN.
abbrev pub last_number : WalkingCursor → ℕ
last_number c = c.next - 1

-- A FETCH by which a walk comes to a row reads that row, and at most those between it and the row before. Where
-- the conditions of the walk name a row by a key, none of whose values is null, each FETCH reads at most one
-- row, through views too. A FETCH of a cursor over row numbers, to which an UPDATE may have turned a walk, reads
-- the row that it comes to and no other; one of a cursor that fixed its rows reads none.
abbrev pub FetchReadsFrom : CursorState → Fetching → Content → ℕ → Type 0
FetchReadsFrom (cursor.Walking c) f tables count =
    IfSome (next_walked f (table_at tables c.table) c) (λ r. (1 ≤ count) × (count ≤ r.number - last_number c))
    × IfSome f.target (λ t. IsKeyedUnder t c.values f.user → count ≤ 1)
FetchReadsFrom (cursor.Numbers c) f tables count =
    MatchOption (next_number (table_at tables c.table) c).on (count ≡ 0) (λ number. count ≡ 1)
FetchReadsFrom (cursor.Rows c) f tables count = count ≡ 0
FetchReadsFrom cursor.Closed f tables count = ⊤

abbrev pub FetchReads : Fetching → State → ℕ → Type 0
FetchReads f before count = FetchReadsFrom (cursor_at before f.cursor) f before.tables count

-- A searched UPDATE or DELETE that names its row by a key, none of whose values is null in this call, reads at
-- most one row.
abbrev pub SearchReads : ChangeTarget → List Value → Name → ℕ → Type 0
SearchReads t values user count = IsKeyedChange t values user → count ≤ 1

-- A SELECT INTO that names its row by a key, and reads no table in subqueries, reads at most one row.
abbrev pub SelectReads : Selecting → List Value → State → ℕ → Type 0
SelectReads s values before count = IsKeyedSelect s.query before.keys values s.user → count ≤ 1

abbrev pub StepReads : Kind → List Value → State → ℕ → Type 0
StepReads (Kind.opens o) values before count = OpenReads o.over count
StepReads (Kind.fetches f) values before count = FetchReads f before count
StepReads (Kind.selects s) values before count = SelectReads s values before count
StepReads (Kind.updates u) values before count = SearchReads u.statement.target values u.caller.user count
StepReads (Kind.deletes caller t) values before count =
    SearchReads (target.Searched t) values caller.user count
StepReads _ values before count = ⊤

-- What the call of a procedure with these values reads.
abbrev pub CallReads : Option Kind → List Value → State → ℕ → Type 0
CallReads None values before count = ⊤
CallReads (Some k) values before count = StepReads k (started_values (read_parameters k) values) before count
