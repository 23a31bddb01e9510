-- How many rows a call reads, from what its parts read.
use Rattle.std.proofs.Common.{◌≡◌, ◌+◌, ◌-◌, ◌^◌, ◌≤◌, ◌<◌, refl, ◌∙◌, ℕ, true, false, List, length, get_or, Option, Some, None, Result, Ok, Err, arith, subst, sym, IfSome}
use Rattle.std.specs.Prelude.{IfOk, MatchOption, slice_get}
use Rattle.std.specs.Option.{option_map_or}
use Rattle.std.specs.declared.alloc.AllocError.{AllocError}
use Rattle.std.proofs.Math.Nat.{le-min}
use Rattle.std.proofs.lemmas.Bool.{leb-true}
use Rattle.std.proofs.lemmas.List.{get_or_default}
use Rattle.sq_lex.specs.declared.name.Name.{Name}
use Rattle.sq_value.specs.declared.value.Value.{Value}
use Rattle.sq_store.specs.Content.{Content, table_at}
use Rattle.sq_store.specs.Keys.{Keys}
use Rattle.sq_store.specs.Meter.{counted}
use Rattle.sq_store.specs.declared.table.Numbered.{Numbered}
use Rattle.sq_bound.specs.declared.names.ParameterDesc.{ParameterDesc}
use Rattle.sq_bound.specs.declared.query.Target.{Target}
use Rattle.sq_bound.specs.declared.statement.BoundStatement.{BoundStatement}
use Rattle.sq_bound.specs.declared.statement.BoundStatement.TheVariants as statement
use Rattle.sq_bound.specs.declared.statement.ChangeTarget.{ChangeTarget}
use Rattle.sq_bound.specs.declared.statement.ChangeTarget.TheVariants as target
use Rattle.sq_module.specs.declared.program.DeclaredCursor.{DeclaredCursor}
use Rattle.sq_expression.specs.declared.fault.Fault.{Fault}
use Rattle.sq_query.specs.Keyed.{IsKeyedChange, IsKeyedSelect, IsKeyedUnder}
use Rattle.sq_query.proofs.Keys.KnownKeys.{counted_at_most}
use Rattle.sq_session.specs.Fetch.{next_walked}
use Rattle.sq_session.specs.Kind.{Caller, Fetching, Kind, Over, Selecting, Updating, caller_of, delete_kind, kind_of, over_at, over_of, over_target, update_kind, updating}
use Rattle.sq_session.specs.Metered.{CallReads, FetchReads, FetchReadsFrom, OpenReads, StepReads}
use Rattle.sq_session.specs.Parameter.{started_values}
use Rattle.sq_session.specs.State.{State, cursor_at, next_number}
use Rattle.sq_session.specs.Step.{ending}
use Rattle.sq_session.specs.declared.cursor.CursorState.{CursorState}
use Rattle.sq_session.specs.declared.cursor.CursorState.TheVariants as cursor
use Rattle.sq_session.specs.declared.cursor.NumbersCursor.{NumbersCursor}
use Rattle.sq_session.specs.declared.reply.Done.{Done}
use Rattle.sq_session.specs.declared.reply.Reply.{Reply}
use Rattle.sq_session.specs.declared.walk.WalkingCursor.{WalkingCursor}

-- What holds in any case holds however a statement ends.
pub however : {P : Type 0} (o : Option Done) → P → IfSome o (λ d. P)
however None p = tt
however (Some d) p = p

-- ---- a walk

-- The meter of a walk rises by no more than the numbers that it passes.
passes_by : (start old new from number found : ℕ) → old + (from - 1) ≤ start + (number - 1) → number ≤ found → 1 ≤ found → new ≤ old + 1 → new + (from - 1) ≤ start + (found + 1 - 1)
passes_by start old new from number found so_far behind positive most = omega arith

pub meter_passes : (start old new from number found : ℕ) → old + (from - 1) ≤ start + (number - 1) → number ≤ found → 1 ≤ found → new ≡ counted old → new + (from - 1) ≤ start + (found + 1 - 1)
meter_passes start old new from number found so_far behind positive is = passes_by start old new from number found so_far behind positive (counted_at_most old new is)

comes_by : (start old new from number found : ℕ) → old + (from - 1) ≤ start + (number - 1) → from ≤ number → number ≤ found → 1 ≤ found → new ≤ old + 1 → new ≤ start + (found - (from - 1))
comes_by start old new from number found so_far first behind positive most = omega arith

counted_some : (old new : ℕ) → new ≡ counted old → 1 ≤ new
counted_some old new is = subst (λ n. 1 ≤ n) (sym is) (le-min {k = 1} {a = old + 1} {b = 2 ^ 64 - 1} (one_more old) (leb-true 1 (2 ^ 64 - 1) refl))
  where
    one_more : (n : ℕ) → 1 ≤ n + 1
    one_more n = omega arith

pub meter_comes : (start old new from number found : ℕ) → old + (from - 1) ≤ start + (number - 1) → from ≤ number → number ≤ found → 1 ≤ found → new ≡ counted old
    → (1 ≤ new) × (new ≤ start + (found - (from - 1)))
meter_comes start old new from number found so_far first behind positive is =
    (counted_some old new is, comes_by start old new from number found so_far first behind positive (counted_at_most old new is))

-- ---- OPEN

pub walk_opened : (t : Target) (count : ℕ) → t.is_quiet ≡ true → count ≡ 0 → OpenReads (over_target t) count
walk_opened t count quiet none =
    let is : over_target t ≡ Over.walk t.base = rw quiet refl in subst (λ (o : Over). OpenReads o count) (sym is) none

pub numbers_found : (t : Target) (count : ℕ) → t.is_quiet ≡ false → OpenReads (over_target t) count
numbers_found t count loud =
    let is : over_target t ≡ Over.numbers t.base = rw loud refl in subst (λ (o : Over). OpenReads o count) (sym is) tt

pub none_read : (over : Over) (count : ℕ) → count ≡ 0 → OpenReads over count
none_read Over.rows count none = tt
none_read (Over.numbers table) count none = tt
none_read (Over.walk table) count none = none

pub opened_at : (cursors : List DeclaredCursor) (number : ℕ) (declared : DeclaredCursor) (count : ℕ) → slice_get cursors number ≡ Some declared → OpenReads (over_of declared.cursor.body) count → OpenReads (over_at cursors number) count
opened_at cursors number declared count there h =
    subst (λ (o : Option DeclaredCursor). OpenReads (option_map_or (λ d. over_of d.cursor.body) o Over.rows) count) (sym there) h

-- ---- FETCH

-- A FETCH of a walk whose target names a row by a key reads at most one row.
by_key : (f : Fetching) (c : WalkingCursor) (t : Target) (start count : ℕ) → f.target ≡ Some t → start ≡ 0 → (IsKeyedUnder t c.values f.user → count ≤ start + 1)
    → IfSome f.target (λ t. IsKeyedUnder t c.values f.user → count ≤ 1)
by_key f c t start count is none once =
    subst (λ (o : Option Target). IfSome o (λ t. IsKeyedUnder t c.values f.user → count ≤ 1)) (sym is) (λ keyed. let most = once keyed in omega (arith, none, most))

-- A FETCH by which a walk comes to a row.
pub row_come_to : (f : Fetching) (tables : Content) (c : WalkingCursor) (t : Target) (row : Numbered) (start count : ℕ) → f.target ≡ Some t → next_walked f (table_at tables c.table) c ≡ Some row → start ≡ 0
    → (1 ≤ count) × (count ≤ start + (row.number - (c.next - 1))) → (IsKeyedUnder t c.values f.user → count ≤ start + 1) → FetchReadsFrom (cursor.Walking c) f tables count
row_come_to f tables c t row start count is next none h once = (
  subst (λ (o : Option Numbered). IfSome o (λ r. (1 ≤ count) × (count ≤ r.number - (c.next - 1)))) (sym next) (h.0, omega (arith, none, h.1)),
  by_key f c t start count is none once,
)

-- A FETCH by which a walk comes to its end.
pub end_come_to : (f : Fetching) (tables : Content) (c : WalkingCursor) (t : Target) (start count : ℕ) → f.target ≡ Some t → next_walked f (table_at tables c.table) c ≡ None → start ≡ 0
    → (IsKeyedUnder t c.values f.user → count ≤ start + 1) → FetchReadsFrom (cursor.Walking c) f tables count
end_come_to f tables c t start count is next none once =
    (subst (λ (o : Option Numbered). IfSome o (λ r. (1 ≤ count) × (count ≤ r.number - (c.next - 1)))) (sym next) tt, by_key f c t start count is none once)

-- A FETCH by which a cursor over numbers comes to a row reads that row alone,
pub number_read : (f : Fetching) (tables : Content) (c : NumbersCursor) (number start count : ℕ) → (next_number (table_at tables c.table) c).on ≡ Some number → start ≡ 0
    → count ≡ counted start → FetchReadsFrom (cursor.Numbers c) f tables count
number_read f tables c number start count on none is =
    let least = counted_some start count is in
    let most = counted_at_most start count is in
    subst (λ o. MatchOption o (count ≡ 0) (λ n. count ≡ 1)) (sym on) (omega (arith, none, least, most))

-- and one by which it comes to its end reads none.
pub no_number_read : (f : Fetching) (tables : Content) (c : NumbersCursor) (count : ℕ) → (next_number (table_at tables c.table) c).on ≡ None → count ≡ 0
    → FetchReadsFrom (cursor.Numbers c) f tables count
no_number_read f tables c count on none = subst (λ o. MatchOption o (count ≡ 0) (λ n. count ≡ 1)) (sym on) none

-- FETCH reads what its cursor in the state makes it read.
pub fetched_at : (f : Fetching) (tables committed : Content) (keys : List Keys) (row_numbers : ℕ) (cs : List CursorState) (old : CursorState) (r : Result Done Fault) (count : ℕ) → f.cursor < length cs → old ≡ get_or cs f.cursor old
    → IfSome (ending r) (λ d. FetchReadsFrom old f tables count)
    → IfSome (ending r) (λ d. FetchReads f (record { tables = tables; committed = committed; keys = keys; row_numbers = row_numbers; cursors = cs }) count)
fetched_at f tables committed keys row_numbers cs old r count lt at h =
    let b : State = record { tables = tables; committed = committed; keys = keys; row_numbers = row_numbers; cursors = cs } in
    let there : old ≡ cursor_at b f.cursor = at ∙ get_or_default cs f.cursor old cursor.Closed lt in
    subst (λ (c : CursorState). IfSome (ending r) (λ d. FetchReadsFrom c f tables count)) there h

-- ---- SELECT, UPDATE and DELETE

pub select_read : (s : Selecting) (values : List Value) (before : State) (r : Result Done Fault) (start count : ℕ) → start ≡ 0 → (IsKeyedSelect s.query before.keys values s.user → count ≤ start + 1)
    → IfSome (ending r) (λ d. StepReads (Kind.selects s) values before count)
select_read s values before r start count none read = however (ending r) (λ keyed. let most = read keyed in omega (arith, none, most))

pub update_read : (u : Updating) (t : ChangeTarget) (values : List Value) (before : State) (r : Result Done Fault) (start count : ℕ) → start ≡ 0 → (IsKeyedChange u.statement.target values u.caller.user → count ≤ start + 1)
    → IfSome (ending r) (λ d. StepReads (update_kind u t) values before count)
update_read u (target.Searched t) values before r start count none read = however (ending r) (λ keyed. omega (arith, none, read keyed))
update_read u (target.Positioned p) values before r start count none read = however (ending r) tt

pub delete_read : (caller : Caller) (t : ChangeTarget) (values : List Value) (before : State) (r : Result Done Fault) (start count : ℕ) → start ≡ 0 → (IsKeyedChange t values caller.user → count ≤ start + 1)
    → IfSome (ending r) (λ d. StepReads (delete_kind caller t) values before count)
delete_read caller (target.Searched t) values before r start count none read = however (ending r) (λ keyed. omega (arith, none, read keyed))
delete_read caller (target.Positioned p) values before r start count none read = however (ending r) tt

-- ---- a call

-- a statement reads the values of those parameters that its kind names
step_read : (cs : List DeclaredCursor) (user : Name) (ps : List ParameterDesc) (s : BoundStatement) (vs : List Value) (b : State) (count : ℕ)
    → StepReads (kind_of cs user ps s) (started_values ps vs) b count → CallReads (Some (kind_of cs user ps s)) vs b count
step_read cs user ps (statement.Open n) vs b count h = h
step_read cs user ps (statement.Fetch f) vs b count h = h
step_read cs user ps (statement.Close n) vs b count h = tt
step_read cs user ps (statement.Select s) vs b count h = h
step_read cs user ps (statement.Insert i) vs b count h = tt
step_read cs user ps (statement.Update u) vs b count h = by u.target h
  where
    by : (t : ChangeTarget) → StepReads (update_kind (updating cs (caller_of user ps) u) t) (started_values ps vs) b count → CallReads (Some (update_kind (updating cs (caller_of user ps) u) t)) vs b count
    by (target.Searched t) k = k
    by (target.Positioned p) k = tt
step_read cs user ps (statement.Delete t) vs b count h = by t h
  where
    by : (t : ChangeTarget) → StepReads (delete_kind (caller_of user ps) t) (started_values ps vs) b count → CallReads (Some (delete_kind (caller_of user ps) t)) vs b count
    by (target.Searched t) k = k
    by (target.Positioned p) k = tt
step_read cs user ps statement.Commit vs b count h = tt
step_read cs user ps statement.Rollback vs b count h = tt

pub call_read : (cs : List DeclaredCursor) (user : Name) (ps : List ParameterDesc) (s : BoundStatement) (vs : List Value) (b : State) (o : Option Done) (count : ℕ)
    → IfSome o (λ d. StepReads (kind_of cs user ps s) (started_values ps vs) b count) → IfSome o (λ d. CallReads (Some (kind_of cs user ps s)) vs b count)
call_read cs user ps s vs b None count h = tt
call_read cs user ps s vs b (Some d) count h = step_read cs user ps s vs b count h

-- What is known of a call's reads holds of the reads that the reply tells.
pub told : (k : Option Kind) (vs : List Value) (b : State) (o : Option Done) (meter count : ℕ) (r : Result Reply AllocError) → IfSome o (λ d. CallReads k vs b meter) → count ≡ meter
    → IfOk r (λ reply. o ≡ Some (record { status = reply.status; outputs = reply.outputs })) → IfOk r (λ reply. reply.reads ≡ count) → IfOk r (λ reply. CallReads k vs b reply.reads)
told k vs b o meter count (Err e) read is ends reads = tt
told k vs b None meter count (Ok reply) read is ends reads = cc
told k vs b (Some d) meter count (Ok reply) read is ends reads = subst (CallReads k vs b) (sym (reads ∙ is)) read
