-- A law of FETCH said of whole calls (ISO/IEC 9075:1992, 13.3): with no change between, calls that fetch from a cursor over
-- row numbers answer the rows under them in order, and then no data for ever.
use Rattle.std.proofs.Common.{ap, cond, sym, ◌∙◌}
use Rattle.std.specs.List.{AllByRecursion}
use Rattle.std.specs.Prelude.{◌≡◌, ℕ, zero, suc, Bool, true, false, List, [], ◌∷◌, ◌++◌, map, replicate, if◌then◌else◌, find, Option, unwrap_or, option_map, option_and_then, refl, Some, None}
use Rattle.sq_lex.specs.declared.name.Name.{Name}
use Rattle.sq_tree.specs.declared.«module».Cursor.{Cursor}
use Rattle.sq_tree.specs.declared.«module».ModuleText.{ModuleText}
use Rattle.sq_tree.specs.declared.«module».Procedure.{Procedure}
use Rattle.sq_tree.specs.declared.statement.Fetch.{Fetch}
use Rattle.sq_tree.specs.declared.statement.Statement.TheVariants as statement
use Rattle.sq_meaning.specs.Environment.{Row}
use Rattle.sq_meaning.specs.Spelled.{listed}
use Rattle.sq_meaning.specs.declared.status.Status.TheVariants as status
use Rattle.sq_run.proofs.Laws.CursorLaws.{and_more}
use Rattle.sq_meaning.specs.Cursor.{CursorState, at_number, fetched, is_open, to_next}
use Rattle.sq_meaning.specs.Machine.{Call, CursorEntry, Outcomes, Program, Running, State, call_in, call_of, cursor_now, ends_with, fetch_cursor, fetch_to, is_entry, move_of, moved, outcome, performed, performed_if, replied, running, set_cursor, shown_now, stepped, surroundings}
use Rattle.sq_meaning.specs.Module.{cursor_named, declared_parameters, module_named, procedure_named}
use Rattle.sq_meaning.specs.Parameter.{Reply, replied_row, replied_with, started_parameters}
use Rattle.sq_meaning.specs.WellFormedStatement.{is_well_formed_procedure, orientation_of, updatable_cursor}

-- ---- a cursor that was there is as it was set

abbrev state_in : Option CursorEntry → CursorState
state_in found = unwrap_or (option_map (λ c. c.state) found) CursorState.closed

pub set_stays : (cs : List CursorEntry) (text name : Name) (x old : CursorState) → state_in (find (is_entry text name) cs) ≡ old → is_open old ≡ true
    → state_in (find (is_entry text name) (map (set_cursor text name x) cs)) ≡ x
set_stays [] text name x old e there = let never : false ≡ true = ap is_open e ∙ there in cc
set_stays (c ∷ cs) text name x old e there = split (λ same. set_stays cs text name x old same there) (is_entry text name c) refl
  where
    split : (state_in (find (is_entry text name) cs) ≡ old → state_in (find (is_entry text name) (map (set_cursor text name x) cs)) ≡ x) → (b : Bool) → is_entry text name c ≡ b
        → state_in (cond (is_entry text name (if b then record c { state = x } else c)) (Some (if b then record c { state = x } else c)) (find (is_entry text name) (map (set_cursor text name x) cs))) ≡ x
    split further true h = ap (λ (t : Bool). state_in (cond t (Some (record c { state = x })) (find (is_entry text name) (map (set_cursor text name x) cs)))) h
    split further false h =
        ap (λ (t : Bool). state_in (cond t (Some c) (find (is_entry text name) (map (set_cursor text name x) cs)))) h
        ∙ further (sym (ap (λ (t : Bool). state_in (cond t (Some c) (find (is_entry text name) cs))) h) ∙ e)

-- ---- one FETCH

abbrev now_of : Running → Cursor → ℕ → Option Row
now_of r c = shown_now r (updatable_cursor (surroundings r) c)

over_numbers_fetched : (r : Running) (f : Fetch) (c : Cursor) (numbers : List ℕ) (on : Option ℕ) → cursor_named r.in_module f.cursor ≡ Some c
    → cursor_now r f.cursor ≡ CursorState.over_numbers numbers on → performed r (statement.Fetch f) ≡ fetch_to r f (to_next (now_of r c) numbers)
over_numbers_fetched r f c numbers on named at =
    ap (λ (o : Option Cursor). unwrap_or (option_map (fetch_cursor r f) o) (ends_with r status.SyntaxErrorOrAccessRuleViolation)) named
    ∙ ap (λ (x : CursorState). if is_open x then fetch_to r f (fetched (now_of r c) (move_of r.parameters (orientation_of f)) x) else ends_with r status.InvalidCursorState) at

next_fetched : (r : Running) (f : Fetch) (c : Cursor) (n : ℕ) (numbers : List ℕ) (on : Option ℕ) (row : Row) → cursor_named r.in_module f.cursor ≡ Some c
    → cursor_now r f.cursor ≡ CursorState.over_numbers (n ∷ numbers) on → now_of r c n ≡ Some row
    → performed r (statement.Fetch f) ≡ fetch_to r f (record { cursor = CursorState.over_numbers numbers (Some n); row = Some row })
next_fetched r f c n numbers on row named at there =
    over_numbers_fetched r f c (n ∷ numbers) on named at ∙ ap (λ (o : Option Row). fetch_to r f (at_number numbers n (to_next (now_of r c) numbers) o)) there

-- ---- one after the other

abbrev pub fetch_replies : Running → Fetch → ℕ → List Reply
fetch_replies r f zero = []
fetch_replies r f (suc times) = (performed r (statement.Fetch f)).1 ∷ fetch_replies (record r { state = (performed r (statement.Fetch f)).0 }) f times

-- the statement goes on from the state that the FETCH before left
abbrev gone_on : Running → Fetch → CursorState → Running
gone_on r f x = record r { state = moved r f.cursor x }

at_set : (r : Running) (f : Fetch) (numbers : List ℕ) (on : Option ℕ) (x : CursorState) → cursor_now r f.cursor ≡ CursorState.over_numbers numbers on → cursor_now (gone_on r f x) f.cursor ≡ x
at_set r f numbers on x at = set_stays r.state.cursors r.in_module.name f.cursor x (CursorState.over_numbers numbers on) at refl

none_for_ever : (r : Running) (f : Fetch) (c : Cursor) (on : Option ℕ) (more : ℕ) → cursor_named r.in_module f.cursor ≡ Some c
    → cursor_now r f.cursor ≡ CursorState.over_numbers [] on → fetch_replies r f more ≡ replicate more (replied_with status.NoData)
none_for_ever r f c on zero named at = refl
none_for_ever r f c on (suc more) named at =
    ap (λ (o : Outcomes). o.1 ∷ fetch_replies (record r { state = o.0 }) f more) (over_numbers_fetched r f c [] on named at)
    ∙ ap (λ (rest : List Reply). replied_with status.NoData ∷ rest)
    (none_for_ever (gone_on r f (CursorState.over_numbers [] None)) f c None more named (at_set r f [] on (CursorState.over_numbers [] None) at))

rows_then_none : (r : Running) (f : Fetch) (c : Cursor) (rows_of : ℕ → Row) (numbers : List ℕ) (on : Option ℕ) (more : ℕ) → cursor_named r.in_module f.cursor ≡ Some c
    → cursor_now r f.cursor ≡ CursorState.over_numbers numbers on → AllByRecursion (λ n. now_of r c n ≡ Some (rows_of n)) numbers
    → fetch_replies r f (and_more numbers more) ≡ map (λ n. replied_row r.parameters (listed f.targets) (rows_of n)) numbers ++ replicate more (replied_with status.NoData)
rows_then_none r f c rows_of [] on more named at there = none_for_ever r f c on more named at
rows_then_none r f c rows_of (n ∷ numbers) on more named at there =
    ap (λ (o : Outcomes). o.1 ∷ fetch_replies (record r { state = o.0 }) f (and_more numbers more)) (next_fetched r f c n numbers on (rows_of n) named at there.0)
    ∙ ap (λ (rest : List Reply). replied_row r.parameters (listed f.targets) (rows_of n) ∷ rest)
    (rows_then_none (gone_on r f (CursorState.over_numbers numbers (Some n))) f c rows_of numbers (Some n) more named
    (at_set r f (n ∷ numbers) on (CursorState.over_numbers numbers (Some n)) at) there.1)

-- ---- calls

-- a call whose procedure fetches from a cursor, and is well formed
pub record Fetches (p : Program) (call : Call) : Type 0 where
  pub text : ModuleText
  pub procedure : Procedure
  pub fetch : Fetch
  pub cursor : Cursor
  pub text_is : module_named p.modules call.in_module ≡ Some text
  pub procedure_is : procedure_named text call.procedure ≡ Some procedure
  pub statement_is : procedure.statement ≡ statement.Fetch fetch
  pub is_sound : is_well_formed_procedure p.elements text procedure ≡ true
  pub cursor_is : cursor_named text fetch.cursor ≡ Some cursor

abbrev pub at_call : (p : Program) (s : State) (call : Call) → Fetches p call → Running
at_call p s call is = running p s call.values is.text is.procedure

call_performed : (p : Program) (s : State) (call : Call) (is : Fetches p call) → outcome p s call ≡ performed (at_call p s call is) (statement.Fetch is.fetch)
call_performed p s call is =
    ap (λ (o : Option ModuleText). unwrap_or (option_and_then (call_in p s call) o) (s, replied_with status.SyntaxErrorOrAccessRuleViolation)) is.text_is
    ∙ ap (λ (o : Option Procedure). unwrap_or (option_map (call_of p s call.values is.text) o) (s, replied_with status.SyntaxErrorOrAccessRuleViolation)) is.procedure_is
    ∙ ap (λ (b : Bool). performed_if b (at_call p s call is)) is.is_sound
    ∙ ap (performed (at_call p s call is)) is.statement_is

-- what one call again and again answers
abbrev pub replies : Program → Call → ℕ → State → List Reply
replies p call zero s = []
replies p call (suc times) s = replied p s call ∷ replies p call times (stepped p s call)

calls_fetch : (p : Program) (call : Call) (is : Fetches p call) (times : ℕ) (s : State) → replies p call times s ≡ fetch_replies (at_call p s call is) is.fetch times
calls_fetch p call is zero s = refl
calls_fetch p call is (suc times) s =
    ap (λ (o : Outcomes). o.1 ∷ replies p call times o.0) (call_performed p s call is)
    ∙ ap (λ (rest : List Reply). (performed (at_call p s call is) (statement.Fetch is.fetch)).1 ∷ rest)
    (calls_fetch p call is times (performed (at_call p s call is) (statement.Fetch is.fetch)).0)

-- Calls of a procedure that fetches answer the rows under the cursor's numbers in order, and then no data for ever.
pub fetches_in_order : (p : Program) (s : State) (call : Call) (is : Fetches p call) (rows_of : ℕ → Row) (numbers : List ℕ) (on : Option ℕ) (more : ℕ)
    → cursor_now (at_call p s call is) is.fetch.cursor ≡ CursorState.over_numbers numbers on
    → AllByRecursion (λ n. shown_now (at_call p s call is) (updatable_cursor (surroundings (at_call p s call is)) is.cursor) n ≡ Some (rows_of n)) numbers
    → replies p call (and_more numbers more) s
    ≡ map (λ n. replied_row (started_parameters (declared_parameters is.procedure) call.values) (listed is.fetch.targets) (rows_of n)) numbers ++ replicate more (replied_with status.NoData)
fetches_in_order p s call is rows_of numbers on more at there =
    calls_fetch p call is (and_more numbers more) s ∙ rows_then_none (at_call p s call is) is.fetch is.cursor rows_of numbers on more is.cursor_is at there
