-- Laws of calls (ISO/IEC 9075:1992, 4.10, 4.28, 12.3, 14.3 and 14.4): what a call leaves as it was, and that
-- constraints hold after it.
use Rattle.std.proofs.Common.{ap, inl, inr, subst, sym, ◌∙◌}
use Rattle.std.proofs.lemmas.Bool.{cases_eq}
use Rattle.std.proofs.lemmas.List.{get_or-set_other}
use Rattle.std.specs.List.{AllByRecursion}
use Rattle.std.specs.Prelude.{◌≡◌, ◌≢◌, ◌⊎◌, ℕ, zero, suc, Bool, true, false, not, List, [], ◌∷◌, ◌++◌, map, if◌then◌else◌, slice_get, filter, flat_map, Option, unwrap_or, option_map, option_to_list, option_and_then, refl, Some, None, Ok, Err}
use Rattle.sq_lex.specs.declared.name.Name.{Name}
use Rattle.sq_value.specs.declared.value.Value.{Value}
use Rattle.sq_store.specs.Content.{Content, empty, table_at, with_table}
use Rattle.sq_store.specs.declared.table.Table.{Table}
use Rattle.sq_tree.specs.declared.module.Cursor.{Cursor}
use Rattle.sq_tree.specs.declared.module.ModuleText.{ModuleText}
use Rattle.sq_tree.specs.declared.module.Procedure.{Procedure}
use Rattle.sq_tree.specs.declared.statement.Delete.{Delete}
use Rattle.sq_tree.specs.declared.statement.Fetch.{Fetch}
use Rattle.sq_tree.specs.declared.statement.Insert.{Insert}
use Rattle.sq_tree.specs.declared.statement.Statement.{Statement}
use Rattle.sq_tree.specs.declared.statement.Statement.TheVariants as statement
use Rattle.sq_tree.specs.declared.statement.Update.{Update}
use Rattle.sq_tree.specs.declared.statement.Where.{Where}
use Rattle.sq_tree.specs.declared.statement.Where.TheVariants as rows_where
use Rattle.sq_meaning.specs.Environment.{Row, TableName}
use Rattle.sq_meaning.specs.Spelled.{table_of}
use Rattle.sq_meaning.specs.Status.{Outcome, each, well_formed}
use Rattle.sq_meaning.specs.Tables.{descriptor_of, rows_in}
use Rattle.sq_meaning.specs.Target.{Target, target_of}
use Rattle.sq_meaning.specs.declared.status.Status.TheVariants as status
use Rattle.sq_meaning.proofs.Bind.{bind_ok}
use Rattle.sq_meaning.proofs.DomainLaws.{Each, IsTyped, IsTypedRow, each_filtered, inserted_in, mapped, new_rows_in, replaced_in, unmapped, updated_rows_in}
use Rattle.sq_meaning.specs.Change.{Setting, Which, base_at, check_options_met, completed, completed_with, delete_outcome, given_rows, has_numbers, insert_outcome, insert_places, is_numbered, new_row, numbers_changed, rows_at, tables_in, update_outcome, updated_row, which_target, with_replaced, with_rows, without}
use Rattle.sq_meaning.specs.Constraints.{AllChecksHold, ChecksHold, ConstraintsHold, DomainsHold, EachTable, all_satisfied, constraints_checked, demanded, keys_satisfied, references_satisfied, row_satisfied, rows_of_base}
use Rattle.sq_meaning.specs.Cursor.{CursorState, fetched, is_open}
use Rattle.sq_meaning.specs.Machine.{Call, CursorEntry, Outcomes, Program, Running, State, all_closed, behind_delete, call_in, call_of, change_by, close_cursor, cursor_now, delete_rows, ends_with, fetch_cursor, fetch_to, move_of, moved, open_by, open_cursor, opened, outcome, performed, performed_if, replied, running, setting, shown_now, stepped, surroundings, update_rows, which_rows}
use Rattle.sq_meaning.specs.Module.{cursor_named, module_named, procedure_named}
use Rattle.sq_meaning.specs.Parameter.{replied_with}
use Rattle.sq_meaning.specs.Run.{after}
use Rattle.sq_meaning.specs.Schema.{BaseTable, Elements, base_place, base_tables}
use Rattle.sq_meaning.specs.WellFormedStatement.{is_well_formed_procedure, orientation_of, updatable_cursor}

-- ---- what a successful change is: a database with one base table changed, whose constraints were checked

pub record Checked (elements : Elements) (before behind : Content) : Type 0 where
  pub place : ℕ
  pub base : BaseTable
  pub changed : Table
  pub is_there : slice_get (base_tables elements) place ≡ Some base
  pub is_changed : behind ≡ with_table before place changed
  pub passed : constraints_checked elements base behind ≡ Ok tt
  pub typed : Each (IsTypedRow base) (table_at before place).rows → Each (IsTypedRow base) changed.rows

found : {A : Type 0} (o : Option A) (x : A) → well_formed o ≡ Ok x → o ≡ Some x
found None x e = cc
found (Some w) x e = let same : w ≡ x = cc in ap Some same

checked_with : (s : Setting) (t : BaseTable) (content after : Content) → completed_with s t content ≡ Ok after
    → (after ≡ content) × (constraints_checked s.elements t content ≡ Ok tt)
checked_with s t content after e =
    let b = bind_ok (constraints_checked s.elements t content) (λ _. Ok content) after e in
    (cc, b.1)

checked_completed : (s : Setting) (target : Target) (t : BaseTable) (rows : List Row) (changed : Table) (after : Content)
    → (Each (IsTypedRow t) (table_at s.content target.place).rows → Each (IsTypedRow t) changed.rows)
    → base_at s target.place ≡ Ok t → completed s target t rows changed ≡ Ok after → Checked s.elements s.content after
checked_completed s target t rows changed after typed there e =
    let b = bind_ok (check_options_met s target rows) (λ _. completed_with s t (with_table s.content target.place changed)) after e in
    let c = checked_with s t (with_table s.content target.place changed) after b.2 in
    record {
      place = target.place;
      base = t;
      changed = changed;
      is_there = found (slice_get (base_tables s.elements) target.place) t there;
      is_changed = c.0;
      passed = subst (λ (k : Content). constraints_checked s.elements t k ≡ Ok tt) (sym c.0) c.1;
      typed = typed;
    }

checked_insert : (s : Setting) (i : Insert) (after : Content) → insert_outcome s i ≡ Ok after → Checked s.elements s.content after
checked_insert s i after e =
    let d = bind_ok (descriptor_of (tables_in s) (table_of s.user i.table)) _ after e in
    let target = bind_ok (target_of (tables_in s) (table_of s.user i.table)) _ after d.2 in
    let t = bind_ok (base_at s (target.0).place) _ after target.2 in
    let given = bind_ok (given_rows s t.0 (insert_places d.0 target.0 i.columns) i.source) _ after t.2 in
    let rows = bind_ok (each (new_row s t.0) given.0) _ after given.2 in
    let numbers = bind_ok (demanded (has_numbers s (target.0).place rows.0) status.NoRowNumberLeft) _ after rows.2 in
    checked_completed s target.0 t.0 rows.0 (with_rows (table_at s.content (target.0).place) rows.0) after
    (λ h. inserted_in t.0 rows.0 (table_at s.content (target.0).place) h (new_rows_in s t.0 (insert_places d.0 target.0 i.columns) i.source given.0 rows.0 given.1 rows.1)) t.1 numbers.2

checked_update : (s : Setting) (u : Update) (which : Which) (after : Content) → update_outcome s u which ≡ Ok after → Checked s.elements s.content after
checked_update s u which after e =
    let d = bind_ok (descriptor_of (tables_in s) (table_of s.user u.table)) _ after e in
    let target = bind_ok (which_target s (table_of s.user u.table) which) _ after d.2 in
    let t = bind_ok (base_at s (target.0).place) _ after target.2 in
    let numbers = bind_ok (numbers_changed s target.0 which) _ after t.2 in
    let changed = bind_ok (each (updated_row s d.0 target.0 t.0 u) (filter (is_numbered numbers.0) (rows_at s (target.0).place))) _ after numbers.2 in
    checked_completed s target.0 t.0 (map (λ r. r.row) changed.0) (with_replaced (table_at s.content (target.0).place) changed.0) after
    (λ h. replaced_in t.0 changed.0 (rows_at s (target.0).place) (updated_rows_in s d.0 target.0 t.0 u (filter (is_numbered numbers.0) (rows_at s (target.0).place)) changed.0
    (each_filtered (IsTypedRow t.0) (is_numbered numbers.0) (rows_at s (target.0).place) h) changed.1) h) t.1 changed.2

checked_delete : (s : Setting) (x : Delete) (which : Which) (after : Content) → delete_outcome s x which ≡ Ok after → Checked s.elements s.content after
checked_delete s x which after e =
    let target = bind_ok (which_target s (table_of s.user x.table) which) _ after e in
    let t = bind_ok (base_at s (target.0).place) _ after target.2 in
    let numbers = bind_ok (numbers_changed s target.0 which) _ after t.2 in
    checked_completed s target.0 t.0 [] (without (table_at s.content (target.0).place) numbers.0) after
    (λ h. each_filtered (IsTypedRow t.0) (λ r. not (is_numbered numbers.0 r)) (rows_at s (target.0).place) h) t.1 numbers.2

-- ---- what becomes of the databases in a call

pub data Course (elements : Elements) (s : State) (o : Outcomes) : Type 0 where
  stays : (o.0).tables ≡ s.tables → (o.0).committed ≡ s.committed → Course elements s o
  changes : Checked elements s.tables (o.0).tables → (o.0).committed ≡ s.committed → (o.1).status ≡ status.SuccessfulCompletion → Course elements s o
  commits : (o.0).tables ≡ s.tables → (o.0).committed ≡ s.tables → Course elements s o
  rolls_back : (o.0).tables ≡ s.committed → (o.0).committed ≡ s.committed → (o.1).status ≡ status.SuccessfulCompletion → Course elements s o

kept_if : (elements : Elements) (s : State) (b : Bool) (x y : Outcomes) → Course elements s x → Course elements s y → Course elements s (if b then x else y)
kept_if elements s true x y k l = k
kept_if elements s false x y k l = l

kept_named : (r : Running) (o : Option Cursor) (f : Cursor → Outcomes) → ((c : Cursor) → Course r.program.elements r.state (f c))
    → Course r.program.elements r.state (unwrap_or (option_map f o) (ends_with r status.SyntaxErrorOrAccessRuleViolation))
kept_named r None f k = Course.stays refl refl
kept_named r (Some c) f k = k c

kept_open : (r : Running) (name : Name) (o : Outcome CursorState) → Course r.program.elements r.state (open_by r name o)
kept_open r name (Ok state) = Course.stays refl refl
kept_open r name (Err s) = Course.stays refl refl

abbrev Changes : Running → Outcome Content → Type 0
Changes r o = (after : Content) → o ≡ Ok after → Checked r.program.elements r.state.tables after

kept_change : (r : Running) (behind : State) (o : Outcome Content) → behind.committed ≡ r.state.committed → Changes r o → Course r.program.elements r.state (change_by r behind o)
kept_change r behind (Ok content) e h = Course.changes (h content refl) e refl
kept_change r behind (Err s) e h = Course.stays refl refl

changes_update : (r : Running) (u : Update) → Changes r (update_rows r u)
changes_update r u after e =
    let b = bind_ok (which_rows r u.target) (λ which. update_outcome (setting r) u which) after e in
    checked_update (setting r) u b.0 after b.2

changes_delete : (r : Running) (x : Delete) → Changes r (delete_rows r x)
changes_delete r x after e =
    let b = bind_ok (which_rows r x.target) (λ which. delete_outcome (setting r) x which) after e in
    checked_delete (setting r) x b.0 after b.2

behind_keeps_committed : (r : Running) (w : Option Where) → (behind_delete r w).committed ≡ r.state.committed
behind_keeps_committed r None = refl
behind_keeps_committed r (Some (rows_where.Condition c)) = refl
behind_keeps_committed r (Some (rows_where.CurrentOf cursor)) = refl

kept_opening : (r : Running) (name : Name) (c : Cursor) → Course r.program.elements r.state (open_cursor r name c)
kept_opening r name c = kept_if r.program.elements r.state (is_open (cursor_now r name)) (ends_with r status.InvalidCursorState) (open_by r name (opened r c)) (Course.stays refl refl) (kept_open r name (opened r c))

kept_fetch : (r : Running) (f : Fetch) (c : Cursor) → Course r.program.elements r.state (fetch_cursor r f c)
kept_fetch r f c =
    kept_if r.program.elements r.state (is_open (cursor_now r f.cursor))
    (fetch_to r f (fetched (shown_now r (updatable_cursor (surroundings r) c)) (move_of r.parameters (orientation_of f)) (cursor_now r f.cursor)))
    (ends_with r status.InvalidCursorState) (Course.stays refl refl) (Course.stays refl refl)

kept_close : (r : Running) (name : Name) → Course r.program.elements r.state (close_cursor r name)
kept_close r name =
    kept_if r.program.elements r.state (is_open (cursor_now r name)) (moved r name CursorState.closed, replied_with status.SuccessfulCompletion) (ends_with r status.InvalidCursorState) (Course.stays refl refl) (Course.stays refl refl)

kept_performed : (r : Running) (x : Statement) → Course r.program.elements r.state (performed r x)
kept_performed r (statement.Open name) = kept_named r (cursor_named r.in_module name) (open_cursor r name) (kept_opening r name)
kept_performed r (statement.Fetch f) = kept_named r (cursor_named r.in_module f.cursor) (fetch_cursor r f) (kept_fetch r f)
kept_performed r (statement.Close name) = kept_close r name
kept_performed r (statement.Select s) = Course.stays refl refl
kept_performed r (statement.Insert i) = kept_change r r.state (insert_outcome (setting r) i) refl (checked_insert (setting r) i)
kept_performed r (statement.Update u) = kept_change r r.state (update_rows r u) refl (changes_update r u)
kept_performed r (statement.Delete x) = kept_change r (behind_delete r x.target) (delete_rows r x) (behind_keeps_committed r x.target) (changes_delete r x)
kept_performed r (statement.Commit work) = Course.commits refl refl
kept_performed r (statement.Rollback work) = Course.rolls_back refl refl refl

kept_performed_if : (b : Bool) (r : Running) → Course r.program.elements r.state (performed_if b r)
kept_performed_if true r = kept_performed r r.procedure.statement
kept_performed_if false r = Course.stays refl refl

kept_procedure : (p : Program) (s : State) (values : List Value) (m : ModuleText) (o : Option Procedure) (otherwise : Outcomes)
    → Course p.elements s otherwise → Course p.elements s (unwrap_or (option_map (call_of p s values m) o) otherwise)
kept_procedure p s values m None otherwise k = k
kept_procedure p s values m (Some procedure) otherwise k = kept_performed_if (is_well_formed_procedure p.elements m procedure) (running p s values m procedure)

kept_module : (p : Program) (s : State) (c : Call) (o : Option ModuleText) (otherwise : Outcomes)
    → Course p.elements s otherwise → Course p.elements s (unwrap_or (option_and_then (call_in p s c) o) otherwise)
kept_module p s c None otherwise k = k
kept_module p s c (Some m) otherwise k = kept_procedure p s c.values m (procedure_named m c.procedure) otherwise k

-- the course that a call takes
course : (p : Program) (s : State) (c : Call) → Course p.elements s (outcome p s c)
course p s c = kept_module p s c (module_named p.modules c.in_module) (s, replied_with status.SyntaxErrorOrAccessRuleViolation) (Course.stays refl refl)

unless_successful : {elements : Elements} {s : State} {o : Outcomes} → Course elements s o → ¬ ((o.1).status ≡ status.SuccessfulCompletion) → (o.0).tables ≡ s.tables
unless_successful (Course.stays t k) failed = t
unless_successful (Course.changes t k ok) failed = absurd (failed ok)
unless_successful (Course.commits t k) failed = t
unless_successful (Course.rolls_back t k ok) failed = absurd (failed ok)

-- A call that is not successful changes no table, and no next number.
pub failed_changes_nothing : (p : Program) (s : State) (c : Call) → ¬ ((replied p s c).status ≡ status.SuccessfulCompletion) → (stepped p s c).tables ≡ s.tables
failed_changes_nothing p s c failed = unless_successful (course p s c) failed

-- A call of a procedure that is not well formed answers 42000 and changes nothing.
pub not_well_formed_changes_nothing : (p : Program) (s : State) (values : List Value) (m : ModuleText) (procedure : Procedure)
    → is_well_formed_procedure p.elements m procedure ≡ false
    → call_of p s values m procedure ≡ (s, replied_with status.SyntaxErrorOrAccessRuleViolation)
not_well_formed_changes_nothing p s values m procedure e = ap (λ b. performed_if b (running p s values m procedure)) e

-- ---- transactions

closed_entries : (cs : List CursorEntry) → AllByRecursion (λ c. c.state ≡ CursorState.closed) (all_closed cs)
closed_entries [] = tt
closed_entries (c ∷ cs) = (refl, closed_entries cs)

-- ROLLBACK leaves the committed tables, and closes every cursor; COMMIT closes every cursor, and commits the tables as
-- they are.
pub rollback_leaves_committed : (r : Running) (work : Bool) → ((performed r (statement.Rollback work)).0).tables ≡ r.state.committed
rollback_leaves_committed r work = refl

pub rollback_closes_all : (r : Running) (work : Bool) → AllByRecursion (λ c. c.state ≡ CursorState.closed) ((performed r (statement.Rollback work)).0).cursors
rollback_closes_all r work = closed_entries r.state.cursors

pub commit_commits : (r : Running) (work : Bool) → ((performed r (statement.Commit work)).0).committed ≡ r.state.tables
commit_commits r work = refl

pub commit_closes_all : (r : Running) (work : Bool) → AllByRecursion (λ c. c.state ≡ CursorState.closed) ((performed r (statement.Commit work)).0).cursors
commit_closes_all r work = closed_entries r.state.cursors

-- ---- constraints

-- no two base tables have one name, so that each is found by its own
abbrev pub NamesDiffer : Elements → Type 0
NamesDiffer elements = (place : ℕ) (t : BaseTable) → slice_get (base_tables elements) place ≡ Some t → base_place elements t.name ≡ Some place

abbrev rows_there : Content → Option ℕ → List Row
rows_there content place = flat_map (λ n. rows_in (table_at content n)) (option_to_list place)

-- the rows of a table are as they were, if another was changed
other_rows : (elements : Elements) (before : Content) (place n : ℕ) (changed : Table) (name : TableName) → base_place elements name ≡ Some n → n ≢ place
    → rows_of_base elements (with_table before place changed) name ≡ rows_of_base elements before name
other_rows elements before place n changed name e other =
    ap (rows_there (with_table before place changed)) e
    ∙ ap (λ t. rows_in t ++ []) (get_or-set_other before place n changed empty other)
    ∙ sym (ap (rows_there before) e)

-- what all of a list pass, each passes
each_passes : {A : Type 0} (test : A → Outcome (Unit {0})) (xs : List A) (n : ℕ) (x : A) → all_satisfied test xs ≡ Ok tt → slice_get xs n ≡ Some x → test x ≡ Ok tt
each_passes test [] n x all there = cc
each_passes test (y ∷ ys) zero x all there = let same : y ≡ x = cc in let first = bind_ok (test y) (λ _. all_satisfied test ys) tt all in ap test (sym same) ∙ first.1
each_passes test (y ∷ ys) (suc n) x all there = let first = bind_ok (test y) (λ _. all_satisfied test ys) tt all in each_passes test ys n x first.2 there

same_base : (o : Option BaseTable) (t u : BaseTable) → o ≡ Some t → o ≡ Some u → t ≡ u
same_base o t u e k = cc

-- the table that was changed
changed_holds : (elements : Elements) (behind : Content) (t : BaseTable) → constraints_checked elements t behind ≡ Ok tt
    → (all_satisfied (row_satisfied t) (rows_of_base elements behind t.name) ≡ Ok tt) × (keys_satisfied t (rows_of_base elements behind t.name) ≡ Ok tt) × (all_satisfied (references_satisfied elements behind) (base_tables elements) ≡ Ok tt)
changed_holds elements behind t e =
    let rows = bind_ok (all_satisfied (row_satisfied t) (rows_of_base elements behind t.name)) _ tt e in
    let keyed = bind_ok (keys_satisfied t (rows_of_base elements behind t.name)) _ tt rows.2 in
    (rows.1, keyed.1, keyed.2)

-- a table is the one that was changed, or its rows are as they were
hold_for : (elements : Elements) (before behind : Content) → NamesDiffer elements → AllChecksHold elements before → (c : Checked elements before behind)
    → (place : ℕ) (t : BaseTable) → slice_get (base_tables elements) place ≡ Some t → (place ≡ c.place) ⊎ (place ≡ c.place → ⊥) → ChecksHold elements behind t
hold_for elements before behind differ hold c place t there (inl same) =
    let passed = changed_holds elements behind c.base c.passed in
    let is_it : c.base ≡ t = same_base (slice_get (base_tables elements) c.place) c.base t c.is_there (subst (λ (n : ℕ). slice_get (base_tables elements) n ≡ Some t) same there) in (
      subst (λ (u : BaseTable). all_satisfied (row_satisfied u) (rows_of_base elements behind u.name) ≡ Ok tt) is_it passed.0,
      subst (λ (u : BaseTable). keys_satisfied u (rows_of_base elements behind u.name) ≡ Ok tt) is_it passed.1,
      each_passes (references_satisfied elements behind) (base_tables elements) place t passed.2 there,
    )
hold_for elements before behind differ hold c place t there (inr other) =
    let passed = changed_holds elements behind c.base c.passed in
    let was = hold place t there in
    let rows : rows_of_base elements behind t.name ≡ rows_of_base elements before t.name =
    ap (λ k. rows_of_base elements k t.name) c.is_changed ∙ other_rows elements before c.place place c.changed t.name (differ place t there) other in (
      ap (all_satisfied (row_satisfied t)) rows ∙ was.0,
      ap (keys_satisfied t) rows ∙ was.1,
      each_passes (references_satisfied elements behind) (base_tables elements) place t passed.2 there,
    )

checks_after : (elements : Elements) (before behind : Content) → NamesDiffer elements → AllChecksHold elements before → Checked elements before behind → AllChecksHold elements behind
checks_after elements before behind differ hold c place t there = hold_for elements before behind differ hold c place t there (cases_eq place c.place)

-- ---- domains

append_nothing : {A : Type 0} (xs : List A) → xs ++ [] ≡ xs
append_nothing [] = refl
append_nothing (x ∷ xs) = ap (λ ys. x ∷ ys) (append_nothing xs)

set_or_not : (ts : Content) (place : ℕ) (x : Table) → (table_at (with_table ts place x) place ≡ x) ⊎ (table_at (with_table ts place x) place ≡ table_at ts place)
set_or_not [] place x = inr refl
set_or_not (t ∷ ts) zero x = inl refl
set_or_not (t ∷ ts) (suc n) x = set_or_not ts n x

rows_at_place : (elements : Elements) (content : Content) (name : TableName) (place : ℕ) → base_place elements name ≡ Some place → rows_of_base elements content name ≡ rows_in (table_at content place)
rows_at_place elements content name place e = ap (rows_there content) e ∙ append_nothing (rows_in (table_at content place))

-- rows of a base table, as numbered rows and as rows
typed_rows : (elements : Elements) (content : Content) (t : BaseTable) (place : ℕ) → base_place elements t.name ≡ Some place → DomainsHold elements content t → Each (IsTypedRow t) (table_at content place).rows
typed_rows elements content t place e hold =
    unmapped (IsTyped t) (λ r. r.row) (table_at content place).rows (subst (λ (rows : List Row). Each (IsTyped t) rows) (rows_at_place elements content t.name place e) hold)

rows_typed : (elements : Elements) (content : Content) (t : BaseTable) (place : ℕ) → base_place elements t.name ≡ Some place → Each (IsTypedRow t) (table_at content place).rows → DomainsHold elements content t
rows_typed elements content t place e typed =
    subst (λ (rows : List Row). Each (IsTyped t) rows) (sym (rows_at_place elements content t.name place e)) (mapped (IsTyped t) (λ r. r.row) (table_at content place).rows typed)

typed_after : (t : BaseTable) (before : Content) (place : ℕ) (x : Table) → Each (IsTypedRow t) (table_at before place).rows → Each (IsTypedRow t) x.rows
    → Each (IsTypedRow t) (table_at (with_table before place x) place).rows
typed_after t before place x was now = split (set_or_not before place x)
  where
    split : (table_at (with_table before place x) place ≡ x) ⊎ (table_at (with_table before place x) place ≡ table_at before place) → Each (IsTypedRow t) (table_at (with_table before place x) place).rows
    split (inl e) = subst (λ (k : Table). Each (IsTypedRow t) k.rows) (sym e) now
    split (inr e) = subst (λ (k : Table). Each (IsTypedRow t) k.rows) (sym e) was

domains_changed : (elements : Elements) (before behind : Content) → NamesDiffer elements → EachTable elements (DomainsHold elements before) → (c : Checked elements before behind) → DomainsHold elements behind c.base
domains_changed elements before behind differ hold c =
    let e = differ c.place c.base c.is_there in
    let was = typed_rows elements before c.base c.place e (hold c.place c.base c.is_there) in
    let now = rows_typed elements (with_table before c.place c.changed) c.base c.place e (typed_after c.base before c.place c.changed was (c.typed was)) in
    subst (λ (k : Content). DomainsHold elements k c.base) (sym c.is_changed) now

domains_for : (elements : Elements) (before behind : Content) → NamesDiffer elements → EachTable elements (DomainsHold elements before) → (c : Checked elements before behind)
    → (place : ℕ) (t : BaseTable) → slice_get (base_tables elements) place ≡ Some t → (place ≡ c.place) ⊎ (place ≡ c.place → ⊥) → DomainsHold elements behind t
domains_for elements before behind differ hold c place t there (inl same) =
    let is_it : c.base ≡ t = same_base (slice_get (base_tables elements) c.place) c.base t c.is_there (subst (λ (n : ℕ). slice_get (base_tables elements) n ≡ Some t) same there) in
    subst (λ (u : BaseTable). DomainsHold elements behind u) is_it (domains_changed elements before behind differ hold c)
domains_for elements before behind differ hold c place t there (inr other) =
    let rows : rows_of_base elements behind t.name ≡ rows_of_base elements before t.name =
    ap (λ k. rows_of_base elements k t.name) c.is_changed ∙ other_rows elements before c.place place c.changed t.name (differ place t there) other in
    subst (λ (rs : List Row). Each (IsTyped t) rs) (sym rows) (hold place t there)

constraints_after : (elements : Elements) (before behind : Content) → NamesDiffer elements → ConstraintsHold elements before → Checked elements before behind → ConstraintsHold elements behind
constraints_after elements before behind differ hold c =
    (λ place t there. domains_for elements before behind differ hold.0 c place t there (cases_eq place c.place), checks_after elements before behind differ hold.1 c)

-- All constraints hold of the database now, and of the database at the last COMMIT.
abbrev pub StateHolds : Elements → State → Type 0
StateHolds elements s = ConstraintsHold elements s.tables × ConstraintsHold elements s.committed

moved_along : (elements : Elements) (k l : Content) → l ≡ k → ConstraintsHold elements k → ConstraintsHold elements l
moved_along elements k l e hold = subst (λ (c : Content). ConstraintsHold elements c) (sym e) hold

holds_along : (elements : Elements) (s : State) (o : Outcomes) → NamesDiffer elements → StateHolds elements s → Course elements s o → StateHolds elements o.0
holds_along elements s o differ hold (Course.stays t k) = (moved_along elements s.tables (o.0).tables t hold.0, moved_along elements s.committed (o.0).committed k hold.1)
holds_along elements s o differ hold (Course.changes c k ok) = (constraints_after elements s.tables (o.0).tables differ hold.0 c, moved_along elements s.committed (o.0).committed k hold.1)
holds_along elements s o differ hold (Course.commits t k) = (moved_along elements s.tables (o.0).tables t hold.0, moved_along elements s.tables (o.0).committed k hold.0)
holds_along elements s o differ hold (Course.rolls_back t k ok) = (moved_along elements s.committed (o.0).tables t hold.1, moved_along elements s.committed (o.0).committed k hold.1)

-- Where all constraints hold of both databases, they hold after each call.
pub constraints_hold_after : (p : Program) (s : State) (c : Call) → NamesDiffer p.elements → StateHolds p.elements s → StateHolds p.elements (stepped p s c)
constraints_hold_after p s c differ hold = holds_along p.elements s (outcome p s c) differ hold (course p s c)
