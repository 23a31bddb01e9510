-- What a statement makes of the machine's state (ISO/IEC 9075:1992, 13.2 to 13.10, 14.3 and 14.4): of
-- its tables, whose rows go on to stand by rising numbers, and of its cursors, of which it sets none
-- but the one that it names.
use Rattle.std.proofs.Common.{◌≡◌, ℕ, zero, suc, ◌+◌, ◌≤◌, Bool, true, false, not, ◌&&◌, List, [], ◌∷◌, filter, length, map, slice_set, Option, Some, None, refl, sym, ap, subst, ◌∙◌, arith, Ok, Err}
use Rattle.std.proofs.lemmas.Grind.{common_steps}
use Rattle.std.specs.Prelude.{⊤, if◌then◌else◌, nat_le, option_map, unwrap_or}
use Rattle.sq_lex.specs.declared.name.Name.{Name}
use Rattle.sq_store.proofs.Rises.{rising_push}
use Rattle.sq_store.specs.Content.{Content, inserted, table_at, with_table}
use Rattle.sq_store.specs.Rising.{has_rising_rows, rising_between}
use Rattle.sq_store.specs.declared.table.Numbered.{Numbered}
use Rattle.sq_store.specs.declared.table.Table.{Table}
use Rattle.sq_tree.specs.declared.«module».Cursor.{Cursor}
use Rattle.sq_tree.specs.declared.statement.Delete.{Delete}
use Rattle.sq_tree.specs.declared.statement.Insert.{Insert}
use Rattle.sq_tree.specs.declared.statement.Statement.{Statement}
use Rattle.sq_tree.specs.declared.statement.Statement.TheVariants as statement
use Rattle.sq_tree.specs.declared.statement.Update.{Update}
use Rattle.sq_tree.specs.declared.statement.Where.{Where}
use Rattle.sq_tree.specs.declared.statement.Where.TheVariants as rows_where
use Rattle.sq_meaning.specs.Environment.{Row}
use Rattle.sq_meaning.specs.Spelled.{table_of}
use Rattle.sq_meaning.specs.Status.{Outcome, each}
use Rattle.sq_meaning.specs.declared.status.Status.{Status}
use Rattle.sq_meaning.specs.Tables.{descriptor_of}
use Rattle.sq_meaning.specs.Target.{Target, target_of}
use Rattle.sq_meaning.specs.declared.status.Status.TheVariants as status
use Rattle.sq_meaning.specs.Module.{cursor_named}
use Rattle.sq_meaning.specs.Schema.{BaseTable}
use Rattle.sq_meaning.specs.WellFormedStatement.{orientation_of, updatable_cursor}
use Rattle.sq_meaning.proofs.Bind.{bind_ok}
use Rattle.sq_meaning.specs.Change.{Setting, Which, base_at, check_options_met, completed, completed_with, delete_outcome, given_rows, has_numbers, insert_outcome, insert_places, is_numbered, new_row, numbers_changed, replaced, rows_at, tables_in, update_outcome, updated_row, which_target, with_replaced, with_rows, without}
use Rattle.sq_meaning.specs.Constraints.{constraints_checked, demanded}
use Rattle.sq_meaning.specs.Cursor.{CursorState, fetched, is_open, off_row}
use Rattle.sq_meaning.specs.Machine.{Outcomes, Running, State, all_closed, behind_delete, change_by, cursor_now, delete_rows, ends_with, fetch_cursor, fetch_to, move_of, moved, open_by, open_cursor, opened, performed, set_cursor, setting, shown_now, surroundings, update_rows, which_rows}
use Rattle.sq_meaning.specs.Parameter.{Reply, replied_with}
use Rattle.sq_run.proofs.Steps.UpdateSame.{number_kept}

-- ---- rows that stand by rising numbers

rising_lower : (low lower : ℕ) (rs : List Numbered) (next : ℕ) → lower ≤ low → rising_between low rs next ≡ true
    → rising_between lower rs next ≡ true
rising_lower low lower [] next le h = grind (arith, common_steps)
rising_lower low lower (r ∷ rs) next le h = grind (arith, common_steps)

rising_filtered : (test : Numbered → Bool) (low : ℕ) (rs : List Numbered) (next : ℕ) → rising_between low rs next ≡ true
    → rising_between low (filter test rs) next ≡ true
rising_filtered test low [] next h = h
rising_filtered test low (r ∷ rs) next h =
    let rest : rising_between (r.number + 1) (filter test rs) next ≡ true = rising_filtered test (r.number + 1) rs next (grind (arith, common_steps)) in
    grind (arith, common_steps, rising_lower (r.number + 1) low (filter test rs) next)

rising_mapped : (f : Numbered → Numbered) → ((r : Numbered) → (f r).number ≡ r.number) → (low : ℕ) (rs : List Numbered) (next : ℕ)
    → rising_between low (map f rs) next ≡ rising_between low rs next
rising_mapped f h low [] next = refl
rising_mapped f h low (r ∷ rs) next =
    (λ i. nat_le low (h r i) && rising_between (h r i + 1) (map f rs) next) ∙ ap (λ b. nat_le low r.number && b) (rising_mapped f h (r.number + 1) rs next)

rising_inserted : (rows : List Row) (t : Table) → has_rising_rows t ≡ true → has_rising_rows (with_rows t rows) ≡ true
rising_inserted [] t h = h
rising_inserted (row ∷ rows) t h = rising_inserted rows (inserted t row) (rising_push 1 t.rows t.next row h)

-- ---- what a change comes to

-- one table changes, and its rows go on to stand by rising numbers
pub record IsChanged (before after : Content) : Type 0 where
  pub place : ℕ
  pub changed : Table
  pub is : after ≡ with_table before place changed
  pub rises : has_rising_rows (table_at before place) ≡ true → has_rising_rows changed ≡ true

completed_is : (s : Setting) (target : Target) (t : BaseTable) (rows : List Row) (changed : Table) (after : Content)
    → (has_rising_rows (table_at s.content target.place) ≡ true → has_rising_rows changed ≡ true)
    → completed s target t rows changed ≡ Ok after → IsChanged s.content after
completed_is s target t rows changed after rises e =
    let b = bind_ok (check_options_met s target rows) (λ _. completed_with s t (with_table s.content target.place changed)) after e in
    let d = bind_ok (constraints_checked s.elements t (with_table s.content target.place changed)) (λ _. Ok (with_table s.content target.place changed)) after b.2 in
    record { place = target.place; changed = changed; is = cc d.2; rises = rises }

insert_is : (s : Setting) (i : Insert) (after : Content) → insert_outcome s i ≡ Ok after → IsChanged s.content after
insert_is s i after e =
    let d = bind_ok (descriptor_of (tables_in s) (table_of s.user i.table)) _ after e in
    let target = bind_ok (target_of (tables_in s) (table_of s.user i.table)) _ after d.2 in
    let t = bind_ok (base_at s (target.0).place) _ after target.2 in
    let given = bind_ok (given_rows s t.0 (insert_places d.0 target.0 i.columns) i.source) _ after t.2 in
    let rows = bind_ok (each (new_row s t.0) given.0) _ after given.2 in
    let numbers = bind_ok (demanded (has_numbers s (target.0).place rows.0) status.NoRowNumberLeft) _ after rows.2 in
    completed_is s target.0 t.0 rows.0 (with_rows (table_at s.content (target.0).place) rows.0) after
    (rising_inserted rows.0 (table_at s.content (target.0).place)) numbers.2

update_is : (s : Setting) (u : Update) (which : Which) (after : Content) → update_outcome s u which ≡ Ok after → IsChanged s.content after
update_is s u which after e =
    let d = bind_ok (descriptor_of (tables_in s) (table_of s.user u.table)) _ after e in
    let target = bind_ok (which_target s (table_of s.user u.table) which) _ after d.2 in
    let t = bind_ok (base_at s (target.0).place) _ after target.2 in
    let numbers = bind_ok (numbers_changed s target.0 which) _ after t.2 in
    let changed = bind_ok (each (updated_row s d.0 target.0 t.0 u) (filter (is_numbered numbers.0) (rows_at s (target.0).place))) _ after numbers.2 in
    completed_is s target.0 t.0 (map (λ r. r.row) changed.0) (with_replaced (table_at s.content (target.0).place) changed.0) after
    (λ h. rising_mapped (replaced changed.0) (number_kept changed.0) 1 (table_at s.content (target.0).place).rows (table_at s.content (target.0).place).next ∙ h) changed.2

delete_is : (s : Setting) (x : Delete) (which : Which) (after : Content) → delete_outcome s x which ≡ Ok after → IsChanged s.content after
delete_is s x which after e =
    let target = bind_ok (which_target s (table_of s.user x.table) which) _ after e in
    let t = bind_ok (base_at s (target.0).place) _ after target.2 in
    let numbers = bind_ok (numbers_changed s target.0 which) _ after t.2 in
    completed_is s target.0 t.0 [] (without (table_at s.content (target.0).place) numbers.0) after
    (rising_filtered (λ r. not (is_numbered numbers.0 r)) 1 (table_at s.content (target.0).place).rows (table_at s.content (target.0).place).next) numbers.2

-- ---- the tables of a state

-- those now and those that are committed stay, or one of those now changes, or both
-- become the one or the other
pub data Move (x y : State) : Type 0 where
  stays : y.tables ≡ x.tables → y.committed ≡ x.committed → Move x y
  changes : IsChanged x.tables y.tables → y.committed ≡ x.committed → Move x y
  commits : y.tables ≡ x.tables → y.committed ≡ x.tables → Move x y
  rolls_back : y.tables ≡ x.committed → y.committed ≡ x.committed → Move x y

-- what changes keep of tables is kept of both
pub kept_of_both : (P : Content → Type 0) → ((before after : Content) → IsChanged before after → P before → P after) → (x y : State) → Move x y
    → P x.tables × P x.committed → P y.tables × P y.committed
kept_of_both P keep x y (Move.stays t k) h = (subst P (sym t) h.0, subst P (sym k) h.1)
kept_of_both P keep x y (Move.changes c k) h = (keep x.tables y.tables c h.0, subst P (sym k) h.1)
kept_of_both P keep x y (Move.commits t k) h = (subst P (sym t) h.0, subst P (sym k) h.0)
kept_of_both P keep x y (Move.rolls_back t k) h = (subst P (sym t) h.1, subst P (sym k) h.1)

-- there are as many tables
set_length : (content : Content) (place : ℕ) (t : Table) → length (slice_set content place t) ≡ length content
set_length [] place t = refl
set_length (x ∷ content) zero t = refl
set_length (x ∷ content) (suc place) t = ap suc (set_length content place t)

abbrev pub HaveCount : ℕ → Content → Type 0
HaveCount n content = length content ≡ n

pub count_kept : (n : ℕ) (before after : Content) → IsChanged before after → HaveCount n before → HaveCount n after
count_kept n before after c h = ap length c.is ∙ set_length before c.place c.changed ∙ h

-- The rows of each table stand in the order of rising numbers.
abbrev pub AllRise : Content → Type 0
AllRise content = (place : ℕ) → has_rising_rows (table_at content place) ≡ true

set_rises : (content : Content) (place : ℕ) (t : Table) → (has_rising_rows (table_at content place) ≡ true → has_rising_rows t ≡ true) → AllRise content
    → AllRise (slice_set content place t)
set_rises [] place t h all k = all k
set_rises (x ∷ content) zero t h all zero = h (all zero)
set_rises (x ∷ content) zero t h all (suc k) = all (suc k)
set_rises (x ∷ content) (suc place) t h all zero = all zero
set_rises (x ∷ content) (suc place) t h all (suc k) = set_rises content place t h (λ n. all (suc n)) k

pub rise_kept : (before after : Content) → IsChanged before after → AllRise before → AllRise after
rise_kept before after c h = subst AllRise (sym c.is) (set_rises before c.place c.changed c.rises h)

-- ---- its cursors

-- all stay; or the one of this name and no other is set; or all are closed
pub data Turn (in_module : Name) (Named : Name → Type 0) (x y : State) : Type 0 where
  stays : y.cursors ≡ x.cursors → Turn in_module Named x y
  sets : (name : Name) (c : CursorState) → Named name → y.cursors ≡ map (set_cursor in_module name c) x.cursors → Turn in_module Named x y
  closes : y.cursors ≡ all_closed x.cursors → Turn in_module Named x y

-- ---- a statement

abbrev pub Changes : Running → Outcome Content → Type 0
Changes r o = (after : Content) → o ≡ Ok after → IsChanged r.state.tables after

abbrev pub InWhere : (Name → Type 0) → Option Where → Type 0
InWhere Named (Some (rows_where.CurrentOf cursor)) = Named cursor
InWhere Named _ = ⊤

-- A statement names only cursors of which P holds.
abbrev pub NamesOnly : (Name → Type 0) → Statement → Type 0
NamesOnly Named (statement.Open name) = Named name
NamesOnly Named (statement.Fetch f) = Named f.cursor
NamesOnly Named (statement.Close name) = Named name
NamesOnly Named (statement.Delete x) = InWhere Named x.target
NamesOnly Named _ = ⊤

module _ (Named : Name → Type 0) (r : Running) where
  abbrev pub Goes : Outcomes → Type 0
  Goes o = Move r.state o.0 × Turn r.in_module.name Named r.state o.0

  ends : (s : Status) → Goes (ends_with r s)
  ends s = (Move.stays refl refl, Turn.stays refl)

  goes_if : (b : Bool) (x y : Outcomes) → Goes x → Goes y → Goes (if b then x else y)
  goes_if true x y g h = g
  goes_if false x y g h = h

  goes_named : (name : Name) (f : Cursor → Outcomes) → ((c : Cursor) → Goes (f c))
      → Goes (unwrap_or (option_map f (cursor_named r.in_module name)) (ends_with r status.SyntaxErrorOrAccessRuleViolation))
  goes_named name f h = by_found (cursor_named r.in_module name)
    where
      by_found : (o : Option Cursor) → Goes (unwrap_or (option_map f o) (ends_with r status.SyntaxErrorOrAccessRuleViolation))
      by_found None = ends status.SyntaxErrorOrAccessRuleViolation
      by_found (Some c) = h c

  goes_moved : (name : Name) (c : CursorState) (reply : Reply) → Named name → Goes (moved r name c, reply)
  goes_moved name c reply named = (Move.stays refl refl, Turn.sets name c named refl)

  goes_open : (name : Name) → Named name → (o : Outcome CursorState) → Goes (open_by r name o)
  goes_open name named (Ok c) = goes_moved name c (replied_with status.SuccessfulCompletion) named
  goes_open name named (Err s) = ends s

  goes_change : (behind : State) (o : Outcome Content) → behind.committed ≡ r.state.committed → Turn r.in_module.name Named r.state behind
      → Changes r o → Goes (change_by r behind o)
  goes_change behind (Ok content) e turn h = (Move.changes (h content refl) e, with_tables turn)
    where
      with_tables : Turn r.in_module.name Named r.state behind → Turn r.in_module.name Named r.state (record behind { tables = content })
      with_tables (Turn.stays e) = Turn.stays e
      with_tables (Turn.sets name c named e) = Turn.sets name c named e
      with_tables (Turn.closes e) = Turn.closes e
  goes_change behind (Err s) e turn h = ends s

  changed_update : (u : Update) → Changes r (update_rows r u)
  changed_update u after e =
      let b = bind_ok (which_rows r u.target) (λ which. update_outcome (setting r) u which) after e in update_is (setting r) u b.0 after b.2

  changed_delete : (x : Delete) → Changes r (delete_rows r x)
  changed_delete x after e =
      let b = bind_ok (which_rows r x.target) (λ which. delete_outcome (setting r) x which) after e in delete_is (setting r) x b.0 after b.2

  goes_delete : (x : Delete) (w : Option Where) → InWhere Named w → Goes (change_by r (behind_delete r w) (delete_rows r x))
  goes_delete x None named = goes_change r.state (delete_rows r x) refl (Turn.stays refl) (changed_delete x)
  goes_delete x (Some (rows_where.Condition c)) named = goes_change r.state (delete_rows r x) refl (Turn.stays refl) (changed_delete x)
  goes_delete x (Some (rows_where.CurrentOf cursor)) named =
      goes_change (moved r cursor (off_row (cursor_now r cursor))) (delete_rows r x) refl
      (Turn.sets cursor (off_row (cursor_now r cursor)) named refl) (changed_delete x)

  -- So it is of each statement.
  pub performed_goes : (s : Statement) → NamesOnly Named s → Goes (performed r s)
  performed_goes (statement.Open name) named =
      goes_named name (open_cursor r name)
      (λ c. goes_if (is_open (cursor_now r name)) (ends_with r status.InvalidCursorState) (open_by r name (opened r c)) (ends status.InvalidCursorState) (goes_open name named (opened r c)))
  performed_goes (statement.Fetch f) named =
      goes_named f.cursor (fetch_cursor r f)
      (λ c. goes_if (is_open (cursor_now r f.cursor))
      (fetch_to r f (fetched (shown_now r (updatable_cursor (surroundings r) c)) (move_of r.parameters (orientation_of f)) (cursor_now r f.cursor)))
      (ends_with r status.InvalidCursorState)
      (Move.stays refl refl, Turn.sets f.cursor (fetched (shown_now r (updatable_cursor (surroundings r) c)) (move_of r.parameters (orientation_of f)) (cursor_now r f.cursor)).cursor named refl)
      (ends status.InvalidCursorState))
  performed_goes (statement.Close name) named =
      goes_if (is_open (cursor_now r name)) (moved r name CursorState.closed, replied_with status.SuccessfulCompletion) (ends_with r status.InvalidCursorState)
      (goes_moved name CursorState.closed (replied_with status.SuccessfulCompletion) named) (ends status.InvalidCursorState)
  performed_goes (statement.Select s) named = (Move.stays refl refl, Turn.stays refl)
  performed_goes (statement.Insert i) named = goes_change r.state (insert_outcome (setting r) i) refl (Turn.stays refl) (insert_is (setting r) i)
  performed_goes (statement.Update u) named = goes_change r.state (update_rows r u) refl (Turn.stays refl) (changed_update u)
  performed_goes (statement.Delete x) named = goes_delete x x.target named
  performed_goes (statement.Commit work) named = (Move.commits refl refl, Turn.closes refl)
  performed_goes (statement.Rollback work) named = (Move.rolls_back refl refl, Turn.closes refl)
