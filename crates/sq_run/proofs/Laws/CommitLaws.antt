-- What is committed changes by COMMIT alone (ISO/IEC 9075:1992, 4.28, 14.3 and 14.4).
use Rattle.std.specs.Prelude.{◌≡◌, Bool, true, false, if◌then◌else◌, Option, unwrap_or, option_map, option_and_then, refl, Some, None, Ok, Err}
use Rattle.sq_lex.specs.declared.name.Name.{Name}
use Rattle.sq_store.specs.Content.{Content}
use Rattle.sq_tree.specs.declared.module.Cursor.{Cursor}
use Rattle.sq_tree.specs.declared.module.ModuleText.{ModuleText}
use Rattle.sq_tree.specs.declared.module.Procedure.{Procedure}
use Rattle.sq_tree.specs.declared.statement.Statement.{Statement}
use Rattle.sq_tree.specs.declared.statement.Statement.TheVariants as statement
use Rattle.sq_tree.specs.declared.statement.Where.{Where}
use Rattle.sq_tree.specs.declared.statement.Where.TheVariants as rows_where
use Rattle.sq_meaning.specs.Status.{Outcome}
use Rattle.sq_meaning.specs.declared.status.Status.TheVariants as status
use Rattle.sq_meaning.specs.Change.{insert_outcome}
use Rattle.sq_meaning.specs.Cursor.{CursorState, fetched, is_open}
use Rattle.sq_meaning.specs.Machine.{Call, Outcomes, Program, Running, State, behind_delete, call_in, call_of, change_by, cursor_now, delete_rows, ends_with, fetch_cursor, fetch_to, move_of, moved, open_by, open_cursor, opened, performed, performed_if, running, setting, shown_now, surroundings, update_rows}
use Rattle.sq_meaning.specs.Module.{cursor_named, module_named, procedure_named}
use Rattle.sq_meaning.specs.Parameter.{replied_with}
use Rattle.sq_meaning.specs.Schema.{Elements}
use Rattle.sq_meaning.specs.WellFormedStatement.{Surroundings, is_well_formed_procedure, orientation_of, surroundings_of, updatable_cursor}
use Rattle.sq_meaning.specs.Words.{is_some_and}
use Rattle.sq_run.specs.Committed.{CommitAloneCommits, is_commit}

-- what is committed stays
abbrev Stays : State → Outcomes → Type 0
Stays s o = (o.0).committed ≡ s.committed

stays_if : (s : State) (b : Bool) (x y : Outcomes) → Stays s x → Stays s y → Stays s (if b then x else y)
stays_if s true x y h k = h
stays_if s false x y h k = k

stays_named : (r : Running) (o : Option Cursor) (f : Cursor → Outcomes) → ((c : Cursor) → Stays r.state (f c))
    → Stays r.state (unwrap_or (option_map f o) (ends_with r status.SyntaxErrorOrAccessRuleViolation))
stays_named r None f h = refl
stays_named r (Some c) f h = h c

stays_open : (r : Running) (name : Name) (o : Outcome CursorState) → Stays r.state (open_by r name o)
stays_open r name (Ok c) = refl
stays_open r name (Err s) = refl

stays_change : (r : Running) (behind : State) (o : Outcome Content) → behind.committed ≡ r.state.committed
    → Stays r.state (change_by r behind o)
stays_change r behind (Ok content) e = e
stays_change r behind (Err s) e = refl

stays_behind : (r : Running) (w : Option Where) → (behind_delete r w).committed ≡ r.state.committed
stays_behind r None = refl
stays_behind r (Some (rows_where.Condition c)) = refl
stays_behind r (Some (rows_where.CurrentOf cursor)) = refl

abbrev Commits : Bool → State → Outcomes → Type 0
Commits b s o = (o.0).committed ≡ (if b then s.tables else s.committed)

of_statement : (r : Running) (x : Statement) → Commits (is_commit x) r.state (performed r x)
of_statement r (statement.Open name) =
    stays_named r (cursor_named r.in_module name) (open_cursor r name)
    (λ c. stays_if r.state (is_open (cursor_now r name)) (ends_with r status.InvalidCursorState) (open_by r name (opened r c)) refl (stays_open r name (opened r c)))
of_statement r (statement.Fetch f) =
    stays_named r (cursor_named r.in_module f.cursor) (fetch_cursor r f)
    (λ c. stays_if r.state (is_open (cursor_now r f.cursor))
    (fetch_to r f (fetched (shown_now r (updatable_cursor (surroundings r) c)) (move_of r.parameters (orientation_of f)) (cursor_now r f.cursor)))
    (ends_with r status.InvalidCursorState) refl refl)
of_statement r (statement.Close name) =
    stays_if r.state (is_open (cursor_now r name)) (moved r name CursorState.closed, replied_with status.SuccessfulCompletion) (ends_with r status.InvalidCursorState) refl refl
of_statement r (statement.Select s) = refl
of_statement r (statement.Insert i) = stays_change r r.state (insert_outcome (setting r) i) refl
of_statement r (statement.Update u) = stays_change r r.state (update_rows r u) refl
of_statement r (statement.Delete x) = stays_change r (behind_delete r x.target) (delete_rows r x) (stays_behind r x.target)
of_statement r (statement.Commit work) = refl
of_statement r (statement.Rollback work) = refl

-- no rule is broken by COMMIT
commit_is_sound : (elements : Elements) (m : ModuleText) (q : Procedure) → is_commit q.statement ≡ true
    → is_well_formed_procedure elements m q ≡ true
commit_is_sound elements m q e = by_statement q.statement e
  where
    sites : Surroundings
    sites = surroundings_of elements m q

    by_statement : (x : Statement) → is_commit x ≡ true → is_well_formed_procedure elements m (record q { statement = x }) ≡ true
    by_statement (statement.Open name) e = cc
    by_statement (statement.Fetch f) e = cc
    by_statement (statement.Close name) e = cc
    by_statement (statement.Select s) e = cc
    by_statement (statement.Insert i) e = cc
    by_statement (statement.Update u) e = cc
    by_statement (statement.Delete x) e = cc
    by_statement (statement.Commit work) e = refl
    by_statement (statement.Rollback work) e = cc

of_procedure_if : (r : Running) (b : Bool) → (is_commit r.procedure.statement ≡ true → b ≡ true)
    → Commits (is_commit r.procedure.statement) r.state (performed_if b r)
of_procedure_if r true h = of_statement r r.procedure.statement
of_procedure_if r false h = by_commit (is_commit r.procedure.statement) h
  where
    by_commit : (b : Bool) → (b ≡ true → false ≡ true) → r.state.committed ≡ (if b then r.state.tables else r.state.committed)
    by_commit true h = let never : false ≡ true = h refl in cc
    by_commit false h = refl

module _ (p : Program) (s : State) (c : Call) where
  abbrev none : Outcomes
  none = (s, replied_with status.SyntaxErrorOrAccessRuleViolation)

  of_procedure : (m : ModuleText) (o : Option Procedure)
      → Commits (is_some_and (λ q. is_commit q.statement) o) s (unwrap_or (option_map (call_of p s c.values m) o) none)
  of_procedure m None = refl
  of_procedure m (Some q) =
      of_procedure_if (running p s c.values m q) (is_well_formed_procedure p.elements m q) (commit_is_sound p.elements m q)

  of_module : (o : Option ModuleText)
      → Commits (is_some_and (λ q. is_commit q.statement) (option_and_then (λ m. procedure_named m c.procedure) o)) s
      (unwrap_or (option_and_then (call_in p s c) o) none)
  of_module None = refl
  of_module (Some m) = of_procedure m (procedure_named m c.procedure)

pub commit_alone_commits : (p : Program) → CommitAloneCommits p
unfolding CommitAloneCommits
commit_alone_commits p = λ s c. of_module p s c (module_named p.modules c.in_module)
