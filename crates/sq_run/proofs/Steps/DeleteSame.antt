-- A searched DELETE keeps what the states of a session and of the machine are to each other, and ends alike
-- (ISO/IEC 9075:1992, 13.7), where it comes to the same tables or the same status.
use Rattle.std.proofs.Common.{◌≡◌, ℕ, zero, suc, true, List, [], ◌∷◌, None, refl, sym, ap, subst, ◌∙◌, Ok, Err}
use Rattle.std.specs.Prelude.{slice_set}
use Rattle.sq_tree.specs.declared.statement.Delete.{Delete}
use Rattle.sq_value.specs.declared.value.Value.{Value}
use Rattle.sq_store.specs.Content.{Content, table_at, with_table}
use Rattle.sq_store.specs.Rising.{has_rising_rows}
use Rattle.sq_store.specs.declared.table.Table.{Table}
use Rattle.sq_meaning.specs.Status.{Outcome}
use Rattle.sq_meaning.specs.Change.{Which, delete_outcome, without}
use Rattle.sq_meaning.specs.Machine as by_name
use Rattle.sq_meaning.specs.Machine.{Running, behind_delete, change_by, delete_rows, setting}
use Rattle.sq_bound.specs.declared.query.Target.{Target as BoundTarget}
use Rattle.sq_bound.specs.declared.statement.ChangeTarget.TheVariants as change
use Rattle.sq_meaning.specs.declared.status.Status.TheVariants as status
use Rattle.sq_module.specs.declared.program.DeclaredCursor.{DeclaredCursor}
use Rattle.sq_session.specs.Kind.{Caller}
use Rattle.sq_session.specs.Schemas.{Schemas}
use Rattle.sq_session.specs.State.{State}
use Rattle.sq_session.specs.Step.{DeleteComesTo, MayDelete, Performs}
use Rattle.sq_session.specs.declared.reply.Done.{Done}
use Rattle.sq_run.proofs.Changed.RowsAgain.{all_left}
use Rattle.sq_run.proofs.Changed.Completed.{deleted_is}
use Rattle.sq_run.proofs.OpenCursors.CursorsKept.{cursors_kept}
use Rattle.sq_run.proofs.OpenCursors.SameCursors.{AreSame}
use Rattle.sq_run.proofs.Steps.SameStates.{SameCursor, SameReply, SameStates, ended_same}

-- ---- one table changes

-- the rows that go from the table at a place
abbrev gone_at : ℕ → List ℕ → ℕ → List ℕ
gone_at zero numbers zero = numbers
gone_at zero numbers (suc k) = []
gone_at (suc place) numbers zero = []
gone_at (suc place) numbers (suc k) = gone_at place numbers k

none_goes : (t : Table) → t ≡ without t []
none_goes t = λ i. record { rows = sym (all_left t.rows) i; next = t.next }

removed_at : (content : Content) (place : ℕ) (numbers : List ℕ) (k : ℕ)
    → table_at (slice_set content place (without (table_at content place) numbers)) k
    ≡ without (table_at content k) (gone_at place numbers k)
removed_at [] place numbers k = refl
removed_at (t ∷ content) zero numbers zero = refl
removed_at (t ∷ content) zero numbers (suc k) = none_goes (table_at content k)
removed_at (t ∷ content) (suc place) numbers zero = none_goes t
removed_at (t ∷ content) (suc place) numbers (suc k) = removed_at content place numbers k

-- ---- the statement

module _ (declared : List DeclaredCursor) (s : State) (r : Running) (same : SameStates declared s r.state) where
  -- where both come to the same tables, the states are the same after them
  pub change_same : (wanted : State) (behind : by_name.State) (done outcome : Outcome Content) → done ≡ outcome
      → ((content : Content) → outcome ≡ Ok content → SameStates declared (record wanted { tables = content }) (record behind { tables = content }))
      → (d : Done) (after : State) → Performs done wanted s d after
      → SameStates declared after (change_by r behind outcome).0 × SameReply d (change_by r behind outcome).1
  change_same wanted behind done outcome e kept d after h =
      by_outcome outcome refl (subst (λ o. Performs o wanted s d after) e h)
    where
      by_outcome : (o : Outcome Content) → outcome ≡ o → Performs o wanted s d after
          → SameStates declared after (change_by r behind o).0 × SameReply d (change_by r behind o).1
      by_outcome (Ok content) is h = (
        subst (λ y. SameStates declared y (record behind { tables = content })) (sym h.1) (kept content is),
        ended_same d status.SuccessfulCompletion h.0,
      )
      by_outcome (Err st) is h = (subst (λ y. SameStates declared y r.state) (sym h.1) same, ended_same d st h.0)

  module _ (rising : (place : ℕ) → has_rising_rows (table_at s.tables place) ≡ true) where
    -- where rows go, and cursors are what they are to each other
    pub rows_gone_at : (wanted : State) (behind : by_name.State) → behind.committed ≡ wanted.committed
        → AreSame (SameCursor s.tables) declared wanted.cursors behind.cursors
        → (x : Delete) (which : Which) (content : Content) → delete_outcome (setting r) x which ≡ Ok content
        → SameStates declared (record wanted { tables = content }) (record behind { tables = content })
    rows_gone_at wanted behind committed cursors x which content e =
        let removed = deleted_is (setting r) x which content e in
        record {
          tables = refl;
          committed = committed;
          cursors =
              cursors_kept s.tables content (gone_at removed.place removed.numbers) rising
              (λ k. ap (λ (c : Content). table_at c k) (removed.is ∙ (λ i. with_table (same.tables i) removed.place (without (table_at (same.tables i) removed.place) removed.numbers)))
              ∙ removed_at s.tables removed.place removed.numbers k)
              declared wanted.cursors behind.cursors cursors;
        }

    rows_gone : (x : Delete) (which : Which) (content : Content) → delete_outcome (setting r) x which ≡ Ok content
        → SameStates declared (record s { tables = content }) (record r.state { tables = content })
    rows_gone = rows_gone_at s r.state same.committed same.cursors

    -- A searched DELETE keeps what the states are to each other, and ends alike.
    pub delete_same : (x : Delete) (which : Which) → delete_rows r x ≡ delete_outcome (setting r) x which
        → behind_delete r x.target ≡ r.state
        → (schemas : Schemas) (caller : Caller) (values : List Value) (t : BoundTarget)
        → ((done : Outcome Content) → DeleteComesTo schemas caller values (change.Searched t) None s.tables done → done ≡ delete_outcome (setting r) x which)
        → (d : Done) (after : State) → MayDelete schemas caller values (change.Searched t) None s s d after
        → SameStates declared after (change_by r (behind_delete r x.target) (delete_rows r x)).0
        × SameReply d (change_by r (behind_delete r x.target) (delete_rows r x)).1
    delete_same x which rows_are behind_is schemas caller values t alike d after h =
        subst (λ o. SameStates declared after (change_by r (behind_delete r x.target) o).0 × SameReply d (change_by r (behind_delete r x.target) o).1) (sym rows_are)
        (subst (λ b. SameStates declared after (change_by r b (delete_outcome (setting r) x which)).0 × SameReply d (change_by r b (delete_outcome (setting r) x which)).1) (sym behind_is)
        (change_same s r.state h.0 (delete_outcome (setting r) x which) (alike h.0 h.1) (rows_gone x which) d after h.2))
