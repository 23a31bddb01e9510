-- INSERT keeps what the states of a session and of the machine are to each other, and ends alike
-- (ISO/IEC 9075:1992, 13.8), where it comes to the same tables or the same status. New rows come
-- into no cursor that is open.
use Rattle.std.proofs.Common.{◌≡◌, List, refl, sym, subst, ◌∙◌, Ok}
use Rattle.sq_tree.specs.declared.statement.Insert.{Insert}
use Rattle.sq_value.specs.declared.value.Value.{Value}
use Rattle.sq_store.specs.Content.{Content, table_at, with_table}
use Rattle.sq_meaning.specs.Status.{Outcome}
use Rattle.sq_meaning.specs.Change.{insert_outcome, with_rows}
use Rattle.sq_meaning.specs.Machine.{Running, change_by, setting}
use Rattle.sq_bound.specs.declared.statement.BoundInsert.{BoundInsert}
use Rattle.sq_module.specs.declared.program.DeclaredCursor.{DeclaredCursor}
use Rattle.sq_session.specs.Kind.{Caller}
use Rattle.sq_session.specs.Schemas.{Schemas}
use Rattle.sq_session.specs.State.{State}
use Rattle.sq_session.specs.Step.{InsertComesTo, MayInsert}
use Rattle.sq_session.specs.declared.reply.Done.{Done}
use Rattle.sq_run.proofs.Changed.Completed.{inserted_is}
use Rattle.sq_run.proofs.OpenCursors.CursorsGrow.{IsGrown, cursors_grow, grown_at}
use Rattle.sq_run.proofs.Steps.DeleteSame.{change_same}
use Rattle.sq_run.proofs.Steps.SameStates.{SameReply, SameStates}

module _ (declared : List DeclaredCursor) (s : State) (r : Running) (same : SameStates declared s r.state) where
  rows_come : (i : Insert) (content : Content) → insert_outcome (setting r) i ≡ Ok content
      → SameStates declared (record s { tables = content }) (record r.state { tables = content })
  rows_come i content e =
      let inserted_in = inserted_is (setting r) i content e in
      let after : content ≡ with_table s.tables inserted_in.place (with_rows (table_at s.tables inserted_in.place) inserted_in.rows)
      = inserted_in.is ∙ (λ k. with_table (same.tables k) inserted_in.place (with_rows (table_at (same.tables k) inserted_in.place) inserted_in.rows)) in
      record {
        tables = refl;
        committed = same.committed;
        cursors =
            cursors_grow s.tables content
            (λ k. subst (λ (c : Content). IsGrown (table_at s.tables k) (table_at c k)) (sym after) (grown_at s.tables inserted_in.place inserted_in.rows k))
            declared s.cursors r.state.cursors same.cursors;
      }

  -- INSERT keeps what the states are to each other, and ends alike.
  pub insert_same : (i : Insert) (schemas : Schemas) (caller : Caller) (values : List Value) (x : BoundInsert)
      → ((done : Outcome Content) → InsertComesTo schemas caller values x s done → done ≡ insert_outcome (setting r) i)
      → (d : Done) (after : State) → MayInsert schemas caller values x s d after
      → SameStates declared after (change_by r r.state (insert_outcome (setting r) i)).0
      × SameReply d (change_by r r.state (insert_outcome (setting r) i)).1
  insert_same i schemas caller values x alike d after h =
      change_same declared s r same s r.state h.0 (insert_outcome (setting r) i) (alike h.0 h.1) (rows_come i) d after h.2
