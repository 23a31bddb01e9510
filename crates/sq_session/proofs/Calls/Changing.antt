-- INSERT, UPDATE and DELETE as steps of a call (ISO/IEC 9075:1992, 13.6 to 13.10).
use Rattle.std.proofs.Common.{◌≡◌, ◌∙◌, ℕ, Bool, true, List, [], ◌∷◌, length, Option, Ok, Err, IfSome, refl, rules, subst, sym}
use Rattle.sq_value.specs.declared.value.Value.{Value}
use Rattle.sq_bound.specs.declared.statement.BoundInsert.{BoundInsert}
use Rattle.sq_bound.specs.declared.statement.ChangeTarget.{ChangeTarget}
use Rattle.sq_bound.specs.declared.statement.ChangeTarget.TheVariants as target
use Rattle.sq_meaning.specs.Status.{Outcome}
use Rattle.sq_meaning.specs.declared.status.Status.TheVariants as status
use Rattle.sq_store.specs.Content.{Content}
use Rattle.sq_change.specs.Made.{Shown}
use Rattle.sq_change.specs.Performed.{delete_outcome, insert_outcome, update_outcome}
use Rattle.sq_change.specs.Statement.{IsShown}
use Rattle.sq_expression.specs.Fault.{Meets, status_of}
use Rattle.sq_expression.specs.declared.fault.Fault.{Fault}
use Rattle.sq_expression.specs.declared.fault.Fault.TheVariants as fault
use Rattle.sq_session.specs.Cursors.{put, put_all}
use Rattle.sq_session.specs.Kind.{Caller, Kind, Updating, delete_kind, update_kind}
use Rattle.sq_session.specs.Schemas.{Schemas}
use Rattle.sq_session.specs.State.{State}
use Rattle.sq_session.specs.Step.{MayDelete, MayDeleteAt, MayStep, MayUpdate, MayUpdateAt, ending, is_ready, left_row, number_meant, seen_in, walks_listed}
use Rattle.sq_session.specs.Target.{ended}
use Rattle.sq_session.specs.declared.cursor.CursorState.{CursorState}
use Rattle.sq_session.specs.declared.reply.Done.{Done}
use Rattle.sq_session.specs.declared.walk_list.ListedCursor.{ListedCursor}

-- lists put in the place of walks
pub put_as_many : (cs : List CursorState) (ls : List ListedCursor) → length (put_all cs ls) ≡ length cs
put_as_many cs [] = refl
put_as_many cs (l ∷ ls) = put_as_many (put cs l) ls ∙ search rules

-- where nothing but the tables differs
pub same_but_tables : (a w : State) → a.committed ≡ w.committed → a.keys ≡ w.keys → a.row_numbers ≡ w.row_numbers → a.cursors ≡ w.cursors → a ≡ record w { tables = a.tables }
same_but_tables a w committed keys numbers cursors = λ i. record {
  tables = a.tables;
  committed = committed i;
  keys = keys i;
  row_numbers = numbers i;
  cursors = cursors i;
}

-- the state that a DELETE wants but for its tables: a positioned one takes its cursor off the row
abbrev pub left_behind : State → ChangeTarget → State
left_behind b (target.Searched t) = b
left_behind b (target.Positioned p) = left_row b p

module _ (s : Schemas) (values : List Value) (b a : State) where
  -- ---- INSERT

  module _ (caller : Caller) (i : BoundInsert) where
    abbrev insert_done : Shown → Outcome Content
    insert_done shown = insert_outcome shown (seen_in s caller values b.tables) s.bases b.row_numbers i

    pub inserts_done : (d : Done) → d ≡ ended status.SuccessfulCompletion → a ≡ record b { tables = a.tables }
        → ((shown : Shown) → IsShown (seen_in s caller values b.tables) shown → insert_done shown ≡ Ok a.tables)
        → MayStep s (Kind.inserts caller i) values b d a
    inserts_done d is same meant = (Ok a.tables, (λ shown shows. sym (meant shown shows)), (is, same))

    pub inserts_not : (f : Fault) → a ≡ b
        → ((shown : Shown) → IsShown (seen_in s caller values b.tables) shown → Meets {A = Content} (Err f) (insert_done shown))
        → IfSome (ending (Err f)) (λ d. MayStep s (Kind.inserts caller i) values b d a)
    inserts_not fault.NoMemory same meant = tt
    inserts_not (fault.Status f) same meant = (Err (status_of f), (λ shown shows. sym (meant shown shows)), (refl, same))

  -- ---- UPDATE

  module _ (u : Updating) (t : ChangeTarget) (on : Option ℕ) where
    abbrev update_done : Shown → Outcome Content
    update_done shown = update_outcome shown (seen_in s u.caller values b.tables) s.bases u.statement on

    may_update : (d : Done) → on ≡ number_meant b t → is_ready b t ≡ true → MayUpdate s u values on b d a → MayStep s (update_kind u t) values b d a
    may_update d = by t
      where
        by : (t : ChangeTarget) → on ≡ number_meant b t → is_ready b t ≡ true → MayUpdate s u values on b d a → MayStep s (update_kind u t) values b d a
        by (target.Searched x) is ready h = subst (λ (o : Option ℕ). MayUpdate s u values o b d a) is h
        by (target.Positioned p) is ready h =
            subst (λ (r : Bool). MayUpdateAt r s u p values b d a) (sym ready) (subst (λ (o : Option ℕ). MayUpdate s u values o b d a) is h)

    pub updates_done : (d : Done) → on ≡ number_meant b t → is_ready b t ≡ true → d ≡ ended status.SuccessfulCompletion → a ≡ record (walks_listed u on b) { tables = a.tables }
        → ((shown : Shown) → IsShown (seen_in s u.caller values b.tables) shown → update_done shown ≡ Ok a.tables)
        → MayStep s (update_kind u t) values b d a
    updates_done d is ready ends same meant = may_update d is ready (Ok a.tables, (λ shown shows. sym (meant shown shows)), (ends, same))

    pub updates_not : (f : Fault) → on ≡ number_meant b t → is_ready b t ≡ true → a ≡ b
        → ((shown : Shown) → IsShown (seen_in s u.caller values b.tables) shown → Meets {A = Content} (Err f) (update_done shown))
        → IfSome (ending (Err f)) (λ d. MayStep s (update_kind u t) values b d a)
    updates_not fault.NoMemory is ready same meant = tt
    updates_not (fault.Status f) is ready same meant =
        may_update (ended (status_of f)) is ready (Err (status_of f), (λ shown shows. sym (meant shown shows)), (refl, same))

  -- ---- DELETE

  module _ (caller : Caller) (t : ChangeTarget) (on : Option ℕ) where
    abbrev delete_done : Shown → Outcome Content
    delete_done shown = delete_outcome shown (seen_in s caller values b.tables) s.bases t on

    may_delete : (d : Done) → on ≡ number_meant b t → is_ready b t ≡ true → MayDelete s caller values t on (left_behind b t) b d a → MayStep s (delete_kind caller t) values b d a
    may_delete d = by t
      where
        by : (t : ChangeTarget) → on ≡ number_meant b t → is_ready b t ≡ true → MayDelete s caller values t on (left_behind b t) b d a → MayStep s (delete_kind caller t) values b d a
        by (target.Searched x) is ready h = subst (λ (o : Option ℕ). MayDelete s caller values (target.Searched x) o b b d a) is h
        by (target.Positioned p) is ready h =
            subst (λ (r : Bool). MayDeleteAt r s caller p values b d a) (sym ready)
            (subst (λ (o : Option ℕ). MayDelete s caller values (target.Positioned p) o (left_row b p) b d a) is h)

    pub deletes_done : (d : Done) → on ≡ number_meant b t → is_ready b t ≡ true → d ≡ ended status.SuccessfulCompletion → a ≡ record (left_behind b t) { tables = a.tables }
        → ((shown : Shown) → IsShown (seen_in s caller values b.tables) shown → delete_done shown ≡ Ok a.tables)
        → MayStep s (delete_kind caller t) values b d a
    deletes_done d is ready ends same meant = may_delete d is ready (Ok a.tables, (λ shown shows. sym (meant shown shows)), (ends, same))

    pub deletes_not : (f : Fault) → on ≡ number_meant b t → is_ready b t ≡ true → a ≡ b
        → ((shown : Shown) → IsShown (seen_in s caller values b.tables) shown → Meets {A = Content} (Err f) (delete_done shown))
        → IfSome (ending (Err f)) (λ d. MayStep s (delete_kind caller t) values b d a)
    deletes_not fault.NoMemory is ready same meant = tt
    deletes_not (fault.Status f) is ready same meant =
        may_delete (ended (status_of f)) is ready (Err (status_of f), (λ shown shows. sym (meant shown shows)), (refl, same))
