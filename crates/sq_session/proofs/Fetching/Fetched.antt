-- What FETCH may do to the state, from what it does to its cursor.
use Rattle.std.proofs.Common.{◌≡◌, ◌<◌, ℕ, List, length, get_or, slice_set, Result, Ok, Err, refl, ap, ◌∙◌, OnErr, IfSome, subst}
use Rattle.std.proofs.lemmas.List.{get_or_default, set-get_or}
use Rattle.sq_value.specs.declared.value.Value.{Value}
use Rattle.sq_meaning.specs.Status.{Outcome}
use Rattle.sq_store.specs.Content.{Content}
use Rattle.sq_store.specs.Keys.{Keys}
use Rattle.sq_expression.specs.declared.fault.Fault.{Fault}
use Rattle.sq_expression.specs.declared.fault.Fault.TheVariants as fault
use Rattle.sq_session.specs.Fetch.{HasCome, HasFetched}
use Rattle.sq_session.specs.Kind.{Fetching}
use Rattle.sq_session.specs.State.{State, cursor_at, with_cursor}
use Rattle.sq_session.specs.Step.{Comes, MayFetch, MayFetchFrom, ending}
use Rattle.sq_session.specs.declared.cursor.CursorState.{CursorState}
use Rattle.sq_session.specs.declared.cursor.CursorState.TheVariants as cursor
use Rattle.sq_session.specs.declared.reply.Done.{Done}

come : (r : Result Done Fault) (now : CursorState) (wanted : Outcome (CursorState × Done)) (n : ℕ) (b a : State)
    → HasCome r now wanted → OnErr r (a ≡ b) → a ≡ with_cursor b n now → IfSome (ending r) (λ d. Comes wanted n b d a)
come (Ok d) now wanted n b a h same put = rw h (refl, put)
come (Err (fault.Status f)) now wanted n b a h same put = rw h (refl, same)
come (Err fault.NoMemory) now wanted n b a h same put = tt

may_fetch_from : (c now : CursorState) (f : Fetching) (values : List Value) (r : Result Done Fault) (b a : State)
    → HasFetched f values b.tables c r now → OnErr r (a ≡ b) → a ≡ with_cursor b f.cursor now → IfSome (ending r) (λ d. MayFetchFrom c f values b d a)
may_fetch_from cursor.Closed now f values r b a h same put = let P : Result Done Fault → Type 0 = λ x. OnErr x (a ≡ b) in rw h (refl, subst P h same)
may_fetch_from (cursor.Rows c) now f values r b a h same put = come r now _ f.cursor b a h same put
may_fetch_from (cursor.Numbers c) now f values r b a h same put = come r now _ f.cursor b a h same put
may_fetch_from (cursor.Walking c) now f values r b a h same put = come r now _ f.cursor b a h same put

-- where the cursors are those before with one put in its place
pub may_fetch : (f : Fetching) (values : List Value) (tables committed : Content) (keys : List Keys) (row_numbers : ℕ) (cs : List CursorState) (old now : CursorState) (r : Result Done Fault)
    → f.cursor < length cs → old ≡ get_or cs f.cursor old → HasFetched f values tables old r now → OnErr r (now ≡ old)
    → IfSome (ending r) (λ d. MayFetch f values (record { tables = tables; committed = committed; keys = keys; row_numbers = row_numbers; cursors = cs }) d
    (record { tables = tables; committed = committed; keys = keys; row_numbers = row_numbers; cursors = slice_set cs f.cursor now }))
may_fetch f values tables committed keys row_numbers cs old now r lt at h same =
    let b : State = record { tables = tables; committed = committed; keys = keys; row_numbers = row_numbers; cursors = cs } in
    let a : State = record { tables = tables; committed = committed; keys = keys; row_numbers = row_numbers; cursors = slice_set cs f.cursor now } in
    let there : old ≡ cursor_at b f.cursor = at ∙ get_or_default cs f.cursor old cursor.Closed lt in
    let P : CursorState → Type 0 = λ c. IfSome (ending r) (λ d. MayFetchFrom c f values b d a) in
    subst P there (may_fetch_from old now f values r b a h (kept r same) refl)
  where
    kept : (x : Result Done Fault) → OnErr x (now ≡ old)
        → OnErr x (◌≡◌ {A = State} (record { tables = tables; committed = committed; keys = keys; row_numbers = row_numbers; cursors = slice_set cs f.cursor now }) (record { tables = tables; committed = committed; keys = keys; row_numbers = row_numbers; cursors = cs }))
    kept (Ok d) e = tt
    kept (Err x) e = ap (λ l. record { tables = tables; committed = committed; keys = keys; row_numbers = row_numbers; cursors = l }) (ap (λ c. slice_set cs f.cursor c) (e ∙ at) ∙ set-get_or cs f.cursor old)
