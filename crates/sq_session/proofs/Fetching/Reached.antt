-- FETCH of an updatable cursor, from the row that it reaches.
use Rattle.std.proofs.Common.{◌≡◌, ◌+◌, ℕ, List, Option, Some, None, Ok, Err, refl, ap, ap₂, sym, ◌∙◌, subst}
use Rattle.std.specs.Option.{option_map}
use Rattle.sq_value.specs.Key.{in_columns}
use Rattle.sq_value.specs.declared.value.Value.{Value}
use Rattle.sq_store.specs.Content.{Content, table_at}
use Rattle.sq_store.specs.declared.table.Numbered.{Numbered}
use Rattle.sq_store.specs.declared.table.Table.{Table}
use Rattle.sq_bound.specs.declared.condition.BoundCond.{BoundCond}
use Rattle.sq_meaning.specs.Status.{Outcome, and_then}
use Rattle.sq_meaning.specs.declared.status.Status.TheVariants as status
use Rattle.sq_meaning.proofs.Bind.{bind_ok}
use Rattle.sq_expression.specs.Fault.{Meets, status_of}
use Rattle.sq_expression.specs.declared.fault.Fault.{Fault}
use Rattle.sq_expression.specs.declared.fault.Fault.TheVariants as fault
use Rattle.sq_expression.proofs.Kept.{ok_same}
use Rattle.sq_session.specs.Fetch.{HasCome, come_to_number, come_to_walk, next_walked, row_on, shown_fetched, walk_come_to, walked_to}
use Rattle.sq_session.specs.Kind.{Fetching}
use Rattle.sq_session.specs.State.{next_number}
use Rattle.sq_session.specs.Target.{ended, row_reply}
use Rattle.sq_session.specs.Walk.{first_meant}
use Rattle.sq_session.specs.declared.cursor.NumbersCursor.{NumbersCursor}
use Rattle.sq_session.specs.declared.reply.Done.{Done}
use Rattle.sq_session.specs.declared.walk.WalkingCursor.{WalkingCursor}

-- ---- a cursor over numbers

-- FETCH comes to the next number, with the reply to the row there.
abbrev reached_by : Fetching → Table → NumbersCursor → ℕ → Option ℕ → Outcome (NumbersCursor × Done)
reached_by f t c p on = and_then (shown_fetched f (row_on t on)) (λ d. Ok (record c { passed = p; on = on }, d))

comes_to : (f : Fetching) (tables : Content) (c : NumbersCursor) (p : ℕ) (on : Option ℕ) → (next_number (table_at tables c.table) c).on ≡ on → (next_number (table_at tables c.table) c).passed ≡ p
    → come_to_number f tables c ≡ reached_by f (table_at tables c.table) c p on
comes_to f tables c p on on_is p_is = ap₂ (λ q o. reached_by f (table_at tables c.table) c q o) p_is on_is

pub comes_to_none : (f : Fetching) (tables : Content) (c : NumbersCursor) (p : ℕ) (d : Done) → (next_number (table_at tables c.table) c).on ≡ None → (next_number (table_at tables c.table) c).passed ≡ p
    → d ≡ ended status.NoData → come_to_number f tables c ≡ Ok (record c { passed = p; on = None }, d)
comes_to_none f tables c p d on_is p_is done = comes_to f tables c p None on_is p_is ∙ ap (λ x. Ok (record c { passed = p; on = None }, x)) (sym done)

-- the reply to a row that is there
reply_there : (f : Fetching) (t : Table) (n : ℕ) (row : List Value) (columns : List ℕ) (o : Outcome Done) → f.columns ≡ columns → row_on t (Some n) ≡ Some row → row_reply f.parameters f.targets (in_columns row columns) ≡ o
    → shown_fetched f (row_on t (Some n)) ≡ o
reply_there f t n row columns o known there done = ap (shown_fetched f) there ∙ ap (λ cs. row_reply f.parameters f.targets (in_columns row cs)) known ∙ done

pub comes_to_row : (f : Fetching) (tables : Content) (c : NumbersCursor) (columns : List ℕ) (p n : ℕ) (row : List Value) (d : Done) → f.columns ≡ columns
    → (next_number (table_at tables c.table) c).on ≡ Some n → (next_number (table_at tables c.table) c).passed ≡ p → row_on (table_at tables c.table) (Some n) ≡ Some row
    → row_reply f.parameters f.targets (in_columns row columns) ≡ Ok d → come_to_number f tables c ≡ Ok (record c { passed = p; on = Some n }, d)
comes_to_row f tables c columns p n row d known on_is p_is there done =
    comes_to f tables c p (Some n) on_is p_is ∙ ap (λ o. and_then o (λ x. Ok (record c { passed = p; on = Some n }, x))) (reply_there f (table_at tables c.table) n row columns (Ok d) known there done)

pub comes_to_fault : (f : Fetching) (tables : Content) (c : NumbersCursor) (columns : List ℕ) (p n : ℕ) (row : List Value) (x : Fault) → f.columns ≡ columns
    → (next_number (table_at tables c.table) c).on ≡ Some n → (next_number (table_at tables c.table) c).passed ≡ p → row_on (table_at tables c.table) (Some n) ≡ Some row
    → Meets {A = Done} (Err x) (row_reply f.parameters f.targets (in_columns row columns)) → HasCome (Err x) c (come_to_number f tables c)
comes_to_fault f tables c columns p n row (fault.Status s) known on_is p_is there done =
    comes_to f tables c p (Some n) on_is p_is ∙ ap (λ o. and_then o (λ x. Ok (record c { passed = p; on = Some n }, x))) (reply_there f (table_at tables c.table) n row columns (Err (status_of s)) known there done)
comes_to_fault f tables c columns p n row fault.NoMemory known on_is p_is there done = tt

-- A cursor over numbers after FETCH differs only in the numbers that it has passed.
pub number_kept : (f : Fetching) (tables : Content) (c : NumbersCursor) (come : NumbersCursor × Done) → come_to_number f tables c ≡ Ok come → come.0 ≡ next_number (table_at tables c.table) c
number_kept f tables c come e =
    let next = next_number (table_at tables c.table) c in
    let shown = bind_ok (shown_fetched f (row_on (table_at tables c.table) next.on)) (λ d. Ok (next, d)) come e in
    sym (ap (λ (x : NumbersCursor × Done). x.0) (ok_same (next, shown.0) come shown.2))

-- ---- a cursor that walks

-- A walking cursor after FETCH keeps its table, its values and its mark.
walked_same : (c : WalkingCursor) (reached : Option Numbered) → walked_to c reached ≡ record c { next = (walked_to c reached).next; on = (walked_to c reached).on }
walked_same c None = refl
walked_same c (Some r) = refl

pub walk_kept : (f : Fetching) (tables : Content) (c : WalkingCursor) (come : WalkingCursor × Done) → come_to_walk f tables c ≡ Ok come → come.0 ≡ record c { next = come.0.next; on = come.0.on }
walk_kept f tables c come e =
    let reached = next_walked f (table_at tables c.table) c in
    let shown = bind_ok (shown_fetched f (option_map (λ r. r.row) reached)) (λ d. Ok (walked_to c reached, d)) come e in
    let first : walked_to c reached ≡ come.0 = ap (λ (x : WalkingCursor × Done). x.0) (ok_same (walked_to c reached, shown.0) come shown.2) in
    subst (λ (w : WalkingCursor). w ≡ record c { next = w.next; on = w.on }) first (walked_same c reached)

-- the row that is found is the next
pub next_is : (f : Fetching) (t : Table) (c : WalkingCursor) (conditions : List BoundCond) (o : Option Numbered) → f.conditions ≡ conditions
    → o ≡ first_meant conditions c.values f.user c.next c.mark t.rows → next_walked f t c ≡ o
next_is f t c conditions o same found = subst (λ (cs : List BoundCond). first_meant cs c.values f.user c.next c.mark t.rows ≡ o) (sym same) (sym found)

pub walks_on : (f : Fetching) (tables : Content) (c : WalkingCursor) (columns : List ℕ) (r : Numbered) (o : Outcome Done) → f.columns ≡ columns → next_walked f (table_at tables c.table) c ≡ Some r
    → row_reply f.parameters f.targets (in_columns r.row columns) ≡ o → come_to_walk f tables c ≡ and_then o (λ d. Ok (record c { next = r.number + 1; on = Some r.number }, d))
walks_on f tables c columns r o known found done =
    ap (walk_come_to f c) found ∙ ap (λ x. and_then x (λ d. Ok (walked_to c (Some r), d))) (ap (λ cs. row_reply f.parameters f.targets (in_columns r.row cs)) known ∙ done)

pub walks_to_end : (f : Fetching) (tables : Content) (c : WalkingCursor) (d : Done) → next_walked f (table_at tables c.table) c ≡ None → d ≡ ended status.NoData
    → come_to_walk f tables c ≡ Ok (record c { next = c.mark; on = None }, d)
walks_to_end f tables c d none done = ap (walk_come_to f c) none ∙ ap (λ x. Ok (record c { next = c.mark; on = None }, x)) (sym done)

pub walks_not : (f : Fetching) (tables : Content) (c : WalkingCursor) (columns : List ℕ) (r : Numbered) (x : Fault) → f.columns ≡ columns → next_walked f (table_at tables c.table) c ≡ Some r
    → Meets {A = Done} (Err x) (row_reply f.parameters f.targets (in_columns r.row columns)) → HasCome (Err x) c (come_to_walk f tables c)
walks_not f tables c columns r (fault.Status s) known found done = walks_on f tables c columns r (Err (status_of s)) known found done
walks_not f tables c columns r fault.NoMemory known found done = tt
