-- OPEN, from the rows, the numbers or the walk that a cursor gets.
use Rattle.std.proofs.Common.{◌≡◌, ℕ, true, false, true≢false, List, Some, Result, Ok, Err, refl, sym, ap, ◌∙◌, IfSome, subst}
use Rattle.std.specs.Prelude.{⊤, Vec}
use Rattle.std.specs.declared.alloc.Global.{Global}
use Rattle.sq_lex.specs.declared.name.Name.{Name}
use Rattle.sq_value.specs.declared.value.Value.{Value}
use Rattle.sq_store.specs.Content.{Content}
use Rattle.sq_meaning.specs.Environment.{Row, outermost}
use Rattle.sq_meaning.specs.Placed.{by_place}
use Rattle.sq_meaning.specs.QueryExpression.{query_rows}
use Rattle.sq_meaning.specs.Rows.{by_columns, sorted}
use Rattle.sq_meaning.specs.Status.{Outcome, and_then}
use Rattle.sq_meaning.specs.WellFormed.{kinds_by_place}
use Rattle.sq_meaning.specs.declared.status.Status.TheVariants as status
use Rattle.sq_bound.specs.Query.{query_of}
use Rattle.sq_bound.specs.WellFormed.{kinds_of_parameters}
use Rattle.sq_bound.specs.declared.condition.TablePlace.{TablePlace}
use Rattle.sq_bound.specs.declared.names.ParameterDesc.{ParameterDesc}
use Rattle.sq_bound.specs.declared.query.BoundQuery.{BoundQuery}
use Rattle.sq_bound.specs.declared.query.CursorBody.{CursorBody}
use Rattle.sq_bound.specs.declared.query.SortColumn.{SortColumn}
use Rattle.sq_bound.specs.declared.query.Target.{Target}
use Rattle.sq_expression.specs.Fault.{HasRows, MeetsAs, status_of}
use Rattle.sq_expression.specs.Frame.{inputs_of}
use Rattle.sq_query.specs.Order.{sort_columns}
use Rattle.sq_query.specs.Table.{AreMeant, stored_numbered}
use Rattle.sq_query.specs.Target.{conditions_of, is_true_of, numbers_chosen, numbers_in}
use Rattle.sq_expression.specs.declared.fault.Failure.{Failure}
use Rattle.sq_expression.specs.declared.fault.Fault.{Fault}
use Rattle.sq_expression.specs.declared.fault.Fault.TheVariants as fault
use Rattle.sq_session.specs.Kind.{Opening, Over, over_target}
use Rattle.sq_session.specs.Open.{HasOpened, IsMeant, NumbersAreMeant, RowsAreMeant, TargetIsMeant, before_numbers, before_rows, numbers_opened, rows_opened, walk_before}
use Rattle.sq_session.specs.Schemas.{Schemas, columns_of}
use Rattle.sq_session.specs.State.{State, with_cursor}
use Rattle.sq_session.specs.Step.{MayOpenClosed, ending}
use Rattle.sq_session.specs.Target.{ended}
use Rattle.sq_session.specs.declared.cursor.CursorState.{CursorState}
use Rattle.sq_session.specs.declared.cursor.CursorState.TheVariants as cursor
use Rattle.sq_session.specs.declared.reply.Done.{Done}
use Rattle.sq_session.specs.declared.walk.WalkingCursor.{WalkingCursor}

-- ---- what is answered is what is meant, where the query reads the values and the user of the call

-- rows in the order of the sort keys, or a status
abbrev pub RowsAnswer : Schemas → BoundQuery → List SortColumn → Name → List ParameterDesc → List Value → Content → Result (Vec (List Value) Global) Fault → Type 0
RowsAnswer s q order user parameters values tables result =
    (shown : TablePlace → Outcome (List Row)) → AreMeant s.views tables user shown
    → HasRows result (and_then (query_rows (by_place shown) (kinds_by_place (columns_of s) (kinds_of_parameters parameters)) (query_of q) (outermost (inputs_of values) user)) (λ found. Ok (sorted (by_columns (sort_columns order)) found)))

pub rows_answered : (s : Schemas) (q : BoundQuery) (order : List SortColumn) (given user : Name) (ps : List ParameterDesc) (inputs values : List Value) (tables : Content) (v : Vec (List Value) Global) (rows : List (List Value))
    → given ≡ user → inputs ≡ values → rows ≡ v.items → RowsAnswer s q order given ps inputs tables (Ok v) → RowsAreMeant s q order user ps values tables (Ok (before_rows rows))
rows_answered s q order given user ps inputs values tables v rows same_user same_values same_rows h = rw (sym same_user, sym same_values, same_rows) (λ shown are. sym (ap rows_opened (h shown are)))

rows_refused : (s : Schemas) (q : BoundQuery) (order : List SortColumn) (given user : Name) (ps : List ParameterDesc) (inputs values : List Value) (tables : Content) (f : Failure)
    → given ≡ user → inputs ≡ values → RowsAnswer s q order given ps inputs tables (Err (fault.Status f)) → RowsAreMeant s q order user ps values tables (Err (status_of f))
rows_refused s q order given user ps inputs values tables f same_user same_values h = rw (sym same_user, sym same_values) (λ shown are. sym (ap rows_opened (h shown are)))

-- numbers of rows, or a status
abbrev pub NumbersAnswer : Schemas → Target → Name → List Value → Content → Result (Vec ℕ Global) Fault → Type 0
NumbersAnswer s t user values tables result =
    (shown : TablePlace → Outcome (List Row)) → AreMeant s.views tables user shown
    → MeetsAs numbers_in result (and_then (stored_numbered tables t.base) (numbers_chosen (is_true_of shown values user) (conditions_of t)))

pub numbers_answered : (s : Schemas) (t : Target) (given user : Name) (inputs values : List Value) (tables : Content) (v : Vec ℕ Global) (numbers : List ℕ)
    → given ≡ user → inputs ≡ values → numbers ≡ v.items → NumbersAnswer s t given inputs tables (Ok v) → NumbersAreMeant s t user values tables (Ok (before_numbers t.base numbers))
numbers_answered s t given user inputs values tables v numbers same_user same_values same_numbers h =
    rw (sym same_user, sym same_values, same_numbers) (λ shown are. sym (ap (numbers_opened t.base) (h shown are)))

numbers_refused : (s : Schemas) (t : Target) (given user : Name) (inputs values : List Value) (tables : Content) (f : Failure)
    → given ≡ user → inputs ≡ values → NumbersAnswer s t given inputs tables (Err (fault.Status f)) → NumbersAreMeant s t user values tables (Err (status_of f))
numbers_refused s t given user inputs values tables f same_user same_values h =
    rw (sym same_user, sym same_values) (λ shown are. sym (ap (numbers_opened t.base) (h shown are)))

-- ---- what is opened

-- rows, where they are those that are meant
pub over_rows : (s : Schemas) (q : BoundQuery) (order : List SortColumn) (user : Name) (ps : List ParameterDesc) (values : List Value) (tables : Content) (rows : List (List Value)) → RowsAreMeant s q order user ps values tables (Ok (before_rows rows))
    → HasOpened Over.rows (RowsAreMeant s q order user ps values tables) values tables (Ok (before_rows rows))
over_rows s q order user ps values tables rows h = ((Ok rows, refl), h)

pub over_numbers : (s : Schemas) (t : Target) (user : Name) (values : List Value) (tables : Content) (numbers : List ℕ) → NumbersAreMeant s t user values tables (Ok (before_numbers t.base numbers))
    → HasOpened (Over.numbers t.base) (NumbersAreMeant s t user values tables) values tables (Ok (before_numbers t.base numbers))
over_numbers s t user values tables numbers h = ((Ok numbers, refl), h)

-- The answer in place of rows or numbers: a status, or that memory ran out.
pub over_fault_of_rows : (s : Schemas) (q : BoundQuery) (order : List SortColumn) (given user : Name) (ps : List ParameterDesc) (inputs values : List Value) (tables : Content) (f : Fault)
    → given ≡ user → inputs ≡ values → RowsAnswer s q order given ps inputs tables (Err f) → HasOpened Over.rows (RowsAreMeant s q order user ps values tables) values tables (Err f)
over_fault_of_rows s q order given user ps inputs values tables (fault.Status f) same_user same_values h =
    ((Err (status_of f), refl), rows_refused s q order given user ps inputs values tables f same_user same_values h)
over_fault_of_rows s q order given user ps inputs values tables fault.NoMemory same_user same_values h = tt

pub over_fault_of_numbers : (s : Schemas) (t : Target) (given user : Name) (inputs values : List Value) (tables : Content) (f : Fault) → given ≡ user → inputs ≡ values → NumbersAnswer s t given inputs tables (Err f)
    → HasOpened (Over.numbers t.base) (NumbersAreMeant s t user values tables) values tables (Err f)
over_fault_of_numbers s t given user inputs values tables (fault.Status f) same_user same_values h =
    ((Err (status_of f), refl), numbers_refused s t given user inputs values tables f same_user same_values h)
over_fault_of_numbers s t given user inputs values tables fault.NoMemory same_user same_values h = tt

pub over_walk : (values : List Value) (tables : Content) (table : ℕ) (walk : WalkingCursor) → walk ≡ walk_before tables table values → HasOpened (Over.walk table) (λ opened. ⊤) values tables (Ok (cursor.Walking walk))
over_walk values tables table walk h = (ap (λ w. Ok (cursor.Walking w)) h, tt)

-- a quiet target is walked, and of any other the numbers are those that are meant
quietly : (s : Schemas) (t : Target) (over : Over) (user : Name) (values : List Value) (tables : Content) (r : Result CursorState Fault) → t.is_quiet ≡ true → over_target t ≡ over → HasOpened over (λ opened. ⊤) values tables r
    → HasOpened over (TargetIsMeant s t user values tables) values tables r
quietly s t over user values tables (Ok c) quiet is h = (h.0, λ not. absurd (true≢false (sym quiet ∙ not)))
quietly s t over user values tables (Err (fault.Status f)) quiet is h = (h.0, λ not. absurd (true≢false (sym quiet ∙ not)))
quietly s t over user values tables (Err fault.NoMemory) quiet is h = tt

pub target_walked : (s : Schemas) (t : Target) (user : Name) (values : List Value) (tables : Content) (r : Result CursorState Fault) → t.is_quiet ≡ true → HasOpened (Over.walk t.base) (λ opened. ⊤) values tables r
    → HasOpened (over_target t) (TargetIsMeant s t user values tables) values tables r
target_walked s t user values tables r quiet h =
    let is : over_target t ≡ Over.walk t.base = rw quiet refl in
    subst (λ (o : Over). HasOpened o (TargetIsMeant s t user values tables) values tables r) (sym is) (quietly s t (Over.walk t.base) user values tables r quiet is h)

listed : (s : Schemas) (t : Target) (user : Name) (values : List Value) (tables : Content) (r : Result CursorState Fault) → HasOpened (Over.numbers t.base) (NumbersAreMeant s t user values tables) values tables r
    → HasOpened (Over.numbers t.base) (TargetIsMeant s t user values tables) values tables r
listed s t user values tables (Ok c) h = (h.0, λ not. h.1)
listed s t user values tables (Err (fault.Status f)) h = (h.0, λ not. h.1)
listed s t user values tables (Err fault.NoMemory) h = tt

pub target_listed : (s : Schemas) (t : Target) (user : Name) (values : List Value) (tables : Content) (r : Result CursorState Fault) → t.is_quiet ≡ false → HasOpened (Over.numbers t.base) (NumbersAreMeant s t user values tables) values tables r
    → HasOpened (over_target t) (TargetIsMeant s t user values tables) values tables r
target_listed s t user values tables r loud h =
    let is : over_target t ≡ Over.numbers t.base = rw loud refl in
    subst (λ (o : Over). HasOpened o (TargetIsMeant s t user values tables) values tables r) (sym is) (listed s t user values tables r h)

-- ---- what OPEN may do

-- the cursor is opened
pub opens : (s : Schemas) (o : Opening) (over : Over) (b : CursorBody) (values : List Value) (before after : State) (c : CursorState) (d : Done) → o.over ≡ over → o.body ≡ Some b
    → HasOpened over (IsMeant s b o.user o.parameters values before.tables) values before.tables (Ok c) → d ≡ ended status.SuccessfulCompletion → after ≡ with_cursor before o.cursor c → MayOpenClosed s o values before d after
opens s o over b values before after c d over_is body_is h done put = rw (over_is, body_is) (Ok c, h.0, h.1, (done, put))

-- it stays closed
pub opens_not : (s : Schemas) (o : Opening) (over : Over) (b : CursorBody) (values : List Value) (before : State) (f : Fault) → o.over ≡ over → o.body ≡ Some b
    → HasOpened over (IsMeant s b o.user o.parameters values before.tables) values before.tables (Err f) → IfSome (ending (Err f)) (λ d. MayOpenClosed s o values before d before)
opens_not s o over b values before (fault.Status f) over_is body_is h = rw (over_is, body_is) (Err (status_of f), h.0, h.1, (refl, refl))
opens_not s o over b values before fault.NoMemory over_is body_is h = tt
