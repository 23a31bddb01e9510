-- OPEN (ISO/IEC 9075:1992, 13.2): a cursor before its first row, by what it goes over.
use Rattle.std.specs.Prelude.{◌≡◌, ⊤, ℕ, false, List, Option, None, Some, Result, Ok, Err}
use Rattle.sq_lex.specs.declared.name.Name.{Name}
use Rattle.sq_value.specs.declared.value.Value.{Value}
use Rattle.sq_store.specs.Content.{Content, table_at}
use Rattle.sq_meaning.specs.Environment.{Row, outermost}
use Rattle.sq_meaning.specs.Kind.{Kinds}
use Rattle.sq_meaning.specs.Placed.{Placed, by_place}
use Rattle.sq_meaning.specs.QueryExpression.{query_rows}
use Rattle.sq_meaning.specs.Rows.{by_columns, sorted}
use Rattle.sq_meaning.specs.Status.{Outcome, and_then}
use Rattle.sq_meaning.specs.WellFormed.{kinds_by_place}
use Rattle.sq_bound.specs.Query.{query_of}
use Rattle.sq_bound.specs.WellFormed.{kinds_of_parameters}
use Rattle.sq_bound.specs.declared.condition.TablePlace.{TablePlace}
use Rattle.sq_bound.specs.declared.names.ParameterDesc.{ParameterDesc}
use Rattle.sq_bound.specs.declared.query.BoundQuery.{BoundQuery}
use Rattle.sq_bound.specs.declared.query.CursorBody.{CursorBody}
use Rattle.sq_bound.specs.declared.query.CursorBody.TheVariants as body
use Rattle.sq_bound.specs.declared.query.SortColumn.{SortColumn}
use Rattle.sq_bound.specs.declared.query.Target.{Target}
use Rattle.sq_expression.specs.Fault.{status_of}
use Rattle.sq_query.specs.Order.{sort_columns}
use Rattle.sq_expression.specs.Frame.{inputs_of}
use Rattle.sq_query.specs.Table.{AreMeant, stored_numbered}
use Rattle.sq_query.specs.Target.{conditions_of, is_true_of, numbers_chosen}
use Rattle.sq_expression.specs.declared.fault.Fault.{Fault}
use Rattle.sq_expression.specs.declared.fault.Fault.TheVariants as fault
use Rattle.sq_session.specs.Kind.{Over}
use Rattle.sq_session.specs.Schemas.{Schemas, columns_of}
use Rattle.sq_session.specs.declared.cursor.CursorState.{CursorState}
use Rattle.sq_session.specs.declared.cursor.CursorState.TheVariants as cursor
use Rattle.sq_session.specs.declared.walk.WalkingCursor.{WalkingCursor}

-- ---- before the first row

abbrev pub before_rows : List (List Value) → CursorState
before_rows rows = cursor.Rows (record { rows = rows; place = 0 })

abbrev pub before_numbers : ℕ → List ℕ → CursorState
before_numbers table numbers =
    cursor.Numbers (record { table = table; numbers = numbers; passed = 0; on = None })

-- A walk after OPEN: it keeps the values of the parameters, and its mark is the number that the next new row
-- will have.
abbrev pub walk_before : Content → ℕ → List Value → WalkingCursor
walk_before tables table values =
    record { table = table; values = values; next = 0; mark = (table_at tables table).next; on = None }

-- ---- what is opened

-- The cursor over the rows of a query, or the status of finding them.
abbrev pub rows_opened : Outcome (List (List Value)) → Outcome CursorState
rows_opened found = and_then found (λ rows. Ok (before_rows rows))

-- The cursor over numbers of rows of a base table, or the status of choosing them.
abbrev pub numbers_opened : ℕ → Outcome (List ℕ) → Outcome CursorState
numbers_opened table found = and_then found (λ numbers. Ok (before_numbers table numbers))

-- What a cursor may be after OPEN by what it goes over alone, whatever rows or numbers are found.
abbrev pub IsOpenOver : Over → List Value → Content → Outcome CursorState → Type 0
IsOpenOver Over.rows values tables opened =
    (found : Outcome (List (List Value))) × (opened ≡ rows_opened found)
IsOpenOver (Over.numbers table) values tables opened =
    (found : Outcome (List ℕ)) × (opened ≡ numbers_opened table found)
IsOpenOver (Over.walk table) values tables opened =
    opened ≡ Ok (cursor.Walking (walk_before tables table values))

-- ---- the rows and numbers

-- The cursor over the rows of a query expression, in order, or the status of finding them.
abbrev pub opened_in_order : Kinds (Placed TablePlace) → BoundQuery → List SortColumn → Name → List Value
    → (TablePlace → Outcome (List Row)) → Outcome CursorState
opened_in_order kinds query order user values shown =
    rows_opened (and_then (query_rows (by_place shown) kinds (query_of query)
    (outermost (inputs_of values) user)) (λ rows. Ok (sorted (by_columns (sort_columns order)) rows)))

-- The rows are the query's over the tables that the stored rows and the views' queries make for the user.
abbrev pub RowsAreMeant : Schemas → BoundQuery → List SortColumn → Name → List ParameterDesc → List Value
    → Content → Outcome CursorState → Type 0
RowsAreMeant s query order user parameters values tables opened =
    (shown : TablePlace → Outcome (List Row)) → AreMeant s.views tables user shown
    → opened ≡ opened_in_order (kinds_by_place (columns_of s) (kinds_of_parameters parameters)) query order
    user values shown

-- The numbers are of the rows of which the conditions of a target are true, or the status is that of choosing
-- them.
abbrev pub NumbersAreMeant : Schemas → Target → Name → List Value → Content → Outcome CursorState → Type 0
NumbersAreMeant s t user values tables opened =
    (shown : TablePlace → Outcome (List Row)) → AreMeant s.views tables user shown
    → opened ≡ numbers_opened t.base
    (and_then (stored_numbered tables t.base)
    (numbers_chosen (is_true_of shown values user) (conditions_of t)))

-- A target that is not quiet is opened over the numbers of its rows; a quiet one is walked.
abbrev pub TargetIsMeant : Schemas → Target → Name → List Value → Content → Outcome CursorState → Type 0
TargetIsMeant s t user values tables opened =
    t.is_quiet ≡ false → NumbersAreMeant s t user values tables opened

abbrev pub IsMeant : Schemas → CursorBody → Name → List ParameterDesc → List Value → Content
    → Outcome CursorState → Type 0
IsMeant s (body.Rows query order) user parameters values tables opened =
    RowsAreMeant s query order user parameters values tables opened
IsMeant s (body.Updatable u) user parameters values tables opened =
    TargetIsMeant s u.target user values tables opened

abbrev pub IsMeantIfAny : Schemas → Option CursorBody → Name → List ParameterDesc → List Value → Content
    → Outcome CursorState → Type 0
IsMeantIfAny s None user parameters values tables opened = ⊤
IsMeantIfAny s (Some b) user parameters values tables opened =
    IsMeant s b user parameters values tables opened

-- ---- while the statement runs

-- What a definition says of an answer; it says nothing of running out of memory.
abbrev pub IfAnswered : (Outcome CursorState → Type 0) → Result CursorState Fault → Type 0
IfAnswered P (Ok c) = P (Ok c)
IfAnswered P (Err (fault.Status f)) = P (Err (status_of f))
IfAnswered P (Err fault.NoMemory) = ⊤

abbrev pub HasOpened : Over → (Outcome CursorState → Type 0) → List Value → Content
    → Result CursorState Fault → Type 0
HasOpened over IsSo values tables answer =
    IfAnswered (λ opened. IsOpenOver over values tables opened × IsSo opened) answer
