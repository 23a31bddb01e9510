-- What the parts of a statement ask for, where the statement is well formed and its parameters have values of their kinds.
use Rattle.std.proofs.Common.{◌≡◌, ◌<◌, ℕ, zero, suc, Bool, true, false, if◌then◌else◌, List, [], ◌∷◌, length, get_or, None, Result, Ok, Err, IfOk, sym, subst, arith}
use Rattle.std.specs.List.{AllByRecursion}
use Rattle.sq_lex.specs.declared.name.Name.{Name}
use Rattle.sq_value.specs.declared.domain.Kind.{Kind}
use Rattle.sq_value.specs.declared.value.Value.{Value}
use Rattle.sq_store.specs.Content.{Content}
use Rattle.sq_meaning.specs.Status.{Outcome}
use Rattle.sq_bound.specs.Fits.{AreInDomains, IsColumnOf, are_columns, under}
use Rattle.sq_meaning.specs.WellFormed.{AreRowsOf}
use Rattle.sq_bound.specs.WellFormed.{IsChangeTarget, IsCursor, IsStatement, TableKinds, kinds_of_query, kinds_of_results}
use Rattle.sq_bound.specs.declared.names.BaseTable.{BaseTable}
use Rattle.sq_bound.specs.declared.query.BoundCursor.{BoundCursor}
use Rattle.sq_bound.specs.declared.query.BoundQuery.{BoundQuery}
use Rattle.sq_bound.specs.declared.query.Target.{Target}
use Rattle.sq_bound.specs.declared.statement.BoundInsert.{BoundInsert}
use Rattle.sq_bound.specs.declared.statement.BoundStatement.TheVariants as statement
use Rattle.sq_bound.specs.declared.statement.BoundUpdate.{BoundUpdate}
use Rattle.sq_bound.specs.declared.statement.ChangeTarget.{ChangeTarget}
use Rattle.sq_catalog.specs.Catalog.{Catalog, column_kinds}
use Rattle.sq_change.specs.Given.{MayAssign, MayChoose, MayGive}
use Rattle.sq_change.specs.Statement.{IsConsistent}
use Rattle.sq_module.specs.Program.{OpensWellFormed}
use Rattle.sq_module.specs.declared.program.DeclaredCursor.{DeclaredCursor}
use Rattle.sq_expression.specs.declared.fault.Fault.{Fault}
use Rattle.sq_session.specs.Cursors.{HasKept, HasListed, IsWhole, MayKeep}
use Rattle.sq_session.specs.Kind.{Over, over_target}
use Rattle.sq_session.specs.Open.{HasOpened, IsOpenOver, TargetIsMeant, numbers_opened, walk_before}
use Rattle.sq_session.specs.Parameter.{AreGiven}
use Rattle.sq_session.specs.Schemas.{Schemas}
use Rattle.sq_session.specs.State.{State}
use Rattle.sq_session.specs.declared.cursor.CursorState.{CursorState}
use Rattle.sq_session.specs.declared.cursor.CursorState.TheVariants as cursor
use Rattle.sq_session.proofs.Calls.Reading.{some_tables}
use Rattle.sq_session.proofs.Parameters.Started.{given_row}

-- ---- INSERT, UPDATE and DELETE

pub may_give : (c : Catalog) (cursors : List (List Kind)) (tables : Content) (user : Name) (kinds : List Kind) (values : List Value) (i : BoundInsert) → AreGiven kinds values → AreInDomains c.bases tables
    → IsStatement (column_kinds c) cursors kinds (statement.Insert i) → MayGive c.bases c.views (column_kinds c) tables user values i.columns i.source
may_give c cursors tables user kinds values i given in_domains h =
    let some = some_tables c tables user kinds values given in_domains in
    record { parameters = kinds; tables = some.0; reads = some.1; given = h.2 }

pub may_choose : (c : Catalog) (tables : Content) (user : Name) (kinds : List Kind) (values : List Value) (t : ChangeTarget) → AreGiven kinds values → AreInDomains c.bases tables
    → IsChangeTarget (column_kinds c) kinds t → MayChoose c.bases c.views (column_kinds c) tables user values t
may_choose c tables user kinds values t given in_domains h =
    let some = some_tables c tables user kinds values given in_domains in
    record { parameters = kinds; tables = some.0; reads = some.1; target = h }

pub may_assign : (columns : TableKinds) (cursors : List (List Kind)) (kinds : List Kind) (values : List Value) (u : BoundUpdate) → AreGiven kinds values
    → IsStatement columns cursors kinds (statement.Update u) → are_columns (length (under u.target).table.columns) u.assignments ≡ true → AllByRecursion (λ a. IsColumnOf (under u.target).table a.column) u.assignments
    → MayAssign columns values (under u.target).table u.assignments
may_assign columns cursors kinds values u given h there own = record {
  parameters = kinds;
  inputs = given_row kinds values given;
  assigned = h.1;
  there = there;
  own = own;
}

-- the store is consistent where a session is in order
pub consistent : (columns : TableKinds) (bases : List BaseTable) (declared : List DeclaredCursor) (s : State) → IsWhole columns bases declared s → IsConsistent bases s.tables s.keys
consistent columns bases declared s whole = record {
  tables = record { rows = whole.0; in_domains = whole.4; constraints = whole.7 };
  keys = whole.2;
}

-- ---- OPEN

-- the cursor that is opened is well formed
pub cursor_there : (columns : TableKinds) (kinds : List Kind) (ds : List DeclaredCursor) (n : ℕ) (d : DeclaredCursor) → OpensWellFormed columns ds kinds (statement.Open n) → n < length ds
    → IsCursor columns kinds (get_or ds n d).cursor
cursor_there columns kinds [] n d h lt = absurd (omega (arith, lt))
cursor_there columns kinds (x ∷ ds) zero d h lt = h
cursor_there columns kinds (x ∷ ds) (suc n) d h lt = cursor_there columns kinds ds n d h (omega (arith, lt))

-- what has listed rows of the kinds of its query keeps them
pub rows_kept : (columns : TableKinds) (d : BoundCursor) (q : BoundQuery) (r : Result CursorState Fault) → kinds_of_results d.columns ≡ kinds_of_query q → IfOk r (HasListed (kinds_of_query q)) → IfOk r (HasKept columns d)
rows_kept columns d q (Err f) e h = tt
rows_kept columns d q (Ok cursor.Closed) e h = tt
rows_kept columns d q (Ok (cursor.Rows c)) e h = subst (λ (kinds : List Kind). AreRowsOf kinds c.rows) (sym e) h
rows_kept columns d q (Ok (cursor.Numbers c)) e h = absurd h
rows_kept columns d q (Ok (cursor.Walking c)) e h = absurd h

-- an updatable cursor has passed none of its numbers, and one that walks the values of the parameters
walk_kept : (columns : TableKinds) (d : BoundCursor) (values : List Value) (tables : Content) (table : ℕ) (c : CursorState) → MayKeep columns d values
    → (◌≡◌ {A = Outcome CursorState} (Ok c) (Ok (cursor.Walking (walk_before tables table values)))) → HasKept columns d c
walk_kept columns d values tables table c may h =
    let same : c ≡ cursor.Walking (walk_before tables table values) = cc in
    subst (λ (x : CursorState). HasKept columns d x) (sym same) may

numbers_kept : (columns : TableKinds) (d : BoundCursor) (table : ℕ) (found : Outcome (List ℕ)) (c : CursorState) → Ok c ≡ numbers_opened table found → HasKept columns d c
numbers_kept columns d table (Ok numbers) c e =
    let same : c ≡ cursor.Numbers (record { table = table; numbers = numbers; passed = 0; on = None }) = cc in
    subst (λ (x : CursorState). HasKept columns d x) (sym same) (omega arith)
numbers_kept columns d table (Err st) c e = cc

by_quiet : (columns : TableKinds) (d : BoundCursor) (values : List Value) (tables : Content) (quiet : Bool) (base : ℕ) (c : CursorState) → MayKeep columns d values
    → IsOpenOver (if quiet then Over.walk base else Over.numbers base) values tables (Ok c) → HasKept columns d c
by_quiet columns d values tables true base c may h = walk_kept columns d values tables base c may h
by_quiet columns d values tables false base c may h = numbers_kept columns d base h.0 c h.1

pub updatable_kept : (s : Schemas) (columns : TableKinds) (d : BoundCursor) (parameters : List Kind) (t : Target) (user : Name) (values : List Value) (tables : Content) (r : Result CursorState Fault)
    → IsCursor columns parameters d → AreGiven parameters values → HasOpened (over_target t) (TargetIsMeant s t user values tables) values tables r → IfOk r (HasKept columns d)
updatable_kept s columns d parameters t user values tables (Err f) is given h = tt
updatable_kept s columns d parameters t user values tables (Ok c) is given h =
    by_quiet columns d values tables t.is_quiet t.base c (record { parameters = parameters; is_cursor = is; given = given_row parameters values given }) h.0
