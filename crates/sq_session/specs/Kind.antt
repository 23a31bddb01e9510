-- What a statement is to the tables, the cursors and the parameters: which cursor it works on, whether it may change rows,
-- and which parameters it sets.
use Rattle.std.specs.Prelude.{◌≡◌, ℕ, Bool, true, false, if◌then◌else◌, List, [], slice_get, option_and_then, Option, None, Some, Result}
use Rattle.std.specs.Option.{option_map, option_map_or}
use Rattle.std.specs.Result.{result_err, result_ok}
use Rattle.sq_lex.specs.declared.name.Name.{Name}
use Rattle.sq_value.specs.declared.value.Value.{Value}
use Rattle.sq_meaning.specs.Tables.{Declared}
use Rattle.sq_meaning.specs.Script.{fit}
use Rattle.sq_bound.specs.declared.condition.BoundCond.{BoundCond}
use Rattle.sq_bound.specs.declared.condition.BoundSpecification.{BoundSpecification}
use Rattle.sq_binder.specs.declared.stop.Fault.{Fault}
use Rattle.sq_bound.specs.declared.names.ParameterDesc.{ParameterDesc}
use Rattle.sq_bound.specs.declared.query.CursorBody.{CursorBody}
use Rattle.sq_bound.specs.declared.query.CursorBody.TheVariants as body
use Rattle.sq_bound.specs.declared.query.Target.{Target}
use Rattle.sq_bound.specs.declared.query.UpdatableQuery.{UpdatableQuery}
use Rattle.sq_bound.specs.declared.statement.BoundFetch.{BoundFetch}
use Rattle.sq_bound.specs.declared.statement.BoundInsert.{BoundInsert}
use Rattle.sq_bound.specs.declared.statement.BoundSelect.{BoundSelect}
use Rattle.sq_bound.specs.declared.statement.BoundStatement.{BoundStatement}
use Rattle.sq_bound.specs.declared.statement.BoundStatement.TheVariants as statement
use Rattle.sq_bound.specs.declared.statement.BoundUpdate.{BoundUpdate}
use Rattle.sq_bound.specs.declared.statement.ChangeTarget.{ChangeTarget}
use Rattle.sq_bound.specs.declared.statement.ChangeTarget.TheVariants as target
use Rattle.sq_bound.specs.declared.statement.FetchOrientation.{FetchOrientation}
use Rattle.sq_bound.specs.declared.statement.Output.{Output}
use Rattle.sq_bound.specs.declared.statement.PositionedTarget.{PositionedTarget}
use Rattle.sq_module.specs.declared.program.DeclaredCursor.{DeclaredCursor}
use Rattle.sq_query.specs.Target.{conditions_of}

-- ---- cursors (13.1)

-- the columns of the base table that an updatable query shows
abbrev pub columns_of : CursorBody → List ℕ
columns_of (body.Rows query order) = []
columns_of (body.Updatable u) = u.columns

-- the conditions on a row of the base table that an updatable query means
abbrev pub conditions_in : CursorBody → List BoundCond
conditions_in (body.Rows query order) = []
conditions_in (body.Updatable u) = conditions_of u.target

-- The rows of the base table that may be changed through a cursor.
abbrev pub target_in : CursorBody → Option Target
target_in (body.Rows query order) = None
target_in (body.Updatable u) = Some u.target

abbrev pub target_at : List DeclaredCursor → ℕ → Option Target
target_at cursors number = option_and_then (λ c. target_in c.cursor.body) (slice_get cursors number)

abbrev pub conditions_at : List DeclaredCursor → ℕ → List BoundCond
conditions_at cursors number = option_map_or (λ c. conditions_in c.cursor.body) (slice_get cursors number) []

abbrev pub body_at : List DeclaredCursor → ℕ → Option CursorBody
body_at cursors number = option_map (λ c. c.cursor.body) (slice_get cursors number)

abbrev pub columns_at : List DeclaredCursor → ℕ → List ℕ
columns_at cursors number = option_map_or (λ c. columns_of c.cursor.body) (slice_get cursors number) []

-- the body of the cursor that is declared with a number is this updatable query
pub record IsDeclaredAt (cursors : List DeclaredCursor) (number : ℕ) (query : UpdatableQuery) : Type 0 where
  pub declared : DeclaredCursor
  pub at : slice_get cursors number ≡ Some declared
  pub body_is : declared.cursor.body ≡ body.Updatable query

-- what an open cursor goes over: the rows of its query, numbers of rows of a base table, or, where no condition may answer
-- a status, the base table itself
pub data Over : Type 0 where
  rows : Over
  numbers : ℕ → Over
  walk : ℕ → Over

abbrev pub over_target : Target → Over
over_target t = if t.is_quiet then Over.walk t.base else Over.numbers t.base

abbrev pub over_of : CursorBody → Over
over_of (body.Rows query order) = Over.rows
over_of (body.Updatable u) = over_target u.target

abbrev pub over_at : List DeclaredCursor → ℕ → Over
over_at cursors number = option_map_or (λ c. over_of c.cursor.body) (slice_get cursors number) Over.rows

-- ---- statements with parameters; the user is that of the procedure's module

pub record Caller : Type 0 where
  pub user : Name
  pub parameters : List ParameterDesc

-- What OPEN works on (13.2).
pub record Opening : Type 0 where
  pub cursor : ℕ
  pub over : Over
  pub body : Option CursorBody
  pub user : Name
  pub parameters : List ParameterDesc

abbrev pub opening : List DeclaredCursor → Name → List ParameterDesc → ℕ → Opening
opening cursors user parameters number = record {
  cursor = number;
  over = over_at cursors number;
  body = body_at cursors number;
  user = user;
  parameters = parameters;
}

-- What FETCH works on (13.3). The columns, the conditions and the target are those of an updatable cursor.
pub record Fetching : Type 0 where
  pub cursor : ℕ
  pub orientation : FetchOrientation
  pub columns : List ℕ
  pub conditions : List BoundCond
  pub target : Option Target
  pub user : Name
  pub parameters : List ParameterDesc
  pub targets : List Output

abbrev pub fetching : List DeclaredCursor → Name → List ParameterDesc → BoundFetch → Fetching
fetching cursors user parameters f = record {
  cursor = f.cursor;
  orientation = f.orientation;
  columns = columns_at cursors f.cursor;
  conditions = conditions_at cursors f.cursor;
  target = target_at cursors f.cursor;
  user = user;
  parameters = parameters;
  targets = f.outputs;
}

-- What a SELECT INTO works on (13.5).
pub record Selecting : Type 0 where
  pub query : BoundSpecification
  pub user : Name
  pub parameters : List ParameterDesc
  pub targets : List Output

abbrev pub selecting : Name → List ParameterDesc → BoundSelect → Selecting
selecting user parameters s =
    record { query = s.query; user = user; parameters = parameters; targets = s.outputs }

-- What an UPDATE works on (13.9, 13.10). The conditions of declared cursors may read the columns that get
-- values.
pub record Updating : Type 0 where
  pub caller : Caller
  pub statement : BoundUpdate
  pub cursors : List DeclaredCursor

abbrev pub updating : List DeclaredCursor → Caller → BoundUpdate → Updating
updating cursors caller u = record { caller = caller; statement = u; cursors = cursors }

-- ---- statements

-- What each kind of statement works on; CLOSE names a cursor by its number.
pub data Kind : Type 0 where
  opens : Opening → Kind
  fetches : Fetching → Kind
  closes : ℕ → Kind
  selects : Selecting → Kind
  inserts : Caller → BoundInsert → Kind
  updates : Updating → Kind
  deletes : Caller → Target → Kind
  updates_at : Updating → PositionedTarget → Kind
  deletes_at : Caller → PositionedTarget → Kind
  commits : Kind
  rolls_back : Kind

abbrev pub update_kind : Updating → ChangeTarget → Kind
update_kind u (target.Searched t) = Kind.updates u
update_kind u (target.Positioned p) = Kind.updates_at u p

abbrev pub delete_kind : Caller → ChangeTarget → Kind
delete_kind caller (target.Searched t) = Kind.deletes caller t
delete_kind caller (target.Positioned p) = Kind.deletes_at caller p

abbrev pub caller_of : Name → List ParameterDesc → Caller
caller_of user parameters = record { user = user; parameters = parameters }

-- The kind of a statement of a procedure with this user and these parameters, where modules declare these
-- cursors.
abbrev pub kind_of : List DeclaredCursor → Name → List ParameterDesc → BoundStatement → Kind
kind_of cursors user parameters (statement.Open number) = Kind.opens (opening cursors user parameters number)
kind_of cursors user parameters (statement.Fetch f) = Kind.fetches (fetching cursors user parameters f)
kind_of cursors user parameters (statement.Close number) = Kind.closes number
kind_of cursors user parameters (statement.Select s) = Kind.selects (selecting user parameters s)
kind_of cursors user parameters (statement.Insert i) = Kind.inserts (caller_of user parameters) i
kind_of cursors user parameters (statement.Update u) =
    update_kind (updating cursors (caller_of user parameters) u) u.target
kind_of cursors user parameters (statement.Delete t) = delete_kind (caller_of user parameters) t
kind_of cursors user parameters statement.Commit = Kind.commits
kind_of cursors user parameters statement.Rollback = Kind.rolls_back

-- The parameters whose values a statement reads: those of its procedure, or none.
abbrev pub read_parameters : Kind → List ParameterDesc
read_parameters (Kind.opens o) = o.parameters
read_parameters (Kind.fetches f) = f.parameters
read_parameters (Kind.selects s) = s.parameters
read_parameters (Kind.inserts caller i) = caller.parameters
read_parameters (Kind.updates u) = u.caller.parameters
read_parameters (Kind.deletes caller t) = caller.parameters
read_parameters (Kind.updates_at u p) = u.caller.parameters
read_parameters (Kind.deletes_at caller p) = caller.parameters
read_parameters _ = []

-- ---- what takes memory: every statement but CLOSE, COMMIT and ROLLBACK

abbrev pub takes_memory : Kind → Bool
takes_memory (Kind.closes number) = false
takes_memory Kind.commits = false
takes_memory Kind.rolls_back = false
takes_memory _ = true

-- ---- procedures

-- A procedure: the name of its module, its own name, its parameters, and the kind of its statement, or the
-- fault that the statement has (12.3).
pub record Procedure : Type 0 where
  pub «module» : Name
  pub name : Name
  pub parameters : List Declared
  pub statement : Result Kind Fault

-- The kind of the statement of a procedure, if there is such a procedure and its statement has no fault.
abbrev pub kind_at : List Procedure → ℕ → Option Kind
kind_at procedures number = option_and_then (λ p. result_ok p.statement) (slice_get procedures number)

-- The fault for which each call of a procedure answers 42000.
abbrev pub fault_at : List Procedure → ℕ → Option Fault
fault_at procedures number = option_and_then (λ p. result_err p.statement) (slice_get procedures number)

-- Whether a procedure can be called with these values: one for each parameter, each null or one that the
-- parameter can store.
abbrev pub fits_at : List Procedure → ℕ → List Value → Bool
fits_at procedures number values =
    option_map_or (λ p. fit p.parameters values) (slice_get procedures number) false

abbrev pub needs_memory : Option Kind → Bool
needs_memory None = false
needs_memory (Some k) = takes_memory k
