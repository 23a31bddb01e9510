-- The values that insert and update statements give (ISO/IEC 9075:1992, 13.8 to 13.10).
use Rattle.std.specs.Prelude.{◌≡◌, ℕ, true, length, List, [], ◌∷◌, Result, IfOk, IfErr}
use Rattle.std.specs.List.{AllByRecursion, AllZip, Contains}
use Rattle.sq_lex.specs.declared.name.Name.{Name}
use Rattle.sq_store.specs.Content.{Content}
use Rattle.sq_value.specs.Domain.{FitsKind, IsInDomain}
use Rattle.sq_value.specs.declared.value.Value.{Value}
use Rattle.sq_value.specs.declared.domain.Domain.{Domain}
use Rattle.sq_value.specs.declared.domain.Kind.{Kind}
use Rattle.sq_meaning.specs.Environment.{Row, Line}
use Rattle.sq_meaning.specs.Status.{Outcome}
use Rattle.sq_meaning.specs.WellFormed.{IsRowOf}
use Rattle.sq_bound.specs.Fits.{IsColumnOf, are_columns}
use Rattle.sq_bound.specs.WellFormed.{TableKinds, IsChangeTarget, IsSource, IsAssignment}
use Rattle.sq_bound.specs.declared.condition.BoundSpecification.{BoundSpecification}
use Rattle.sq_bound.specs.declared.condition.TablePlace.{TablePlace}
use Rattle.sq_bound.specs.declared.expression.BoundExpr.{BoundExpr}
use Rattle.sq_bound.specs.declared.names.BaseTable.{BaseTable}
use Rattle.sq_bound.specs.declared.names.ObjectColumn.{ObjectColumn}
use Rattle.sq_bound.specs.declared.statement.BoundAssignment.{BoundAssignment}
use Rattle.sq_bound.specs.declared.statement.ChangeTarget.{ChangeTarget}
use Rattle.sq_bound.specs.declared.statement.InsertedRows.{InsertedRows}
use Rattle.sq_query.specs.MayRead.{MayEnd, MayRead}
use Rattle.sq_query.specs.Row.{HasValueOn}
use Rattle.sq_expression.specs.declared.fault.Fault.{Fault}
use Rattle.sq_change.specs.declared.given.GivenRows.{GivenRows}
use Rattle.sq_change.specs.declared.given.GivenRows.TheVariants as given

-- a value for each column, in its domain
abbrev pub AreStored : List ObjectColumn → List Value → Type 0
AreStored = AllZip (λ c v. IsInDomain c.domain v)

-- the value is in the domain of a column at this position
abbrev pub IsStoredFor : List ObjectColumn → ℕ → Value → Type 0
IsStoredFor columns position v =
    (c : ObjectColumn) × Contains columns c × (c.position ≡ position) × IsInDomain c.domain v

-- the values that an insert statement gives, row by row
abbrev pub all_given : GivenRows → List Row
all_given (given.One row) = row ∷ []
all_given (given.Several rows) = rows.items

-- ---- values that may be stored (9.2)

-- a value for each column: null, a number for a domain of numbers, or a text for one of texts
abbrev pub FitColumns : List ObjectColumn → List Value → Type 0
FitColumns = AllZip (λ c v. FitsKind c.domain v)

-- the value of an expression on a line is null or of the domain's kind; if it ends with a status, that is not 42000
abbrev pub IsStorable : Domain → BoundExpr → Line → List Value → Name → Type 0
IsStorable domain e line parameters user =
    (r : Result Value Fault) → HasValueOn r e line parameters user → IfOk r (FitsKind domain) × IfErr r MayEnd

-- an expression for each column, whose value may be stored there
abbrev pub AreStorable : List ObjectColumn → List BoundExpr → List Value → Name → Type 0
AreStorable columns es parameters user = AllZip (λ c e. IsStorable c.domain e [] parameters user) columns es

-- the values of set clauses on a row may be stored in their columns
abbrev pub AreAssignable : List BoundAssignment → Row → List Value → Name → Type 0
AreAssignable assignments row parameters user =
    AllByRecursion (λ a. IsStorable a.column.domain a.value (row ∷ []) parameters user) assignments

-- ---- statements

-- The parameters, with these values, are of some kinds for which the source of an insert statement is well formed. Its query may
-- read these tables.
pub record MayGive (bases : List BaseTable) (queries : List BoundSpecification) (columns : TableKinds)
    (content : Content) (user : Name)
    (values : List Value) (objects : List ObjectColumn) (source : InsertedRows) : Type 0 where
  pub parameters : List Kind
  pub tables : TablePlace → Outcome (List Row)
  pub reads : MayRead bases queries columns content user values parameters tables
  pub given : IsSource columns parameters objects source

-- A statement may find the rows that it changes. The parameters, with these values, are of some kinds for which its conditions are
-- well formed. They may read these tables.
pub record MayChoose (bases : List BaseTable) (queries : List BoundSpecification) (columns : TableKinds)
    (content : Content) (user : Name)
    (values : List Value) (t : ChangeTarget) : Type 0 where
  pub parameters : List Kind
  pub tables : TablePlace → Outcome (List Row)
  pub reads : MayRead bases queries columns content user values parameters tables
  pub target : IsChangeTarget columns parameters t

-- The parameters, with these values, are of some kinds for which the set clauses of an update statement are well formed. They are
-- for columns of the base table.
pub record MayAssign (columns : TableKinds) (values : List Value) (table : BaseTable)
    (assignments : List BoundAssignment) : Type 0 where
  pub parameters : List Kind
  pub inputs : IsRowOf parameters values
  pub assigned : AllByRecursion (IsAssignment columns parameters table) assignments
  pub there : are_columns (length table.columns) assignments ≡ true
  pub own : AllByRecursion (λ a. IsColumnOf table a.column) assignments
