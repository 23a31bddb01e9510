-- What is known of the statement of a procedure before it is performed (ISO/IEC 9075:1992, clause 13).
use Rattle.std.specs.Prelude.{List, length}
use Rattle.sq_bound.specs.Fits.{FitsStatement}
use Rattle.sq_bound.specs.WellFormed.{IsStatement, TableKinds, kinds_of_parameters}
use Rattle.sq_bound.specs.declared.names.BaseTable.{BaseTable}
use Rattle.sq_bound.specs.declared.names.ParameterDesc.{ParameterDesc}
use Rattle.sq_bound.specs.declared.statement.BoundStatement.{BoundStatement}
use Rattle.sq_module.specs.Program.{CursorsAreWellFormed, CursorsFit, OpensWellFormed, kinds_of_cursors}
use Rattle.sq_module.specs.declared.program.DeclaredCursor.{DeclaredCursor}

-- A statement of a procedure with these parameters, and the cursors that modules declare, are in order: what they name
-- is there, and they are well formed, a cursor that the statement opens for these parameters.
pub record IsAsked (columns : TableKinds) (bases : List BaseTable) (cursors : List DeclaredCursor)
    (parameters : List ParameterDesc) (s : BoundStatement) : Type 0 where
  pub fits : FitsStatement bases (length cursors) (length parameters) s
  pub well_formed : IsStatement columns (kinds_of_cursors cursors) (kinds_of_parameters parameters) s
  pub opens : OpensWellFormed columns cursors (kinds_of_parameters parameters) s
  pub cursors_fit : CursorsFit bases cursors
  pub cursors_well_formed : CursorsAreWellFormed columns cursors
