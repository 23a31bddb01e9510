-- The tables that the statements and cursors of a program read are there.
use Rattle.std.proofs.Common.{List, []}
use Rattle.std.specs.List.{AllByRecursion}
use Rattle.sq_value.specs.declared.domain.Kind.{Kind}
use Rattle.sq_bound.specs.Joined.{specifications_of}
use Rattle.sq_bound.specs.WellFormed.{BasesAreThere, IsCursor, IsCursorBody, IsSelect, IsSource, IsStatement, TableKinds, kinds_of_results}
use Rattle.sq_bound.specs.declared.names.BaseTable.{BaseTable}
use Rattle.sq_bound.specs.declared.names.ObjectColumn.{ObjectColumn}
use Rattle.sq_bound.specs.declared.query.CursorBody.{CursorBody}
use Rattle.sq_bound.specs.declared.query.CursorBody.TheVariants as body
use Rattle.sq_bound.specs.declared.statement.BoundStatement.{BoundStatement}
use Rattle.sq_bound.specs.declared.statement.BoundStatement.TheVariants as statement
use Rattle.sq_bound.specs.declared.statement.InsertedRows.{InsertedRows}
use Rattle.sq_bound.specs.declared.statement.InsertedRows.TheVariants as source
use Rattle.sq_meaning.proofs.AnswerLaws.{all_weaker}
use Rattle.sq_module.specs.Program.{CursorsAreWellFormed}
use Rattle.sq_module.specs.declared.program.DeclaredCursor.{DeclaredCursor}
use Rattle.sq_query.specs.Needed.{FindsSelect}
use Rattle.sq_query.proofs.Needs.Finds.{select_finds}
use Rattle.sq_show.specs.Ways.{FindCursors, FindsBody, FindsSource, FindsStatement}

module _ (bases : List BaseTable) (columns : TableKinds) (there : BasesAreThere bases columns) where
  source_finds : (parameters : List Kind) (objects : List ObjectColumn) (s : InsertedRows) → IsSource columns parameters objects s → FindsSource bases columns s
  source_finds parameters objects (source.Values es) well = tt
  source_finds parameters objects (source.Query q) well = select_finds bases columns there parameters q well.0

  pub statement_finds : (cursors : List (List Kind)) (parameters : List Kind) (s : BoundStatement) → IsStatement columns cursors parameters s → FindsStatement bases columns s
  statement_finds cursors parameters (statement.Open n) well = tt
  statement_finds cursors parameters (statement.Fetch f) well = tt
  statement_finds cursors parameters (statement.Close n) well = tt
  statement_finds cursors parameters (statement.Select s) well = select_finds bases columns there parameters s.query well.0
  statement_finds cursors parameters (statement.Insert i) well = source_finds parameters i.columns i.source well.2
  statement_finds cursors parameters (statement.Update u) well = tt
  statement_finds cursors parameters (statement.Delete t) well = tt
  statement_finds cursors parameters statement.Commit well = tt
  statement_finds cursors parameters statement.Rollback well = tt

  body_finds : (parameters kinds : List Kind) (b : CursorBody) → IsCursorBody columns parameters kinds b → FindsBody bases columns b
  body_finds parameters kinds (body.Rows q order) well =
      all_weaker (IsSelect columns parameters []) (FindsSelect bases columns) (select_finds bases columns there parameters) (specifications_of q) well.0.specifications
  body_finds parameters kinds (body.Updatable u) well = tt

  pub cursors_find : (cursors : List DeclaredCursor) → CursorsAreWellFormed columns cursors → FindCursors bases columns cursors
  cursors_find cursors well =
      all_weaker (λ c. (parameters : List Kind) × IsCursor columns parameters c.cursor) (λ c. FindsBody bases columns c.cursor.body)
      (λ c h. body_finds h.0 (kinds_of_results c.cursor.columns) c.cursor.body h.1) cursors well
