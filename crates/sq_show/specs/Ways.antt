-- What is asked of a statement and of cursors before it is said how they find rows: each table that they read is there.
use Rattle.std.specs.Prelude.{List, ⊤}
use Rattle.std.specs.List.{AllByRecursion}
use Rattle.sq_bound.specs.Joined.{specifications_of}
use Rattle.sq_bound.specs.WellFormed.{TableKinds}
use Rattle.sq_bound.specs.declared.names.BaseTable.{BaseTable}
use Rattle.sq_bound.specs.declared.query.CursorBody.{CursorBody}
use Rattle.sq_bound.specs.declared.query.CursorBody.TheVariants as body
use Rattle.sq_bound.specs.declared.statement.BoundStatement.{BoundStatement}
use Rattle.sq_bound.specs.declared.statement.BoundStatement.TheVariants as statement
use Rattle.sq_bound.specs.declared.statement.InsertedRows.{InsertedRows}
use Rattle.sq_bound.specs.declared.statement.InsertedRows.TheVariants as source
use Rattle.sq_module.specs.declared.program.DeclaredCursor.{DeclaredCursor}
use Rattle.sq_query.specs.Needed.{FindsSelect}

abbrev pub FindsSource : List BaseTable → TableKinds → InsertedRows → Type 0
FindsSource bases columns (source.Values es) = ⊤
FindsSource bases columns (source.Query q) = FindsSelect bases columns q

-- the tables of its own query; those of a cursor that it opens are asked for with the cursors
abbrev pub FindsStatement : List BaseTable → TableKinds → BoundStatement → Type 0
FindsStatement bases columns (statement.Select s) = FindsSelect bases columns s.query
FindsStatement bases columns (statement.Insert i) = FindsSource bases columns i.source
FindsStatement bases columns _ = ⊤

abbrev pub FindsBody : List BaseTable → TableKinds → CursorBody → Type 0
FindsBody bases columns (body.Rows q order) =
    AllByRecursion (FindsSelect bases columns) (specifications_of q)
FindsBody bases columns (body.Updatable u) = ⊤

abbrev pub FindCursors : List BaseTable → TableKinds → List DeclaredCursor → Type 0
FindCursors bases columns cursors = AllByRecursion (λ c. FindsBody bases columns c.cursor.body) cursors
