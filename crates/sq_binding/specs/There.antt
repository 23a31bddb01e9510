-- The tables and columns that a bound tree names exist, if this does not already follow from the part that the definitions see. Base tables
-- are at their places, object columns are columns of them, and NULL is bound to itself alone. (Own notion: names are places in bound
-- trees.)
use Rattle.std.specs.Prelude.{⊤, ◌≡◌, List}
use Rattle.std.specs.List.{AllByRecursion}
use Rattle.sq_bound.specs.Fits.{IsBase, IsColumnOf, under}
use Rattle.sq_bound.specs.declared.names.BaseTable.{BaseTable}
use Rattle.sq_value.specs.declared.value.Value.TheVariants.{Null}
use Rattle.sq_bound.specs.declared.expression.BoundExpr.{BoundExpr}
use Rattle.sq_bound.specs.declared.expression.BoundExpr.TheVariants.{Literal}
use Rattle.sq_bound.specs.declared.query.BoundCursor.{BoundCursor}
use Rattle.sq_bound.specs.declared.query.CursorBody.{CursorBody}
use Rattle.sq_bound.specs.declared.query.CursorBody.TheVariants as body
use Rattle.sq_bound.specs.declared.statement.BoundStatement.{BoundStatement}
use Rattle.sq_bound.specs.declared.statement.BoundStatement.TheVariants as statement
use Rattle.sq_bound.specs.declared.statement.InsertedRows.{InsertedRows}
use Rattle.sq_bound.specs.declared.statement.InsertedRows.TheVariants as inserted
use Rattle.sq_binding.specs.Numbered.{Numbered}
use Rattle.sq_binding.specs.Seen.{numbered_of}

abbrev pub BodyIsThere : List BaseTable → CursorBody → Type 0
BodyIsThere bases (body.Rows q order) = ⊤
BodyIsThere bases (body.Updatable u) = IsBase bases u.target.leaf.table

abbrev pub CursorIsThere : List BaseTable → BoundCursor → Type 0
CursorIsThere bases c = BodyIsThere bases c.body

-- an expression seen as NULL is NULL
abbrev pub IsPlain : BoundExpr → Type 0
IsPlain e = numbered_of e ≡ Numbered.literal Null → e ≡ Literal Null

abbrev pub SourceIsPlain : InsertedRows → Type 0
SourceIsPlain (inserted.Values es) = AllByRecursion IsPlain es
SourceIsPlain (inserted.Query q) = ⊤

abbrev pub StatementIsThere : List BaseTable → BoundStatement → Type 0
StatementIsThere bases (statement.Insert i) =
    IsBase bases i.leaf.table × AllByRecursion (IsColumnOf i.leaf.table) i.columns × SourceIsPlain i.source
StatementIsThere bases (statement.Update u) =
    IsBase bases (under u.target).table
    × AllByRecursion (λ a. IsColumnOf (under u.target).table a.column × IsPlain a.value) u.assignments
StatementIsThere bases (statement.Delete t) = IsBase bases (under t).table
StatementIsThere bases _ = ⊤
