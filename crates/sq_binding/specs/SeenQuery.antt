-- Bound query expressions, cursors, views and statements, as the definitions see them (ISO/IEC 9075:1992, 7.10, 11.19 and clause 13).
-- UNION groups to the left, brackets are gone, and an object column is its position. The leaf under a table is the one that its name
-- means.
use Rattle.std.specs.Prelude.{◌≡◌, ⊤, ℕ, List, [], fold, map, Option, Some, None}
use Rattle.std.specs.Option.{option_map}
use Rattle.sq_lex.specs.declared.name.Name.{Name}
use Rattle.sq_meaning.specs.Environment.{TableName}
use Rattle.sq_meaning.specs.Placed.{PlacedParameter}
use Rattle.sq_meaning.specs.Rows.{SortColumn}
use Rattle.sq_bound.specs.Known.{under_of}
use Rattle.sq_bound.specs.declared.condition.BoundCond.{BoundCond}
use Rattle.sq_bound.specs.declared.names.ObjectColumn.{ObjectColumn}
use Rattle.sq_bound.specs.declared.query.BoundCursor.{BoundCursor}
use Rattle.sq_bound.specs.declared.query.BoundQuery.{BoundQuery, fold-BoundQuery, BoundQuery-F, every-BoundQuery, out-BoundQuery, roll-BoundQuery}
use Rattle.sq_bound.specs.declared.query.BoundTerm.{BoundTerm, every-BoundTerm, fold-BoundTerm, BoundTerm-F}
use Rattle.sq_bound.specs.declared.query.BoundTerm.TheOpen as layer
use Rattle.sq_bound.specs.declared.query.BoundUnion.{BoundUnion, every-BoundUnion, fold-BoundUnion, BoundUnion-F}
use Rattle.sq_bound.specs.declared.query.CursorBody.{CursorBody}
use Rattle.sq_bound.specs.declared.query.CursorBody.TheVariants as body
use Rattle.sq_bound.specs.declared.query.SortColumn.{SortColumn as BoundSortColumn}
use Rattle.sq_bound.specs.declared.query.Target.{Target}
use Rattle.sq_bound.specs.declared.query.UpdatableQuery.{UpdatableQuery}
use Rattle.sq_bound.specs.declared.statement.BoundAssignment.{BoundAssignment}
use Rattle.sq_bound.specs.declared.statement.BoundFetch.{BoundFetch}
use Rattle.sq_bound.specs.declared.statement.BoundInsert.{BoundInsert}
use Rattle.sq_bound.specs.declared.statement.BoundSelect.{BoundSelect}
use Rattle.sq_bound.specs.declared.statement.BoundStatement.{BoundStatement}
use Rattle.sq_bound.specs.declared.statement.BoundStatement.TheVariants as statement
use Rattle.sq_bound.specs.declared.statement.BoundUpdate.{BoundUpdate}
use Rattle.sq_bound.specs.declared.statement.ChangeTarget.{ChangeTarget}
use Rattle.sq_bound.specs.declared.statement.ChangeTarget.TheVariants as target
use Rattle.sq_bound.specs.declared.statement.InsertedRows.{InsertedRows}
use Rattle.sq_bound.specs.declared.statement.InsertedRows.TheVariants as inserted
use Rattle.sq_bound.specs.declared.statement.Output.{Output}
use Rattle.sq_binding.specs.Change.{NumberedAssignment, NumberedChange, NumberedInsert, NumberedSource, NumberedUpdate}
use Rattle.sq_binding.specs.Changeable.{NumberedTarget, NumberedUpdatable}
use Rattle.sq_binding.specs.Cursor.{NumberedCursor, NumberedRows}
use Rattle.sq_binding.specs.NumberedCondition.{NumberedClause}
use Rattle.sq_binding.specs.QueryExpression.{NumberedQuery, columns_of_query}
use Rattle.sq_binding.specs.Row.{NumberedRow}
use Rattle.sq_binding.specs.Seen.{clause_if, column_of, cond_seen, numbered_of, select_seen}
use Rattle.sq_binding.specs.Statement.{NumberedFetch, NumberedStatement}

abbrev pub clause_seen : Option BoundCond → NumberedClause
clause_seen c = clause_if (option_map cond_seen c)

-- ---- query expressions

-- One level of a tree, with the seen parts in their places. UNION and its right term wait for the left side.

abbrev Q : Type 0
Q = NumberedQuery

abbrev pub term_layer : BoundTerm-F Q Q (Q → Q) → Q
term_layer (layer.Specification s) = NumberedQuery.select (select_seen s)
term_layer (layer.Bracketed q) = q

abbrev pub query_layer : BoundQuery-F Q Q (Q → Q) → Q
query_layer q = fold (λ left u. u left) q.first q.rest

abbrev pub union_layer : BoundUnion-F Q Q (Q → Q) → Q → Q
union_layer u left = NumberedQuery.joined u.all left u.term (map column_of u.columns)

unfoldable pub term_seen : BoundTerm → NumberedQuery
term_seen = fold-BoundTerm Q Q (Q → Q) term_layer query_layer union_layer

unfoldable pub query_seen : BoundQuery → NumberedQuery
query_seen = fold-BoundQuery Q Q (Q → Q) term_layer query_layer union_layer

unfoldable pub union_seen : BoundUnion → NumberedQuery → NumberedQuery
union_seen = fold-BoundUnion Q Q (Q → Q) term_layer query_layer union_layer

-- the columns noted with a query expression are the columns of the query that the definitions see
abbrev pub HasItsColumns : BoundQuery → Type 0
HasItsColumns q = map column_of (out-BoundQuery q).columns ≡ columns_of_query (query_seen q)

-- the columns noted with each query expression in one, in brackets, are the columns of the query that the definitions see
abbrev pub HaveTheirColumns : BoundQuery → Type 0
HaveTheirColumns = every-BoundQuery (λ y. ⊤) (λ y. HasItsColumns (roll-BoundQuery y)) (λ y. ⊤)

-- the columns noted with each query expression in a term are the columns of the query that the definitions see
abbrev pub TermHasColumns : BoundTerm → Type 0
TermHasColumns = every-BoundTerm (λ y. ⊤) (λ y. HasItsColumns (roll-BoundQuery y)) (λ y. ⊤)

abbrev pub UnionHasColumns : BoundUnion → Type 0
UnionHasColumns = every-BoundUnion (λ y. ⊤) (λ y. HasItsColumns (roll-BoundQuery y)) (λ y. ⊤)

-- ---- tables that may be changed

abbrev pub table_named : Name × Name → TableName
table_named t = record { user = t.0; name = t.1 }

abbrev pub target_seen : Target → NumberedTarget
target_seen t = record { table = t.table; leaf = under_of t.leaf; condition = clause_seen t.condition }

abbrev pub updatable_seen : (Name × Name) × UpdatableQuery → NumberedUpdatable
updatable_seen u = record { table = table_named u.0; target = target_seen u.1.target; columns = u.1.columns }

-- ---- cursors

abbrev pub sort_seen : BoundSortColumn → SortColumn
sort_seen s = record { column = s.column; descending = s.descending }

-- the table that an updatable cursor is over; the others have none
abbrev pub nameless : TableName
nameless = record { user = []; name = [] }

abbrev pub over_table : Option (Name × Name) → TableName
over_table None = nameless
over_table (Some t) = table_named t

abbrev pub rows_seen : TableName → CursorBody → NumberedRows
rows_seen t (body.Rows q order) = NumberedRows.sorted (query_seen q) (map sort_seen order)
rows_seen t (body.Updatable u) = NumberedRows.updatable (updatable_seen ((t.user, t.name), u))

abbrev pub cursor_seen : BoundCursor → NumberedCursor
cursor_seen c = record {
  insensitive = c.insensitive;
  scroll = c.scroll;
  table = option_map table_named c.table;
  columns = map column_of c.columns;
  rows = rows_seen (over_table c.table) c.body;
}

abbrev pub BodyHasColumns : CursorBody → Type 0
BodyHasColumns (body.Rows q order) = HaveTheirColumns q
BodyHasColumns (body.Updatable u) = ⊤

-- ---- statements

abbrev pub output_seen : Output → PlacedParameter
output_seen o = record { position = o.parameter; indicator = o.indicator }

abbrev pub fetch_seen : BoundFetch → NumberedFetch
fetch_seen f = record { cursor = f.cursor; orientation = f.orientation; targets = map output_seen f.outputs }

abbrev pub row_seen : BoundSelect → NumberedRow
row_seen s = record { query = select_seen s.query; targets = map output_seen s.outputs }

abbrev pub positions_of : List ObjectColumn → List ℕ
positions_of columns = map (λ c. c.position) columns

abbrev pub source_seen : InsertedRows → NumberedSource
source_seen (inserted.Values es) = NumberedSource.values (map numbered_of es)
source_seen (inserted.Query q) = NumberedSource.query (select_seen q)

abbrev pub insert_seen : BoundInsert → NumberedInsert
insert_seen i = record {
  leaf = under_of i.leaf;
  columns = positions_of i.columns;
  source = source_seen i.source;
}

abbrev pub change_seen : ChangeTarget → NumberedChange
change_seen (target.Searched t) = NumberedChange.searched (target_seen t)
change_seen (target.Positioned p) = NumberedChange.positioned p.cursor (under_of p.leaf)

abbrev pub assignment_seen : BoundAssignment → NumberedAssignment
assignment_seen a = record { column = a.column.position; value = numbered_of a.value }

abbrev pub update_seen : BoundUpdate → NumberedUpdate
update_seen u = record { rows = change_seen u.target; assignments = map assignment_seen u.assignments }

abbrev pub statement_seen : BoundStatement → NumberedStatement
statement_seen (statement.Open n) = NumberedStatement.open_cursor n
statement_seen (statement.Fetch f) = NumberedStatement.fetch (fetch_seen f)
statement_seen (statement.Close n) = NumberedStatement.close_cursor n
statement_seen (statement.Select s) = NumberedStatement.select_row (row_seen s)
statement_seen (statement.Insert i) = NumberedStatement.insert (insert_seen i)
statement_seen (statement.Update u) = NumberedStatement.update (update_seen u)
statement_seen (statement.Delete t) = NumberedStatement.delete (change_seen t)
statement_seen statement.Commit = NumberedStatement.commit
statement_seen statement.Rollback = NumberedStatement.rollback
