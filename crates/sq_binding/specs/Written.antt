-- That a bound statement is the one that is written (ISO/IEC 9075:1992, 13.2 to 13.10, 14.3 and 14.4).
use Rattle.std.specs.Prelude.{◌≡◌, ⊤, ℕ, false, List, [], ◌∷◌, map, slice_get, Option, None, Some, Ok, unwrap_or}
use Rattle.std.specs.List.{AllZip, position, zip}
use Rattle.std.specs.Option.{option_and_then, option_map}
use Rattle.sq_lex.specs.declared.name.Name.{Name}
use Rattle.sq_value.specs.declared.domain.Domain.{Domain}
use Rattle.sq_value.specs.declared.value.Value.TheVariants.{Null}
use Rattle.sq_tree.specs.declared.cond.Cond.{Cond}
use Rattle.sq_tree.specs.declared.list.CommaList.{CommaList}
use Rattle.sq_tree.specs.declared.module.Cursor.{Cursor}
use Rattle.sq_tree.specs.declared.«module».SortSpecification.{SortSpecification}
use Rattle.sq_tree.specs.declared.names.Parameter.{Parameter}
use Rattle.sq_tree.specs.declared.names.TableName.{TableName as WrittenTable}
use Rattle.sq_tree.specs.declared.statement.Assignment.{Assignment}
use Rattle.sq_tree.specs.declared.statement.Delete.{Delete}
use Rattle.sq_tree.specs.declared.statement.Fetch.{Fetch}
use Rattle.sq_tree.specs.declared.statement.Insert.{Insert}
use Rattle.sq_tree.specs.declared.statement.InsertSource.{InsertSource}
use Rattle.sq_tree.specs.declared.statement.InsertSource.TheVariants as source
use Rattle.sq_tree.specs.declared.statement.NewValue.{NewValue}
use Rattle.sq_tree.specs.declared.statement.NewValue.TheVariants as new_value
use Rattle.sq_tree.specs.declared.statement.Select.{Select}
use Rattle.sq_tree.specs.declared.statement.Update.{Update}
use Rattle.sq_tree.specs.declared.statement.FetchFrom.{FetchFrom}
use Rattle.sq_tree.specs.declared.statement.Orientation.{Orientation}
use Rattle.sq_tree.specs.declared.statement.Orientation.TheVariants as written
use Rattle.sq_tree.specs.declared.statement.Position.{Position}
use Rattle.sq_tree.specs.declared.statement.Position.TheVariants as position
use Rattle.sq_tree.specs.declared.statement.Statement.{Statement}
use Rattle.sq_tree.specs.declared.statement.Statement.TheVariants as tree
use Rattle.sq_tree.specs.declared.statement.Where.{Where}
use Rattle.sq_tree.specs.declared.statement.Where.TheVariants as rows
use Rattle.sq_meaning.specs.Environment.{Place, TableName, TableReference, same_name}
use Rattle.sq_meaning.specs.Spelled.{Named, cond_of, expr_of, has_point, listed, listed_if_any, query_of, select_of, select_of_parts, number_with_sign, table_of}
use Rattle.sq_meaning.specs.Status.{Outcome, ◌>>=◌, each, well_formed}
use Rattle.sq_meaning.specs.Syntax.{Clause, Query, Select as Selection, SelectList, absent, column, literal, present, select, specification, union}
use Rattle.sq_bound.specs.Condition.{PlacedClause, PlacedCond}
use Rattle.sq_bound.specs.Expression.{PlacedExpr}
use Rattle.sq_bound.specs.Known.{KnownTable, KnownTables, under_of}
use Rattle.sq_bound.specs.Fits.{under}
use Rattle.sq_bound.specs.declared.names.Column.{Column}
use Rattle.sq_bound.specs.declared.names.Leaf.{Leaf}
use Rattle.sq_bound.specs.declared.names.ParameterDesc.{ParameterDesc}
use Rattle.sq_bound.specs.declared.query.BoundCursor.{BoundCursor}
use Rattle.sq_bound.specs.declared.query.BoundQuery.{BoundQuery}
use Rattle.sq_bound.specs.declared.query.CursorBody.{CursorBody}
use Rattle.sq_bound.specs.declared.query.CursorBody.TheVariants as body
use Rattle.sq_bound.specs.declared.query.UpdatableQuery.{UpdatableQuery}
use Rattle.sq_bound.specs.declared.statement.BoundAssignment.{BoundAssignment}
use Rattle.sq_bound.specs.declared.statement.BoundInsert.{BoundInsert}
use Rattle.sq_bound.specs.declared.statement.BoundSelect.{BoundSelect}
use Rattle.sq_bound.specs.declared.statement.BoundUpdate.{BoundUpdate}
use Rattle.sq_bound.specs.declared.statement.InsertedRows.{InsertedRows}
use Rattle.sq_bound.specs.declared.statement.InsertedRows.TheVariants as inserted
use Rattle.sq_bound.specs.declared.statement.BoundFetch.{BoundFetch}
use Rattle.sq_bound.specs.declared.statement.BoundStatement.{BoundStatement}
use Rattle.sq_bound.specs.declared.statement.BoundStatement.TheVariants as statement
use Rattle.sq_bound.specs.declared.statement.ChangeTarget.{ChangeTarget}
use Rattle.sq_bound.specs.declared.statement.ChangeTarget.TheVariants as target
use Rattle.sq_bound.specs.declared.statement.Distance.{Distance}
use Rattle.sq_bound.specs.declared.statement.Distance.TheVariants as distance
use Rattle.sq_bound.specs.declared.statement.FetchOrientation.{FetchOrientation}
use Rattle.sq_bound.specs.declared.statement.FetchOrientation.TheVariants as orientation
use Rattle.sq_bound.specs.declared.statement.Output.{Output}
use Rattle.sq_meaning.specs.SortKeys.{common_name, sort_columns}
use Rattle.sq_bound.specs.Condition.{PlacedSelect, clause_of, cond_of as cond_meant, select_of as select_meant}
use Rattle.sq_bound.specs.Expression.{expr_of as expr_meant}
use Rattle.sq_bound.specs.Query as bound
use Rattle.sq_bound.specs.Query.{PlacedQuery}
use Rattle.sq_bound.specs.SetFunction.{call_of}
use Rattle.sq_bound.specs.declared.condition.BoundCond.{BoundCond}
use Rattle.sq_bound.specs.declared.condition.BoundSpecification.{BoundSpecification, out-BoundSpecification}
use Rattle.sq_bound.specs.declared.condition.ResultColumn.{ResultColumn}
use Rattle.sq_bound.specs.declared.expression.BoundExpr.{BoundExpr}
use Rattle.sq_bound.specs.declared.expression.SetFunctionCall.{SetFunctionCall}
use Rattle.sq_bound.specs.declared.names.ObjectColumn.{ObjectColumn}
use Rattle.sq_binding.specs.ColumnNames.{names_placed}
use Rattle.sq_binding.specs.From.{NamedTables, column_over, item_over}
use Rattle.sq_binding.specs.Placed.{placed_parameter, position_named}
use Rattle.sq_binding.specs.PlacedQuery.{clause_placed, cond_placed, expr_placed, list_placed, select_placed}
use Rattle.sq_binding.specs.PlacedUnion.{query_placed}
use Rattle.sq_binding.specs.Scope.{FromItem}
use Rattle.sq_binding.specs.Select.{Surroundings, of_lines}
use Rattle.sq_binding.specs.View.{beside_columns}
use Rattle.sq_binding.specs.Names.{declared, descriptor_of, leaf_positions, meant_by, named_table, outside, tables_of}
use Rattle.sq_binding.specs.SeenQuery.{output_seen, sort_seen}

-- ---- a text with its names placed is the bound one, whatever set functions the query has

abbrev pub Becomes : {T : Type 0} → Outcome T → (List PlacedExpr → T) → Type 0
Becomes text bound = (functions : List SetFunctionCall) → text ≡ Ok (bound (map call_of functions))

abbrev pub ExprIs : Outcome PlacedExpr → BoundExpr → Type 0
ExprIs text e = Becomes text (λ functions. expr_meant functions e)

abbrev pub ExprsAre : Outcome (List PlacedExpr) → List BoundExpr → Type 0
ExprsAre text es = Becomes text (λ functions. map (expr_meant functions) es)

abbrev pub CondIs : Outcome PlacedCond → BoundCond → Type 0
CondIs text c = Becomes text (λ functions. cond_meant functions c)

abbrev pub ClauseIs : Outcome PlacedClause → Option BoundCond → Type 0
ClauseIs text clause = Becomes text (λ functions. clause_of functions clause)

abbrev pub SelectIs : Outcome PlacedSelect → BoundSpecification → Type 0
SelectIs text q = text ≡ Ok (select_meant q)

-- the columns of a query specification have the names of its text
abbrev pub NamesAre : Outcome (List (Option Name)) → BoundSpecification → Type 0
NamesAre text q = text ≡ Ok (map (λ (c : ResultColumn). c.name) (out-BoundSpecification q).columns)

-- ---- parameters

-- the parameter at a place is the one of this name
abbrev pub IsParameter : List ParameterDesc → Name → ℕ → Type 0
IsParameter parameters name at =
    (domain : Domain) × (position_named (declared parameters) name ≡ Ok (at, domain))

-- a target is the parameter of the written name, and its indicator is the parameter of the written indicator, if one is written
abbrev pub IsOutputOf : List ParameterDesc → Output → Parameter → Type 0
IsOutputOf parameters o p = placed_parameter (declared parameters) p ≡ Ok (output_seen o)

-- the targets are the parameters that are written, in their order
abbrev pub AreOutputsOf : List ParameterDesc → List Output → List Parameter → Type 0
AreOutputsOf parameters = AllZip (IsOutputOf parameters)

-- ---- FETCH (13.3)

-- the number of an orientation is the whole number that is written, or the parameter of the written name
abbrev pub IsDistanceOf : List ParameterDesc → Position → Distance → Type 0
IsDistanceOf parameters (position.Number n) (distance.Number d) =
    (has_point n.number ≡ false) × (d ≡ (number_with_sign n).unscaled)
IsDistanceOf parameters (position.Parameter name) (distance.Parameter at) = IsParameter parameters name at
IsDistanceOf parameters _ _ = ⊥

abbrev pub IsOrientationOf : List ParameterDesc → Orientation → FetchOrientation → Type 0
IsOrientationOf parameters written.Next orientation.Next = ⊤
IsOrientationOf parameters written.Prior orientation.Prior = ⊤
IsOrientationOf parameters written.First orientation.First = ⊤
IsOrientationOf parameters written.Last orientation.Last = ⊤
IsOrientationOf parameters (written.Absolute p) (orientation.Absolute d) = IsDistanceOf parameters p d
IsOrientationOf parameters (written.Relative p) (orientation.Relative d) = IsDistanceOf parameters p d
IsOrientationOf parameters _ _ = ⊥

-- if no orientation is written, NEXT is implicit
abbrev pub orientation_of : Option FetchFrom → Orientation
orientation_of None = written.Next
orientation_of (Some f) = unwrap_or f.orientation written.Next

-- FETCH of the cursor of the written name. The numbers that the cursors of a module have are given by their names
abbrev pub IsFetchOf : (Name → ℕ → Type 0) → List ParameterDesc → Fetch → BoundFetch → Type 0
IsFetchOf IsNumberOf parameters f fetch =
    IsNumberOf f.cursor fetch.cursor × IsOrientationOf parameters (orientation_of f.from) fetch.orientation
    × AreOutputsOf parameters fetch.outputs (listed f.targets)

-- ---- query expressions (7.10)

abbrev pub QueryIs : Outcome PlacedQuery → BoundQuery → Type 0
QueryIs text q = text ≡ Ok (bound.query_of q)

-- a column of UNION has a name if both sides have the same
abbrev pub common_names : List (Option Name) → List (Option Name) → List (Option Name)
common_names ls rs = map (λ p. common_name p.0 p.1) (zip ls rs)

-- the names of the columns of a query expression
abbrev pub query_names_placed : NamedTables → Query Named → Outcome (List (Option Name))
query_names_placed names (specification s) = names_placed names s
query_names_placed names (union all left right) =
    query_names_placed names left >>= λ ls. query_names_placed names right >>= λ rs. Ok (common_names ls rs)

-- ---- updatable queries (7.9; own rule)

-- a table as an item, with each column at its place in the base table under it
abbrev pub leaf_item : TableReference → KnownTable → FromItem
leaf_item r t = record {
  reference = r;
  columns = map column_over (zip (leaf_positions t.columns) (map descriptor_of t.columns));
}

-- the shown expression is a column of the table: the one at this position in the base table
abbrev pub IsShownAt : List Column → PlacedExpr → ℕ → Type 0
IsShownAt columns e position =
    (p : Place) × (e ≡ column p) × (slice_get (leaf_positions columns) p.column ≡ Some position)

-- The query is over one table, without DISTINCT, groups and HAVING. It has the rows under that table that meet its condition, and shows
-- columns of them.
pub record IsUpdatableOf (known : KnownTables) (parameters : List ParameterDesc) (text : Selection Named)
    (u : UpdatableQuery) : Type 0 where
  pub list : SelectList Named
  pub reference : TableReference
  pub filter : Clause Named
  pub is_plain : text ≡ select false list (reference ∷ []) filter [] absent
  pub table : KnownTable
  pub is_known : meant_by known reference.table ≡ Some table
  pub place : u.target.table ≡ table.place
  pub is_over : table.under ≡ Some (under_of u.target.leaf)
  pub condition : ClauseIs
      (clause_placed (of_lines (leaf_item reference table ∷ []) (outside known parameters)) filter)
      u.target.condition
  pub shown : List PlacedExpr
  pub list_is : let items = (item_over reference (named_table false false table)).item ∷ [] in
      list_placed (of_lines items (outside known parameters)) items list ≡ Ok shown
  pub columns : AllZip (IsShownAt table.columns) shown u.columns

-- ---- cursors and tables

-- a cursor has the rows of its query: of the query expression or, if it is updatable, of its only query specification
abbrev pub HasRowsOf : KnownTables → List ParameterDesc → Query Named → CursorBody → Type 0
HasRowsOf known parameters query (body.Rows q order) =
    QueryIs (query_placed (outside known parameters) query) q
HasRowsOf known parameters (specification s) (body.Updatable u) = IsUpdatableOf known parameters s u
HasRowsOf known parameters (union all left right) (body.Updatable u) = ⊥

-- a cursor is INSENSITIVE or SCROLL if that is written
abbrev pub HasWordsOf : Cursor → BoundCursor → Type 0
HasWordsOf c cursor = (cursor.insensitive ≡ c.insensitive) × (cursor.scroll ≡ c.scroll)

-- The rows are sorted by the columns that the sort specifications name, if the columns of the query have these names. For an updatable
-- cursor there are none.
abbrev pub IsSortedBy : Outcome (List (Option Name)) → List SortSpecification → CursorBody → Type 0
IsSortedBy names by (body.Rows q sorts) = (names >>= λ ns. sort_columns ns by) ≡ Ok (map sort_seen sorts)
IsSortedBy names by (body.Updatable u) = by ≡ []

-- a cursor has the words of its declaration, and the rows of the query that is written, in the order of its ORDER BY (13.1)
pub record IsCursorOf (known : KnownTables) (user : Name) (parameters : List ParameterDesc) (c : Cursor)
    (cursor : BoundCursor) : Type 0 where
  pub words : HasWordsOf c cursor
  pub rows : HasRowsOf known parameters (query_of user c.query) cursor.body
  pub order : IsSortedBy (query_names_placed (tables_of known) (query_of user c.query))
      (listed_if_any c.order_by) cursor.body

-- the leaf under the table of the written name, which is the user's if no schema is written (5.4)
abbrev pub IsUnder : KnownTables → Name → WrittenTable → Leaf → Type 0
IsUnder known user t leaf =
    option_and_then (λ k. k.under) (meant_by known (table_of user t)) ≡ Some (under_of leaf)

-- ---- values, and the rows that a statement changes

-- NULL, or the value of an expression
abbrev pub value_placed : Surroundings → NewValue → Outcome PlacedExpr
value_placed a (new_value.Expr e) = expr_placed a (expr_of e)
value_placed a new_value.Null = Ok (literal Null)

-- the rows that are inserted: the rows of VALUES, or of the query (13.8)
abbrev pub IsSourceOf : Surroundings → Name → InsertSource → InsertedRows → Type 0
IsSourceOf a user (source.Values list) (inserted.Values es) =
    ExprsAre (each (value_placed a) (listed list)) es
IsSourceOf a user (source.Query q) (inserted.Query x) = SelectIs (select_placed a (select_of user q)) x
IsSourceOf a user _ _ = ⊥

-- the column of the base table that the column of this name is
abbrev pub leaf_named : List Column → Name → Option ℕ
leaf_named columns name =
    option_and_then (slice_get (leaf_positions columns)) (position (λ c. same_name c.name name) columns)

-- the columns that get values: the listed ones, in their order, or all (13.8)
abbrev pub AreInto : List Column → Option (CommaList Name) → List ObjectColumn → Type 0
AreInto columns None objects = map (λ c. c.position) objects ≡ leaf_positions columns
AreInto columns (Some list) objects =
    AllZip (λ name c. leaf_named columns name ≡ Some c.position) (listed list) objects

abbrev pub IntoTable : Option KnownTable → Option (CommaList Name) → List ObjectColumn → Type 0
IntoTable None list objects = ⊥
IntoTable (Some t) list objects = AreInto t.columns list objects

-- the table that is changed as an item, with each column at its place in the base table under it
abbrev pub item_at_leaf : TableName → KnownTable → FromItem
item_at_leaf t k = leaf_item (record { table = t; correlation = None }) k

abbrev pub changed_item : KnownTables → TableName → Outcome FromItem
changed_item known t = well_formed (option_map (item_at_leaf t) (meant_by known t))

-- a search condition on its rows
abbrev pub filter_on : Surroundings → Name → FromItem → Cond → Outcome PlacedClause
filter_on a user item c = clause_placed (of_lines (item ∷ []) a) (present (cond_of user c))

abbrev pub filter_placed : KnownTables → List ParameterDesc → Name → TableName → Cond → Outcome PlacedClause
filter_placed known parameters user t c =
    changed_item known t >>= λ item. filter_on (outside known parameters) user item c

-- UPDATE and DELETE change the rows that meet a condition, or all rows, or the row of the cursor of the written name (13.6, 13.7, 13.9,
-- 13.10)
abbrev pub IsTargetOf : (Name → ℕ → Type 0) → (Cond → Outcome PlacedClause) → Option Where → ChangeTarget
    → Type 0
IsTargetOf IsNumberOf filter None (target.Searched t) = t.condition ≡ None
IsTargetOf IsNumberOf filter (Some (rows.Condition c)) (target.Searched t) = ClauseIs (filter c) t.condition
IsTargetOf IsNumberOf filter (Some (rows.CurrentOf name)) (target.Positioned p) = IsNumberOf name p.cursor
IsTargetOf IsNumberOf filter _ _ = ⊥

-- a set clause gives the column of the written name its value
pub record IsSetTo (a : Surroundings) (columns : List Column) (w : Assignment)
    (b : BoundAssignment) : Type 0 where
  pub column : leaf_named columns w.column ≡ Some b.column.position
  pub value : ExprIs (value_placed a w.value) b.value

-- each SET clause gives its column its value, in the order in which they are written (13.9, 13.10)
abbrev pub AreSetTo : Surroundings → List Column → List Assignment → List BoundAssignment → Type 0
AreSetTo a columns = AllZip (IsSetTo a columns)

abbrev pub SetOn : Surroundings → TableName → Option KnownTable → List Assignment → List BoundAssignment
    → Type 0
SetOn a t None ws bs = ⊥
SetOn a t (Some k) ws bs = AreSetTo (of_lines (item_at_leaf t k ∷ []) a) k.columns ws bs

-- ---- CHECK (11.9)

-- a condition on a row of the table that is defined names its columns, and neither a table nor a parameter
abbrev pub check_placed : TableName → List Column → Cond → Outcome PlacedCond
check_placed t columns c = cond_placed (beside_columns t (map descriptor_of columns)) (cond_of t.user c)

-- ---- statements

-- SELECT INTO: the targets, and the query (13.5)
pub record IsSelectOf (known : KnownTables) (parameters : List ParameterDesc) (user : Name) (s : Select)
    (row : BoundSelect) : Type 0 where
  pub targets : AreOutputsOf parameters row.outputs (listed s.targets)
  pub query : SelectIs (select_placed (outside known parameters)
      (select_of_parts user s.quantifier s.list s.table)) row.query

-- INSERT: the table, its columns that get values, and the rows (13.8)
pub record IsInsertOf (known : KnownTables) (parameters : List ParameterDesc) (user : Name) (i : Insert)
    (insert : BoundInsert) : Type 0 where
  pub under : IsUnder known user i.table insert.leaf
  pub columns : IntoTable (meant_by known (table_of user i.table)) i.columns insert.columns
  pub source : IsSourceOf (outside known parameters) user i.source insert.source

-- DELETE: the table, and the rows (13.6, 13.7)
pub record IsDeleteOf (IsNumberOf : Name → ℕ → Type 0) (known : KnownTables) (parameters : List ParameterDesc)
    (user : Name) (d : Delete) (t : ChangeTarget) : Type 0 where
  pub is_under : IsUnder known user d.table (under t)
  pub rows : IsTargetOf IsNumberOf (filter_placed known parameters user (table_of user d.table)) d.target t

-- UPDATE: the table, the rows, and the set clauses (13.9, 13.10)
pub record IsUpdateOf (IsNumberOf : Name → ℕ → Type 0) (known : KnownTables) (parameters : List ParameterDesc)
    (user : Name) (u : Update) (update : BoundUpdate) : Type 0 where
  pub is_under : IsUnder known user u.table (under update.target)
  pub rows : IsTargetOf IsNumberOf (filter_placed known parameters user (table_of user u.table)) u.target
      update.target
  pub values : SetOn (outside known parameters) (table_of user u.table)
      (meant_by known (table_of user u.table)) (listed u.assignments) update.assignments

-- A statement in a module of the user. Its cursors have the numbers of their names, and its targets are parameters of the written names.
-- The rows that it changes are under the table of the written name, and its queries, conditions and values are the written ones.
abbrev pub IsStatementOf : KnownTables → (Name → ℕ → Type 0) → Name → List ParameterDesc → Statement
    → BoundStatement → Type 0
IsStatementOf known IsNumberOf user parameters (tree.Open name) (statement.Open n) = IsNumberOf name n
IsStatementOf known IsNumberOf user parameters (tree.Fetch f) (statement.Fetch x) =
    IsFetchOf IsNumberOf parameters f x
IsStatementOf known IsNumberOf user parameters (tree.Close name) (statement.Close n) = IsNumberOf name n
IsStatementOf known IsNumberOf user parameters (tree.Select s) (statement.Select x) =
    IsSelectOf known parameters user s x
IsStatementOf known IsNumberOf user parameters (tree.Insert i) (statement.Insert x) =
    IsInsertOf known parameters user i x
IsStatementOf known IsNumberOf user parameters (tree.Update u) (statement.Update x) =
    IsUpdateOf IsNumberOf known parameters user u x
IsStatementOf known IsNumberOf user parameters (tree.Delete d) (statement.Delete t) =
    IsDeleteOf IsNumberOf known parameters user d t
IsStatementOf known IsNumberOf user parameters (tree.Commit work) statement.Commit = ⊤
IsStatementOf known IsNumberOf user parameters (tree.Rollback work) statement.Rollback = ⊤
IsStatementOf known IsNumberOf user parameters _ _ = ⊥
