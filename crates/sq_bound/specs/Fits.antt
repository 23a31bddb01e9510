-- The tables, cursors and parameters that a bound tree names exist: it fits the base tables, the cursors and the
-- parameters that it was bound for. (Own notion: names are places in bound trees, ISO/IEC 9075:1992 knows none.)
use Rattle.std.specs.Prelude.{⊤, ◌≡◌, ◌<◌, ℕ, nat_eq, nat_lt, Bool, true, false, ◌&&◌, not, List, [], ◌∷◌, length, map, Option, Some, IfSome, slice_get}
use Rattle.std.specs.List.{AllByRecursion, AllZip, enumerate_from, list_all, list_any, zip}
use Rattle.sq_value.specs.Domain.{IsInDomain}
use Rattle.sq_value.specs.SetFunctions.{is_null}
use Rattle.sq_value.specs.declared.value.Value.{Value}
use Rattle.sq_store.specs.declared.table.Numbered.{Numbered}
use Rattle.sq_store.specs.Content.{Content, table_at}
use Rattle.sq_store.specs.Keys.{Keys, keys_at}
use Rattle.sq_bound.specs.Names.{are_positions, option_all}
use Rattle.sq_bound.specs.declared.names.BaseColumn.{BaseColumn}
use Rattle.sq_bound.specs.declared.names.BaseTable.{BaseTable}
use Rattle.sq_bound.specs.declared.names.Leaf.{Leaf}
use Rattle.sq_bound.specs.declared.names.ObjectColumn.{ObjectColumn}
use Rattle.sq_bound.specs.declared.names.Reference.{Reference}
use Rattle.sq_bound.specs.declared.names.TableDesc.{TableDesc}
use Rattle.sq_bound.specs.declared.query.BoundCursor.{BoundCursor}
use Rattle.sq_bound.specs.declared.query.CursorBody.{CursorBody}
use Rattle.sq_bound.specs.declared.query.CursorBody.TheVariants as body
use Rattle.sq_bound.specs.declared.query.UpdatableQuery.{UpdatableQuery}
use Rattle.sq_bound.specs.declared.statement.BoundAssignment.{BoundAssignment}
use Rattle.sq_bound.specs.declared.statement.BoundStatement.{BoundStatement}
use Rattle.sq_bound.specs.declared.statement.BoundStatement.TheVariants as statement
use Rattle.sq_bound.specs.declared.statement.ChangeTarget.{ChangeTarget}
use Rattle.sq_bound.specs.declared.statement.ChangeTarget.TheVariants as target
use Rattle.sq_bound.specs.declared.statement.Output.{Output}

-- ---- base tables

-- a base table is at its place
abbrev pub IsBase : List BaseTable → BaseTable → Type 0
IsBase bases b = slice_get bases b.place ≡ Some b

-- the base table under a base table or an updatable view is at its place
abbrev pub IsOver : List BaseTable → TableDesc → Type 0
IsOver bases t = IfSome t.leaf (λ l. IsBase bases l.table)

-- the keys of each base table
abbrev pub keys_of_bases : List BaseTable → List Keys
keys_of_bases bases = map (λ b. b.keys) bases

-- a reference is to a key of a base table (11.8)
abbrev pub refers : List BaseTable → Reference → Bool
refers bases r = nat_lt r.key (length (keys_at (keys_of_bases bases) r.table))

abbrev pub all_refer : List BaseTable → Bool
all_refer bases = list_all (λ b. list_all (refers bases) b.references) bases

-- ---- the tables of a store

-- a row has a value for each of so many columns
abbrev pub have_width : ℕ → List Numbered → Bool
have_width columns rows = list_all (λ r. nat_eq (length r.row) columns) rows

-- there is a table for each base table, and its rows have a value for each column of it
abbrev pub holds : List BaseTable → Content → Bool
holds [] [] = true
holds [] (t ∷ ts) = false
holds (b ∷ bs) [] = false
holds (b ∷ bs) (t ∷ ts) = have_width (length b.columns) t.rows && holds bs ts

-- a row has a value for each column, in its domain (4.10, 9.2)
abbrev pub IsRowIn : List BaseColumn → List Value → Type 0
IsRowIn = AllZip (λ c v. IsInDomain c.domain v)

abbrev pub AreRowsIn : List BaseColumn → List Numbered → Type 0
AreRowsIn columns = AllByRecursion (λ r. IsRowIn columns r.row)

-- there is a table for each base table, and every value of its rows is in the domain of its column
abbrev pub AreInDomains : List BaseTable → Content → Type 0
AreInDomains = AllZip (λ b t. AreRowsIn b.columns t.rows)

-- ---- NOT NULL (11.4)

abbrev pub lacks_value : BaseColumn × Value → Bool
lacks_value p = p.0.not_null && is_null p.1

-- no column is null that may not be
abbrev pub has_its_values : BaseTable → List Value → Bool
has_its_values t row = not (list_any lacks_value (zip t.columns row))

-- no row of any table is null in a column that may not be
abbrev pub not_nulls_hold : List BaseTable → Content → Bool
not_nulls_hold bases content =
    list_all (λ p. list_all (λ n. has_its_values p.1 n.row) (table_at content p.0).rows)
    (enumerate_from 0 bases)

-- ---- cursors

abbrev pub FitsQuery : List BaseTable → UpdatableQuery → Type 0
FitsQuery bases q =
    IsBase bases q.target.leaf.table × (are_positions (length q.target.leaf.table.columns) q.columns ≡ true)

abbrev pub FitsBody : List BaseTable → CursorBody → Type 0
FitsBody bases (body.Rows q order) = ⊤
FitsBody bases (body.Updatable q) = FitsQuery bases q

abbrev pub FitsCursor : List BaseTable → BoundCursor → Type 0
FitsCursor bases c = FitsBody bases c.body

-- ---- statements

-- targets are parameters of the procedure
abbrev pub are_parameters : ℕ → List Output → Bool
are_parameters count outputs =
    list_all (λ o. nat_lt o.parameter count && option_all (λ p. nat_lt p count) o.indicator) outputs

abbrev pub under : ChangeTarget → Leaf
under (target.Searched t) = t.leaf
under (target.Positioned p) = p.leaf

abbrev pub is_cursor : ℕ → ChangeTarget → Bool
is_cursor cursors (target.Searched t) = true
is_cursor cursors (target.Positioned p) = nat_lt p.cursor cursors

abbrev pub FitsTarget : List BaseTable → ℕ → ChangeTarget → Type 0
FitsTarget bases cursors t = IsBase bases (under t).table × (is_cursor cursors t ≡ true)

-- set clauses are for columns of the base table
abbrev pub are_columns : ℕ → List BoundAssignment → Bool
are_columns columns list = list_all (λ a. nat_lt a.column.position columns) list

-- the column of a base table at its position
abbrev pub IsColumnOf : BaseTable → ObjectColumn → Type 0
IsColumnOf b c = slice_get (map (λ column. column.domain) b.columns) c.position ≡ Some c.domain

-- a statement fits base tables, so many cursors, and so many parameters of its procedure
abbrev pub FitsStatement : List BaseTable → ℕ → ℕ → BoundStatement → Type 0
FitsStatement bases cursors parameters (statement.Open n) = n < cursors
FitsStatement bases cursors parameters (statement.Fetch f) =
    (f.cursor < cursors) × (are_parameters parameters f.outputs ≡ true)
FitsStatement bases cursors parameters (statement.Close n) = n < cursors
FitsStatement bases cursors parameters (statement.Select s) = are_parameters parameters s.outputs ≡ true
FitsStatement bases cursors parameters (statement.Insert i) =
    IsBase bases i.leaf.table × AllByRecursion (IsColumnOf i.leaf.table) i.columns
FitsStatement bases cursors parameters (statement.Update u) =
    FitsTarget bases cursors u.target
    × (are_columns (length (under u.target).table.columns) u.assignments ≡ true)
    × AllByRecursion (λ a. IsColumnOf (under u.target).table a.column) u.assignments
FitsStatement bases cursors parameters (statement.Delete t) = FitsTarget bases cursors t
FitsStatement bases cursors parameters statement.Commit = ⊤
FitsStatement bases cursors parameters statement.Rollback = ⊤
