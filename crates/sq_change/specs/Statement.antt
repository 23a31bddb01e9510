-- The effects of INSERT, UPDATE and DELETE on the tables, if they are performed (ISO/IEC 9075:1992, 13.6 to 13.10). One base table changes,
-- and no other. Performed says when they are.
use Rattle.std.specs.Prelude.{⊤, IfSome, IsSome, ◌≡◌, ℕ, true, List, Option, fold, Ok}
use Rattle.std.specs.List.{AllByRecursion}
use Rattle.sq_lex.specs.declared.name.Name.{Name}
use Rattle.sq_value.specs.declared.value.Value.{Value}
use Rattle.sq_store.specs.declared.table.Numbered.{Numbered}
use Rattle.sq_store.specs.declared.table.Table.{Table}
use Rattle.sq_store.specs.Content.{Content, inserted, removed, replaced, row_at, table_at}
use Rattle.sq_store.specs.Keys.{Keys}
use Rattle.sq_meaning.specs.Status.{Outcome, ◌>>=◌}
use Rattle.sq_bound.specs.Fits.{AreInDomains, IsBase, IsColumnOf, holds, keys_of_bases, not_nulls_hold, under}
use Rattle.sq_bound.specs.WellFormed.{BasesAreThere, IsLeaf, TableKinds}
use Rattle.sq_bound.specs.declared.condition.BoundSpecification.{BoundSpecification}
use Rattle.sq_bound.specs.declared.names.BaseTable.{BaseTable}
use Rattle.sq_bound.specs.declared.names.Leaf.{Leaf}
use Rattle.sq_bound.specs.declared.statement.BoundInsert.{BoundInsert}
use Rattle.sq_bound.specs.declared.statement.BoundUpdate.{BoundUpdate}
use Rattle.sq_bound.specs.declared.statement.ChangeTarget.{ChangeTarget}
use Rattle.sq_bound.specs.declared.statement.ChangeTarget.TheVariants as target
use Rattle.sq_query.specs.Table.{AreMeant}
use Rattle.sq_change.specs.Constraints.{constraints_hold}
use Rattle.sq_change.specs.Given.{MayAssign, MayChoose, MayGive}
use Rattle.sq_change.specs.Made.{Seen, Shown, numbers_changed, rows_updated}

-- these are the rows of the tables and views that the statement sees
abbrev pub IsShown : Seen → Shown → Type 0
IsShown s shown = AreMeant s.views s.tables s.user shown

-- A store with these tables and keys keeps the base tables. It has the rows of each, with values in the domains of its columns, and its
-- keys. No column with NOT NULL has a null.
pub record KeepsTables (bases : List BaseTable) (content : Content) (own_keys : List Keys) : Type 0 where
  pub tables : holds bases content ≡ true
  pub in_domains : AreInDomains bases content
  pub keys : own_keys ≡ keys_of_bases bases
  pub not_null : not_nulls_hold bases content ≡ true

-- The tables are legal for the base tables. Each of these has its rows, with values in the domains of its columns, and the constraints hold
-- (11.4, 11.8).
pub record AreLegal (bases : List BaseTable) (content : Content) : Type 0 where
  pub rows : holds bases content ≡ true
  pub in_domains : AreInDomains bases content
  pub constraints : constraints_hold bases content ≡ true

-- a store with these tables and keys is consistent: its tables are legal, and it has the keys of the base tables
pub record IsConsistent (bases : List BaseTable) (content : Content) (own_keys : List Keys) : Type 0 where
  pub tables : AreLegal bases content
  pub keys : own_keys ≡ keys_of_bases bases

-- a leaf is well formed, over one of these base tables
pub record IsLeafOver (bases : List BaseTable) (columns : TableKinds) (leaf : Leaf) : Type 0 where
  pub there : BasesAreThere bases columns
  pub well_formed : IsLeaf columns leaf
  pub base : IsBase bases leaf.table

-- ---- INSERT (13.8)

-- new rows take the next numbers (own rule)
abbrev pub with_rows : Table → List (List Value) → Table
with_rows t rows = fold inserted t rows

-- ---- the rows that UPDATE and DELETE change

-- the base table under the one that a statement names
abbrev pub base_of : ChangeTarget → ℕ
base_of (target.Searched t) = t.base
base_of (target.Positioned p) = p.base

-- a positioned statement is given the number of the row that the cursor is on
abbrev pub IsGiven : ChangeTarget → Option ℕ → Type 0
IsGiven (target.Searched t) on = ⊤
IsGiven (target.Positioned p) on = IsSome on

-- the numbers of the rows that are changed
abbrev pub Chosen : Seen → ChangeTarget → Option ℕ → List ℕ → Type 0
Chosen s t on numbers = (shown : Shown) → IsShown s shown → numbers_changed shown s t on ≡ Ok numbers

-- ---- UPDATE (13.9, 13.10)

-- other rows under the numbers of existing rows
abbrev pub with_replaced : Table → List Numbered → Table
with_replaced t rows = fold (λ u r. replaced u r.number r.row) t rows

-- each of the chosen rows has the values of the set clauses
abbrev pub update_made : Shown → Seen → BoundUpdate → Option ℕ → Outcome (List Numbered)
update_made shown s u on =
    numbers_changed shown s u.target on >>= rows_updated shown s u.assignments (base_of u.target)

-- ---- DELETE (13.6, 13.7)

abbrev pub without : Table → List ℕ → Table
without t numbers = fold removed t numbers

-- ---- statements that can be performed, on tables with this content, by this user and with these values of parameters

-- An insert statement is of a base table, and its columns are columns of it. Its source is well formed and may read the tables that it
-- reads.
pub record CanInsert (bases : List BaseTable) (queries : List BoundSpecification) (kinds : TableKinds)
    (content : Content) (user : Name) (values : List Value) (i : BoundInsert) : Type 0 where
  pub leaf : IsLeaf kinds i.leaf
  pub base : IsBase bases i.leaf.table
  pub columns : AllByRecursion (IsColumnOf i.leaf.table) i.columns
  pub given : MayGive bases queries kinds content user values i.columns i.source

-- A statement can choose the rows that it changes. It is of a base table, and its conditions are well formed and may read the tables that
-- they read. A positioned one is given a row.
pub record CanChoose (bases : List BaseTable) (queries : List BoundSpecification) (kinds : TableKinds)
    (content : Content) (user : Name) (values : List Value) (t : ChangeTarget) (on : Option ℕ) : Type 0 where
  pub base : IsBase bases (under t).table
  pub given : IsGiven t on
  pub may : MayChoose bases queries kinds content user values t

-- an update statement can choose its rows, a row that it is given exists, and its set clauses are well formed
pub record CanUpdate (bases : List BaseTable) (queries : List BoundSpecification) (kinds : TableKinds)
    (content : Content) (user : Name) (values : List Value) (u : BoundUpdate) (on : Option ℕ) : Type 0 where
  pub choose : CanChoose bases queries kinds content user values u.target on
  pub there : IfSome on (λ n. IsSome (row_at (table_at content (under u.target).table.place) n))
  pub assign : MayAssign kinds values (under u.target).table u.assignments
