-- Tables and views over the base tables of a catalog. (Own notion: they are found by places.)
use Rattle.std.specs.Prelude.{⊤, ◌≡◌, ℕ, suc, true, List, [], ◌∷◌, ◌++◌, flat_map, length, map, nat_eq, nat_lt, slice_get, Option, Some, IfSome}
use Rattle.std.proofs.Common.{◌∙◌, eq-eqb, sym}
use Rattle.std.proofs.lemmas.List.{length-map}
use Rattle.std.specs.Map.{keys_of}
use Rattle.std.specs.Option.{option_map}
use Rattle.std.specs.List.{All, AllByRecursion, AllZip, list_all}
use Rattle.sq_lex.specs.declared.name.Name.{Name}
use Rattle.sq_value.specs.declared.domain.Kind.{Kind}
use Rattle.sq_meaning.specs.Target.{places_of}
use Rattle.sq_bound.specs.Fits.{FitsQuery, IsBase, IsOver, refers}
use Rattle.sq_bound.specs.Known.{under_of}
use Rattle.sq_bound.specs.Names.{is_kind_at}
use Rattle.sq_bound.specs.WellFormed.{IsCond, IsLeaf, IsSelect, IsTable, IsUpdatable, IsViewAmong, TableKinds, base_kinds, kinds_of_columns, kinds_of_select, of_base_at, only, place_of}
use Rattle.sq_bound.specs.declared.condition.BoundCond.{BoundCond}
use Rattle.sq_bound.specs.declared.condition.BoundSpecification.{BoundSpecification}
use Rattle.sq_bound.specs.declared.query.UpdatableQuery.{UpdatableQuery}
use Rattle.sq_bound.specs.declared.condition.TablePlace.{TablePlace}
use Rattle.sq_bound.specs.declared.condition.TablePlace.TheVariants.{Base, View}
use Rattle.sq_bound.specs.declared.names.BaseTable.{BaseTable}
use Rattle.sq_bound.specs.declared.names.Column.{Column}
use Rattle.sq_bound.specs.declared.names.Leaf.{Leaf}
use Rattle.sq_bound.specs.declared.names.TableBody.{TableBody}
use Rattle.sq_bound.specs.declared.names.TableBody.TheVariants as body
use Rattle.sq_bound.specs.declared.names.TableDesc.{TableDesc}
use Rattle.sq_catalog.specs.Catalog.{Catalog, SeenView, column_kinds, itself, kinds_at, table_number}
use Rattle.sq_catalog.specs.declared.catalog.FullName.{FullName}

-- a base table stands at its place and has this many columns
abbrev pub IsBody : List BaseTable → ℕ → TableBody → Type 0
IsBody bases columns (body.Base b) = IsBase bases b × (columns ≡ length b.columns)
IsBody bases columns (body.View v) = ⊤

-- a base table is under itself
abbrev pub IsUnderItself : TableBody → Option Leaf → Type 0
IsUnderItself (body.Base b) under = option_map under_of under ≡ Some (itself b.place)
IsUnderItself (body.View v) under = ⊤

-- each column of a base table is its own
abbrev pub HasOwnPlaces : List Column → TableBody → Type 0
HasOwnPlaces columns (body.Base b) = map (λ c. c.leaf_column) columns ≡ places_of b.columns
HasOwnPlaces columns (body.View v) = ⊤

-- a base table, or a view, over these base tables
pub record IsStored (bases : List BaseTable) (t : TableDesc) : Type 0 where
  pub over : IsOver bases t
  pub body : IsBody bases (length t.columns) t.body
  pub itself : IsUnderItself t.body t.leaf
  pub places : HasOwnPlaces t.columns t.body

-- each table that stands under a name is over base tables that are stored
abbrev pub AreStored : List BaseTable → List (FullName × TableDesc) → Type 0
AreStored bases entries = All (λ e. IsStored bases e.1) entries

-- each table is well formed, where tables and views have columns of these kinds
abbrev pub AreTables : TableKinds → List (FullName × TableDesc) → Type 0
AreTables table_kinds entries = All (λ e. IsTable table_kinds e.1) entries

-- a table or view of a catalog: what is under it is stored, the query of a view is one of the catalog, and it is well formed
pub record IsOfCatalog (c : Catalog) (t : TableDesc) : Type 0 where
  pub stored : IsStored c.bases t
  pub view : IsViewAmong c.views t.body
  pub well_formed : IsTable (column_kinds c) t

-- a table has this owner and name
abbrev pub IsNamed : FullName → TableDesc → Type 0
IsNamed name t = (t.user ≡ name.user) × (t.name ≡ name.name)

-- a base table has the number that its name means, and so have its columns
abbrev pub IsNumbered : List FullName → List (List Column) → FullName → List Column → TableBody → Type 0
IsNumbered tables columns name described (body.Base b) =
    (table_number tables name.user name.name ≡ Some b.place) × (slice_get columns b.place ≡ Some described)
IsNumbered tables columns name described (body.View v) = ⊤

-- each table has the name under which it stands
abbrev pub AreNamed : List (FullName × TableDesc) → Type 0
AreNamed entries = All (λ e. IsNamed e.0 e.1) entries

-- each base table, in the order of the places, stands under a name with columns of its kinds
abbrev pub AreDescribed : List BaseTable → List (FullName × TableDesc) → Type 0
AreDescribed = AllZip (λ b e. base_kinds b ≡ kinds_of_columns e.1.columns)

-- tables stand at the places from this one on
abbrev pub StandFrom : (ℕ → TablePlace) → ℕ → List (FullName × TableDesc) → Type 0
StandFrom at place [] = ⊤
StandFrom at place (e ∷ entries) = (place_of e.1.body ≡ at place) × StandFrom at (suc place) entries

-- a table is the one at a place, under some name
abbrev pub StandsAt : List (FullName × TableDesc) → ℕ → TableDesc → Type 0
StandsAt entries place t = (name : FullName) × (slice_get entries place ≡ Some (name, t))

-- the columns of each table
abbrev pub columns_of : List (FullName × TableDesc) → List (List Column)
columns_of entries = map (λ e. e.1.columns) entries

pub all_described : (entries : List (FullName × TableDesc))
    → nat_eq (length (columns_of entries)) (length (keys_of entries)) ≡ true
all_described entries =
    eq-eqb (length (columns_of entries)) (length (keys_of entries))
    (length-map entries (λ (e : FullName × TableDesc). e.1.columns)
    ∙ sym (length-map entries (λ (e : FullName × TableDesc). e.0)))

-- a table as a view, as names see it
abbrev pub seen : TableDesc → SeenView
seen t = record { columns = t.columns; under = option_map under_of t.leaf }

abbrev pub seen_of : List (FullName × TableDesc) → List SeenView
seen_of entries = map (λ e. seen e.1) entries

-- the query of a view; a base table has none
abbrev pub query_in : TableBody → List BoundSpecification
query_in (body.Base b) = []
query_in (body.View v) = v.query ∷ []

-- the queries of the views
abbrev pub queries_of : List (FullName × TableDesc) → List BoundSpecification
queries_of entries = flat_map (λ e. query_in e.1.body) entries

-- ---- the next one

-- columns of these kinds, each over a column of a base table whose columns have those
pub record AreColumnsOver (base kinds : List Kind) (columns : List Column) : Type 0 where
  pub kinds_are : kinds_of_columns columns ≡ kinds
  pub places : list_all (λ c. is_kind_at base c.leaf_column c.kind) columns ≡ true

-- each of the columns is over a column of a base table, and of its kind
pub record AreOverBase (b : BaseTable) (columns : List Column) : Type 0 where
  pub places : list_all (λ c. nat_lt c.leaf_column (length b.columns)) columns ≡ true
  pub kinds : list_all (λ c. is_kind_at (base_kinds b) c.leaf_column c.kind) columns ≡ true

-- conditions on a row of the base table at a place, whose columns have these kinds
abbrev pub AreChecksAt : ℕ → List Kind → List BoundCond → Type 0
AreChecksAt place kinds = AllByRecursion (IsCond (only place kinds) [] (of_base_at place) [])

-- a base table with these columns as names see it
abbrev pub IsTableOf : BaseTable → TableBody → Type 0
IsTableOf b (body.Base own) = own ≡ b
IsTableOf b (body.View v) = ⊥

-- a table described so stands under this name
pub record IsDescribed (name : FullName) (b : BaseTable) (described : List Column)
    (t : TableDesc) : Type 0 where
  pub named : IsNamed name t
  pub columns : t.columns ≡ described
  pub body : IsTableOf b t.body
  pub leaf : IfSome t.leaf (λ l. (l.table ≡ b) × (l.conditions ≡ []))
  pub itself : option_map under_of t.leaf ≡ Some (itself b.place)

-- a base table that can be stored behind these, and the table of this name as names see it
pub record IsNext (bases : List BaseTable) (name : FullName) (t : TableDesc) (b : BaseTable) : Type 0 where
  pub named : IsNamed name t
  pub stored : IsStored (bases ++ b ∷ []) t
  pub place : place_of t.body ≡ Base (length bases)
  pub table : (views : List BoundSpecification) → IsTable (kinds_at (bases ++ b ∷ []) views) t
  pub kinds : base_kinds b ≡ kinds_of_columns t.columns
  pub refer : list_all (refers (bases ++ b ∷ [])) b.references ≡ true

-- a view has the columns of its query, which reads tables and views that are there
abbrev pub IsViewOver : TableKinds → List Kind → TableBody → Type 0
IsViewOver table_kinds kinds (body.Base b) = ⊥
IsViewOver table_kinds kinds (body.View v) =
    IsSelect table_kinds [] [] v.query × (kinds ≡ kinds_of_select v.query)

-- a view of this name that can be stored behind those of a catalog
pub record IsNextView (c : Catalog) (name : FullName) (t : TableDesc) : Type 0 where
  pub named : IsNamed name t
  pub stored : IsStored c.bases t
  pub place : place_of t.body ≡ View (length c.views)
  pub leaf : IfSome t.leaf (IsLeaf (column_kinds c))
  pub body : IsViewOver (column_kinds c) (kinds_of_columns t.columns) t.body

-- a view's query, bound over the tables and views of a catalog, and what it is where it is updatable
pub record IsBoundOver (c : Catalog) (q : BoundSpecification)
    (updatable : Option ((Name × Name) × UpdatableQuery)) : Type 0 where
  pub fits : IfSome updatable (λ over. FitsQuery c.bases over.1)
  pub query : IsSelect (column_kinds c) [] [] q
  pub target : IfSome updatable (λ over. IsUpdatable (column_kinds c) [] (kinds_of_select q) over.1)
