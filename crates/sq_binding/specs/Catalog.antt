-- A catalog: the base tables and the views of schema elements, each at its place, and the granted privileges (ISO/IEC 9075:1992, 4.9,
-- 4.26 and 11.1).
use Rattle.std.specs.Prelude.{ℕ, ◌+◌, Bool, true, false, ◌&&◌, ◌||◌, if◌then◌else◌, List, [], ◌∷◌, ◌++◌, find, fold, map, length, Option, Some, None}
use Rattle.std.specs.List.{list_any}
use Rattle.std.specs.Option.{option_and_then, option_map, option_or}
use Rattle.sq_lex.specs.declared.name.Name.{Name}
use Rattle.sq_value.specs.Domain.{kind_of}
use Rattle.sq_value.specs.declared.domain.Domain.{Domain}
use Rattle.sq_meaning.specs.Environment.{TableName, same_name, same_table}
use Rattle.sq_meaning.specs.Tables.{ColumnDescriptor}
use Rattle.sq_meaning.specs.Target.{places_of}
use Rattle.sq_meaning.specs.Privilege.{Privilege}
use Rattle.sq_meaning.specs.Privileges.{is_on_column}
use Rattle.sq_meaning.specs.Words.{is_some_and}
use Rattle.sq_bound.specs.declared.condition.TablePlace.{TablePlace}
use Rattle.sq_bound.specs.declared.condition.TablePlace.TheVariants as at_place
use Rattle.sq_bound.specs.declared.names.ColumnDefault.{ColumnDefault}
use Rattle.sq_bound.specs.declared.names.Reference.{Reference}
use Rattle.sq_binding.specs.Changeable.{UnderTable, UserNames}
use Rattle.sq_binding.specs.From.{NamedTable}
use Rattle.sq_binding.specs.NumberedCondition.{NumberedCond, NumberedSelect}

-- ---- base tables and views

pub record DeclaredColumn : Type 0 where
  pub name : Name
  pub domain : Domain
  pub not_null : Bool
  pub default : ColumnDefault

-- A base table: its place in the database, its columns, the positions of the columns of each key, and the number of the primary key. Then
-- its references, each by the key that it is to, and the conditions of CHECK.
pub record DeclaredBase : Type 0 where
  pub name : TableName
  pub place : ℕ
  pub columns : List DeclaredColumn
  pub keys : List (List ℕ)
  pub primary_key : Option ℕ
  pub references : List Reference
  pub checks : List NumberedCond

-- The base table under a table that may be changed, by its place. Then the conditions of the views in between, from inside out, and the
-- number of them that new and changed rows have to meet. For each column of the table, the column of the base table that it is.
pub record DeclaredUnder : Type 0 where
  pub base : ℕ
  pub conditions : List NumberedCond
  pub demanded : ℕ
  pub columns : List ℕ

-- a view: its place among the views, its columns, its query, and the table under it if it is updatable
pub record DeclaredView : Type 0 where
  pub name : TableName
  pub place : ℕ
  pub columns : List ColumnDescriptor
  pub query : NumberedSelect
  pub under : Option DeclaredUnder

pub data Entry : Type 0 where
  base : DeclaredBase → Entry
  view : DeclaredView → Entry

abbrev pub column_descriptor : DeclaredColumn → ColumnDescriptor
column_descriptor c = record { name = c.name; kind = kind_of c.domain }

abbrev pub entry_name : Entry → TableName
entry_name (Entry.base b) = b.name
entry_name (Entry.view v) = v.name

abbrev pub entry_place : Entry → TablePlace
entry_place (Entry.base b) = at_place.Base b.place
entry_place (Entry.view v) = at_place.View v.place

abbrev pub entry_columns : Entry → List ColumnDescriptor
entry_columns (Entry.base b) = map column_descriptor b.columns
entry_columns (Entry.view v) = v.columns

abbrev pub entry_column_names : Entry → List Name
entry_column_names e = map (λ c. c.name) (entry_columns e)

-- the table under a base table is itself
abbrev pub itself : DeclaredBase → DeclaredUnder
itself b = record { base = b.place; conditions = []; demanded = 0; columns = places_of b.columns }

abbrev pub entry_under : Entry → Option DeclaredUnder
entry_under (Entry.base b) = Some (itself b)
entry_under (Entry.view v) = v.under

-- ---- privileges

-- a privilege of a user or, with no user, of PUBLIC, on a table; or its grant option
pub record Grant : Type 0 where
  pub user : Option Name
  pub table : TableName
  pub privilege : Privilege
  pub to_grant : Bool

abbrev pub same_privilege : Privilege → Privilege → Bool
same_privilege Privilege.select Privilege.select = true
same_privilege Privilege.insert Privilege.insert = true
same_privilege Privilege.delete Privilege.delete = true
same_privilege (Privilege.update a) (Privilege.update b) = same_name a b
same_privilege (Privilege.references a) (Privilege.references b) = same_name a b
same_privilege _ _ = false

-- a privilege that is granted to PUBLIC is granted to every user
abbrev pub is_granted_to : Option Name → Name → Bool
is_granted_to None user = true
is_granted_to (Some name) user = same_name name user

abbrev pub same_option : Bool → Bool → Bool
same_option true b = b
same_option false true = false
same_option false false = true

abbrev pub gives : (grantable : Bool) → Name → TableName → Privilege → Grant → Bool
gives grantable user t p g =
    same_option g.to_grant grantable && is_granted_to g.user user && same_table g.table t
    && same_privilege g.privilege p

abbrev pub same_holder : Option Name → Option Name → Bool
same_holder None None = true
same_holder (Some a) (Some b) = same_name a b
same_holder _ _ = false

abbrev pub same_grant : Grant → Grant → Bool
same_grant g h =
    same_holder g.user h.user && same_table g.table h.table && same_privilege g.privilege h.privilege
    && same_option g.to_grant h.to_grant

-- an existing grant is not added again
abbrev pub with_grant : List Grant → Grant → List Grant
with_grant grants g = if list_any (same_grant g) grants then grants else grants ++ g ∷ []

abbrev pub with_grants : List Grant → List Grant → List Grant
with_grants grants new = fold with_grant grants new

-- ---- a catalog

-- The users that have a schema. The base tables and the views, each in the order of the texts. The privileges on views granted to their
-- owners, and the privileges that GRANT grants. The owner of a base table holds all privileges on it without a grant.
pub record Catalog : Type 0 where
  pub users : List Name
  pub bases : List DeclaredBase
  pub views : List DeclaredView
  pub grants : List Grant

abbrev pub empty : Catalog
empty = record { users = []; bases = []; views = []; grants = [] }

abbrev pub base_named : List DeclaredBase → TableName → Option DeclaredBase
base_named bases t = find (λ b. same_table b.name t) bases

abbrev pub view_named : List DeclaredView → TableName → Option DeclaredView
view_named views t = find (λ v. same_table v.name t) views

-- the base table or view of a name
abbrev pub entry : Catalog → TableName → Option Entry
entry c t =
    option_or (option_map Entry.base (base_named c.bases t)) (option_map Entry.view (view_named c.views t))

abbrev pub table_count : Catalog → ℕ
table_count c = length c.bases + length c.views

-- ---- the privileges that users hold

abbrev pub owns : Name → TableName → Entry → Bool
owns user t (Entry.base b) = same_name t.user user
owns user t (Entry.view v) = false

-- whether a user holds a privilege on an existing table or, with `grantable`, its grant option
abbrev pub may_on : Catalog → (grantable : Bool) → Name → TableName → Privilege → Entry → Bool
may_on c grantable user t p e =
    owns user t e && is_on_column (entry_column_names e) p || list_any (gives grantable user t p) c.grants

abbrev pub may : Catalog → (grantable : Bool) → Name → TableName → Privilege → Bool
may c grantable user t p = is_some_and (may_on c grantable user t p) (entry c t)

-- ---- the meanings of names to a user

abbrev pub named_table : Catalog → Name → TableName → Entry → NamedTable
named_table c user t e = record {
  place = entry_place e;
  columns = entry_columns e;
  may_select = may c false user t Privilege.select;
  may_grant = may c true user t Privilege.select;
}

-- binding passes on the leaf under a table, and looks at no condition of it
abbrev pub under_table : DeclaredUnder → UnderTable
under_table u = record {
  leaf = record { base = u.base; conditions = []; demanded = u.demanded };
  columns = u.columns;
}

abbrev pub names_of : Catalog → Name → UserNames
names_of c user = record {
  user = user;
  tables = λ t. option_map (named_table c user t) (entry c t);
  under = λ t. option_map under_table (option_and_then entry_under (entry c t));
  holds = may c false user;
}
