-- The holders of privileges (ISO/IEC 9075:1992, 4.26, 11.19 and 11.36). A user holds a privilege if there is a chain of
-- schema elements, each after the one before. The first is a CREATE that gives it to the owner. GRANTs follow, each by
-- a user to whom the one before gave it with the grant option. The last of them is to the user or to PUBLIC. The
-- privileges that a view gives its owner are decided at the place of the view (own rule).
use Rattle.std.specs.List.{list_all, list_any}
use Rattle.std.specs.Prelude.{Bool, true, false, not, ◌&&◌, ◌||◌, List, [], ◌∷◌, slice_get, filter_map, Option, option_map, option_and_then, Some, None, Ok}
use Rattle.std.specs.Result.{result_ok}
use Rattle.sq_lex.specs.declared.name.Name.{Name}
use Rattle.sq_tree.specs.declared.list.CommaList.{CommaList}
use Rattle.sq_tree.specs.declared.schema.Action.{Action}
use Rattle.sq_tree.specs.declared.schema.Action.TheVariants as action
use Rattle.sq_tree.specs.declared.schema.GrantStatement.{GrantStatement}
use Rattle.sq_tree.specs.declared.schema.Grantee.{Grantee}
use Rattle.sq_tree.specs.declared.schema.Grantee.TheVariants as grantee
use Rattle.sq_tree.specs.declared.schema.Privileges.{Privileges}
use Rattle.sq_tree.specs.declared.schema.Privileges.TheVariants as privileges
use Rattle.sq_tree.specs.declared.schema.SchemaElement.{SchemaElement}
use Rattle.sq_tree.specs.declared.schema.SchemaElement.TheVariants as element
use Rattle.sq_tree.specs.declared.schema.TableDefinition.{TableDefinition}
use Rattle.sq_tree.specs.declared.schema.ViewDefinition.{ViewDefinition}
use Rattle.sq_meaning.specs.Environment.{TableName, same_name, same_table}
use Rattle.sq_meaning.specs.Spelled.{Named, listed, select_of, table_of}
use Rattle.sq_meaning.specs.Status.{◌>>=◌}
use Rattle.sq_meaning.specs.Syntax.{Select}
use Rattle.sq_meaning.specs.Tables.{TableDescriptor, Tables, column_names}
use Rattle.sq_meaning.specs.Target.{Source, target_of, updatable_source}
use Rattle.sq_meaning.specs.Catalog.{tables_of, view_descriptor}
use Rattle.sq_meaning.specs.Privilege.{Privilege}
use Rattle.sq_meaning.specs.Schema.{Elements, is_among, place_among, table_columns}
use Rattle.sq_meaning.specs.Site.{Site, known_tables, outside, select_sites}
use Rattle.sq_meaning.specs.Words.{is_some_and}

-- whether a user holds a privilege on a table and, if `grantable` is true, holds it with the grant option
abbrev pub Holding : Type 0
Holding = (grantable : Bool) → Name → TableName → Privilege → Bool

abbrev pub implies : Bool → Bool → Bool
implies a b = not a || b

-- ---- CREATE TABLE: the owner holds everything, with the grant option

abbrev pub is_on_column : List Name → Privilege → Bool
is_on_column columns (Privilege.update c) = is_among columns c
is_on_column columns (Privilege.references c) = is_among columns c
is_on_column columns _ = true

abbrev pub table_gives : Name → TableDefinition → Holding
table_gives owner t grantable user name p =
    same_name owner user && same_table (table_of owner t.name) name && is_on_column (table_columns t) p

-- ---- GRANT: the privileges that the grantor holds with the grant option (11.36)

abbrev pub is_in_list : Option (CommaList Name) → Name → Bool
is_in_list None c = true
is_in_list (Some columns) c = is_among (listed columns) c

abbrev pub action_covers : Action → Privilege → Bool
action_covers action.Select Privilege.select = true
action_covers action.Insert Privilege.insert = true
action_covers action.Delete Privilege.delete = true
action_covers (action.Update columns) (Privilege.update c) = is_in_list columns c
action_covers (action.References columns) (Privilege.references c) = is_in_list columns c
action_covers _ _ = false

-- ALL PRIVILEGES are the privileges that the grantor may grant
abbrev pub covers : Privileges → Privilege → Bool
covers privileges.All p = true
covers (privileges.Actions actions) p = list_any (λ a. action_covers a p) (listed actions)

-- PUBLIC is every user
abbrev pub is_grantee : Name → Grantee → Bool
is_grantee user grantee.Public = true
is_grantee user (grantee.User name) = same_name name user

abbrev pub grant_gives : Holding → Name → GrantStatement → Holding
grant_gives held grantor g grantable user name p =
    same_table (table_of grantor g.table) name && covers g.privileges p
    && list_any (is_grantee user) (listed g.grantees)
    && implies grantable g.grant_option && held true grantor name p

-- ---- CREATE VIEW: the privileges that follow from the tables underneath (11.19)

-- the tables that a query names, in its subqueries too
abbrev pub table_in : Site → Option TableName
table_in (Site.table_read r) = Some r.table
table_in _ = None

abbrev pub tables_named : Tables → Select Named → List TableName
tables_named tables q = filter_map table_in (select_sites (known_tables tables) outside q)

-- the column of the table underneath that an updatable view shows under a name
abbrev pub column_underneath : TableDescriptor → Source → Name → Option Name
column_underneath view source c =
    option_and_then (slice_get source.item.columns)
    (option_and_then (slice_get source.columns) (place_among (column_names view) c))

abbrev pub privilege_underneath : TableDescriptor → Source → Privilege → Option Privilege
privilege_underneath view source Privilege.insert = Some Privilege.insert
privilege_underneath view source Privilege.delete = Some Privilege.delete
privilege_underneath view source (Privilege.update c) =
    option_map Privilege.update (column_underneath view source c)
privilege_underneath view source _ = None

-- on an updatable view INSERT, DELETE and UPDATE follow the privileges on the table of its FROM clause, UPDATE column by column
abbrev pub holds_underneath : Holding → Name → (grantable : Bool) → TableDescriptor → Source → Privilege
    → Bool
holds_underneath held owner grantable view source p =
    is_some_and (held grantable owner source.item.reference.table) (privilege_underneath view source p)

-- a view is updatable if its query is, and the table of its FROM clause
abbrev pub updatable_here : Tables → Select Named → Option Source
updatable_here tables q =
    result_ok (updatable_source tables q >>= λ source. target_of tables source.item.reference.table
    >>= λ _. Ok source)

-- SELECT is held, and with the grant option if it is so held on all tables that the query names
abbrev pub view_gives_owner : Holding → Tables → Name → ViewDefinition → (grantable : Bool) → Privilege → Bool
view_gives_owner held tables owner v grantable Privilege.select =
    implies grantable (list_all (λ t. held true owner t Privilege.select)
    (tables_named tables (select_of owner v.query)))
view_gives_owner held tables owner v grantable p =
    is_some_and (λ source. holds_underneath held owner grantable (view_descriptor tables owner v) source p)
    (updatable_here tables (select_of owner v.query))

abbrev pub view_gives : Holding → Tables → Name → ViewDefinition → Holding
view_gives held tables owner v grantable user name p =
    same_name owner user && same_table (table_of owner v.name) name
    && view_gives_owner held tables owner v grantable p

-- ---- the chains

abbrev pub gives : Holding → Tables → Name → SchemaElement → Holding
gives held tables user (element.Table t) = table_gives user t
gives held tables user (element.View v) = view_gives held tables user v
gives held tables user (element.Grant g) = grant_gives held user g

-- A chain ends at one of these elements: at the last one, what that gives by the chains that end before it; or before.
abbrev pub chain : Elements → Holding
chain [] grantable user name p = false
chain (e ∷ before) grantable user name p =
    gives (chain before) (tables_of before) e.user e.element grantable user name p
    || chain before grantable user name p

-- a user holds a privilege
abbrev pub holds : Elements → Name → TableName → Privilege → Bool
holds elements = chain elements false

-- a user holds a privilege with the grant option
abbrev pub may_grant_on : Elements → Name → TableName → Privilege → Bool
may_grant_on elements = chain elements true
