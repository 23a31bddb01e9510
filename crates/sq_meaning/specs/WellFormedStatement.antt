-- Which statements are well formed (ISO/IEC 9075:1992, clauses 7 and 13): the sites of each statement, for the rules of
-- Binding.
use Rattle.std.specs.List.{list_any, zip}
use Rattle.std.specs.Prelude.{ℕ, ◌+◌, Bool, false, not, ◌&&◌, List, [], ◌∷◌, ◌++◌, map, length, is_none, if◌then◌else◌, ◌==◌, filter, find, flat_map, Option, option_map, option_to_list, option_and_then, Some, None, Ok, Err}
use Rattle.std.specs.Result.{result_ok}
use Rattle.sq_lex.specs.declared.name.Name.{Name}
use Rattle.sq_value.specs.Domain.{kind_of}
use Rattle.sq_value.specs.declared.domain.Kind.{Kind}
use Rattle.sq_tree.specs.declared.list.CommaList.{CommaList}
use Rattle.sq_tree.specs.declared.module.Cursor.{Cursor}
use Rattle.sq_tree.specs.declared.module.ModuleText.{ModuleText}
use Rattle.sq_tree.specs.declared.module.Procedure.{Procedure}
use Rattle.sq_tree.specs.declared.module.SortSpecification.{SortSpecification}
use Rattle.sq_tree.specs.declared.names.Parameter.{Parameter}
use Rattle.sq_tree.specs.declared.statement.Assignment.{Assignment as SetClause}
use Rattle.sq_tree.specs.declared.statement.Delete.{Delete}
use Rattle.sq_tree.specs.declared.statement.Fetch.{Fetch}
use Rattle.sq_tree.specs.declared.statement.Insert.{Insert}
use Rattle.sq_tree.specs.declared.statement.InsertSource.{InsertSource}
use Rattle.sq_tree.specs.declared.statement.InsertSource.TheVariants as source
use Rattle.sq_tree.specs.declared.statement.NewValue.{NewValue}
use Rattle.sq_tree.specs.declared.statement.NewValue.TheVariants as new_value
use Rattle.sq_tree.specs.declared.statement.Orientation.{Orientation}
use Rattle.sq_tree.specs.declared.statement.Select.{Select as SelectStatement}
use Rattle.sq_tree.specs.declared.statement.Statement.{Statement}
use Rattle.sq_tree.specs.declared.statement.Statement.TheVariants as statement
use Rattle.sq_tree.specs.declared.statement.Update.{Update}
use Rattle.sq_tree.specs.declared.statement.Where.{Where}
use Rattle.sq_tree.specs.declared.statement.Where.TheVariants as rows_where
use Rattle.sq_meaning.specs.Environment.{TableName, same_name}
use Rattle.sq_meaning.specs.SortKeys.{query_names}
use Rattle.sq_meaning.specs.Spelled.{Named, cond_of, expr_of, listed, listed_if_any, query_of, select_of, select_of_parts, table_of}
use Rattle.sq_meaning.specs.Status.{Outcome, and_then, well_formed}
use Rattle.sq_meaning.specs.Syntax.{Query, Select, specification, union}
use Rattle.sq_meaning.specs.Tables.{Declared, Tables, descriptor_of}
use Rattle.sq_meaning.specs.Tables.{column_names}
use Rattle.sq_meaning.specs.Target.{Target, cursor_target}
use Rattle.sq_meaning.specs.Binding.{Judged, domain_named, fits, is_well_formed}
use Rattle.sq_meaning.specs.Catalog.{tables_of}
use Rattle.sq_meaning.specs.Module.{cursor_named, cursors, declared_parameters, opens, procedures}
use Rattle.sq_meaning.specs.Privilege.{Privilege}
use Rattle.sq_meaning.specs.Privileges.{holds, updatable_here}
use Rattle.sq_meaning.specs.Schema.{Elements}
use Rattle.sq_meaning.specs.Site.{Around, Known, KnownCursor, Site, cond_sites, expr_sites, kind_here, kinds_here, known_tables, outside, plain_query, query_count, query_kinds_of, query_sites, select_count, select_sites}

-- the surroundings of a procedure's statement: the schema elements, its module, and its parameters as they are declared
pub record Surroundings : Type 0 where
  pub elements : Elements
  pub in_module : ModuleText
  pub parameters : List Declared

abbrev pub own : Surroundings → Name
own u = u.in_module.authorization

-- the names that a query may refer to: it names no cursor
abbrev pub known_in_query : Surroundings → Known
known_in_query u = record (known_tables (tables_of u.elements)) { parameters = u.parameters }

abbrev pub judged_by : Surroundings → Known → Judged
judged_by u k = record { known = k; holds = holds u.elements (own u) }

-- ---- targets of INTO (13.3, 13.5)

abbrev pub target_kind : Known → Parameter → Outcome Kind
target_kind k p = well_formed (option_map kind_of (domain_named k p.name))

abbrev pub pair_sites : List (Outcome Kind) → List (Outcome Kind) → List Site
pair_sites ks ls = map (λ p. Site.alike_wanted p.0 p.1) (zip ks ls)

abbrev pub each_kind : Outcome (List Kind) → List (Outcome Kind)
each_kind (Ok ks) = map Ok ks
each_kind (Err s) = []

-- the sites of targets: there are as many as columns, and each is of the kind of its column
abbrev pub into_sites : Known → CommaList Parameter → ℕ → Outcome (List Kind) → List Site
into_sites k list columns kinds =
    Site.targets (listed list) ∷ Site.counts (length (listed list)) columns ∷ pair_sites
    (map (target_kind k) (listed list)) (each_kind kinds)

-- ---- cursors (13.1)

-- the procedure that opens a cursor declares the parameters of its query (own rule)
abbrev pub opener_parameters : ModuleText → Name → List Declared
opener_parameters m cursor =
    flat_map declared_parameters (filter (λ p. opens cursor p.statement) (procedures m))

abbrev pub opener_surroundings : Surroundings → Cursor → Surroundings
opener_surroundings u c = record u { parameters = opener_parameters u.in_module c.name }

abbrev pub cursor_query : Surroundings → Cursor → Query Named
cursor_query u c = query_of (own u) c.query

abbrev pub cursor_names : Surroundings → Cursor → Outcome (List (Option Name))
cursor_names u c = query_names (tables_of u.elements) (cursor_query u c)

-- if the names of the result columns are not known, the query has a fault, and ORDER BY has none beside it
abbrev pub sort_sites : Outcome (List (Option Name)) → List SortSpecification → List Site
sort_sites (Ok names) order = map (λ s. Site.sort_by names s.key) order
sort_sites (Err s) order = []

abbrev pub cursor_sites : Surroundings → Cursor → List Site
cursor_sites u c =
    query_sites (known_in_query (opener_surroundings u c)) (cursor_query u c)
    ++ sort_sites (cursor_names u c) (listed_if_any c.order_by)

abbrev pub is_sound : Surroundings → Cursor → Bool
is_sound u c = is_well_formed (judged_by u (known_in_query (opener_surroundings u c))) (cursor_sites u c)

-- a query specification alone
abbrev pub only_specification : Query Named → Option (Select Named)
only_specification (specification q) = Some q
only_specification (union all left right) = None

abbrev pub is_plain : Cursor → Bool
is_plain c = not c.insensitive && not c.scroll && is_none c.order_by

-- a cursor is updatable if its query is, and it has no ORDER BY, SCROLL or INSENSITIVE
abbrev pub updatable_query : Surroundings → Cursor → Option (Select Named)
updatable_query u c = if is_plain c then only_specification (cursor_query u c) else None

abbrev pub updatable_cursor : Surroundings → Cursor → Option Target
updatable_cursor u c =
    option_and_then (λ q. result_ok (cursor_target (tables_of u.elements) q)) (updatable_query u c)

abbrev pub updatable_table : Surroundings → Cursor → Option TableName
updatable_table u c =
    option_map (λ source. source.item.reference.table)
    (option_and_then (updatable_here (tables_of u.elements)) (updatable_query u c))

abbrev pub known_cursor : Surroundings → Cursor → KnownCursor
known_cursor u c = record { name = c.name; sound = is_sound u c; table = updatable_table u c }

-- the names that a statement may refer to
abbrev pub known_in : Surroundings → Known
known_in u = record (known_in_query u) { cursors = map (known_cursor u) (cursors u.in_module) }

-- ---- FETCH (13.3)

abbrev pub cursor_columns : Surroundings → Cursor → Outcome (List Kind)
cursor_columns u c = query_kinds_of (known_in_query (opener_surroundings u c)) (cursor_query u c)

abbrev pub orientation_of : Fetch → Option Orientation
orientation_of f = option_and_then (λ from. from.orientation) f.from

abbrev pub fetch_from_sites : Surroundings → Fetch → Cursor → List Site
fetch_from_sites u f c =
    Site.orientation_used c.scroll (orientation_of f)
    ∷ into_sites (known_in u) f.targets (query_count (tables_of u.elements) (cursor_query u c))
    (cursor_columns u c)

abbrev pub fetch_sites : Surroundings → Fetch → List Site
fetch_sites u f =
    Site.cursor_used f.cursor
    ∷ flat_map (fetch_from_sites u f) (option_to_list (cursor_named u.in_module f.cursor))

-- ---- SELECT INTO (13.5)

abbrev pub select_of_statement : Name → SelectStatement → Select Named
select_of_statement user s = select_of_parts user s.quantifier s.list s.table

abbrev pub select_into_sites : Surroundings → SelectStatement → List Site
select_into_sites u s =
    select_sites (known_in u) outside (select_of_statement (own u) s)
    ++ into_sites (known_in u) s.targets (select_count (tables_of u.elements) (select_of_statement (own u) s))
    (kinds_here (known_in u) outside (select_of_statement (own u) s))

-- ---- new values (13.8 to 13.10)

-- the kind of a column of a table
abbrev pub column_kind : Tables → TableName → Name → Outcome Kind
column_kind tables name c =
    and_then (descriptor_of tables name)
    (λ d. well_formed (option_map (λ k. k.kind) (find (λ k. same_name k.name c) d.columns)))

-- the sites of a new value, which is of the kind of its column; NULL is of every kind
abbrev pub value_sites : Known → Around → Outcome Kind → NewValue → List Site
value_sites k a d (new_value.Expr e) =
    Site.alike_wanted d (kind_here k a (expr_of e)) ∷ expr_sites k a (expr_of e)
value_sites k a d new_value.Null = []

-- ---- INSERT (13.8)

abbrev pub all_column_names : Tables → TableName → List Name
all_column_names tables name = flat_map column_names (option_to_list (result_ok (descriptor_of tables name)))

-- the columns that values are given for
abbrev pub insert_columns : Tables → TableName → Option (CommaList Name) → List Name
insert_columns tables name None = all_column_names tables name
insert_columns tables name (Some columns) = listed columns

abbrev pub source_sites : Surroundings → List (Outcome Kind) → InsertSource → List Site
source_sites u kinds (source.Values values) =
    Site.counts (length kinds) (length (listed values)) ∷ flat_map
    (λ p. value_sites (known_in u) outside p.0 p.1) (zip kinds (listed values))
source_sites u kinds (source.Query q) =
    Site.counts (length kinds) (select_count (tables_of u.elements) (select_of (own u) q))
    ∷ pair_sites kinds (each_kind (kinds_here (known_in u) outside (select_of (own u) q)))
    ++ select_sites (known_in u) outside (select_of (own u) q)

abbrev pub insert_sites : Surroundings → TableName → Insert → List Site
insert_sites u name i =
    Site.table_changed name ∷ Site.privilege_used name Privilege.insert ∷ Site.column_list
    (listed_if_any i.columns)
    ∷ Site.column_count (length (listed_if_any i.columns)) ∷ map (Site.column_changed name)
    (listed_if_any i.columns)
    ++ source_sites u (map (column_kind (tables_of u.elements) name)
    (insert_columns (tables_of u.elements) name i.columns)) i.source

-- ---- UPDATE and DELETE (13.6, 13.7, 13.9 and 13.10)

-- the statement's own table is the outermost scope
abbrev pub beside_table : TableName → Around
beside_table name = record {
  queries = plain_query (record { table = name; correlation = None } ∷ []) ∷ [];
  functions_allowed = false;
  in_function = false;
}

-- a reference that means a column of the statement's own table
abbrev pub means_own_column : Known → Site → Bool
means_own_column k (Site.column_read a c) =
    list_any (λ p. p.depth + 1 == length a.queries) (fits k c a.queries)
means_own_column k _ = false

-- who reads a column of the table that is changed needs SELECT on it (own rule)
abbrev pub with_select : Known → TableName → List Site → List Site
with_select k name sites =
    if list_any (means_own_column k) sites then Site.privilege_used name Privilege.select ∷ sites else sites

abbrev pub where_sites : Surroundings → TableName → Option Where → List Site
where_sites u name None = []
where_sites u name (Some (rows_where.Condition c)) =
    cond_sites (known_in u) (beside_table name) (cond_of (own u) c)
where_sites u name (Some (rows_where.CurrentOf cursor)) =
    Site.cursor_used cursor ∷ Site.positioned name cursor ∷ []

abbrev pub set_sites : Surroundings → TableName → SetClause → List Site
set_sites u name a =
    Site.column_changed name a.column ∷ Site.privilege_used name (Privilege.update a.column)
    ∷ value_sites (known_in u) (beside_table name) (column_kind (tables_of u.elements) name a.column) a.value

abbrev pub update_sites : Surroundings → TableName → Update → List Site
update_sites u name x =
    Site.table_changed name ∷ Site.column_list (map (λ a. a.column) (listed x.assignments))
    ∷ with_select (known_in u) name (flat_map (set_sites u name) (listed x.assignments)
    ++ where_sites u name x.target)

abbrev pub delete_sites : Surroundings → TableName → Delete → List Site
delete_sites u name x =
    Site.table_changed name ∷ Site.privilege_used name Privilege.delete ∷ with_select (known_in u) name
    (where_sites u name x.target)

-- ---- a statement

abbrev pub statement_sites : Surroundings → Statement → List Site
statement_sites u (statement.Open name) = Site.cursor_used name ∷ []
statement_sites u (statement.Fetch f) = fetch_sites u f
statement_sites u (statement.Close name) = Site.cursor_used name ∷ []
statement_sites u (statement.Select s) = select_into_sites u s
statement_sites u (statement.Insert i) = insert_sites u (table_of (own u) i.table) i
statement_sites u (statement.Update x) = update_sites u (table_of (own u) x.table) x
statement_sites u (statement.Delete x) = delete_sites u (table_of (own u) x.table) x
statement_sites u (statement.Commit work) = []
statement_sites u (statement.Rollback work) = []

abbrev pub surroundings_of : Elements → ModuleText → Procedure → Surroundings
surroundings_of elements m p = record {
  elements = elements;
  in_module = m;
  parameters = declared_parameters p;
}

abbrev pub is_well_formed_procedure : Elements → ModuleText → Procedure → Bool
is_well_formed_procedure elements m p =
    let u =
    surroundings_of elements m p in is_well_formed (judged_by u (known_in u))
    (statement_sites u p.statement)
