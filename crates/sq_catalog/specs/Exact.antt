-- A catalog, as the definitions see it, and what schema texts declare (ISO/IEC 9075:1992, 11.1).
use Rattle.std.specs.Prelude.{◌≡◌, ⊤, List, [], ◌∷◌, ◌++◌, flat_map, map, Option, Result, Ok, Err}
use Rattle.std.specs.List.{zip}
use Rattle.std.specs.Map.{lookup}
use Rattle.std.specs.Option.{option_map, option_or}
use Rattle.sq_lex.specs.declared.name.Name.{Name}
use Rattle.sq_tree.specs.declared.schema.SchemaText.{SchemaText}
use Rattle.sq_meaning.specs.Environment.{TableName}
use Rattle.sq_meaning.specs.Schema.{is_among}
use Rattle.sq_meaning.specs.declared.refusal.SchemaFault.TheVariants as fault
use Rattle.sq_bound.specs.declared.names.BaseColumn.{BaseColumn}
use Rattle.sq_bound.specs.declared.names.BaseTable.{BaseTable}
use Rattle.sq_bound.specs.declared.names.Column.{Column}
use Rattle.sq_bound.specs.declared.names.Leaf.{Leaf}
use Rattle.sq_bound.specs.declared.names.TableBody.{TableBody}
use Rattle.sq_bound.specs.declared.names.TableBody.TheVariants as body
use Rattle.sq_bound.specs.declared.names.TableDesc.{TableDesc}
use Rattle.sq_bound.specs.declared.names.View.{View}
use Rattle.sq_binding.specs.Seen.{cond_seen, select_seen}
use Rattle.sq_binding.specs.Catalog as definition
use Rattle.sq_binding.specs.Catalog.{DeclaredBase, DeclaredColumn, DeclaredUnder, DeclaredView, Entry}
use Rattle.sq_binding.specs.Declaring.{Declared, catalog_of}
use Rattle.sq_binding.specs.ElementOutcome.{Outcome, ◌>>◌, refused_if}
use Rattle.sq_binding.specs.Names.{descriptor_of}
use Rattle.sq_catalog.specs.Catalog.{Catalog, is_table}
use Rattle.sq_catalog.specs.Fault.{refusal_seen}
use Rattle.sq_catalog.specs.declared.catalog.FullName.{FullName}
use Rattle.sq_catalog.specs.declared.fault.CatalogFault.{CatalogFault}
use Rattle.sq_catalog.specs.declared.fault.CatalogFault.TheVariants.{NoMemory, Refused}

abbrev pub name_in : FullName → TableName
name_in n = record { user = n.user; name = n.name }

-- ---- base tables

abbrev pub names_in : List Column → List Name
names_in columns = map (λ c. c.name) columns

-- a column of this name
abbrev pub column_declared : Name × BaseColumn → DeclaredColumn
column_declared c = record {
  name = c.0;
  domain = (c.1).domain;
  not_null = (c.1).not_null;
  default = (c.1).default;
}

-- a base table of this name, with columns of their names
abbrev pub base_declared : FullName → List Column → BaseTable → DeclaredBase
base_declared name columns b = record {
  name = name_in name;
  place = b.place;
  columns = map column_declared (zip (names_in columns) b.columns);
  keys = b.keys;
  primary_key = b.primary_key;
  references = b.references;
  checks = map cond_seen b.checks;
}

-- ---- views

abbrev pub under_declared : List Column → Leaf → DeclaredUnder
under_declared columns l = record {
  base = l.table.place;
  conditions = map cond_seen l.conditions;
  demanded = l.demanded;
  columns = map (λ c. c.leaf_column) columns;
}

abbrev pub view_declared : FullName → TableDesc → View → DeclaredView
view_declared name t v = record {
  name = name_in name;
  place = v.place;
  columns = map descriptor_of t.columns;
  query = select_seen v.query;
  under = option_map (under_declared t.columns) t.leaf;
}

-- ---- what stands under a name

abbrev pub entry_with : FullName → TableDesc → TableBody → Entry
entry_with name t (body.Base b) = Entry.base (base_declared name t.columns b)
entry_with name t (body.View v) = Entry.view (view_declared name t v)

abbrev pub entry_declared : FullName → TableDesc → Entry
entry_declared name t = entry_with name t t.body

abbrev pub base_in : FullName × TableDesc → TableBody → List DeclaredBase
base_in e (body.Base b) = base_declared e.0 (e.1).columns b ∷ []
base_in e (body.View v) = []

abbrev pub view_in : FullName × TableDesc → TableBody → List DeclaredView
view_in e (body.Base b) = []
view_in e (body.View v) = view_declared e.0 e.1 v ∷ []

abbrev pub bases_declared : List (FullName × TableDesc) → List DeclaredBase
bases_declared entries = flat_map (λ e. base_in e (e.1).body) entries

abbrev pub views_declared : List (FullName × TableDesc) → List DeclaredView
views_declared entries = flat_map (λ e. view_in e (e.1).body) entries

-- the table or view of a name
abbrev pub described : Catalog → TableName → Option TableDesc
described c t =
    option_or (lookup (is_table t.user t.name) c.base_entries)
    (lookup (is_table t.user t.name) c.view_entries)

-- ---- the catalog

abbrev pub declared : Catalog → definition.Catalog
declared c = record {
  users = c.users;
  bases = bases_declared c.base_entries;
  views = views_declared c.view_entries;
  grants = c.grants;
}

-- a table or view of this name behind the others
abbrev pub with_view_entry : definition.Catalog → FullName → TableDesc → definition.Catalog
with_view_entry c name t = record {
  users = c.users;
  bases = c.bases;
  views = c.views ++ view_in (name, t) t.body;
  grants = c.grants;
}

-- a name behind others, among which it is not
abbrev pub name_added : List Name → Name → Outcome (List Name)
name_added names name = refused_if fault.NameTwice (is_among names name) >> Ok (names ++ name ∷ [])

-- ---- schema texts

abbrev pub StopsAt : Declared → CatalogFault → Type 0
StopsAt outcome (Refused refusal) = outcome ≡ Err (refusal_seen refusal)
StopsAt outcome NoMemory = ⊤

-- the catalog after some parts of schema texts, or their first refusal; or memory ran out
abbrev pub Builds : {A : Type 0} → Declared → definition.Catalog → Result A CatalogFault → Type 0
Builds outcome new (Ok x) = outcome ≡ Ok new
Builds outcome new (Err fault) = StopsAt outcome fault

-- The catalog that the texts declare, or their first refusal: its text, schema definition and element, and the fault; or memory ran out.
abbrev pub IsCatalogOf : List SchemaText → Result Catalog CatalogFault → Type 0
IsCatalogOf texts (Ok c) = catalog_of texts ≡ Ok (declared c)
IsCatalogOf texts (Err fault) = StopsAt (catalog_of texts) fault
