-- The draft of a table, as the definition sees it.
use Rattle.std.specs.Prelude.{◌≡◌, ℕ, true, List, length, map, nat_lt, vec_len}
use Rattle.std.specs.List.{All, AllZip, list_all}
use Rattle.sq_lex.specs.declared.name.Name.{Name}
use Rattle.sq_meaning.specs.Spelled.{table_of}
use Rattle.sq_meaning.specs.Schema as rules
use Rattle.sq_meaning.specs.Schema.{column_definitions, primary_keys}
use Rattle.sq_bound.specs.Names.{are_positions}
use Rattle.sq_bound.specs.WellFormed.{base_kinds, kinds_of_columns}
use Rattle.sq_bound.specs.declared.names.BaseTable.{BaseTable}
use Rattle.sq_bound.specs.declared.names.Column.{Column}
use Rattle.sq_binding.specs.Key.{primary_place}
use Rattle.sq_binding.specs.Table as definition
use Rattle.sq_binding.specs.Names.{descriptor_of}
use Rattle.sq_catalog.specs.Catalog.{Catalog}
use Rattle.sq_catalog.specs.Columns.{AreBaseColumnsOf}
use Rattle.sq_catalog.specs.Exact.{name_in}
use Rattle.sq_catalog.specs.Keys.{KeysStandAt, primaries, primary_among}
use Rattle.sq_catalog.specs.Reference.{IsBound, IsFound, IsFoundAs, found_seen, is_to, keys_with}
use Rattle.sq_catalog.specs.References.{ReferentialConstraint}
use Rattle.sq_catalog.specs.Table.{typed_definitions, typed_kinds, typed_seen}
use Rattle.sq_catalog.specs.Written.{conditions_lent, definitions_lent}
use Rattle.sq_catalog.specs.declared.catalog.FullName.{FullName}
use Rattle.sq_catalog.specs.declared.draft.Draft.{Draft}
use Rattle.sq_catalog.specs.declared.key.Keys.{Keys}
use Rattle.sq_catalog.specs.declared.reference.FoundReference.{FoundReference}
use Rattle.sq_catalog.specs.declared.written.Written.{Written}
use Rattle.sq_catalog.specs.declared.written.WrittenKey.{WrittenKey}

abbrev pub draft_seen : Draft → definition.Draft
draft_seen d = record {
  columns = map typed_seen d.columns.items;
  keys = d.keys.columns;
  references = map found_seen d.references.items;
}

-- a draft has the columns, the keys and the conditions of its definition
pub record IsDraftOf (d : Draft) : Type 0 where
  pub columns : typed_definitions d.columns.items ≡ column_definitions d.definition.now
  pub two_primary : d.keys.has_two_primary ≡ nat_lt 1 (length (primary_keys d.definition.now))
  pub primary : d.keys.primary ≡ primary_place d.definition.now
  pub checks : conditions_lent d.written.checks.items ≡ rules.checks d.definition.now

-- a draft is that of a table of this name in a schema of this user, and its references are to these base tables or to itself
pub record IsDraftFor (bases : List BaseTable) (user : Name) (name : FullName) (d : Draft) : Type 0 where
  pub named : name_in name ≡ table_of user d.definition.now.name
  pub of : IsDraftOf d
  pub found : All (IsFound bases (vec_len d.written.columns)) d.references.items

-- the columns of a draft, as queries see them
pub record AreDraftColumns (d : Draft) (columns : List Column) : Type 0 where
  pub seen : map descriptor_of columns ≡ map (λ c. definition.typed_descriptor (typed_seen c)) d.columns.items
  pub width : length columns ≡ vec_len d.written.columns
  pub kinds : kinds_of_columns columns ≡ typed_kinds d.columns.items

-- a base table behind others has the columns, the keys and the references of a draft; queries see its columns as these
pub record IsBaseFor (bases : List BaseTable) (d : Draft) (described : List Column)
    (b : BaseTable) : Type 0 where
  pub columns : AreBaseColumnsOf (typed_definitions d.columns.items) b.columns
  pub kinds : base_kinds b ≡ kinds_of_columns described
  pub place : b.place ≡ length bases
  pub keys : b.keys ≡ d.keys.columns
  pub primary : b.primary_key ≡ d.keys.primary
  pub references : AllZip (IsBound bases d.keys.columns d.keys.primary) d.references.items b.references
  pub refer : list_all (is_to (keys_with bases b.keys) (length described)) b.references ≡ true

-- The keys and the references that a table definition writes have their names found: those of columns among these, of which there are
-- this many, and those of tables in a catalog or as the table's own.
pub record NamesAreFound (c : Catalog) (user : Name) (own : FullName) (names : List Name) (count : ℕ)
    (written : List WrittenKey)
    (constraints : List ReferentialConstraint) (keys : Keys) (references : List FoundReference) : Type 0 where
  pub within : list_all (are_positions count) keys.columns ≡ true
  pub keys_stand : KeysStandAt names written keys.columns
  pub primary : keys.primary ≡ primary_among written
  pub two_primary : keys.has_two_primary ≡ nat_lt 1 (length (primaries written))
  pub found : All (IsFound c.bases count) references
  pub meant : AllZip (IsFoundAs c user own names) constraints references

-- the names of the columns that are written
abbrev pub written_names : Written → List Name
written_names w = map (λ d. d.name) (definitions_lent w.columns.items)
