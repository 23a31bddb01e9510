-- References of a table definition (ISO/IEC 9075:1992, 11.8). A table may reference itself.
use Rattle.std.specs.Bool.{beq}
use Rattle.std.specs.Prelude.{ℕ, Bool, true, false, ◌&&◌, ◌||◌, ◌==◌, if◌then◌else◌, List, nat_eq, length, map, find, filter_map, position, slice_get, zip, Option, Some, None, Ok, Err}
use Rattle.std.specs.List.{enumerate_from, list_all, list_any}
use Rattle.std.specs.Option.{option_and_then, option_map}
use Rattle.sq_lex.specs.declared.name.Name.{Name}
use Rattle.sq_value.specs.Domain.{kind_of}
use Rattle.sq_value.specs.declared.domain.Kind.{Kind}
use Rattle.sq_value.specs.declared.domain.Kind.TheVariants.{Num, Chars, Vary}
use Rattle.sq_tree.specs.declared.list.CommaList.{CommaList}
use Rattle.sq_meaning.specs.Environment.{TableName, same_table}
use Rattle.sq_meaning.specs.Spelled.{listed, table_of}
use Rattle.sq_meaning.specs.Privilege.{Privilege}
use Rattle.sq_meaning.specs.Schema as rules
use Rattle.sq_meaning.specs.Words.{is_some_and}
use Rattle.sq_meaning.specs.declared.refusal.SchemaFault.TheVariants as fault
use Rattle.sq_bound.specs.declared.names.Reference.{Reference}
use Rattle.sq_binding.specs.Catalog.{Catalog, DeclaredBase, Entry, entry, entry_column_names, entry_name, may}
use Rattle.sq_binding.specs.Key.{is_bad_list}
use Rattle.sq_binding.specs.ElementOutcome.{Outcome, ◌>>=◌, or_fault}
use Rattle.sq_binding.specs.Position.{positions_of}

-- ---- its names

-- A reference whose table and columns are found: its columns, the referenced table, and the listed columns there. There is no
-- table if it is the one that is defined, and no list if the primary key is meant.
pub record FoundReference : Type 0 where
  pub columns : List ℕ
  pub earlier : Option Entry
  pub columns_listed : Option (List ℕ)

abbrev pub earlier_table : Catalog → (own : TableName) → TableName → Outcome (Option Entry)
earlier_table c own t =
    if same_table own t then Ok None else or_fault fault.UnknownName (entry c t) >>= λ e. Ok (Some e)

abbrev pub names_in : List Name → Option Entry → List Name
names_in own None = own
names_in own (Some e) = entry_column_names e

abbrev pub positions_listed : List Name → Option (CommaList Name) → Outcome (Option (List ℕ))
positions_listed names None = Ok None
positions_listed names (Some list) = positions_of names (listed list) >>= λ positions. Ok (Some positions)

abbrev pub found_reference : Catalog → Name → (own : TableName) → List Name → rules.Reference
    → Outcome FoundReference
found_reference c user own names r = do
  earlier ← earlier_table c own (table_of user r.references.table)
  columns ← positions_of names r.columns
  positions ← positions_listed (names_in names earlier) r.references.columns
  Ok (record { columns = columns; earlier = earlier; columns_listed = positions })

abbrev pub has_bad_list : FoundReference → Bool
has_bad_list r = is_bad_list r.columns || is_some_and is_bad_list r.columns_listed

-- ---- the table that is referenced

-- a base table as its references need it
pub record ReferencedTable : Type 0 where
  pub place : ℕ
  pub names : List Name
  pub kinds : List Kind
  pub keys : List (List ℕ)
  pub primary_key : Option ℕ

abbrev pub as_referenced : DeclaredBase → ReferencedTable
as_referenced b = record {
  place = b.place;
  names = map (λ c. c.name) b.columns;
  kinds = map (λ c. kind_of c.domain) b.columns;
  keys = b.keys;
  primary_key = b.primary_key;
}

-- a view has no keys
abbrev pub referenced_table : (own : ReferencedTable) → Option Entry → Outcome ReferencedTable
referenced_table own None = Ok own
referenced_table own (Some (Entry.base b)) = Ok (as_referenced b)
referenced_table own (Some (Entry.view v)) = Err fault.BadReference

-- ---- the key that is referenced

-- the referenced key: its place among the keys, its columns, and the same columns in the order in which they are paired
pub record ReferencedKey : Type 0 where
  pub place : ℕ
  pub columns : List ℕ
  pub columns_listed : List ℕ

abbrev pub are_among : List ℕ → List ℕ → Bool
are_among all some = list_all (λ n. list_any (nat_eq n) all) some

-- a key and a list have the same columns, in any order
abbrev pub are_the_same : List ℕ → List ℕ → Bool
are_the_same list key = are_among list key && are_among key list

abbrev pub key_at : List ℕ → ℕ × List ℕ → ReferencedKey
key_at list key = record { place = key.0; columns = key.1; columns_listed = list }

abbrev pub key_listed : List (List ℕ) → List ℕ → Option ReferencedKey
key_listed keys list =
    option_map (key_at list) (find (λ key. are_the_same list key.1) (enumerate_from 0 keys))

abbrev pub primary_key : ReferencedTable → Option ReferencedKey
primary_key target =
    option_and_then (λ n. option_map (λ key. key_at key (n, key)) (slice_get target.keys n))
    target.primary_key

abbrev pub referenced_key : ReferencedTable → Option (List ℕ) → Option ReferencedKey
referenced_key target None = primary_key target
referenced_key target (Some list) = key_listed target.keys list

-- ---- the reference

abbrev pub is_numeric : Kind → Bool
is_numeric (Num scale) = true
is_numeric (Chars length) = false
is_numeric (Vary length) = false

-- both are numbers, or both are texts
abbrev pub are_of_one_sort : Option Kind → Option Kind → Bool
are_of_one_sort (Some k) (Some l) = beq (is_numeric k) (is_numeric l)
are_of_one_sort _ _ = false

abbrev pub are_paired : List Kind → List Kind → ℕ × ℕ → Bool
are_paired own target columns = are_of_one_sort (slice_get own columns.0) (slice_get target columns.1)

-- the column that is paired with a column of the key
abbrev pub paired_with : List ℕ → List ℕ → ℕ → Option ℕ
paired_with list columns n = option_and_then (slice_get columns) (position (nat_eq n) list)

abbrev pub reference_to : ReferencedTable → ReferencedKey → List ℕ → Reference
reference_to target key columns = record {
  columns = columns;
  table = target.place;
  key = key.place;
  by_key = filter_map (paired_with key.columns_listed columns) key.columns;
}

-- the columns pair, numbers with numbers and texts with texts (own rule)
abbrev pub paired_reference : List Kind → List ℕ → ReferencedTable → ReferencedKey → Outcome Reference
paired_reference own columns target key =
    if length columns == length key.columns_listed
    && list_all (are_paired own target.kinds) (zip columns key.columns_listed)
    then Ok (reference_to target key columns) else Err fault.BadReference

-- whether a user holds REFERENCES on columns of another table
abbrev pub may_reference : Catalog → Name → Option Entry → List Name → Bool
may_reference c user None names = true
may_reference c user (Some e) names =
    list_all (λ name. may c false user (entry_name e) (Privilege.references name)) names

-- the names of columns at these positions
abbrev pub names_at : List Name → List ℕ → List Name
names_at names positions = filter_map (slice_get names) positions

-- a reference, and whether the user may make it
pub record BoundReference : Type 0 where
  pub reference : Reference
  pub is_permitted : Bool

abbrev pub bound_reference : Catalog → Name → (own : ReferencedTable) → FoundReference
    → Outcome BoundReference
bound_reference c user own r = do
  target ← referenced_table own r.earlier
  key ← or_fault fault.BadReference (referenced_key target r.columns_listed)
  reference ← paired_reference own.kinds r.columns target key
  Ok (record {
    reference = reference;
    is_permitted = may_reference c user r.earlier (names_at target.names key.columns_listed);
  })
