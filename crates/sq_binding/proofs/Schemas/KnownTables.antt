-- The meaning of a table's name in a catalog is its meaning after the elements that the catalog is of (ISO/IEC 9075:1992, 5.4 and 11.1).
use Rattle.std.proofs.Common.{◌≡◌, ◌≤◌, take, ℕ, Bool, true, false, cond, ◌||◌, List, [], ◌∷◌, length, map, Option, Some, None, Ok, Err, refl, sym, ap, subst, ◌∙◌}
use Rattle.std.proofs.lemmas.List.{append-nil}
use Rattle.std.specs.List.{AllZip, filter_map, flat_map, list_any}
use Rattle.std.specs.Option.{option_map}
use Rattle.std.specs.Prelude.{⊤, ◌==◌, reverse, find, is_ok, is_some, nat_lt, option_to_list}
use Rattle.std.specs.Result.{result_ok}
use Rattle.sq_lex.specs.declared.name.Name.{Name}
use Rattle.sq_tree.specs.declared.cond.Cond.{Cond}
use Rattle.sq_tree.specs.declared.list.CommaList.{CommaList}
use Rattle.sq_tree.specs.declared.schema.ColumnDefinition.{ColumnDefinition}
use Rattle.sq_tree.specs.declared.schema.SchemaElement.{SchemaElement}
use Rattle.sq_tree.specs.declared.schema.SchemaElement.TheVariants as element
use Rattle.sq_tree.specs.declared.schema.TableDefinition.{TableDefinition}
use Rattle.sq_tree.specs.declared.schema.ViewDefinition.{ViewDefinition}
use Rattle.sq_meaning.specs.Environment.{TableName, same_table}
use Rattle.sq_meaning.specs.Spelled.{Named, cond_of, domain_of, listed, table_of}
use Rattle.sq_meaning.specs.Status as status
use Rattle.sq_meaning.specs.Syntax.{Clause, Cond as ByName, absent, present}
use Rattle.sq_meaning.specs.Tables.{ColumnDescriptor, TableDescriptor, Tables, base_table, column_names, descriptor_of}
use Rattle.sq_meaning.specs.Target.{Level, Target, are_distinct, places_of, target_of}
use Rattle.sq_meaning.specs.Catalog as by_name
use Rattle.sq_meaning.specs.Catalog.{base_count, tables_of}
use Rattle.sq_meaning.specs.Privilege.{Privilege}
use Rattle.sq_meaning.specs.Privileges.{chain, is_on_column}
use Rattle.sq_meaning.specs.Schema as rules
use Rattle.sq_meaning.specs.Schema.{Elements, column_definitions, has_name_twice, is_among, table_columns, table_named}
use Rattle.sq_meaning.specs.SchemaRefusal.{columns_of_made, is_made}
use Rattle.sq_binding.specs.Catalog.{Catalog, DeclaredBase, DeclaredColumn, DeclaredUnder, DeclaredView, Entry, column_descriptor, entry, entry_column_names, entry_columns, entry_under, gives, itself, may, table_count}
use Rattle.sq_binding.specs.Column.{default_of, refuses_null}
use Rattle.sq_binding.specs.Key.{has_bad_key, primary_place}
use Rattle.sq_binding.specs.Reference.{ReferencedKey, as_referenced, reference_to, referenced_key}
use Rattle.sq_binding.specs.CreateView.{NewView, declared_view}
use Rattle.sq_bound.specs.declared.names.Reference.{Reference}
use Rattle.sq_binding.specs.NumberedCondition.{NumberedCond}
use Rattle.sq_binding.specs.View.{check_bound}
use Rattle.sq_binding.specs.Table.{most_columns, most_tables}
use Rattle.sq_binding.proofs.Schemas.Names.{IsPlaced}

-- the columns that are listed stand at these positions
abbrev pub AreListed : List Name → Option (CommaList Name) → Option (List ℕ) → Type 0
AreListed names None None = ⊤
AreListed names None (Some positions) = ⊥
AreListed names (Some list) None = ⊥
AreListed names (Some list) (Some positions) = AllZip (IsPlaced names) (listed list) positions

-- ---- what is under a table that may be changed

abbrev pub condition_written : Clause Named → Option (ByName Named)
condition_written absent = None
condition_written (present c) = Some c

-- the conditions of some levels
abbrev pub conditions_written : List Level → List (ByName Named)
conditions_written levels = filter_map (λ l. condition_written l.condition) levels

-- What is under a table is the target that the rules know: the base table, the columns, as many conditions as are written, and as many of
-- them demanded.
pub record IsUnderAs (t : Target) (u : DeclaredUnder) : Type 0 where
  pub place : t.place ≡ u.base
  pub columns : t.columns ≡ u.columns
  pub conditions : length (conditions_written t.levels) ≡ length u.conditions
  pub demanded : length (conditions_written (take t.demanded t.levels)) ≡ u.demanded
  pub within : t.demanded ≤ length t.levels

abbrev pub IsTargetAs : status.Outcome Target → Option DeclaredUnder → Type 0
IsTargetAs (Ok t) (Some u) = IsUnderAs t u
IsTargetAs (Err s) None = ⊤
IsTargetAs _ _ = ⊥

pub target_there : (o : status.Outcome Target) (u : Option DeclaredUnder) → IsTargetAs o u → is_ok o ≡ is_some u
target_there (Ok t) (Some u) h = refl
target_there (Ok t) None h = absurd h
target_there (Err s) (Some u) h = absurd h
target_there (Err s) None h = refl

-- ---- base tables

-- a column is that of its definition
pub record IsColumnOf (d : ColumnDefinition) (c : DeclaredColumn) : Type 0 where
  pub name : c.name ≡ d.name
  pub domain : domain_of d.data_type ≡ Some c.domain
  pub not_null : c.not_null ≡ refuses_null d
  pub default : default_of c.domain d.default ≡ Ok c.default

-- A base table is that of its definition: its columns, their names, no two of them the same, its keys, and which is the primary one.
pub record IsBaseOf (t : TableDefinition) (b : DeclaredBase) : Type 0 where
  pub columns : AllZip IsColumnOf (column_definitions t) b.columns
  pub apart : has_name_twice (table_columns t) ≡ false
  pub narrow : nat_lt most_columns (length b.columns) ≡ false
  pub keys : AllZip (AllZip (IsPlaced (table_columns t))) (rules.keys t) b.keys
  pub primary : b.primary_key ≡ primary_place t
  pub lists : has_bad_key t b.keys ≡ false

pub record KnownBase (before : Elements) (name : TableName) (b : DeclaredBase) : Type 0 where
  pub named : b.name ≡ name
  pub definition : TableDefinition
  pub there : table_named before name ≡ Some definition
  pub is_of : IsBaseOf definition b
  pub descriptor : TableDescriptor
  pub known : descriptor_of (tables_of before) name ≡ Ok descriptor
  pub columns : descriptor.columns ≡ map column_descriptor b.columns
  pub body : descriptor.body ≡ base_table b.place
  pub target : IsTargetAs (target_of (tables_of before) name) (Some (itself b))

-- ---- views

pub record KnownView (before : Elements) (name : TableName) (v : DeclaredView) : Type 0 where
  pub named : v.name ≡ name
  pub no_base : table_named before name ≡ None
  pub descriptor : TableDescriptor
  pub known : descriptor_of (tables_of before) name ≡ Ok descriptor
  pub columns : descriptor.columns ≡ v.columns
  pub apart : has_name_twice (map (λ c. c.name) v.columns) ≡ false
  pub narrow : nat_lt most_columns (length v.columns) ≡ false
  -- what is under it, where it is updatable
  pub target : IsTargetAs (target_of (tables_of before) name) v.under
  pub wide : (u : DeclaredUnder) → v.under ≡ Some u → length u.columns ≡ length v.columns
  pub once : (u : DeclaredUnder) → v.under ≡ Some u → are_distinct u.columns ≡ true

-- ---- names

pub record Unknown (before : Elements) (name : TableName) : Type 0 where
  pub not_made : is_made before name ≡ false
  pub no_base : table_named before name ≡ None

abbrev pub Known : Elements → TableName → Option Entry → Type 0
Known before name None = Unknown before name
Known before name (Some (Entry.base b)) = KnownBase before name b
Known before name (Some (Entry.view v)) = KnownView before name v

-- ---- in the order of the texts

-- A reference is the one that is written: to a key of the base table that its name means, whose columns are those that are listed, or the
-- primary key; the columns pair in the order in which they are listed.
pub record IsReferenceTo (c : Catalog) (user : Name) (names : List Name) (r : rules.Reference) (x : Reference) : Type 0 where
  pub target : DeclaredBase
  pub there : entry c (table_of user r.references.table) ≡ Some (Entry.base target)
  pub referencing : AllZip (IsPlaced names) r.columns x.columns
  pub list : Option (List ℕ)
  pub listed_are : AreListed (map (λ c. c.name) target.columns) r.references.columns list
  pub key : ReferencedKey
  pub key_is : referenced_key (as_referenced target) list ≡ Some key
  pub as_many : (length x.columns == length key.columns_listed) ≡ true
  pub is : x ≡ reference_to (as_referenced target) key x.columns

-- a condition of CHECK, bound on the columns of the table alone
abbrev pub IsCheckOf : TableName → TableDefinition → Cond → NumberedCond → Type 0
IsCheckOf name t k n = check_bound name (map by_name.column_descriptor (column_definitions t)) (cond_of name.user k) ≡ Ok n

-- a base table of the rules, and of the catalog
pub record IsBaseTable (c : Catalog) (t : rules.BaseTable) (b : DeclaredBase) : Type 0 where
  pub name : b.name ≡ t.name
  pub is_of : IsBaseOf t.definition b
  pub checks : AllZip (IsCheckOf t.name t.definition) (rules.checks t.definition) b.checks
  pub references : AllZip (IsReferenceTo c t.name.user (table_columns t.definition)) (rules.table_references t.definition) b.references

-- a view definition, and the user in whose schema it stands
pub record WrittenView : Type 0 where
  pub user : Name
  pub definition : ViewDefinition

abbrev pub view_in : Name → SchemaElement → Option WrittenView
view_in user (element.View v) = Some (record { user = user; definition = v })
view_in user (element.Table t) = None
view_in user (element.Grant g) = None

-- the views of some elements, in the order of the texts
abbrev pub views_written : Elements → List WrittenView
views_written elements = reverse (filter_map (λ e. view_in e.user e.element) elements)

-- A view is the one that its definition made in an earlier catalog; what names meant there they still mean.
pub record IsViewOf (c : Catalog) (w : WrittenView) (v : DeclaredView) : Type 0 where
  pub earlier : Catalog
  pub new : NewView
  pub made : declared_view earlier w.user w.definition ≡ Ok new
  pub is : v ≡ new.view
  pub still : (name : TableName) (e : Entry) → entry earlier name ≡ Some e → entry c name ≡ Some e

-- the base tables and views are those of the elements, each at its place
pub record IsMadeOf (before : Elements) (c : Catalog) : Type 0 where
  pub bases : AllZip (IsBaseTable c) (rules.base_tables before) c.bases
  pub base_places : map (λ b. b.place) c.bases ≡ places_of c.bases
  pub views : AllZip (IsViewOf c) (views_written before) c.views
  pub view_places : map (λ v. v.place) c.views ≡ places_of c.views

-- The catalog of some elements, in which these users have a schema.
pub record IsCatalogOf (users : List Name) (before : Elements) (c : Catalog) : Type 0 where
  pub users_are : (user : Name) → is_among c.users user ≡ is_among users user
  pub known : (name : TableName) → Known before name (entry c name)
  pub count : length (tables_of before) ≡ table_count c
  pub bases : base_count before ≡ length c.bases
  pub few : nat_lt most_tables (table_count c) ≡ false
  pub held : (grantable : Bool) (user : Name) (name : TableName) (p : Privilege) → may c grantable user name p ≡ chain before grantable user name p
  pub made : IsMadeOf before c
  -- what is held of a column is held of one that is there
  pub on_columns : (grantable : Bool) (user : Name) (name : TableName) (p : Privilege) (e : Entry) → entry c name ≡ Some e → may c grantable user name p ≡ true → is_on_column (entry_column_names e) p ≡ true
  -- nothing is granted on what is not there
  pub granted : (name : TableName) → entry c name ≡ None → (grantable : Bool) (user : Name) (p : Privilege) → list_any (gives grantable user name p) c.grants ≡ false

-- ---- what is there

module _ (name : TableName) where
  pub found_there : (tables : Tables) → is_ok (descriptor_of tables name) ≡ list_any (λ d. same_table d.table name) tables
  found_there [] = refl
  found_there (d ∷ tables) = by (same_table d.table name) (found_there tables)
    where
      by : (b : Bool) → is_ok (descriptor_of tables name) ≡ list_any (λ d. same_table d.table name) tables
          → is_ok (status.well_formed (cond b (Some d) (find (λ d. same_table d.table name) tables))) ≡ (b || list_any (λ d. same_table d.table name) tables)
      by true e = refl
      by false e = e

pub there_is_made : (before : Elements) (name : TableName) (e : Option Entry) → Known before name e → is_some e ≡ is_made before name
there_is_made before name None h = sym h.not_made
there_is_made before name (Some (Entry.base b)) h = sym (ap is_ok h.known) ∙ found_there name (tables_of before)
there_is_made before name (Some (Entry.view v)) h = sym (ap is_ok h.known) ∙ found_there name (tables_of before)

-- the columns of an entry are those that the rules know
pub known_columns : (before : Elements) (name : TableName) (e : Option Entry) → Known before name e → option_map entry_columns e ≡ option_map (λ d. d.columns) (result_ok (descriptor_of (tables_of before) name))
known_columns before name None h = by (descriptor_of (tables_of before) name) (found_there name (tables_of before) ∙ h.not_made)
  where
    by : (o : status.Outcome TableDescriptor) → is_ok o ≡ false → None ≡ option_map (λ d. d.columns) (result_ok o)
    by (Ok d) e = cc
    by (Err s) e = refl
known_columns before name (Some (Entry.base b)) h = ap Some (sym h.columns) ∙ sym (ap (λ (o : status.Outcome TableDescriptor). option_map (λ d. d.columns) (result_ok o)) h.known)
known_columns before name (Some (Entry.view v)) h = ap Some (sym h.columns) ∙ sym (ap (λ (o : status.Outcome TableDescriptor). option_map (λ d. d.columns) (result_ok o)) h.known)

names_made : (o : status.Outcome TableDescriptor) (cs : List ColumnDescriptor) → Some cs ≡ option_map (λ d. d.columns) (result_ok o) → flat_map column_names (option_to_list (result_ok o)) ≡ map (λ c. c.name) cs
names_made (Ok d) cs e = let same : cs ≡ d.columns = cc in append-nil (column_names d) ∙ sym (ap (map (λ (c : ColumnDescriptor). c.name)) same)
names_made (Err s) cs e = cc

-- the names of an entry's columns are those that the rules know
pub made_columns : (before : Elements) (name : TableName) (e : Entry) → Known before name (Some e) → columns_of_made before name ≡ entry_column_names e
made_columns before name e h = names_made (descriptor_of (tables_of before) name) (entry_columns e) (known_columns before name (Some e) h)

pub known_target : (before : Elements) (name : TableName) (e : Entry) → Known before name (Some e) → IsTargetAs (target_of (tables_of before) name) (entry_under e)
known_target before name (Entry.base b) h = h.target
known_target before name (Entry.view v) h = h.target

-- ---- more elements

-- where an element makes no table
pub same_known : (before after : Elements) → tables_of after ≡ tables_of before → (name : TableName) → table_named after name ≡ table_named before name → (e : Option Entry) → Known before name e → Known after name e
same_known before after made name named None h = record { not_made = ap (list_any (λ d. same_table d.table name)) made ∙ h.not_made; no_base = named ∙ h.no_base }
same_known before after made name named (Some (Entry.base b)) h = record {
  named = h.named;
  definition = h.definition;
  there = named ∙ h.there;
  is_of = h.is_of;
  descriptor = h.descriptor;
  known = ap (λ ts. descriptor_of ts name) made ∙ h.known;
  columns = h.columns;
  body = h.body;
  target = subst (λ ts. IsTargetAs (target_of ts name) (Some (itself b))) (sym made) h.target;
}
same_known before after made name named (Some (Entry.view v)) h = record {
  named = h.named;
  no_base = named ∙ h.no_base;
  descriptor = h.descriptor;
  known = ap (λ ts. descriptor_of ts name) made ∙ h.known;
  columns = h.columns;
  apart = h.apart;
  narrow = h.narrow;
  target = subst (λ ts. IsTargetAs (target_of ts name) v.under) (sym made) h.target;
  wide = h.wide;
  once = h.once;
}
