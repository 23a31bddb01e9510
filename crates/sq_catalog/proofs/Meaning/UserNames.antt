-- What names mean to the texts of a user: what is known of the tables, and what the definitions see.
use Rattle.std.proofs.Common.{◌≡◌, ℕ, suc, Bool, false, true, List, [], ◌∷◌, length, map, Option, Some, None, Ok, position, refl, sym, ap, subst, ◌∙◌, arith}
use Rattle.std.proofs.lemmas.List.Elements.{All-get_or}
use Rattle.std.proofs.lemmas.Option.{get_or_from_slice_get, slice_get-map, slice_get_within}
use Rattle.std.specs.List.{All, zip}
use Rattle.std.specs.Map.{keys_of, lookup}
use Rattle.std.specs.Option.{IfSome, option_and_then, option_map, option_or}
use Rattle.std.specs.Prelude.{is_some, slice_get}
use Rattle.indexmap.proofs.MapLemmas.{Found-position, some_index}
use Rattle.sq_lex.specs.declared.name.Name.{Name}
use Rattle.sq_value.specs.Domain.{kind_of}
use Rattle.sq_value.specs.declared.domain.Kind.{Kind}
use Rattle.sq_meaning.specs.Environment.{TableName}
use Rattle.sq_meaning.specs.Status.{well_formed}
use Rattle.sq_meaning.specs.Target.{places_of}
use Rattle.sq_meaning.specs.Privilege.{Privilege}
use Rattle.sq_bound.specs.Known.{KnownTable, known_by, under_of}
use Rattle.sq_bound.specs.WellFormed.{IsTable, base_kinds, kinds_of_columns, place_of}
use Rattle.sq_bound.specs.declared.condition.TablePlace.{TablePlace}
use Rattle.sq_bound.specs.declared.condition.TablePlace.TheVariants.{Base, View}
use Rattle.sq_bound.specs.declared.names.BaseColumn.{BaseColumn}
use Rattle.sq_bound.specs.declared.names.BaseTable.{BaseTable}
use Rattle.sq_bound.specs.declared.names.Column.{Column}
use Rattle.sq_bound.specs.declared.names.Leaf.{Leaf}
use Rattle.sq_bound.specs.declared.names.TableBody.{TableBody}
use Rattle.sq_bound.specs.declared.names.TableBody.TheVariants as body
use Rattle.sq_bound.specs.declared.names.TableDesc.{TableDesc}
use Rattle.sq_binding.proofs.FaultsFound.Known.{within}
use Rattle.sq_binding.specs.Changeable.{UnderTable}
use Rattle.sq_binding.specs.Catalog as definition
use Rattle.sq_binding.specs.Catalog.{Entry, column_descriptor, entry_columns, entry_place, entry_under, may, names_of}
use Rattle.sq_binder.specs.Names as binder
use Rattle.sq_binding.specs.Names.{NamesMean, Stands, descriptor_of}
use Rattle.sq_binding.specs.Names as promises
use Rattle.sq_binding.proofs.WellFormed.Named.{described_stands}
use Rattle.sq_catalog.specs.Catalog.{Catalog, base_meant, column_kinds, is_table, itself, known, known_at, known_first, table_number, view_meant}
use Rattle.sq_catalog.specs.Exact.{base_declared, column_declared, declared, described, entry_declared, entry_with, names_in as column_names, under_declared}
use Rattle.sq_catalog.specs.Stored.{AreStored, AreTables, HasOwnPlaces, IsBody, IsStored, IsUnderItself, StandFrom, columns_of, seen_of}
use Rattle.sq_catalog.specs.UserTables.{NamesStand, beneath_in, beneath_leaf, named_by_user, names_in, names_known, without_conditions, without_conditions_under}
use Rattle.sq_catalog.specs.declared.catalog.FullName.{FullName}
use Rattle.sq_catalog.proofs.Growth.Added.{stands_at}
use Rattle.sq_catalog.proofs.Meaning.Entries.{entry_exact}
use Rattle.sq_catalog.proofs.Growth.Gains.{none_there}
use Rattle.sq_catalog.proofs.Meaning.Known.{base_here, view_here}
use Rattle.sq_catalog.proofs.Growth.Stored.{places_counted}

-- ---- what is looked up stands at its number

module _ (test : FullName → Bool) (es : List (FullName × TableDesc)) (P : Option TableDesc → Option ℕ → Type 0) where
  abbrev value_of : FullName × TableDesc → TableDesc
  value_of e = e.1

  also : (o : Option TableDesc) (n : Option ℕ) → lookup test es ≡ o → position test (keys_of es) ≡ n → P o n → P (lookup test es) (position test (keys_of es))
  also o n is at h = subst (λ o. P o (position test (keys_of es))) (sym is) (subst (P o) (sym at) h)

  pub by_place : P None None → ((i : ℕ) (name : FullName) (x : TableDesc) → slice_get es i ≡ Some (name, x) → P (Some x) (Some i)) → P (lookup test es) (position test (keys_of es))
  by_place none some = by (position test (keys_of es)) refl
    where
      by : (n : Option ℕ) → position test (keys_of es) ≡ n → P (lookup test es) (position test (keys_of es))
      by None e = also None None (none_there (lookup test es) (sym (some_index test es) ∙ ap is_some e)) e none
      by (Some i) e =
          let found = Found-position test es i e in
          let here = within es i found.within in
          also (Some (here.0).1) (Some i) (found.value ∙ slice_get-map value_of es i ∙ ap (option_map value_of) here.1) e (some i (here.0).0 (here.0).1 here.1)

-- ---- each table that is there

-- one of a list of which each is so
all_at : (P : TableDesc → Type 0) (es : List (FullName × TableDesc)) (i : ℕ) (name : FullName) (x : TableDesc) → All (λ e. P e.1) es → slice_get es i ≡ Some (name, x) → P x
all_at P es i name x h at =
    subst (λ (e : FullName × TableDesc). P e.1) (get_or_from_slice_get es i (name, x) (name, x) at) (All-get_or (λ (e : FullName × TableDesc). P e.1) es i (name, x) (slice_get_within es i (name, x) at) h)

all_looked_up : (P : TableDesc → Type 0) (test : FullName → Bool) (es : List (FullName × TableDesc)) → All (λ e. P e.1) es → IfSome (lookup test es) P
all_looked_up P test es h = by_place test es (λ o n. IfSome o P) tt (λ i name x at. all_at P es i name x h at)

one_of : (P : TableDesc → Type 0) (o p : Option TableDesc) → IfSome o P → IfSome p P → IfSome (option_or o p) P
one_of P None p h k = k
one_of P (Some x) p h k = h

module _ (c : Catalog) where
  all_described : (P : TableDesc → Type 0) → All (λ e. P e.1) c.base_entries → All (λ e. P e.1) c.view_entries → (t : TableName) → IfSome (described c t) P
  all_described P bases views t =
      one_of P (lookup (is_table t.user t.name) c.base_entries) (lookup (is_table t.user t.name) c.view_entries) (all_looked_up P (is_table t.user t.name) c.base_entries bases) (all_looked_up P (is_table t.user t.name) c.view_entries views)

-- ---- what is known

known_base : (test : FullName → Bool) (es : List (FullName × TableDesc)) (bases : List BaseTable) → StandFrom Base 0 es → AreStored bases es → option_map known_by (lookup test es) ≡ known_at base_meant (columns_of es) (position test (keys_of es))
known_base test es bases stand stored =
    by_place test es (λ o n. option_map known_by o ≡ known_at base_meant (columns_of es) n) refl
    (λ i name x at. base_here es i name x (Some i) refl at (stands_at Base es i name x stand at) (all_at (IsStored bases) es i name x stored at).itself)

known_view : (test : FullName → Bool) (es : List (FullName × TableDesc)) → StandFrom View 0 es → option_map known_by (lookup test es) ≡ known_at view_meant (seen_of es) (position test (keys_of es))
known_view test es stand =
    by_place test es (λ o n. option_map known_by o ≡ known_at view_meant (seen_of es) n) refl (λ i name x at. view_here es i name x (Some i) refl at (stands_at View es i name x stand at))

known_either : (o p : Option TableDesc) → option_map known_by (option_or o p) ≡ known_first (option_map known_by o) (option_map known_by p)
known_either None p = refl
known_either (Some x) p = refl

-- what a catalog holds, of its base tables and its views
pub record Holds (c : Catalog) : Type 0 where
  pub tables : keys_of c.base_entries ≡ c.tables
  pub columns : columns_of c.base_entries ≡ c.columns
  pub view_names : keys_of c.view_entries ≡ c.view_names
  pub seen_views : seen_of c.view_entries ≡ c.seen_views
  pub bases_stored : AreStored c.bases c.base_entries
  pub views_stored : AreStored c.bases c.view_entries
  pub bases_formed : AreTables (column_kinds c) c.base_entries
  pub views_formed : AreTables (column_kinds c) c.view_entries
  pub bases_stand : StandFrom Base 0 c.base_entries
  pub views_stand : StandFrom View 0 c.view_entries

module _ (c : Catalog) where
  -- ---- columns

  columns_read : (columns : List Column) (own : List BaseColumn) → map (λ (b : BaseColumn). kind_of b.domain) own ≡ map (λ (x : Column). x.kind) columns
      → map column_descriptor (map column_declared (zip (column_names columns) own)) ≡ map descriptor_of columns
  columns_read [] [] same = refl
  columns_read [] (b ∷ own) same = absurd cc
  columns_read (x ∷ columns) [] same = absurd cc
  columns_read (x ∷ columns) (b ∷ own) same =
      let kind : kind_of b.domain ≡ x.kind = cc in
      let rest : map (λ (b : BaseColumn). kind_of b.domain) own ≡ map (λ (x : Column). x.kind) columns = cc in
      λ i. record { name = x.name; kind = kind i } ∷ columns_read columns own rest i

  columns_long : (columns : List Column) (own : List BaseColumn) → length columns ≡ length own → length (map column_declared (zip (column_names columns) own)) ≡ length own
  columns_long [] [] same = refl
  columns_long [] (b ∷ own) same = absurd (omega (arith, same))
  columns_long (x ∷ columns) [] same = absurd (omega (arith, same))
  columns_long (x ∷ columns) (b ∷ own) same = ap suc (columns_long columns own (omega (arith, same)))

  base_kinds_are : (b : BaseTable) (kinds : List Kind) (o : Option BaseTable) → o ≡ Some b → well_formed (option_map base_kinds o) ≡ Ok kinds → base_kinds b ≡ kinds
  base_kinds_are b kinds None at is = absurd cc
  base_kinds_are b kinds (Some own) at is = let same : own ≡ b = cc in let all : base_kinds own ≡ kinds = cc in ap base_kinds (sym same) ∙ all

  -- ---- a table, as names see it

  abbrev full : TableName → FullName
  full t = record { user = t.user; name = t.name }

  place_read : (name : FullName) (x : TableDesc) (b : TableBody) → entry_place (entry_with name x b) ≡ place_of b
  place_read name x (body.Base b) = refl
  place_read name x (body.View v) = refl

  shown_read : (name : FullName) (x : TableDesc) (b : TableBody) → IsBody c.bases (length x.columns) b → column_kinds c (place_of b) ≡ Ok (kinds_of_columns x.columns) → entry_columns (entry_with name x b) ≡ map descriptor_of x.columns
  shown_read name x (body.Base b) own kinds = columns_read x.columns b.columns (base_kinds_are b (kinds_of_columns x.columns) (slice_get c.bases b.place) own.0 kinds)
  shown_read name x (body.View v) own kinds = refl

  tables_read : (user : Name) (t : TableName) (o : Option TableDesc) → IfSome o (IsStored c.bases) → IfSome o (IsTable (column_kinds c))
      → option_map (definition.named_table (declared c) user t) (option_map (entry_declared (full t)) o) ≡ option_map (promises.named_table (may (declared c) false user t Privilege.select) (may (declared c) true user t Privilege.select)) (option_map known_by o)
  tables_read user t None stored formed = refl
  tables_read user t (Some x) stored formed =
      λ i. Some (record {
        place = place_read (full t) x x.body i;
        columns = shown_read (full t) x x.body stored.body formed.kinds_are i;
        may_select = may (declared c) false user t Privilege.select;
        may_grant = may (declared c) true user t Privilege.select;
      })

  beneath_read : (x : TableDesc) (leaf : Option Leaf) → option_map binder.under_table (option_map (beneath_leaf x) leaf) ≡ option_map (λ u. record { leaf = u; columns = map (λ (y : Column). y.leaf_column) x.columns }) (option_map under_of leaf)
  beneath_read x None = refl
  beneath_read x (Some l) = refl

  changes_read : (o : Option TableDesc) → option_map binder.under_table (option_and_then beneath_in o) ≡ option_and_then promises.under_table (option_map known_by o)
  changes_read None = refl
  changes_read (Some x) = beneath_read x x.leaf

  -- ---- and what the definitions see, but for conditions of views in between

  abbrev seen_under : Option Entry → Option UnderTable
  seen_under o = option_map definition.under_table (option_and_then entry_under o)

  base_seen : (name : FullName) (x : TableDesc) (b : BaseTable) (leaf : Option Leaf) → option_map under_of leaf ≡ Some (itself b.place) → map (λ (y : Column). y.leaf_column) x.columns ≡ places_of b.columns → length x.columns ≡ length b.columns
      → Some (definition.under_table (definition.itself (base_declared name x.columns b))) ≡ option_map without_conditions_under (option_map binder.under_table (option_map (beneath_leaf x) leaf))
  base_seen name x b None is places count = absurd cc
  base_seen name x b (Some l) is places count =
      let same : itself b.place ≡ under_of l = cc in
      let own : places_of (map column_declared (zip (column_names x.columns) b.columns)) ≡ map (λ (y : Column). y.leaf_column) x.columns =
      places_counted (map column_declared (zip (column_names x.columns) b.columns)) b.columns 0 (columns_long x.columns b.columns count) ∙ sym places in
      λ i. Some (record { leaf = record { base = (same i).base; conditions = []; demanded = (same i).demanded }; columns = own i })

  view_seen : (x : TableDesc) (leaf : Option Leaf) → option_map definition.under_table (option_map (under_declared x.columns) leaf) ≡ option_map without_conditions_under (option_map binder.under_table (option_map (beneath_leaf x) leaf))
  view_seen x None = refl
  view_seen x (Some l) = refl

  body_seen : (name : FullName) (x : TableDesc) (b : TableBody) → IsBody c.bases (length x.columns) b → IsUnderItself b x.leaf → HasOwnPlaces x.columns b
      → seen_under (Some (entry_with name x b)) ≡ option_map without_conditions_under (option_map binder.under_table (option_map (beneath_leaf x) x.leaf))
  body_seen name x (body.Base b) own under places = base_seen name x b x.leaf under places own.1
  body_seen name x (body.View v) own under places = view_seen x x.leaf

  unders_seen : (t : TableName) (o : Option TableDesc) → IfSome o (IsStored c.bases)
      → seen_under (option_map (entry_declared (full t)) o) ≡ option_map without_conditions_under (option_map binder.under_table (option_and_then beneath_in o))
  unders_seen t None stored = refl
  unders_seen t (Some x) stored = body_seen (full t) x x.body stored.body stored.itself stored.places

  -- a table that is found, as it is lent
  pub lent : (user : Name) (t : TableName) (x : TableDesc) (place : TablePlace) (columns : List Column) (selects grants : Bool) → IsStored c.bases x → IsTable (column_kinds c) x → place ≡ place_of x.body → columns ≡ x.columns
      → selects ≡ may (declared c) false user t Privilege.select → grants ≡ may (declared c) true user t Privilege.select → Some (entry_declared (full t) x) ≡ definition.entry (declared c) t
      → Some (record { place = place; columns = map descriptor_of columns; may_select = selects; may_grant = grants }) ≡ named_by_user c user t
  lent user t x place columns selects grants stored formed place_is columns_are select_is grant_is found =
      (λ i. Some (record { place = place_is i; columns = map descriptor_of (columns_are i); may_select = select_is i; may_grant = grant_is i }))
      ∙ sym (tables_read user t (Some x) stored formed)
      ∙ ap (option_map (definition.named_table (declared c) user t)) found

module _ (c : Catalog) (h : Holds c) where
  pub stored_described : (t : TableName) → IfSome (described c t) (IsStored c.bases)
  stored_described = all_described c (IsStored c.bases) h.bases_stored h.views_stored

  formed_described : (t : TableName) → IfSome (described c t) (IsTable (column_kinds c))
  formed_described = all_described c (IsTable (column_kinds c)) h.bases_formed h.views_formed

  known_described : (t : TableName) → known c t.user t.name ≡ option_map known_by (described c t)
  known_described t =
      let test : FullName → Bool = is_table t.user t.name in
      sym
      (known_either (lookup test c.base_entries) (lookup test c.view_entries)
      ∙ (λ i. known_first (known_base test c.base_entries c.bases h.bases_stand h.bases_stored i) (known_view test c.view_entries h.views_stand i))
      ∙ (λ i. known_first (known_at base_meant (h.columns i) (table_number (h.tables i) t.user t.name)) (known_at view_meant (h.seen_views i) (table_number (h.view_names i) t.user t.name))))

  stands : (o : Option TableDesc) → IfSome o (IsStored c.bases) → IfSome o (IsTable (column_kinds c)) → IfSome (option_map known_by o) (Stands c.bases (column_kinds c))
  stands None stored formed = tt
  stands (Some x) stored formed = described_stands c.bases (column_kinds c) x stored.over formed

  -- names mean what stands
  pub names_there : NamesMean c.bases (column_kinds c) (known c)
  names_there t = subst (λ (o : Option KnownTable). IfSome o (Stands c.bases (column_kinds c))) (sym (known_described t)) (stands (described c t) (stored_described t) (formed_described t))

  pub entries_there : (t : TableName) → definition.entry (declared c) t ≡ option_map (entry_declared (record { user = t.user; name = t.name })) (described c t)
  entries_there t = entry_exact c (record { user = t.user; name = t.name }) h.bases_stand h.views_stand

  -- what names mean to a user is what is known
  pub names_are_known : (user : Name) → names_in c user ≡ names_known c user
  names_are_known user = λ i. record {
    user = user;
    tables = λ t. (ap (option_map (definition.named_table (declared c) user t)) (entries_there t) ∙ tables_read c user t (described c t) (stored_described t) (formed_described t)
        ∙ ap (option_map (promises.named_table (may (declared c) false user t Privilege.select) (may (declared c) true user t Privilege.select))) (sym (known_described t))) i;
    under = λ t. (changes_read c (described c t) ∙ ap (option_and_then promises.under_table) (sym (known_described t))) i;
    holds = may (declared c) false user;
  }

  pub names_are_seen : (user : Name) → names_of (declared c) user ≡ without_conditions (names_in c user)
  names_are_seen user = λ i. record {
    user = user;
    tables = (names_of (declared c) user).tables;
    under = λ t. (ap (seen_under c) (entries_there t) ∙ unders_seen c t (described c t) (stored_described t)) i;
    holds = may (declared c) false user;
  }

  pub names_stand : NamesStand c
  names_stand = record { stored = stored_described; entries = entries_there; there = names_there; are_known = names_are_known; are_seen = names_are_seen }
