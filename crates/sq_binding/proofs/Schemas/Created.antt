-- A catalog with one more base table is the catalog of the elements with its CREATE TABLE (ISO/IEC 9075:1992, 11.3).
use Rattle.std.proofs.Common.{◌≡◌, ℕ, suc, ◌+◌, Bool, true, false, cond, not, ◌&&◌, ◌||◌, List, [], ◌∷◌, ◌++◌, arith, length, map, Option, Some, None, Ok, refl, sym, ap, subst, ◌∙◌}
use Rattle.std.proofs.lemmas.List.{length-append, length-map}
use Rattle.std.proofs.lemmas.List.Folds.{find-append}
use Rattle.std.proofs.lemmas.List.Sums.{sum_by-cons}
use Rattle.std.specs.List.{AllZip, enumerate_from, list_any}
use Rattle.std.specs.Option.{option_map, option_or}
use Rattle.std.specs.Prelude.{find, unwrap_or, if◌then◌else◌, nat_lt}
use Rattle.std.proofs.lemmas.Bool.{false≢true, not-false}
use Rattle.sq_value.proofs.Truths.{and_without, or_without}
use Rattle.sq_lex.specs.declared.name.Name.{Name}
use Rattle.sq_value.specs.Domain.{kind_of}
use Rattle.sq_value.specs.declared.domain.Domain.{Domain}
use Rattle.sq_value.specs.declared.domain.Domain.TheVariants as domain
use Rattle.sq_tree.specs.declared.schema.ColumnDefinition.{ColumnDefinition}
use Rattle.sq_tree.specs.declared.schema.SchemaElement.TheVariants as element
use Rattle.sq_tree.specs.declared.schema.TableDefinition.{TableDefinition}
use Rattle.sq_meaning.specs.Environment.{TableName, same_name, same_table}
use Rattle.sq_meaning.specs.Spelled.{cond_of, table_of}
use Rattle.sq_meaning.specs.Status as status
use Rattle.sq_meaning.specs.Status.{Outcome, and_then}
use Rattle.sq_meaning.specs.Tables.{TableBody, TableDescriptor, Tables, base_table, descriptor_of, viewed_table}
use Rattle.sq_meaning.specs.Target.{Target, base_target, places_of, seen_through, target_of, updatable_source, with_check_option}
use Rattle.sq_meaning.specs.Catalog.{base_count, column_descriptor, column_domain, is_base_table, table_descriptor, tables_of}
use Rattle.sq_meaning.specs.Privilege.{Privilege}
use Rattle.sq_meaning.specs.Privileges.{chain, is_on_column, table_gives}
use Rattle.sq_meaning.specs.Schema.{Element, Elements, Reference, checks, column_definitions, table_columns, table_named, table_references}
use Rattle.sq_meaning.specs.SchemaRefusal.{is_made, is_made_again, same_user, with_element}
use Rattle.sq_meaning.specs.Words.{is_some_and}
use Rattle.sq_binding.specs.Catalog.{Catalog, DeclaredBase, DeclaredColumn, DeclaredView, Entry, base_named, entry, entry_column_names, gives, itself, may, may_on, table_count, view_named}
use Rattle.sq_binding.specs.Catalog as catalog
use Rattle.sq_binding.specs.ElementOutcome as declaring
use Rattle.sq_binding.specs.Reference.{BoundReference, FoundReference, ReferencedTable, as_referenced, names_in, referenced_table}
use Rattle.sq_binding.specs.Table.{most_tables, with_base}
use Rattle.sq_binding.proofs.Schemas.BoundReferences.{base_names, entry_names, other_named, own_named}
use Rattle.sq_binding.proofs.Schemas.KnownTables.{AreListed, IsBaseTable, IsTargetAs, IsCatalogOf, IsColumnOf, IsMadeOf, IsReferenceTo, Known, there_is_made}
use Rattle.sq_binding.proofs.Schemas.Names.{as_long, table_itself, table_same}
use Rattle.sq_binding.proofs.Schemas.Made.{IsTo, StillNamed, made_with_base, reference_is_to, reference_made, zip_weaker}
use Rattle.sq_binding.proofs.Schemas.References.{IsEarlier, IsFound}
use Rattle.sq_binding.proofs.Schemas.Tables.{IsMade, IsMadeAs}
use Rattle.sq_binding.specs.View.{check_bound}
use Rattle.sq_bound.specs.declared.names.Reference.{Reference as Bound}
use Rattle.sq_binding.proofs.Placing.SameParameters.{names_equal}

-- ---- what a target means behind another table

-- the target of a table's body, over the tables before it
abbrev pub body_target : Tables → TableDescriptor → Outcome Target
body_target earlier d =
    elim d.body as (λ _. Outcome Target) [
      | base_table place ↦ Ok (base_target place (places_of d.columns))
      | viewed_table q check_option ↦ and_then (updatable_source earlier q) (λ source. and_then (target_of earlier source.item.reference.table) (λ under. Ok (with_check_option check_option (seen_through source under))))
    ]

abbrev target_if : Bool → Tables → TableDescriptor → TableName → Outcome Target
target_if b earlier d name = elim b as (λ _. Outcome Target) [ false ↦ target_of earlier name | true ↦ body_target earlier d ]

pub target_here : (earlier : Tables) (d : TableDescriptor) (name : TableName) → same_table d.table name ≡ true → target_of (d ∷ earlier) name ≡ body_target earlier d
target_here earlier d name is = ap (λ b. target_if b earlier d name) is

pub target_later : (earlier : Tables) (d : TableDescriptor) (name : TableName) → same_table d.table name ≡ false → target_of (d ∷ earlier) name ≡ target_of earlier name
target_later earlier d name is = ap (λ b. target_if b earlier d name) is

pub base_is_target : (earlier : Tables) (d : TableDescriptor) (name : TableName) (n : ℕ) → same_table d.table name ≡ true → d.body ≡ base_table n → target_of (d ∷ earlier) name ≡ Ok (base_target n (places_of d.columns))
base_is_target earlier d name n is body = target_here earlier d name is ∙ by d.body body
  where
    by : (body : TableBody) → body ≡ base_table n
        → elim body as (λ _. Outcome Target) [
          | base_table place ↦ Ok (base_target place (places_of d.columns))
          | viewed_table q check_option ↦ and_then (updatable_source earlier q) (λ source. and_then (target_of earlier source.item.reference.table) (λ under. Ok (with_check_option check_option (seen_through source under))))
        ]
        ≡ Ok (base_target n (places_of d.columns))
    by (base_table place) e = let same : place ≡ n = cc in ap (λ m. Ok (base_target m (places_of d.columns))) same
    by (viewed_table q check_option) e = cc

pub descriptor_here : (earlier : Tables) (d : TableDescriptor) (name : TableName) → same_table d.table name ≡ true → descriptor_of (d ∷ earlier) name ≡ Ok d
descriptor_here earlier d name is = ap (λ b. status.well_formed (cond b (Some d) (find (λ e. same_table e.table name) earlier))) is

pub descriptor_later : (earlier : Tables) (d : TableDescriptor) (name : TableName) → same_table d.table name ≡ false → descriptor_of (d ∷ earlier) name ≡ descriptor_of earlier name
descriptor_later earlier d name is = ap (λ b. status.well_formed (cond b (Some d) (find (λ e. same_table e.table name) earlier))) is

-- ---- other names mean what they did

module _ (before after : Elements) (d : TableDescriptor) (made : tables_of after ≡ d ∷ tables_of before) (name : TableName) (other : same_table d.table name ≡ false) (named : table_named after name ≡ table_named before name) where
  same_target : target_of (tables_of after) name ≡ target_of (tables_of before) name
  same_target = ap (λ ts. target_of ts name) made ∙ target_later (tables_of before) d name other

  same_descriptor : descriptor_of (tables_of after) name ≡ descriptor_of (tables_of before) name
  same_descriptor = ap (λ ts. descriptor_of ts name) made ∙ descriptor_later (tables_of before) d name other

  pub still_known : (e : Option Entry) → Known before name e → Known after name e
  still_known None h = record { not_made = ap (list_any (λ d. same_table d.table name)) made ∙ ap (λ b. b || is_made before name) other ∙ h.not_made; no_base = named ∙ h.no_base }
  still_known (Some (Entry.base b)) h = record {
    named = h.named;
    definition = h.definition;
    there = named ∙ h.there;
    is_of = h.is_of;
    descriptor = h.descriptor;
    known = same_descriptor ∙ h.known;
    columns = h.columns;
    body = h.body;
    target = subst (λ o. IsTargetAs o (Some (itself b))) (sym same_target) h.target;
  }
  still_known (Some (Entry.view v)) h = record {
    named = h.named;
    no_base = named ∙ h.no_base;
    descriptor = h.descriptor;
    known = same_descriptor ∙ h.known;
    columns = h.columns;
    apart = h.apart;
    narrow = h.narrow;
    target = subst (λ o. IsTargetAs o v.under) (sym same_target) h.target;
    wide = h.wide;
    once = h.once;
  }

-- ---- what a name means with one more base table

pub no_entry : (a : Option DeclaredBase) (b : Option DeclaredView) → option_or (option_map Entry.base a) (option_map Entry.view b) ≡ None → (a ≡ None) × (b ≡ None)
no_entry None None e = (refl, refl)
no_entry None (Some v) e = cc
no_entry (Some b) v e = cc

pub or_none : {A : Type 0} (o : Option A) → option_or o None ≡ o
or_none None = refl
or_none (Some x) = refl

module _ (c : Catalog) (b : DeclaredBase) (new : entry c b.name ≡ None) (name : TableName) where
  abbrev entry_with : Option DeclaredBase → Option Entry
  entry_with o = option_or (option_map Entry.base o) (option_map Entry.view (view_named c.views name))

  added : base_named (c.bases ++ b ∷ []) name ≡ option_or (base_named c.bases name) (cond (same_table b.name name) (Some b) None)
  added = find-append (λ b. same_table b.name name) c.bases (b ∷ [])

  pub entry_added : entry (with_base c b) name ≡ (if same_table b.name name then Some (Entry.base b) else entry c name)
  entry_added = ap entry_with added ∙ by (same_table b.name name) refl
    where
      by : (same : Bool) → same_table b.name name ≡ same → entry_with (option_or (base_named c.bases name) (cond same (Some b) None)) ≡ (if same then Some (Entry.base b) else entry c name)
      by false is = ap entry_with (or_none (base_named c.bases name))
      by true is =
          let none = no_entry (base_named c.bases name) (view_named c.views name) (subst (λ n. entry c n ≡ None) (table_same b.name name is) new) in
          ap (λ o. entry_with (option_or o (Some b))) none.0

-- ---- places

places_alike : {A B : Type 0} (n : ℕ) (xs : List A) (ys : List B) → length xs ≡ length ys → map (λ p. p.0) (enumerate_from n xs) ≡ map (λ p. p.0) (enumerate_from n ys)
places_alike n [] [] e = refl
places_alike n [] (y ∷ ys) e = cc
places_alike n (x ∷ xs) [] e = cc
places_alike n (x ∷ xs) (y ∷ ys) e = let rest : length xs ≡ length ys = omega (arith, e) in ap (λ l. n ∷ l) (places_alike (n + 1) xs ys rest)

same_places : {A B : Type 0} (xs : List A) (ys : List B) → length xs ≡ length ys → places_of xs ≡ places_of ys
same_places xs ys e = places_alike 0 xs ys e

-- ---- a new name in the user's schema

pub is_owned : (user : Name) (name : TableName) → not (same_user user name) ≡ false → same_user user name ≡ true
is_owned user name e = not-false (same_user user name) e

module _ (users : List Name) (before : Elements) (c : Catalog) (of : IsCatalogOf users before c) (user : Name) (name : TableName) (untaken : is_made_again before user name ≡ false) (in_schema : not (same_user user name) ≡ false) where
  pub is_unmade : is_made before name ≡ false
  is_unmade = ap (λ b. b && is_made before name) (sym (is_owned user name in_schema)) ∙ untaken

  absent : (e : Option Entry) → Known before name e → e ≡ None
  absent None h = refl
  absent (Some e) h = absurd (false≢true (sym is_unmade ∙ sym (there_is_made before name (Some e) h)))

  pub is_new : entry c name ≡ None
  is_new = absent (entry c name) (of.known name)

-- ---- the catalog

abbrev referenced_as : ReferencedTable → declaring.Outcome ReferencedTable
referenced_as t = Ok t

module _ (users : List Name) (before : Elements) (c : Catalog) (of : IsCatalogOf users before c) (user : Name) (t : TableDefinition) (b : DeclaredBase) (m : IsMade users before c of user t b) where
  abbrev own : TableName
  own = table_of user t.name

  abbrev elements : Elements
  elements = with_element before user (element.Table t)

  abbrev described : TableDescriptor
  described = table_descriptor (base_count before) user t

  owned : same_user user own ≡ true
  owned = is_owned user own m.in_schema

  new : entry c own ≡ None
  new = is_new users before c of user own m.untaken m.in_schema

  new_named : entry c b.name ≡ None
  new_named = ap (entry c) m.name ∙ new

  entry_is : (name : TableName) → entry (with_base c b) name ≡ (if same_table own name then Some (Entry.base b) else entry c name)
  entry_is name = entry_added c b new_named name ∙ ap (λ n. if same_table n name then Some (Entry.base b) else entry c name) m.name

  domain_is : (d : ColumnDefinition) (col : DeclaredColumn) → IsColumnOf d col → column_domain d ≡ col.domain
  domain_is d col h = ap (λ (o : Option Domain). unwrap_or o domain.Int) h.domain

  columns_are : (ds : List ColumnDefinition) (cs : List DeclaredColumn) → AllZip IsColumnOf ds cs → map column_descriptor ds ≡ map catalog.column_descriptor cs
  columns_are [] [] h = refl
  columns_are [] (c ∷ cs) h = absurd h
  columns_are (d ∷ ds) [] h = absurd h
  columns_are (d ∷ ds) (c ∷ cs) h = λ i. record { name = sym h.0.name i; kind = kind_of (domain_is d c h.0 i) } ∷ columns_are ds cs h.1 i

  columns_counted : length described.columns ≡ length b.columns
  columns_counted = length-map (column_definitions t) column_descriptor ∙ as_long IsColumnOf (column_definitions t) b.columns m.is_of.columns

  known_here : (name : TableName) → same_table own name ≡ true → Known elements name (Some (Entry.base b))
  known_here name is = record {
    named = m.name ∙ table_same own name is;
    definition = t;
    there = own_named before c of.known of.held user t name (table_same own name is);
    is_of = m.is_of;
    descriptor = described;
    known = descriptor_here (tables_of before) described name is;
    columns = columns_are (column_definitions t) b.columns m.is_of.columns;
    body = ap base_table (of.bases ∙ sym m.place);
    target = subst (λ o. IsTargetAs o (Some (itself b))) (sym (base_is_target (tables_of before) described name (base_count before) is refl))
        (record { place = of.bases ∙ sym m.place; columns = same_places described.columns b.columns columns_counted; conditions = refl; demanded = refl; within = omega arith });
  }

  known_now : (name : TableName) → Known elements name (entry (with_base c b) name)
  known_now name = subst (Known elements name) (sym (entry_is name)) (by (same_table own name) refl)
    where
      by : (same : Bool) → same_table own name ≡ same → Known elements name (if same then Some (Entry.base b) else entry c name)
      by true is = known_here name is
      by false is = still_known before elements described refl name is (other_named before c of.known of.held user t name is) (entry c name) (of.known name)

  -- ---- privileges

  held_here : (grantable : Bool) (who : Name) (name : TableName) (p : Privilege) → same_table own name ≡ true → may_on c grantable who name p (Entry.base b) ≡ chain elements grantable who name p
  held_here grantable who name p is =
      or_without (same_name name.user who && is_on_column (entry_column_names (Entry.base b)) p) (list_any (gives grantable who name p) c.grants) (of.granted name (subst (λ n. entry c n ≡ None) (table_same own name is) new) grantable who p)
      ∙ between (same_name name.user who) (is_on_column (entry_column_names (Entry.base b)) p)
      ∙ (λ i. same_name (owner_is i) who && sym is i && is_on_column (names_are i) p)
      ∙ sym (or_without (table_gives user t grantable who name p) (chain before grantable who name p) none_before)
    where
      between : (x y : Bool) → (x && y) ≡ (x && true && y)
      between true y = refl
      between false y = refl

      owner_is : name.user ≡ user
      owner_is = ap (λ (n : TableName). n.user) (sym (table_same own name is)) ∙ names_equal own.user user owned

      names_are : entry_column_names (Entry.base b) ≡ table_columns t
      names_are = entry_names b ∙ base_names t b m.is_of

      none_before : chain before grantable who name p ≡ false
      none_before = sym (of.held grantable who name p) ∙ ap (is_some_and (may_on c grantable who name p)) (subst (λ n. entry c n ≡ None) (table_same own name is) new)

  other_gift : (grantable : Bool) (who : Name) (name : TableName) (p : Privilege) → same_table own name ≡ false → table_gives user t grantable who name p ≡ false
  other_gift grantable who name p is =
      and_without (same_name user who) (same_table own name) (is_on_column (table_columns t) p) is

  held_now : (grantable : Bool) (who : Name) (name : TableName) (p : Privilege) → may (with_base c b) grantable who name p ≡ chain elements grantable who name p
  held_now grantable who name p = ap (is_some_and (may_on c grantable who name p)) (entry_is name) ∙ by (same_table own name) refl
    where
      by : (same : Bool) → same_table own name ≡ same → is_some_and (may_on c grantable who name p) (if same then Some (Entry.base b) else entry c name) ≡ chain elements grantable who name p
      by true is = held_here grantable who name p is
      by false is = of.held grantable who name p ∙ ap (λ g. g || chain before grantable who name p) (sym (other_gift grantable who name p is))

  granted_now : (name : TableName) → entry (with_base c b) name ≡ None → (grantable : Bool) (who : Name) (p : Privilege) → list_any (gives grantable who name p) c.grants ≡ false
  granted_now name none = by (same_table own name) (sym (entry_is name) ∙ none)
    where
      by : (same : Bool) → (if same then Some (Entry.base b) else entry c name) ≡ None → (grantable : Bool) (who : Name) (p : Privilege) → list_any (gives grantable who name p) c.grants ≡ false
      by true e = cc
      by false e = of.granted name e

  on_columns_now : (grantable : Bool) (who : Name) (name : TableName) (p : Privilege) (e : Entry) → entry (with_base c b) name ≡ Some e → may (with_base c b) grantable who name p ≡ true → is_on_column (entry_column_names e) p ≡ true
  on_columns_now grantable who name p e at may_it =
      by (same_table own name) refl (sym (entry_is name) ∙ at) (sym (ap (is_some_and (may_on c grantable who name p)) (entry_is name)) ∙ may_it)
    where
      owner_only : (a d g : Bool) → g ≡ false → (a && d || g) ≡ true → d ≡ true
      owner_only true true g none e = refl
      owner_only true false g none e = absurd (false≢true (sym none ∙ e))
      owner_only false d g none e = absurd (false≢true (sym none ∙ e))

      by : (same : Bool) → same_table own name ≡ same → (if same then Some (Entry.base b) else entry c name) ≡ Some e → is_some_and (may_on c grantable who name p) (if same then Some (Entry.base b) else entry c name) ≡ true → is_on_column (entry_column_names e) p ≡ true
      by false is at may_it = of.on_columns grantable who name p e at may_it
      by true is at may_it =
          let same : Entry.base b ≡ e = cc in
          subst (λ e. is_on_column (entry_column_names e) p ≡ true) same
          (owner_only (same_name name.user who) (is_on_column (entry_column_names (Entry.base b)) p) (list_any (gives grantable who name p) c.grants)
          (of.granted name (subst (λ n. entry c n ≡ None) (table_same own name is) new) grantable who p) may_it)

  -- ---- in the order of the texts

  still : StillNamed c (with_base c b)
  still name e at = by (same_table own name) refl (entry_is name)
    where
      by : (same : Bool) → same_table own name ≡ same → entry (with_base c b) name ≡ (if same then Some (Entry.base b) else entry c name) → entry (with_base c b) name ≡ Some e
      by true is here = let two : Some e ≡ None = sym at ∙ subst (λ n. entry c n ≡ None) (table_same own name is) new in cc
      by false is here = here ∙ at

  abbrev Here : Reference → Bound → Type 0
  Here = IsReferenceTo (with_base c b) user (table_columns t)

  reference_here : (r : Reference) (f : FoundReference) (y : BoundReference) → IsFound before c of.known user t r f → IsTo c user m.itself f y → (e : Option Entry) → f.earlier ≡ e → Here r y.reference
  reference_here r f y is to None at =
      let itself : own ≡ table_of user r.references.table = subst (IsEarlier before c of.known user t (table_of user r.references.table)) at is.earlier in
      let first : referenced_as m.itself ≡ referenced_as to.target = sym (ap (referenced_table m.itself) at) ∙ to.target_is in
      let found : m.itself ≡ to.target = cc in
      reference_made c (with_base c b) user m.itself (table_columns t) f r y to b (sym m.is_itself ∙ found)
      (entry_is (table_of user r.references.table) ∙ ap (λ x. if x then Some (Entry.base b) else entry c (table_of user r.references.table)) (subst (λ n. same_table own n ≡ true) itself (table_itself own)))
      is.columns_are
      (subst (λ names. AreListed names r.references.columns f.columns_listed) (ap (names_in (table_columns t)) at ∙ sym (base_names t b m.is_of)) is.listed_are)
  reference_here r f y is to (Some (Entry.base d)) at =
      let other : (same_table own (table_of user r.references.table) ≡ false) × (entry c (table_of user r.references.table) ≡ Some (Entry.base d)) = subst (IsEarlier before c of.known user t (table_of user r.references.table)) at is.earlier in
      let first : referenced_as (as_referenced d) ≡ referenced_as to.target = sym (ap (referenced_table m.itself) at) ∙ to.target_is in
      let found : as_referenced d ≡ to.target = cc in
      reference_made c (with_base c b) user m.itself (table_columns t) f r y to d found (still (table_of user r.references.table) (Entry.base d) other.1) is.columns_are
      (subst (λ names. AreListed names r.references.columns f.columns_listed) (ap (names_in (table_columns t)) at ∙ entry_names d) is.listed_are)
  reference_here r f y is to (Some (Entry.view d)) at = let none = sym (ap (referenced_table m.itself) at) ∙ to.target_is in cc

  references_here : (rs : List Reference) (xs : List Bound) → AllZip (IsMadeAs users before c of user t m.itself) rs xs → AllZip Here rs xs
  references_here = zip_weaker (IsMadeAs users before c of user t m.itself) Here (λ r x made.
      subst (Here r) made.2 (reference_here r made.1.found made.0 made.1.is_found (reference_is_to c user m.itself made.1.found made.0 made.1.bound) made.1.found.earlier refl))

  base_here : IsBaseTable (with_base c b) (record { name = own; definition = t }) b
  base_here = record {
    name = m.name;
    is_of = m.is_of;
    checks = subst (λ (u : Name). AllZip (λ k x. check_bound own (map column_descriptor (column_definitions t)) (cond_of u k) ≡ Ok x) (checks t) b.checks) (sym owner_is) m.checks;
    references = subst (λ (u : Name). AllZip (IsReferenceTo (with_base c b) u (table_columns t)) (table_references t) b.references) (sym owner_is) (references_here (table_references t) b.references m.references);
  }
    where
      owner_is : own.user ≡ user
      owner_is = names_equal own.user user owned

  made_now : IsMadeOf elements (with_base c b)
  made_now = made_with_base before user t c (with_base c b) b refl refl still m.place base_here of.made

  -- ---- how many

  longer : length (c.bases ++ b ∷ []) ≡ suc (length c.bases)
  longer = let sum = length-append c.bases (b ∷ []) in omega (arith, sum)

  count_now : length (tables_of elements) ≡ table_count (with_base c b)
  count_now = let sum = longer in let count = of.count in omega (arith, sum, count)

  pub with_table : IsCatalogOf users elements (with_base c b)
  with_table = record {
    users_are = of.users_are;
    known = known_now;
    count = count_now;
    bases = let sum = longer in let count = of.bases in let step : base_count elements ≡ 1 + base_count before = sum_by-cons (λ (e : Element). cond (is_base_table e.element) 1 0) (record { user = user; element = element.Table t }) before in omega (arith, sum, count, step);
    few = ap (nat_lt most_tables) (sym count_now) ∙ m.room;
    held = held_now;
    made = made_now;
    on_columns = on_columns_now;
    granted = granted_now;
  }
