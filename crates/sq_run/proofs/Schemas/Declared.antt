-- What schema texts declare, as the catalog has it, is what the definitions find in them (ISO/IEC
-- 9075:1992, 11.3, 11.4 and 11.19): each table and view is known with its columns and at its place, with
-- what is under it, and no other name is known.
use Rattle.std.proofs.Common.{◌≡◌, ℕ, ◌+◌, ◌<◌, Bool, true, false, cond, List, [], ◌∷◌, ◌++◌, length, length-append, map, Option, Some, None, refl, sym, ap, subst, ◌∙◌, arith, Ok}
use Rattle.std.proofs.lemmas.Bool.{lt-ltb}
use Rattle.std.proofs.lemmas.List.Sums.{sum_by-cons}
use Rattle.std.proofs.lemmas.Option.{slice_get_within}
use Rattle.std.specs.Prelude.{◌||◌, find, nat_lt, slice_get, IfSome}
use Rattle.std.specs.List.{AllByRecursion, AllZip, list_any}
use Rattle.std.specs.Option.{option_map}
use Rattle.sq_lex.specs.declared.name.Name.{Name}
use Rattle.sq_tree.specs.declared.schema.SchemaElement.{SchemaElement}
use Rattle.sq_tree.specs.declared.schema.SchemaElement.TheVariants as element
use Rattle.sq_tree.specs.declared.schema.SchemaText.{SchemaText}
use Rattle.sq_tree.specs.declared.schema.TableDefinition.{TableDefinition}
use Rattle.sq_tree.specs.declared.schema.ViewDefinition.{ViewDefinition}
use Rattle.sq_value.specs.declared.domain.Kind.{Kind}
use Rattle.sq_store.specs.Content.{Content, table_at}
use Rattle.sq_meaning.specs.Database.{IsDatabaseOf}
use Rattle.sq_meaning.specs.Environment.{Row, TableName, same_table}
use Rattle.sq_meaning.specs.Spelled.{select_of, table_of}
use Rattle.sq_meaning.specs.Status.{Outcome, well_formed}
use Rattle.sq_meaning.specs.Tables.{Tables, by_name, descriptor_of, kinds_by_name, rows_in}
use Rattle.sq_meaning.specs.WellFormed.{AreRowsOf, Has, HasValue, WellFormedSelect}
use Rattle.sq_meaning.specs.Catalog.{base_count, is_base_table, table_descriptor, tables_of, view_descriptor}
use Rattle.sq_meaning.specs.Schema.{Element, Elements}
use Rattle.sq_meaning.specs.SchemaRefusal.{elements_of, first_schema_refusal, is_made}
use Rattle.sq_bound.specs.Known.{KnownTable, KnownTables, Under}
use Rattle.sq_bound.specs.WellFormed.{base_kinds, kinds_of_select}
use Rattle.sq_bound.specs.declared.condition.BoundCond.{BoundCond}
use Rattle.sq_bound.specs.declared.condition.BoundSpecification.{BoundSpecification}
use Rattle.sq_bound.specs.declared.condition.TablePlace.{TablePlace}
use Rattle.sq_bound.specs.declared.names.BaseTable.{BaseTable as BoundTable}
use Rattle.sq_bound.specs.declared.names.Column.{Column}
use Rattle.sq_run.proofs.Sites.ViewSites.{view_well_formed}
use Rattle.sq_catalog.specs.Catalog.{base_meant, declared_definitions, declared_tables, definition_in, kinds_at, table_in, table_number, view_meant}
use Rattle.sq_catalog.specs.Declares.{Declares}
use Rattle.sq_catalog.specs.View.{conditions_with}
use Rattle.sq_catalog.specs.Views.{IsUnderView as IsWrittenUnder, WrittenView, declared_views, view_in, view_name}
use Rattle.sq_catalog.specs.declared.catalog.FullName.{FullName}
use Rattle.sq_query.specs.Table.{AreMeant}
use Rattle.sq_query.specs.Target.{and_own}
use Rattle.sq_run.proofs.Places.Databases.{AreAll, AreDeclared, IsDatabase, IsDeclaredAs, each_same, fits_before, typed_before}
use Rattle.sq_run.proofs.Places.Outcomes.{all_map, some_also}
use Rattle.sq_run.proofs.Schemas.ViewTargets.{AreUnder, IsUnderBody, IsUnderView}
use Rattle.sq_run.proofs.Laws.Accepted.{AreAccepted, IsAccepted, accepted_elements, view_is_sound}
use Rattle.sq_run.proofs.Schemas.Created.{declared_definitions_are, declared_tables_are, declared_views_are, definitions_created, tables_created, views_created}
use Rattle.sq_run.proofs.Schemas.DeclaredBase.{base_declared, base_kinds_are, base_under}
use Rattle.sq_run.proofs.Schemas.DeclaredPlaces.{HasBase, HasView, has_base, has_view, known_as}
use Rattle.sq_run.proofs.Schemas.DeclaredView.{HasKindsOf, query_kinds_are, view_declared}
use Rattle.sq_run.proofs.Sites.NoParameters.{without_parameters}
use Rattle.sq_run.proofs.Schemas.Numbers.{BeginsWith, IsNoTable, begins_all, begins_before, is_its_name, no_table, no_view, none_there, views_apart, zip_both}

-- ---- as many base tables as the definitions count

pub tables_counted : (elements : Elements) → length (tables_created elements) ≡ base_count elements
tables_counted [] = refl
tables_counted (e ∷ before) = of_one (tables_counted before) e.user e.element
  where
    of_one : length (tables_created before) ≡ base_count before → (user : Name) (x : SchemaElement)
        → length (tables_created before ++ table_in user x) ≡ base_count (record { user = user; element = x } ∷ before)
    of_one counted user x =
        length-append (tables_created before) (table_in user x) ∙ by_element x counted
        ∙ sym (sum_by-cons (λ (y : Element). cond (is_base_table y.element) 1 0) (record { user = user; element = x }) before)
      where
        by_element : (y : SchemaElement) → length (tables_created before) ≡ base_count before
            → length (tables_created before) + length (table_in user y) ≡ cond (is_base_table y) 1 0 + base_count before
        by_element (element.Table t) e = omega (arith, e)
        by_element (element.View v) e = omega (arith, e)
        by_element (element.Grant g) e = omega (arith, e)

pub definitions_counted : (elements : Elements) → length (definitions_created elements) ≡ length (tables_created elements)
definitions_counted [] = refl
definitions_counted (e ∷ before) = of_one (definitions_counted before) e.user e.element
  where
    of_one : length (definitions_created before) ≡ length (tables_created before) → (user : Name) (x : SchemaElement)
        → length (definitions_created before ++ definition_in x) ≡ length (tables_created before ++ table_in user x)
    of_one counted user x =
        length-append (definitions_created before) (definition_in x) ∙ by_element x counted
        ∙ sym (length-append (tables_created before) (table_in user x))
      where
        by_element : (y : SchemaElement) → length (definitions_created before) ≡ length (tables_created before)
            → length (definitions_created before) + length (definition_in y) ≡ length (tables_created before) + length (table_in user y)
        by_element (element.Table t) e = omega (arith, e)
        by_element (element.View v) e = omega (arith, e)
        by_element (element.Grant g) e = omega (arith, e)

-- ---- what is found

has_known : (P : KnownTable → Type 0) (o : Option KnownTable) (t : KnownTable) → o ≡ Some t → P t → Has P (well_formed o)
has_known P o t e p = subst (λ found. Has P (well_formed found)) (sym e) p

some_any : {A : Type 0} (o : Option A) (P : Type 0) → P → IfSome o (λ x. P)
some_any None P p = tt
some_any (Some x) P p = p

any_found : {A : Type 0} (test : A → Bool) (xs : List A) → list_any test xs ≡ true → HasValue (well_formed (find test xs))
any_found test [] e = cc
any_found {A} test (x ∷ xs) e = by_test (test x) (any_found test xs) e
  where
    by_test : (b : Bool) → (list_any test xs ≡ true → HasValue (well_formed (find test xs))) → (b || list_any test xs) ≡ true → HasValue (well_formed (cond b (Some x) (find test xs)))
    by_test true others e = tt
    by_test false others e = others e

own_behind : (below : List BoundCond) (own : Option BoundCond) → conditions_with below own ≡ and_own below own
own_behind below None = refl
own_behind below (Some c) = refl

-- ---- all tables and views

module _ (texts : List SchemaText) (known : KnownTables) (bases : List BoundTable) (views : List BoundSpecification)
    (d : Declares texts known bases views) (accepted : first_schema_refusal texts ≡ None) where
  abbrev all : Elements
  all = elements_of texts

  abbrev pub Within : Elements → Type 0
  Within elements =
      BeginsWith (tables_created elements) (declared_tables texts)
      × BeginsWith (definitions_created elements) (declared_definitions texts)
      × BeginsWith (views_created elements) (declared_views texts)

  pub all_within : Within all
  all_within = (
    begins_all (tables_created all) (declared_tables texts) (declared_tables_are texts),
    begins_all (definitions_created all) (declared_definitions texts) (declared_definitions_are texts),
    begins_all (views_created all) (declared_views texts) (declared_views_are texts),
  )

  pub within_before : (e : Element) (before : Elements) → Within (e ∷ before) → Within before
  within_before e before w = (
    begins_before (tables_created before) (table_in e.user e.element) (declared_tables texts) w.0,
    begins_before (definitions_created before) (definition_in e.element) (declared_definitions texts) w.1,
    begins_before (views_created before) (view_in e.user e.element) (declared_views texts) w.2,
  )

  no_tables : AllByRecursion (IsNoTable (declared_tables texts)) (declared_views texts)
  no_tables =
      subst (λ ts. AllByRecursion (IsNoTable ts) (declared_views texts)) (sym (declared_tables_are texts))
      (subst (λ vs. AllByRecursion (IsNoTable (tables_created all)) vs) (sym (declared_views_are texts)) (views_apart all (accepted_elements texts accepted)))

  abbrev with_element : Name → SchemaElement → Elements → Elements
  with_element user x before = record { user = user; element = x } ∷ before

  pub base_there : (before : Elements) (user : Name) (t : TableDefinition) → IsAccepted before user (element.Table t)
      → Within (with_element user (element.Table t) before) → HasBase texts known bases views d user t (base_count before)
  base_there before user t h w =
      subst (HasBase texts known bases views d user t) (tables_counted before)
      (has_base texts known bases views d before user t h (definitions_counted before) w.0 w.1)

  view_there : (before : Elements) (user : Name) (v : ViewDefinition) → IsAccepted before user (element.View v)
      → Within (with_element user (element.View v) before)
      → HasView texts known bases views d user v (length (views_created before))
  view_there before user v h w = has_view texts known bases views d before user v h no_tables w.2

  -- ---- what is under them

  under_view : (user : Name) (v : ViewDefinition) (columns : List Column) (u : Under)
      → IsWrittenUnder known (record { user = user; view = v }) columns u
      → IsUnderView known (select_of user v.query) v.check_option columns u
  under_view user v columns u h = record {
    over = h.over;
    is_over = h.is_over;
    base = h.base;
    conditions = h.conditions ∙ own_behind h.over.target.leaf.conditions h.over.target.condition;
    demanded = h.demanded;
    shows = h.shows;
  }

  under_before : (elements : Elements) → AreAccepted elements → Within elements → AreUnder known bases (tables_of elements)
  under_before [] a w = tt
  under_before (e ∷ before) a w = of_one e.user e.element a.0 w (under_before before a.1 (within_before e before w))
    where
      of_one : (user : Name) (x : SchemaElement) → IsAccepted before user x → Within (with_element user x before)
          → AreUnder known bases (tables_of before) → AreUnder known bases (tables_of (with_element user x before))
      of_one user (element.Table t) h w others =
          let base = base_there before user t h w in (
            has_known (λ k. IfSome k.under (IsUnderBody known bases (table_descriptor (base_count before) user t).body k.columns))
                (known (table_of user t.name).user (table_of user t.name).name) (base_meant (base_count before) base.columns) base.is_known
                (base_under bases views (base_count before) user t (record { user = (table_of user t.name).user; name = (table_of user t.name).name }) base.columns base.bound base.columns_are base.is_base base.bound_at known),
            others,
          )
      of_one user (element.View v) h w others =
          let view = view_there before user v h w in (
            has_known (λ k. IfSome k.under (IsUnderView known (select_of user v.query) v.check_option k.columns))
                (known (table_of user v.name).user (table_of user v.name).name) (view_meant (length (views_created before)) view.seen) view.is_known
                (some_also view.seen.under (IsWrittenUnder known (record { user = user; view = v }) view.seen.columns)
                (IsUnderView known (select_of user v.query) v.check_option view.seen.columns) view.is_seen.under
                (under_view user v view.seen.columns)),
            others,
          )
      of_one user (element.Grant g) h w others = others

  -- What is known to be under a table or view is what is declared of it.
  pub declares_are_under : AreUnder known bases (tables_of all)
  declares_are_under = under_before all (accepted_elements texts accepted) all_within

  -- ---- no other name

  none_known : (name : TableName) → is_made all name ≡ false → known name.user name.name ≡ None
  none_known name e =
      known_as texts known bases views d name.user name.name None None
      (ap (λ ts. table_number ts name.user name.name) (declared_tables_are texts) ∙ none_there (is_its_name name) (tables_created all) (no_table name all e))
      (ap (λ ws. table_number (map view_name ws) name.user name.name) (declared_views_are texts)
      ∙ none_there (is_its_name name) (map view_name (views_created all)) (all_map (λ t. is_its_name name t ≡ false) view_name (views_created all) (no_view name all e)))

  pub declares_are_all : AreAll known (tables_of all)
  declares_are_all = λ name. by_name_made name (is_made all name) refl
    where
      by_name_made : (name : TableName) (b : Bool) → is_made all name ≡ b
          → IfSome (known name.user name.name) (λ t. HasValue (descriptor_of (tables_of all) name))
      by_name_made name true e =
          some_any (known name.user name.name) (HasValue (descriptor_of (tables_of all) name))
          (any_found (λ t. same_table t.table name) (tables_of all) e)
      by_name_made name false e =
          subst (λ o. IfSome o (λ t. HasValue (descriptor_of (tables_of all) name))) (sym (none_known name e)) tt

  -- ---- with rows

  module _ (kinds : AllZip (HasKindsOf (kinds_at bases views)) d.seen views) (content : Content) (caller : Name)
      (shown : TablePlace → Outcome (List Row)) (meant : AreMeant views content caller shown)
      (count : length content ≡ length bases)
      (rows : (n : ℕ) (b : BoundTable) → slice_get bases n ≡ Some b → AreRowsOf (base_kinds b) (rows_in (table_at content n))) where
    abbrev Both : Elements → Type 0
    Both elements =
        IsDatabaseOf (tables_of elements) content caller
        × AreDeclared known (kinds_at bases views) views content (tables_of elements)

    is_stored : (n : ℕ) (b : BoundTable) → slice_get bases n ≡ Some b → nat_lt n (length content) ≡ true
    is_stored n b at = lt-ltb n (length content) (subst (λ k. n < k) (sym count) (slice_get_within bases n b at))

    with_table : (before : Elements) (user : Name) (t : TableDefinition)
        → HasBase texts known bases views d user t (base_count before) → Both before
        → Both (with_element user (element.Table t) before)
    with_table before user t base others =
        let name : FullName = record { user = (table_of user t.name).user; name = (table_of user t.name).name } in
        let declared = base_declared bases views (base_count before) user t name base.columns base.bound base.columns_are base.is_base base.bound_at known content (is_stored (base_count before) base.bound base.bound_at) in
        let same = base_kinds_are bases views (base_count before) user t name base.columns base.bound base.columns_are base.is_base base.bound_at in (
          (subst (λ ks. AreRowsOf ks (rows_in (table_at content (base_count before)))) (same ∙ sym declared.kinds) (rows (base_count before) base.bound base.bound_at), others.0),
          (
            has_known (IsDeclaredAs known (kinds_at bases views) views content (table_descriptor (base_count before) user t))
                (known (table_of user t.name).user (table_of user t.name).name) (base_meant (base_count before) base.columns) base.is_known declared,
            others.1,
          ),
        )

    with_view : (before : Elements) (user : Name) (v : ViewDefinition)
        → WellFormedSelect (by_name (tables_of before) content caller) (kinds_by_name (tables_of before) []) (λ p. ⊥) [] (select_of user v.query)
        → HasView texts known bases views d user v (length (views_created before)) → Both before
        → Both (with_element user (element.View v) before)
    with_view before user v well view others =
        let n = length (views_created before) in
        let earlier : Tables = tables_of before in
        let w : WrittenView = record { user = user; view = v } in
        let each = each_same content caller known (kinds_at bases views) views shown meant earlier others.0 others.1 in
        let fit = fits_before content caller known (kinds_at bases views) views shown meant earlier each in
        let typed = typed_before content caller known (kinds_at bases views) views shown meant earlier each in
        let own = zip_both (HasKindsOf (kinds_at bases views)) d.seen views n view.seen view.query kinds view.seen_at view.query_at in
        let found = query_kinds_are content caller known (kinds_at bases views) views shown earlier fit typed w well view.seen view.is_seen view.query view.is_query own in
        let declared = view_declared content caller known (kinds_at bases views) views shown earlier fit typed w well view.seen view.is_seen view.query view.is_query own n view.query_at
        (ap (λ o. well_formed (option_map kinds_of_select o)) view.query_at) in (
          ((well, found ∙ ap (λ (ks : List Kind). Ok ks) (sym declared.kinds)), others.0),
          (
            has_known (IsDeclaredAs known (kinds_at bases views) views content (view_descriptor earlier user v))
                (known (table_of user v.name).user (table_of user v.name).name) (view_meant n view.seen) view.is_known declared,
            others.1,
          ),
        )

    both_before : (elements : Elements) → AreAccepted elements → Within elements → Both elements
    both_before [] a w = (tt, tt)
    both_before (e ∷ before) a w = of_one e.user e.element a.0 w (both_before before a.1 (within_before e before w))
      where
        of_one : (user : Name) (x : SchemaElement) → IsAccepted before user x → Within (with_element user x before) → Both before
            → Both (with_element user x before)
        of_one user (element.Table t) h w others = with_table before user t (base_there before user t h w) others
        of_one user (element.View v) h w others =
            with_view before user v
            (without_parameters (by_name (tables_of before) content caller) (kinds_by_name (tables_of before) []) (select_of user v.query)
            (view_well_formed before user v content caller (view_is_sound before user v h)))
            (view_there before user v h w) others
        of_one user (element.Grant g) h w others = others

    -- Each table and view is known as it is declared,
    pub declares_are_declared : AreDeclared known (kinds_at bases views) views content (tables_of all)
    declares_are_declared = (both_before all (accepted_elements texts accepted) all_within).1

    -- The declared database is one in both readings.
    pub declares_database : IsDatabase (tables_of all) content caller known (kinds_at bases views) views shown
    declares_database = record {
      kept = (both_before all (accepted_elements texts accepted) all_within).0;
      declared = declares_are_declared;
      all = declares_are_all;
      meant = meant;
    }
