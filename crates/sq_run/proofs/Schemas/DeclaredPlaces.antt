-- What the catalog has of each base table and view that schema texts declare, under its name and at its
-- number (ISO/IEC 9075:1992, 11.3 and 11.19).
use Rattle.std.proofs.Common.{◌≡◌, ℕ, zero, suc, false, List, [], ◌∷◌, ◌++◌, length, map, Option, Some, None, refl, ap, subst, ◌∙◌}
use Rattle.std.proofs.lemmas.List.{length-map, map-append}
use Rattle.std.specs.Prelude.{slice_get}
use Rattle.std.specs.List.{AllByRecursion}
use Rattle.std.specs.Option.{option_map}
use Rattle.sq_lex.specs.declared.name.Name.{Name}
use Rattle.sq_tree.specs.declared.schema.SchemaElement.TheVariants as element
use Rattle.sq_tree.specs.declared.schema.SchemaText.{SchemaText}
use Rattle.sq_tree.specs.declared.schema.TableDefinition.{TableDefinition}
use Rattle.sq_tree.specs.declared.schema.ViewDefinition.{ViewDefinition}
use Rattle.sq_meaning.specs.Spelled.{table_of}
use Rattle.sq_meaning.specs.Schema.{Elements}
use Rattle.sq_bound.specs.Known.{KnownTables}
use Rattle.sq_bound.specs.declared.condition.BoundSpecification.{BoundSpecification}
use Rattle.sq_bound.specs.declared.names.BaseTable.{BaseTable as BoundTable}
use Rattle.sq_bound.specs.declared.names.Column.{Column}
use Rattle.sq_binding.proofs.Standing.Levels.{all_at}
use Rattle.sq_catalog.specs.Base.{AreBasesOf, IsBaseOf}
use Rattle.sq_catalog.specs.Catalog.{SeenView, base_meant, declared_definitions, declared_tables, known_at, known_first, named_by, table_number, view_meant}
use Rattle.sq_catalog.specs.Columns.{HasColumnsOf}
use Rattle.sq_catalog.specs.Declares.{Declares}
use Rattle.sq_catalog.specs.Views.{HasQueryOf, IsSeenAs, WrittenView, declared_views, view_name}
use Rattle.sq_catalog.specs.declared.catalog.FullName.{FullName}
use Rattle.sq_run.proofs.Places.Outcomes.{all_map}
use Rattle.sq_run.proofs.Laws.Accepted.{IsAccepted, table_is_new, view_is_new}
use Rattle.sq_run.proofs.Schemas.Created.{definitions_created, tables_created, views_created}
use Rattle.sq_run.proofs.Schemas.Numbers.{BeginsWith, IsNoTable, first_behind, is_its_name, no_table, no_view, none_there, same_itself, stands_behind, zip_at}

-- ---- lists

begins_map : {A B : Type 0} (f : A → B) (xs : List A) (x : A) (all : List A) → BeginsWith (xs ++ x ∷ []) all
    → BeginsWith (map f xs ++ f x ∷ []) (map f all)
begins_map f xs x all h =
    (map f h.0, ap (map f) h.1 ∙ map-append f (xs ++ x ∷ []) h.0 ∙ ap (λ l. l ++ map f h.0) (map-append f xs (x ∷ [])))

bases_at : (names : List FullName) (definitions : List TableDefinition) (bases : List BoundTable) (n : ℕ) (name : FullName)
    (t : TableDefinition)
    → AreBasesOf names definitions bases → slice_get names n ≡ Some name → slice_get definitions n ≡ Some t
    → (b : BoundTable) × (slice_get bases n ≡ Some b) × IsBaseOf name t b
bases_at [] [] [] n name t h e f = cc
bases_at (m ∷ names) (d ∷ definitions) (b ∷ bases) zero name t h e f =
    let name_is : m ≡ name = cc in
    let definition_is : d ≡ t = cc in
    (b, refl, subst (λ x. IsBaseOf x t b) name_is (subst (λ x. IsBaseOf m x b) definition_is h.0))
bases_at (m ∷ names) (d ∷ definitions) (b ∷ bases) (suc n) name t h e f = bases_at names definitions bases n name t h.1 e f
bases_at _ _ _ n name t h e f = absurd h

-- ---- what a catalog has

module _ (texts : List SchemaText) (known : KnownTables) (bases : List BoundTable) (views : List BoundSpecification)
    (d : Declares texts known bases views) where
  -- what a name means there
  pub known_as : (user name : Name) (table view : Option ℕ) → table_number (declared_tables texts) user name ≡ table
      → table_number (map view_name (declared_views texts)) user name ≡ view
      → known user name ≡ known_first (known_at base_meant d.columns table) (known_at view_meant d.seen view)
  known_as user name table view t v =
      (λ i. d.names i user name) ∙ (λ i. known_first (known_at base_meant d.columns (t i)) (known_at view_meant d.seen (v i)))

  -- a base table, at its number
  pub record HasBase (user : Name) (t : TableDefinition) (n : ℕ) : Type 0 where
    pub columns : List Column
    pub columns_at : slice_get d.columns n ≡ Some columns
    pub columns_are : HasColumnsOf t columns
    pub bound : BoundTable
    pub bound_at : slice_get bases n ≡ Some bound
    pub is_base : IsBaseOf (named_by user t.name) t bound
    pub is_known : known (table_of user t.name).user (table_of user t.name).name ≡ Some (base_meant n columns)

  pub has_base : (before : Elements) (user : Name) (t : TableDefinition) → IsAccepted before user (element.Table t)
      → length (definitions_created before) ≡ length (tables_created before)
      → BeginsWith (tables_created before ++ named_by user t.name ∷ []) (declared_tables texts)
      → BeginsWith (definitions_created before ++ t ∷ []) (declared_definitions texts)
      → HasBase user t (length (tables_created before))
  has_base before user t accepted as_many tables definitions =
      let described = zip_at HasColumnsOf (declared_definitions texts) d.columns n t d.columns_are definition_at in
      let base = bases_at (declared_tables texts) (declared_definitions texts) bases n name t d.bases_are
      (stands_behind (tables_created before) name (declared_tables texts) tables) definition_at in
      record {
        columns = described.0;
        columns_at = described.1;
        columns_are = described.2;
        bound = base.0;
        bound_at = base.1;
        is_base = base.2;
        is_known =
            known_as name.user name.name (Some n) (table_number (map view_name (declared_views texts)) name.user name.name) number refl
            ∙ ap (λ (o : Option (List Column)). known_first (option_map (base_meant n) o) (known_at view_meant d.seen (table_number (map view_name (declared_views texts)) name.user name.name))) described.1;
      }
    where
      n : ℕ
      n = length (tables_created before)

      name : FullName
      name = named_by user t.name

      definition_at : slice_get (declared_definitions texts) n ≡ Some t
      definition_at =
          subst (λ k. slice_get (declared_definitions texts) k ≡ Some t) as_many
          (stands_behind (definitions_created before) t (declared_definitions texts) definitions)

      number : table_number (declared_tables texts) name.user name.name ≡ Some n
      number =
          first_behind (is_its_name (table_of user t.name)) (tables_created before) name (declared_tables texts) tables
          (no_table (table_of user t.name) before (table_is_new before user t accepted)) (same_itself name.user name.name)

  -- a view, at its number
  pub record HasView (user : Name) (v : ViewDefinition) (n : ℕ) : Type 0 where
    pub seen : SeenView
    pub seen_at : slice_get d.seen n ≡ Some seen
    pub is_seen : IsSeenAs known (record { user = user; view = v }) seen
    pub query : BoundSpecification
    pub query_at : slice_get views n ≡ Some query
    pub is_query : HasQueryOf known (record { user = user; view = v }) query
    pub is_known : known (table_of user v.name).user (table_of user v.name).name ≡ Some (view_meant n seen)

  pub has_view : (before : Elements) (user : Name) (v : ViewDefinition) → IsAccepted before user (element.View v)
      → AllByRecursion (IsNoTable (declared_tables texts)) (declared_views texts)
      → BeginsWith (views_created before ++ record { user = user; view = v } ∷ []) (declared_views texts)
      → HasView user v (length (views_created before))
  has_view before user v accepted no_tables written =
      let seen = zip_at (IsSeenAs known) (declared_views texts) d.seen n w d.seen_are view_at in
      let query = zip_at (HasQueryOf known) (declared_views texts) views n w d.views_are view_at in
      record {
        seen = seen.0;
        seen_at = seen.1;
        is_seen = seen.2;
        query = query.0;
        query_at = query.1;
        is_query = query.2;
        is_known =
            known_as name.user name.name None (Some n) no_number number
            ∙ ap (λ (o : Option SeenView). option_map (view_meant n) o) seen.1;
      }
    where
      n : ℕ
      n = length (views_created before)

      w : WrittenView
      w = record { user = user; view = v }

      name : FullName
      name = named_by user v.name

      view_at : slice_get (declared_views texts) n ≡ Some w
      view_at = stands_behind (views_created before) w (declared_views texts) written

      no_number : table_number (declared_tables texts) name.user name.name ≡ None
      no_number =
          none_there (is_its_name (table_of user v.name)) (declared_tables texts)
          (all_at (IsNoTable (declared_tables texts)) (declared_views texts) n w no_tables view_at)

      number : table_number (map view_name (declared_views texts)) name.user name.name ≡ Some n
      number =
          first_behind (is_its_name (table_of user v.name)) (map view_name (views_created before)) name (map view_name (declared_views texts))
          (begins_map view_name (views_created before) w (declared_views texts) written)
          (all_map (λ t. is_its_name (table_of user v.name) t ≡ false) view_name (views_created before) (no_view (table_of user v.name) before (view_is_new before user v accepted)))
          (same_itself name.user name.name)
          ∙ ap Some (length-map (views_created before) view_name)
