-- What schema texts declare is what a catalog has gained from them.
use Rattle.std.proofs.Common.{◌≡◌, List, [], ◌++◌, map, ap, sym, subst, ◌∙◌}
use Rattle.std.specs.List.{AllZip}
use Rattle.sq_tree.specs.declared.schema.SchemaText.{SchemaText}
use Rattle.sq_bound.specs.declared.condition.BoundSpecification.{BoundSpecification}
use Rattle.sq_bound.specs.declared.names.BaseTable.{BaseTable}
use Rattle.sq_bound.specs.declared.names.Column.{Column}
use Rattle.sq_catalog.specs.Base.{AreBasesOf}
use Rattle.sq_catalog.specs.Catalog.{Catalog, Gains, HaveReferences, SeenView, declared_definitions, declared_tables, known, meant}
use Rattle.sq_catalog.specs.Columns.{HasColumnsOf}
use Rattle.sq_catalog.specs.Declares.{Declares}
use Rattle.sq_catalog.specs.Views.{GainsViews, HasQueryKinds, HasQueryOf, IsSeenAs, declared_views, view_name}
use Rattle.sq_catalog.specs.declared.catalog.FullName.{FullName}

pub declared_all : (texts : List SchemaText) (a b : Catalog) → a.tables ≡ [] → a.columns ≡ [] → a.bases ≡ [] → a.view_names ≡ [] → a.seen_views ≡ [] → a.views ≡ []
    → Gains a b (declared_tables texts) (declared_definitions texts) → GainsViews a b (declared_views texts) → Declares texts (known b) b.bases b.views
declared_all texts a b tables columns bases view_names seen views g v =
    let named : b.tables ≡ declared_tables texts = g.added.tables ∙ ap (λ l. l ++ declared_tables texts) tables in
    let views_named : b.view_names ≡ map view_name (declared_views texts) = v.added.view_names ∙ ap (λ l. l ++ map view_name (declared_views texts)) view_names in record {
      columns = b.columns;
      columns_are = subst (λ (cs : List (List Column)). AllZip HasColumnsOf (declared_definitions texts) cs) (sym (g.added.columns ∙ ap (λ l. l ++ g.columns) columns)) g.columns_are;
      bases_are = subst (λ (bs : List BaseTable). AreBasesOf (declared_tables texts) (declared_definitions texts) bs) (sym (g.added.bases ∙ ap (λ l. l ++ g.bases) bases)) g.bases_are;
      references_are =
          subst (λ (ts : List FullName). HaveReferences ts b.columns b.bases (declared_tables texts) (declared_definitions texts) b.bases) named
          (subst (λ (bs : List BaseTable). HaveReferences b.tables b.columns b.bases (declared_tables texts) (declared_definitions texts) bs) (sym (g.added.bases ∙ ap (λ l. l ++ g.bases) bases)) g.references_are);
      seen = b.seen_views;
      seen_are = subst (λ (vs : List SeenView). AllZip (IsSeenAs (known b)) (declared_views texts) vs) (sym (v.added.seen_views ∙ ap (λ l. l ++ v.seen) seen)) v.seen_are;
      views_are = subst (λ (qs : List BoundSpecification). AllZip (HasQueryOf (known b)) (declared_views texts) qs) (sym (v.added.views ∙ ap (λ l. l ++ v.queries) views)) v.queries_are;
      kinds_are =
          subst (λ (vs : List SeenView). AllZip HasQueryKinds vs b.views) (sym (v.added.seen_views ∙ ap (λ l. l ++ v.seen) seen))
          (subst (λ (qs : List BoundSpecification). AllZip HasQueryKinds v.seen qs) (sym (v.added.views ∙ ap (λ l. l ++ v.queries) views)) v.kinds_are);
      stand = b.stand;
      names = λ i. meant (named i) b.columns (views_named i) b.seen_views;
    }
