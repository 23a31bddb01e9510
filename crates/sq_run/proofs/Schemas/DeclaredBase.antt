-- A base table that the catalog has as it is written is known as the definitions describe it (ISO/IEC
-- 9075:1992, 11.3 and 11.4): with its columns, at its place, and under itself.
use Rattle.std.proofs.Common.{◌≡◌, ℕ, true, List, length, Some, refl, sym, ap, subst, ◌∙◌, Ok}
use Rattle.std.proofs.lemmas.List.{length-map}
use Rattle.std.specs.Prelude.{nat_lt, slice_get}
use Rattle.std.specs.List.{AllZip, enumerate_from}
use Rattle.std.specs.Option.{option_map, option_map_or}
use Rattle.sq_lex.specs.declared.name.Name.{Name}
use Rattle.sq_tree.specs.declared.schema.ColumnDefinition.{ColumnDefinition}
use Rattle.sq_tree.specs.declared.schema.TableDefinition.{TableDefinition}
use Rattle.sq_value.specs.declared.domain.Kind.{Kind}
use Rattle.sq_store.specs.Content.{Content}
use Rattle.sq_meaning.specs.Status.{well_formed}
use Rattle.sq_meaning.specs.Tables.{base_table}
use Rattle.sq_meaning.specs.Catalog.{table_descriptor}
use Rattle.sq_meaning.specs.Schema.{column_definitions}
use Rattle.sq_bound.specs.Known.{KnownTables}
use Rattle.sq_bound.specs.WellFormed.{base_kinds, kinds_of_columns}
use Rattle.sq_bound.specs.declared.condition.BoundSpecification.{BoundSpecification}
use Rattle.sq_bound.specs.declared.names.BaseTable.{BaseTable as BoundTable}
use Rattle.sq_bound.specs.declared.names.Column.{Column}
use Rattle.sq_catalog.specs.Base.{IsBaseOf}
use Rattle.sq_catalog.specs.Catalog.{base_meant, itself, kinds_at}
use Rattle.sq_catalog.specs.Columns.{AreBaseColumnsOf, HasColumnsOf, IsBaseColumnOf, IsColumnOf}
use Rattle.sq_catalog.specs.declared.catalog.FullName.{FullName}
use Rattle.sq_catalog.proofs.CreateTable.WrittenRules.{columns_are_written}
use Rattle.sq_run.proofs.Places.Databases.{IsDeclaredAs}
use Rattle.sq_run.proofs.Changed.Levels.{width_at}
use Rattle.sq_run.proofs.Places.Outcomes.{same_length}
use Rattle.sq_run.proofs.Schemas.ViewTargets.{IsUnderBody}
use Rattle.sq_run.proofs.Schemas.DeclaredColumns.{descriptor_kinds, descriptor_names, kinds_held, kinds_seen, names_seen, positions_seen}

module _ (bases : List BoundTable) (views : List BoundSpecification) (n : ℕ) (owner : Name) (t : TableDefinition) (name : FullName)
    (cs : List Column) (b : BoundTable) (described : HasColumnsOf t cs) (is_base : IsBaseOf name t b)
    (at : slice_get bases n ≡ Some b) where
  abbrev ws : List ColumnDefinition
  ws = column_definitions t

  columns_are : AllZip IsColumnOf (enumerate_from 0 ws) cs
  columns_are = subst (λ l. AllZip IsColumnOf (enumerate_from 0 l) cs) (columns_are_written t) described

  held_are : AreBaseColumnsOf ws b.columns
  held_are = subst (λ l. AreBaseColumnsOf l b.columns) (columns_are_written t) is_base.columns

  -- the kinds of its columns
  pub base_kinds_are : base_kinds b ≡ kinds_of_columns cs
  base_kinds_are = kinds_held ws b.columns held_are ∙ kinds_seen 0 ws cs columns_are

  pub base_declared : (known : KnownTables) (content : Content) → nat_lt n (length content) ≡ true
      → IsDeclaredAs known (kinds_at bases views) views content (table_descriptor n owner t) (base_meant n cs)
  base_declared known content within = record {
    names = descriptor_names ws ∙ names_seen 0 ws cs columns_are;
    kinds = descriptor_kinds ws ∙ kinds_seen 0 ws cs columns_are;
    kinds_there = ap (λ o. well_formed (option_map base_kinds o)) at ∙ ap (λ (ks : List Kind). Ok ks) base_kinds_are;
    stands = (refl, within);
  }

  as_wide : length cs ≡ width_at bases n
  as_wide =
      sym (length-map cs (λ (c : Column). c.name)) ∙ sym (ap length (names_seen 0 ws cs columns_are))
      ∙ length-map ws (λ (w : ColumnDefinition). w.name) ∙ same_length IsBaseColumnOf ws b.columns held_are
      ∙ sym (ap (λ o. option_map_or (λ (x : BoundTable). length x.columns) o 0) at)

  pub base_under : (known : KnownTables) → IsUnderBody known bases (base_table n) cs (itself n)
  base_under known = (refl, positions_seen 0 ws cs columns_are, as_wide)
