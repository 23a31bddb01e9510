-- Tables in which all constraints hold have rows of the kinds of their columns, and each row meets NOT NULL
-- and CHECK (ISO/IEC 9075:1992, 4.10 and 11.4 to 11.9). The machine keeps them so from the empty tables on.
use Rattle.std.proofs.Common.{◌≡◌, ℕ, List, [], ◌∷◌, map, Some, refl, sym, ap, subst, ◌∙◌, Ok}
use Rattle.std.proofs.lemmas.List.{append-nil}
use Rattle.std.specs.Prelude.{flat_map, option_to_list, slice_get}
use Rattle.std.specs.List.{AllByRecursion}
use Rattle.sq_tree.specs.declared.schema.ColumnDefinition.{ColumnDefinition}
use Rattle.sq_value.specs.Domain.{kind_of}
use Rattle.sq_value.specs.declared.domain.Domain.{Domain}
use Rattle.sq_store.specs.Content.{Content, table_at}
use Rattle.sq_meaning.specs.Environment.{Row}
use Rattle.sq_meaning.specs.Tables.{rows_in}
use Rattle.sq_meaning.specs.WellFormed.{AreRowsOf, IsRowOf}
use Rattle.sq_meaning.proofs.AnswerLaws.{all_weaker}
use Rattle.sq_meaning.specs.Catalog.{column_domain}
use Rattle.sq_meaning.specs.Schema.{BaseTable, Elements, base_tables, column_definitions}
use Rattle.sq_meaning.specs.Constraints.{AreInDomains, ConstraintsHold, all_satisfied, row_satisfied, rows_of_base}
use Rattle.sq_meaning.proofs.KindLaws.{of_its_kind}
use Rattle.sq_bound.specs.WellFormed.{base_kinds}
use Rattle.sq_bound.specs.declared.names.BaseTable.{BaseTable as BoundTable}
use Rattle.sq_run.proofs.Laws.CallLaws.{NamesDiffer}
use Rattle.sq_catalog.specs.Columns.{AreBaseColumnsOf}
use Rattle.sq_catalog.proofs.CreateTable.WrittenRules.{columns_are_written}
use Rattle.sq_run.proofs.Schemas.DeclaredColumns.{kinds_held}
use Rattle.sq_run.proofs.Schemas.DeclaredTables.{IsBaseAs}

-- ---- the rows of a name are those at its place

pub rows_at_place : (elements : Elements) → NamesDiffer elements → (content : Content) (place : ℕ) (t : BaseTable)
    → slice_get (base_tables elements) place ≡ Some t → rows_of_base elements content t.name ≡ rows_in (table_at content place)
rows_at_place elements differ content place t there =
    ap (λ o. flat_map (λ n. rows_in (table_at content n)) (option_to_list o)) (differ place t there)
    ∙ append-nil (rows_in (table_at content place))

-- ---- kinds

row_of_kinds : (ds : List Domain) (row : Row) → AreInDomains ds row → IsRowOf (map kind_of ds) row
row_of_kinds [] [] h = tt
row_of_kinds [] (v ∷ row) h = absurd h
row_of_kinds (d ∷ ds) [] h = absurd h
row_of_kinds (d ∷ ds) (v ∷ row) h = (of_its_kind d v h.0, row_of_kinds ds row h.1)

domain_kinds : (ws : List ColumnDefinition) → map kind_of (map column_domain ws) ≡ map (λ w. kind_of (column_domain w)) ws
domain_kinds [] = refl
domain_kinds (w ∷ ws) = ap (λ ks. kind_of (column_domain w) ∷ ks) (domain_kinds ws)

module _ (elements : Elements) (differ : NamesDiffer elements) (content : Content) (hold : ConstraintsHold elements content)
    (place : ℕ) (t : BaseTable) (there : slice_get (base_tables elements) place ≡ Some t) where
  -- the rows of a base table are of its columns' kinds
  pub rows_of_kinds : (b : BoundTable) → IsBaseAs t b → AreRowsOf (base_kinds b) (rows_in (table_at content place))
  rows_of_kinds b h =
      subst (λ ks. AreRowsOf ks (rows_in (table_at content place))) kinds_are
      (all_weaker (AreInDomains domains) (IsRowOf (map kind_of domains)) (row_of_kinds domains) (rows_in (table_at content place))
      (subst (λ rows. AllByRecursion (AreInDomains domains) rows) (rows_at_place elements differ content place t there) (hold.0 place t there)))
    where
      domains : List Domain
      domains = map column_domain (column_definitions t.definition)

      kinds_are : map kind_of domains ≡ base_kinds b
      kinds_are =
          domain_kinds (column_definitions t.definition)
          ∙ sym (kinds_held (column_definitions t.definition) b.columns (subst (λ ws. AreBaseColumnsOf ws b.columns) (columns_are_written t.definition) h.columns))

  -- Each row meets NOT NULL and CHECK.
  pub rows_hold : all_satisfied (row_satisfied t) (rows_in (table_at content place)) ≡ Ok tt
  rows_hold =
      ap (all_satisfied (row_satisfied t)) (sym (rows_at_place elements differ content place t there)) ∙ (hold.1 place t there).0
