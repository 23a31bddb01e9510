-- A base table is that of its text, by its parts.
use Rattle.std.proofs.Common.{◌≡◌, ℕ, List, Option, Result, Ok, Err, sym, subst, ◌∙◌}
use Rattle.std.specs.Result.{IfOk}
use Rattle.sq_tree.specs.declared.cond.Cond.{Cond}
use Rattle.sq_tree.specs.declared.schema.ColumnDefinition.{ColumnDefinition}
use Rattle.sq_tree.specs.declared.schema.TableDefinition.{TableDefinition}
use Rattle.sq_bound.specs.declared.names.BaseTable.{BaseTable}
use Rattle.sq_bound.specs.declared.names.TableDesc.{TableDesc}
use Rattle.sq_catalog.specs.Base.{IsBaseOf}
use Rattle.sq_catalog.specs.Checks.{AreChecksOf, checks_written}
use Rattle.sq_catalog.specs.Columns.{AreBaseColumnsOf, AreColumnsOf, columns_written}
use Rattle.sq_catalog.specs.Keys.{KeysStandAt, keys_written, names_written, primary_among}
use Rattle.sq_catalog.specs.declared.catalog.FullName.{FullName}

module _ (name : FullName) (t : TableDefinition) (definitions : List ColumnDefinition) (keys : List (List ℕ)) (primary : Option ℕ) (checks : List Cond)
    (columns_are : definitions ≡ columns_written t) (keys_stand : KeysStandAt (names_written t) (keys_written t) keys) (primary_is : primary ≡ primary_among (keys_written t))
    (checks_are : checks ≡ checks_written t) where
  -- what is found of a definition makes its table
  pub base_made : {F : Type 0} (r : Result (TableDesc × BaseTable) F) → IfOk r (λ new. AreColumnsOf definitions new.0.columns) → IfOk r (λ new. AreBaseColumnsOf definitions new.1.columns)
      → IfOk r (λ new. new.1.keys ≡ keys) → IfOk r (λ new. new.1.primary_key ≡ primary) → IfOk r (λ new. AreChecksOf name new.0.columns checks new.1.checks)
      → IfOk r (λ new. IsBaseOf name t new.1)
  base_made (Err fault) seen held of_keys of_primary bound = tt
  base_made (Ok new) seen held of_keys of_primary bound = record {
    columns = subst (λ ws. AreBaseColumnsOf ws new.1.columns) columns_are held;
    keys = subst (λ (places : List (List ℕ)). KeysStandAt (names_written t) (keys_written t) places) (sym of_keys) keys_stand;
    primary_key = of_primary ∙ primary_is;
    checks = record {
      columns = new.0.columns;
      columns_are = subst (λ ws. AreColumnsOf ws new.0.columns) columns_are seen;
      checks_are = subst (λ cs. AreChecksOf name new.0.columns cs new.1.checks) checks_are bound;
    };
  }
