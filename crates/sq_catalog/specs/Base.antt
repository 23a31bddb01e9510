-- A base table is that of its CREATE TABLE text (ISO/IEC 9075:1992, 11.3 to 11.9).
use Rattle.std.specs.Prelude.{⊤, ◌≡◌, List, [], ◌∷◌}
use Rattle.sq_tree.specs.declared.schema.TableDefinition.{TableDefinition}
use Rattle.sq_bound.specs.declared.names.BaseTable.{BaseTable}
use Rattle.sq_catalog.specs.Checks.{HasChecksOf}
use Rattle.sq_catalog.specs.Columns.{HasBaseColumnsOf}
use Rattle.sq_catalog.specs.Keys.{KeysStandAt, keys_written, names_written, primary_among}
use Rattle.sq_catalog.specs.declared.base.BaseParts.{BaseParts}
use Rattle.sq_catalog.specs.declared.catalog.FullName.{FullName}

-- a base table is made of these columns, keys and checks
pub record IsMadeOf (parts : BaseParts) (b : BaseTable) : Type 0 where
  pub columns : b.columns ≡ parts.columns
  pub keys : b.keys ≡ parts.keys
  pub checks : b.checks ≡ parts.checks

-- the base table that a table definition creates under a full name
pub record IsBaseOf (name : FullName) (t : TableDefinition) (b : BaseTable) : Type 0 where
  pub columns : HasBaseColumnsOf t b
  pub keys : KeysStandAt (names_written t) (keys_written t) b.keys
  pub primary_key : b.primary_key ≡ primary_among (keys_written t)
  pub checks : HasChecksOf name t b.checks

-- each base table is of the name and the definition at the same place of the lists
abbrev pub AreBasesOf : List FullName → List TableDefinition → List BaseTable → Type 0
AreBasesOf [] [] [] = ⊤
AreBasesOf (name ∷ names) (t ∷ definitions) (b ∷ bases) =
    IsBaseOf name t b × AreBasesOf names definitions bases
AreBasesOf _ _ _ = ⊥
