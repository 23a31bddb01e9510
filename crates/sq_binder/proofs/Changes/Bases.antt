-- The base table under a table that may be changed exists, if each of them does.
use Rattle.std.proofs.Common.{◌≡◌, List, Option, Some, None, subst}
use Rattle.std.specs.Option.{option_map}
use Rattle.std.specs.Prelude.{IfSome}
use Rattle.sq_meaning.specs.Environment.{TableName}
use Rattle.sq_bound.specs.Fits.{IsBase}
use Rattle.sq_bound.specs.declared.names.BaseTable.{BaseTable}
use Rattle.sq_bound.specs.declared.names.Leaf.{Leaf}
use Rattle.sq_binder.specs.Names.{AreOverBases, Beneath, Changes, IsUnder}

module _ (bases : List BaseTable) (changes : Changes) (over : AreOverBases bases changes) where
  pub base_there : (t : TableName) (leaf : Leaf) → IsUnder changes t leaf → IsBase bases leaf.table
  base_there t leaf is = by (changes.beneath t) (over t) is
    where
      by : (o : Option Beneath) → IfSome o (λ b. IsBase bases b.leaf.table) → option_map (λ (b : Beneath). b.leaf) o ≡ Some leaf → IsBase bases leaf.table
      by None h e = cc
      by (Some b) h e = let same : b.leaf ≡ leaf = cc in subst (λ (l : Leaf). IsBase bases l.table) same h
