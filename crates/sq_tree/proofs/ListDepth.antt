-- The depth of a list, from the depth of its items.
use Rattle.std.specs.Prelude.{ℕ, max, List, map}
use Rattle.sq_tree.proofs.TreeDepth.{greatest}
use Rattle.sq_tree.specs.declared.list.CommaList.{CommaList}

abbrev pub comma_depth : {A : Type 0} → (A → ℕ) → CommaList A → ℕ
comma_depth depth list = max (depth list.first) (greatest (map depth list.rest))

abbrev pub row_depth : {A : Type 0} → (A → ℕ) → List A → ℕ
row_depth depth list = greatest (map depth list)
