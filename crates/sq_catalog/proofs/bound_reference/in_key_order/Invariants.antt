use Rattle.std.proofs.Common.{◌≡◌, ℕ, true, Some, length, map, take}
use Rattle.sq_bound.specs.Names.{are_positions}
use Rattle.sq_catalog.specs.References.{paired_with}
use Rattle.sq_catalog.proofs.bound_reference.in_key_order.Given as goal

abbrev pub invariant-loop-key_column : goal.invariant-loop-key_column
invariant-loop-key_column l = record {
  paired : length l.ordered ≡ l.key_column-index;
  positions : (width : ℕ) → are_positions width l.columns ≡ true → are_positions width l.ordered ≡ true;
  by_key : map (paired_with l.listed l.columns) (take l.key_column-index l.key) ≡ map (λ own. Some own) l.ordered;
}
