use Rattle.std.proofs.Common.{◌≡◌, drop, true}
use Rattle.std.specs.List.{list_all}
use Rattle.sq_store.specs.Keys.{are_distinct, has_columns}
use Rattle.sq_store.proofs.key.rows_are_distinct.Given as goal

abbrev pub invariant-loop-place : goal.invariant-loop-place
invariant-loop-place l = record {
  rest : are_distinct l.columns l.rows ≡ are_distinct l.columns (drop l.place l.rows);
  columns : list_all (λ r. has_columns l.columns r.row) (drop l.place l.rows) ≡ true;
}
