use Rattle.std.proofs.Common.{◌≡◌, map, take}
use Rattle.sq_bound.specs.WellFormed.{kinds_of_columns, kinds_of_results}
use Rattle.sq_catalog.proofs.view_table.view_columns.Given as goal

abbrev pub invariant-loop-position : goal.invariant-loop-position
invariant-loop-position l = record {
  kinds : kinds_of_columns l.described ≡ kinds_of_results (take l.position l.columns);
  names : map (λ c. c.name) l.described ≡ take l.position l.names;
}
