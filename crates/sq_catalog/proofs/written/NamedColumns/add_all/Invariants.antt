use Rattle.std.proofs.Common.{◌≡◌, ◌+◌, false, map, take}
use Rattle.sq_meaning.specs.Schema.{has_name_twice}
use Rattle.sq_catalog.specs.Written.{column_count, definitions_lent, names_at}
use Rattle.sq_catalog.proofs.written.NamedColumns.add_all.Given as goal

abbrev pub invariant-loop-column : goal.invariant-loop-column
invariant-loop-column l = record {
  count : column_count l.self ≡ column_count l.initial.self + l.column-index;
  names : names_at l.self ≡ map (λ w. w.name) (definitions_lent (take l.column-index l.columns));
  once : has_name_twice (names_at l.self) ≡ false;
}
