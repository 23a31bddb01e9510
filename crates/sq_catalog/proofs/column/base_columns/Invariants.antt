use Rattle.std.proofs.Common.{◌≡◌, length, map, take}
use Rattle.sq_value.specs.Domain.{kind_of}
use Rattle.sq_binding.specs.Column.{declared_column}
use Rattle.sq_catalog.specs.Columns.{AreBaseColumnsOf}
use Rattle.sq_catalog.specs.Table.{held_declared, typed_definitions, typed_kinds, typed_seen, written_not_null}
use Rattle.sq_catalog.proofs.OneByOne.Turns.{IsMadeTo}
use Rattle.sq_catalog.proofs.column.base_columns.Given as goal

abbrev pub invariant-loop-column : goal.invariant-loop-column
invariant-loop-column l = record {
  count : length l.columns ≡ l.column-index;
  kinds : map (λ c. kind_of c.domain) l.columns ≡ typed_kinds (take l.column-index l.typed);
  not_null : map (λ c. c.not_null) l.columns ≡ written_not_null (take l.column-index l.typed);
  written : AreBaseColumnsOf (typed_definitions (take l.column-index l.typed)) l.columns;
  exact : IsMadeTo declared_column typed_seen l.typed l.column-index (held_declared (take l.column-index l.typed) l.columns);
}
