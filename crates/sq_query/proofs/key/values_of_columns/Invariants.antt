use Rattle.std.proofs.Common.{take}
use Rattle.std.specs.List.{AllZip}
use Rattle.sq_query.specs.Key.{IsComparedWith}
use Rattle.sq_query.proofs.key.values_of_columns.Given as goal

abbrev pub invariant-loop-column : goal.invariant-loop-column
invariant-loop-column l = AllZip (IsComparedWith l.tests l.call.parameters.now l.call.user) (take l.column-index l.columns) l.values.items
