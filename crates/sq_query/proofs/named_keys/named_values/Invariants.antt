use Rattle.std.proofs.Common.{take}
use Rattle.std.specs.List.{AllZip}
use Rattle.sq_query.specs.Asked.{IsFalseThrough}
use Rattle.sq_query.specs.Named.{IsFalseOf, IsOneOf}
use Rattle.sq_query.proofs.named_keys.named_values.Given as goal

abbrev pub invariant-loop-column : goal.invariant-loop-column
invariant-loop-column l = AllZip (IsOneOf (IsFalseThrough l.asked.through (IsFalseOf l.sought l.sure l.call.parameters.now l.call.user l.condition))) (take l.column-index l.columns) l.values.items
