use Rattle.std.proofs.Common.{take}
use Rattle.std.specs.List.{AllZip}
use Rattle.sq_query.specs.Sought.{IsSameOnLines}
use Rattle.sq_query.proofs.named.values_on_lines.Given as goal

abbrev pub invariant-loop-expr : goal.invariant-loop-expr
invariant-loop-expr l = AllZip (IsSameOnLines l.sought l.call.parameters.now l.call.user) (take l.expr-index l.exprs) l.values.items
