use Rattle.std.proofs.Common.{◌≡◌, [], false, take}
use Rattle.std.specs.List.{list_any}
use Rattle.sq_bound.specs.Expression.{expr_of}
use Rattle.sq_session.specs.Reads.{expr_reads}
use Rattle.sq_session.proofs.reads.+expr_reads.Given as goal

abbrev pub invariant-operands_read-loop-operation : goal.invariant-operands_read-loop-operation
invariant-operands_read-loop-operation l = list_any (λ o. expr_reads l.assignments (expr_of [] o.operand)) (take l.operation-index l.operations) ≡ false
