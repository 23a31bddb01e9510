-- Left open for equal_sides: its result; answered by ColumnTests.
use Rattle.sq_bound.proofs.ColumnTests.{negated_names, other_names, unequal_names}
use Rattle.sq_bound.proofs.keyed.equal_sides.Goals.{then-test-via-then-test, then-test-via-else-test+then-not-is_equality}
use Rattle.sq_bound.proofs.keyed.equal_sides.Goals as goal

pub returns-in_default : goal.returns-in_default
returns-in_default c = other_names c.args.test.now (λ op a b is. c.in_default.not-Compare op a b is)

pub returns-then-test : goal.returns-then-test
returns-then-test c =
    elim c.then-test.branch [
      | then-test-via-then-test w ↦ negated_names c.args.test.now w.if-test.true
      | then-test-via-else-test+then-not-is_equality w ↦
          unequal_names c.args.test.now c.in-Compare.comparison c.in-Compare.left c.in-Compare.right w.if-test.false c.in-Compare.is (λ same. cc (w.if-not-is_equality.ensures.1 same))
    ]
