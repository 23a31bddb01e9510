-- Left open for append_digits: that the loop keeps its invariant; answered by Digits.
use Rattle.sq_value.proofs.Digits.{one_digit_more}
use Rattle.sq_value.proofs.spelling.append_digits.Goals as goal

pub loop-digit-preserved : goal.loop-digit-preserved
loop-digit-preserved c =
    let more = one_digit_more c.args.start c.args.digits.now c.loop-digit.digit-index c.loop-digit.number c.requires.digits c.loop-digit-test.true c.loop-digit.invariant.value c.loop-digit.invariant.bound in
    record { value = more.0; bound = more.1 }
