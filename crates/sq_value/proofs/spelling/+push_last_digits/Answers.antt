-- Left open for push_last_digits: its result; answered by Digits.
use Rattle.sq_value.proofs.Digits.{digits_pushed}
use Rattle.sq_value.proofs.spelling.+push_last_digits.Goals as goal

pub returns-in_ok-push : goal.returns-in_ok-push
returns-in_ok-push t c = digits_pushed _ _ _ c.args.places c.args.number c.if-places-gt0.true c.in_ok-push_last_digits.ensures c.in_ok-push.ensures.items
