-- Left open for move_position: what the call of advance asks for, and its result; answered by Moved.
use Rattle.std.proofs.Common.{◌∙◌, arith, refl}
use Rattle.sq_perform.proofs.Moved.{fits, moved_is}
use Rattle.sq_perform.proofs.checked.move_position.Goals as goal

pub advance-requires : goal.advance-requires
advance-requires c =
    let sums = fits c.args.text.now _ c.args.from c.args.to c.args.place c.of-2.result c.if-from-to.false (omega (arith, c.if-to-text.false)) c.requires c.of-2.ensures in
    record { byte = sums.0; line = sums.1; column = sums.2 }

pub returns : goal.returns
returns c = c.advance.ensures ∙ moved_is c.args.text.now _ c.args.from c.args.to c.args.place c.of-2.result c.if-from-to.false refl c.requires c.of-2.ensures
