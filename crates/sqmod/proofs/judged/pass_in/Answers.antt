-- Left open for pass_in: its result; answered by Left.
use Rattle.sqmod.proofs.Left.{are_left_set}
use Rattle.sqmod.proofs.judged.pass_in.Goals as goal

pub returns-in-Some : goal.returns-in-Some
returns-in-Some c =
    λ before h.
    are_left_set before c.args.all.now.items c.args.index c.index.result.now c.in-Some.left c.index.ensures
    (rw c.as_slice-text.ensures.value at (rw c.in-Some.is at c.in_ok-left.ensures)) h
