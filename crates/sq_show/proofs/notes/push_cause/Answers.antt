-- Left open for push_cause: its result; answered by Noted.
use Rattle.sq_show.proofs.Noted.{added_cause}
use Rattle.sq_show.proofs.notes.push_cause.Goals as goal

pub returns-in_ok-push-in-Some : goal.returns-in_ok-push-in-Some
returns-in_ok-push-in-Some g c =
    added_cause c.args.call.now c.args.session.now c.args.reply.now.status c.in-Some.cause c.args.notes.now.items c.write_cause.new.line.items c.push.new.self.items
    (rw c.in-Some.is at c.in_ok-cause.ensures.has)
    (rw (c.in-Some.is, c.as_slice-values.ensures) at c.in_ok-cause.ensures.is)
    (rw c.in-Some.is at c.in_ok-cause.ensures.status)
    c.in_ok-write_cause-in-Some.ensures.line c.in_ok-write_cause-in-Some.ensures.words c.in_ok-push-in-Some.ensures.items
