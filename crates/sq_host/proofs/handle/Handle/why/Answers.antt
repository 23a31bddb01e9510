-- Left open for Handle::why: the clause told; answered by Telling.
use Rattle.sq_host.specs.Host.{leads_to}
use Rattle.sq_host.proofs.Telling.{puts_no_fault}
use Rattle.sq_host.proofs.handle.Handle.why.Goals as goal

pub returns-in_default-clause-told : goal.returns-in_default-clause-told
returns-in_default-clause-told c =
    puts_no_fault c.args.procedure (leads_to c.args.self.now) c.args.room.now c.args.count.now c.in_default.ensures.host
