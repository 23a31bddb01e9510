-- Left open for sq_host_why: its result; answered by laws of sq_host.
use Rattle.sq_host.specs.Calls.{machine_of}
use Rattle.sq_host.specs.Host.{leads_to}
use Rattle.sq_host.specs.Told.{FaultTold}
use Rattle.sq_host.proofs.Telling.{puts_code}
use Rattle.sq_host_c.proofs.sq_host_why.Goals as goal

pub returns : goal.returns
returns c =
    puts_code (FaultTold c.args.procedure (machine_of (leads_to c.args.handle.now))) c.args.room.now c.why.new.room c.args.count.now c.why.new.count c.why.result c.code.result
    c.why.ensures.told c.code.ensures
