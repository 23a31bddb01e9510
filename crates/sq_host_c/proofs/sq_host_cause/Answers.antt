-- Left open for sq_host_cause: its result; answered by laws of sq_host.
use Rattle.sq_host.specs.Calls.{machine_of, made_last}
use Rattle.sq_host.specs.Host.{leads_to}
use Rattle.sq_host.specs.Told.{CauseTold}
use Rattle.sq_host.proofs.Telling.{puts_code}
use Rattle.sq_host_c.proofs.sq_host_cause.Goals as goal

pub returns : goal.returns
returns c =
    puts_code (CauseTold (machine_of (leads_to c.args.handle.now)) (made_last (leads_to c.args.handle.now))) c.args.room.now c.cause.new.room c.args.count.now c.cause.new.count c.cause.result c.code.result
    c.cause.ensures.told c.code.ensures
