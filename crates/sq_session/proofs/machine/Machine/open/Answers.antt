-- Left open for Machine::open: the clause read; answered by Metering.
use Rattle.sq_session.specs.Kind.{over_at}
use Rattle.sq_session.specs.Step.{ending}
use Rattle.sq_session.proofs.Calls.Metering.{however, none_read}
use Rattle.sq_session.proofs.machine.Machine.open.Goals as goal

pub returns-in-Closed-clause-read : goal.returns-in-Closed-clause-read
returns-in-Closed-clause-read g c = however (ending c.open_closed.result) c.open_closed.ensures.read

pub returns-in_default-clause-read : goal.returns-in_default-clause-read
returns-in_default-clause-read g c = none_read (over_at c.args.called.now.cursors.now c.args.number) _ c.requires.meter
