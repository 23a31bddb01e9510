-- Left open for program_of: the clause written; answered without a law.
use Rattle.sq_check.proofs.module.program_of.Goals as goal

pub returns-clause-written : goal.returns-clause-written
returns-clause-written c = c.in_ok-program.ensures.written c.args.modules.now (rw c.as_slice.ensures.value c.in_ok-admitted.ensures.written)
