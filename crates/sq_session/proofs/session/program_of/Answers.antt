-- Left open for program_of: the clauses written and computed; answered without a law.
use Rattle.sq_session.proofs.session.program_of.Goals as goal

pub returns-clause-written : goal.returns-clause-written
returns-clause-written c = c.in_ok-program.ensures.written c.args.modules.now (rw c.as_slice.ensures.value c.in_ok-admitted.ensures.written)

pub returns-clause-computed : goal.returns-clause-computed
returns-clause-computed c = c.in_ok-program.ensures.computed c.args.modules.now (rw c.as_slice.ensures.value c.in_ok-admitted.ensures.written)
