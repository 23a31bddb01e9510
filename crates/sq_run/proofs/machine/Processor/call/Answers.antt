-- Left open: the call of call, the clauses step, faults, failures and 3 more, and the invariant of self; answered by BesideLaws.
use Rattle.sq_run.proofs.Steps.BesideLaws.{all_hold, call_keeps, fits_old, memory_old}
use Rattle.sq_run.proofs.machine.Processor.call.Goals as goal

pub call-requires : goal.call-requires
call-requires g c =
    let here = c.self.inside in
    record {
      fits = fits_old here.session here.counterpart.machine c.self.invariant c.args.self.now c.self.view_is c.args.procedure c.args.values.now c.requires.fits;
    }

pub invariant_of-self-2 : goal.invariant_of-self-2
invariant_of-self-2 g c =
    let here = c.self.inside in
    let kept = call_keeps here.session here.counterpart.machine c.self.invariant c.args.self.now c.self.view_is c.args.procedure c.args.values.now c.in_ok-reply.reply
    c.call.new.self c.then-self-inside.result.machine c.then-self-inside.ensures c.requires.fits c.in_ok-reply.ensures.step c.call.ensures.procedures
    c.call.ensures.tables c.call.ensures.schemas in
    kept.beside

pub returns-clause-step : goal.returns-clause-step
returns-clause-step g c =
    let here = c.self.inside in
    let kept = call_keeps here.session here.counterpart.machine c.self.invariant c.args.self.now c.self.view_is c.args.procedure c.args.values.now c.in_ok-reply.reply
    c.call.new.self c.then-self-inside.result.machine c.then-self-inside.ensures c.requires.fits c.in_ok-reply.ensures.step c.call.ensures.procedures
    c.call.ensures.tables c.call.ensures.schemas in
    kept.step

pub returns-clause-faults : goal.returns-clause-faults
returns-clause-faults g c =
    let here = c.self.inside in
    let kept = call_keeps here.session here.counterpart.machine c.self.invariant c.args.self.now c.self.view_is c.args.procedure c.args.values.now c.in_ok-reply.reply
    c.call.new.self c.then-self-inside.result.machine c.then-self-inside.ensures c.requires.fits c.in_ok-reply.ensures.step c.call.ensures.procedures
    c.call.ensures.tables c.call.ensures.schemas in
    kept.faults

pub returns-clause-failures : goal.returns-clause-failures
returns-clause-failures g c =
    let here = c.self.inside in
    let kept = call_keeps here.session here.counterpart.machine c.self.invariant c.args.self.now c.self.view_is c.args.procedure c.args.values.now c.in_ok-reply.reply
    c.call.new.self c.then-self-inside.result.machine c.then-self-inside.ensures c.requires.fits c.in_ok-reply.ensures.step c.call.ensures.procedures
    c.call.ensures.tables c.call.ensures.schemas in
    kept.failures

pub returns-clause-constraints : goal.returns-clause-constraints
returns-clause-constraints g c =
    let here = c.self.inside in
    let kept = call_keeps here.session here.counterpart.machine c.self.invariant c.args.self.now c.self.view_is c.args.procedure c.args.values.now c.in_ok-reply.reply
    c.call.new.self c.then-self-inside.result.machine c.then-self-inside.ensures c.requires.fits c.in_ok-reply.ensures.step c.call.ensures.procedures
    c.call.ensures.tables c.call.ensures.schemas in
    kept.holds

pub returns-clause-reads : goal.returns-clause-reads
returns-clause-reads g c =
    let here = c.self.inside in
    let kept = call_keeps here.session here.counterpart.machine c.self.invariant c.args.self.now c.self.view_is c.args.procedure c.args.values.now c.in_ok-reply.reply
    c.call.new.self c.then-self-inside.result.machine c.then-self-inside.ensures c.requires.fits c.in_ok-reply.ensures.step c.call.ensures.procedures
    c.call.ensures.tables c.call.ensures.schemas in
    kept.few c.in_ok-reply.ensures.reads

pub returns-in_err-reply-clause-constraints : goal.returns-in_err-reply-clause-constraints
returns-in_err-reply-clause-constraints g c = all_hold c.self.inside.session c.self.inside.counterpart.machine c.self.invariant

-- memory ran out for no call that takes none
pub returns-in_err-reply-clause-memory : goal.returns-in_err-reply-clause-memory
returns-in_err-reply-clause-memory g c =
    let here = c.self.inside in
    λ none. cc (
      c.call.ensures.memory (memory_old here.session here.counterpart.machine c.self.invariant c.args.self.now c.self.view_is c.args.procedure c.args.values.now
          c.requires.fits none),
      c.in_err-reply.was,
    )
