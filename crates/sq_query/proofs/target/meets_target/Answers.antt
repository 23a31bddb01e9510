-- Left open for meets_target: the clause meant; answered by QuietTargets.
use Rattle.sq_query.proofs.Targets.QuietTargets.{quiet_meant}
use Rattle.sq_query.proofs.target.meets_target.Goals as goal

pub returns-then-target-clause-meant : goal.returns-then-target-clause-meant
returns-then-target-clause-meant g c = λ parameters tables may on.
    let call = c.args.call.now in
    quiet_meant c.meets_quietly.result c.args.target.now c.args.row.now call.parameters.now call.user c.if-target.true c.meets_quietly.ensures tables
