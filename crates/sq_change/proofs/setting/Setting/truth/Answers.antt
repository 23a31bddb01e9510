-- Left open for Setting::truth: the clauses truth and right; answered without a law.
use Rattle.sq_change.proofs.setting.Setting.truth.Goals as goal

pub returns-clause-truth : goal.returns-clause-truth
returns-clause-truth g c = λ parameters tables may on.
    rw (c.inputs.ensures.user, c.inputs.ensures.parameters) at (c.truth_of.ensures.truth parameters tables (rw (c.inputs.ensures.user, c.inputs.ensures.parameters) may) on)

pub returns-clause-right : goal.returns-clause-right
returns-clause-right g c = λ parameters tables may on. c.truth_of.ensures.right parameters tables (rw (c.inputs.ensures.user, c.inputs.ensures.parameters) may) on
